use Rattle.std.proofs.Common.{◌∙◌}
use Rattle.c_api.proofs.Instances.{is_instance}
use Rattle.c_api.proofs.InstanceOperations.{found, lacks}
use Rattle.c_api.proofs.live.Live.global.Goals.{in-Some-exported_global, in-None}
use Rattle.c_api.proofs.live.Live.global.Goals as goal

pub attached-instance-requires : goal.attached-instance-requires
attached-instance-requires c = is_instance c.args.self.accepted.value c.args.self.state c.in-Some.state c.args.self.held c.in-Some.is

pub returns-clause-answer : goal.returns-clause-answer
returns-clause-answer c = elim c.match-exported_global.branch [
  | in-Some-exported_global w ↦
      rw w.status-is (found c.args.self c.attached-instance.result c.in-Some.state c.args.name.now w.in-Some-exported_global.found c.args.value.now c.match-exported_global.value
      c.in-Some.is c.attached-instance.ensures.of c.attached-instance.ensures.same.0 (rw w.in-Some-exported_global.is at c.exported_global.ensures) (w.value-is ∙ w.of-in-Some-exported_global.ensures))
  | in-None w ↦
      rw (w.status-is, w.value-is) (lacks c.args.self c.attached-instance.result c.in-Some.state c.args.name.now c.args.value.now
      c.attached-instance.ensures.of c.attached-instance.ensures.same.0 (rw w.in-None.is at c.exported_global.ensures))
]
