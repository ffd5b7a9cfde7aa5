use Rattle.c_api.proofs.Instances.{is_instance}
use Rattle.c_api.proofs.InstanceOperations.{puts, misses}
use Rattle.c_api.proofs.live.Live.write.Goals.{then-write_bytes, else-write_bytes}
use Rattle.c_api.proofs.live.Live.write.Goals as goal

pub attached-instance-requires : goal.attached-instance-requires
attached-instance-requires c = is_instance c.args.self.accepted.value c.args.self.state c.in-Some.state c.args.self.held c.in-Some.is

pub returns : goal.returns
returns c = elim c.if-write_bytes.branch [
  | then-write_bytes w ↦
      rw w.status-is (puts c.args.self c.of-2.result c.attached-instance.result c.write_bytes.new.self c.in-Some.state c.detach-state.result c.args.at c.args.bytes.now
      c.in-Some.is c.of-2.ensures.state (c.of-2.ensures.accepted, c.of-2.ensures.settings) c.attached-instance.ensures.same c.detach-state.ensures.same c.write_bytes.ensures.marks.1
      (rw w.if-write_bytes.true at c.write_bytes.ensures.memory))
  | else-write_bytes w ↦
      rw w.status-is (misses c.args.self c.of-2.result c.attached-instance.result c.write_bytes.new.self c.in-Some.state c.detach-state.result c.args.at c.args.bytes.now
      c.in-Some.is c.of-2.ensures.state (c.of-2.ensures.accepted, c.of-2.ensures.settings) c.attached-instance.ensures.same c.detach-state.ensures.same c.write_bytes.ensures.marks.1
      (rw w.if-write_bytes.false at c.write_bytes.ensures.memory))
]
