use Rattle.std.proofs.Common.{sym}
use Rattle.wstore.specs.CallLimits.{limits_of}
use Rattle.c_api.proofs.Instances.{is_instance}
use Rattle.c_api.proofs.InstanceOperations.{called_on}
use Rattle.c_api.proofs.live.Live.call.Goals as goal

pub of-requires-in_default-settings : goal.of-requires-in_default-settings
of-requires-in_default-settings c = is_instance c.args.self.accepted.value c.args.self.state c.in-Some.state c.args.self.held c.in-Some.is

pub of-requires-in-Err-NoValue : goal.of-requires-in-Err-NoValue
of-requires-in-Err-NoValue c = is_instance c.args.self.accepted.value c.args.self.state c.in-Some.state c.args.self.held c.in-Some.is

pub of-requires-in-Err-Memory : goal.of-requires-in-Err-Memory
of-requires-in-Err-Memory c = is_instance c.args.self.accepted.value c.args.self.state c.in-Some.state c.args.self.held c.in-Some.is

pub attached-instance-requires : goal.attached-instance-requires
attached-instance-requires c = is_instance c.args.self.accepted.value c.args.self.state c.in-Some.state c.args.self.held c.in-Some.is

pub returns : goal.returns
returns c =
    called_on c.args.self c.of-2.result c.args.found c.args.numbers.now c.args.limits.now c.args.results.now c.tell_end.new.results c.args.ended.now c.tell_end.new.ended
    c.call_found-line.result c.as_slice.result.now c.attached-instance.result c.call_found-line.new.instance c.in-Some.state c.detach-state.result (limits_of c.in-Some-settings.limits)
    (sym c.in-Some-settings.ensures.range) c.in-Some-settings.ensures.limits (rw c.as_slice.ensures c.in-Ok.ensures.words) (rw c.as_slice.ensures c.in-Ok.ensures.ok)
    c.in-Some.is c.of-2.ensures.state (c.of-2.ensures.accepted, c.of-2.ensures.settings) c.attached-instance.ensures.of c.attached-instance.ensures.same c.call_found-line.ensures.of
    c.detach-state.ensures.same c.call_found-line.ensures.ends c.tell_end.ensures.ended c.tell_end.ensures.results
