use Rattle.c_api.proofs.Instances.{is_instance}
use Rattle.c_api.proofs.live.Live.read.Goals as goal

pub attached-instance-requires : goal.attached-instance-requires
attached-instance-requires c = is_instance c.args.self.accepted.value c.args.self.state c.in-Some.state c.args.self.held c.in-Some.is
