use Rattle.op_log.proofs.ChangeLaws.{one}
use Rattle.op_log.proofs.laws.one_change.Goals as goal

pub returns : goal.returns
returns c = one
