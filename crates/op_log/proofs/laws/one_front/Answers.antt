use Rattle.op_log.proofs.Bodies.{one_way}
use Rattle.op_log.proofs.laws.one_front.Goals as goal

pub returns : goal.returns
returns c = one_way
