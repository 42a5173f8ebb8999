use Rattle.lane_format.proofs.Readings as law
use Rattle.lane_format.proofs.laws.one_head.Goals as goal

pub returns : goal.returns
returns c = law.one_head
