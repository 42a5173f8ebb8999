use Rattle.lane_format.proofs.Readings as law
use Rattle.lane_format.proofs.laws.reads_its_head.Goals as goal

pub returns : goal.returns
returns c = law.agrees
