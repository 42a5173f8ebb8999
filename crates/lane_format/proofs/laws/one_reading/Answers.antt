use Rattle.lane_format.proofs.Readings.{at_most_one}
use Rattle.lane_format.proofs.laws.one_reading.Goals as goal

pub returns : goal.returns
returns c = at_most_one
