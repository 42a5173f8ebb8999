use Rattle.lane_format.proofs.Readings.{has_reading}
use Rattle.lane_format.proofs.laws.some_reading.Goals as goal

pub returns : goal.returns
returns c = has_reading
