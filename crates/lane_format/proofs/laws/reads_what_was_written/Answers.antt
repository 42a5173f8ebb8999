use Rattle.lane_format.proofs.Readings.{reads_lane}
use Rattle.lane_format.proofs.laws.reads_what_was_written.Goals as goal

pub returns : goal.returns
returns c = reads_lane
