use Rattle.section_runs.proofs.TrailLaws.{trail_serial}
use Rattle.section_runs.proofs.laws.trail_is_serial.Goals as goal

pub returns : goal.returns
returns c = trail_serial
