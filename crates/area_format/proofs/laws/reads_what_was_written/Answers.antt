use Rattle.area_format.proofs.Written.{reads_written}
use Rattle.area_format.proofs.laws.reads_what_was_written.Goals as goal

pub returns : goal.returns
returns c = reads_written
