use Rattle.area_format.proofs.Holding.{holds_read}
use Rattle.area_format.proofs.laws.holds_what_it_reads.Goals as goal

pub returns : goal.returns
returns c = holds_read
