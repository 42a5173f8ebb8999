use Rattle.plain_model.proofs.CallLaws.{write_reads}
use Rattle.plain_model.proofs.call_laws.writes_are_reads.Goals as goal

pub returns : goal.returns
returns c = write_reads
