use Rattle.lane_format.proofs.ReadTo.{next_read, none_read}
use Rattle.lane_format.proofs.laws.reads_batch_by_batch.Goals as goal

pub returns-clause-start : goal.returns-clause-start
returns-clause-start c = none_read

pub returns-clause-next : goal.returns-clause-next
returns-clause-next c = next_read
