use Rattle.sql_check.proofs.RangeMeets.{rows_lie}
use Rattle.sql_check.proofs.laws.rows_lie_in_their_range.Goals as goal

pub returns : goal.returns
returns c = rows_lie
