use Rattle.sql_check.proofs.RangeMeets.{range_allows}
use Rattle.sql_check.proofs.laws.range_is_what_conditions_allow.Goals as goal

pub returns : goal.returns
returns c = range_allows
