use Rattle.sql_exec.proofs.Fitting.{all_plans_fit}
use Rattle.sql_exec.proofs.laws.plans_fit.Goals as goal

pub returns : goal.returns
returns c = all_plans_fit c.kept_rows_lie_in_their_range.ensures.kept c.rows_lie_in_their_range.ensures
