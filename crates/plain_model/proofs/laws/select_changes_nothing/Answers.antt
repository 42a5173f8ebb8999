use Rattle.plain_model.proofs.MeaningLaws.{select_leaves, totals_leave}
use Rattle.plain_model.proofs.laws.select_changes_nothing.Goals as goal

pub returns-clause-columns : goal.returns-clause-columns
returns-clause-columns c = select_leaves

pub returns-clause-totals : goal.returns-clause-totals
returns-clause-totals c = totals_leave
