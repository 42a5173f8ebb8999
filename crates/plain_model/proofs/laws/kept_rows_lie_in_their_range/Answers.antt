use Rattle.plain_model.proofs.KeptRange.{kept_in_range, none_kept}
use Rattle.plain_model.proofs.laws.kept_rows_lie_in_their_range.Goals as goal

pub returns-clause-kept : goal.returns-clause-kept
returns-clause-kept c = kept_in_range c.keys_keep_order.ensures c.range_is_what_conditions_allow.ensures

pub returns-clause-none : goal.returns-clause-none
returns-clause-none c = none_kept c.keys_keep_order.ensures c.range_is_what_conditions_allow.ensures
