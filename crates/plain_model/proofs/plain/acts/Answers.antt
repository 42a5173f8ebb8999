use Rattle.std.proofs.Common.{◌∙◌}
use Rattle.plain_model.proofs.NothingUsedUp.{acts_totals}
use Rattle.plain_model.proofs.plain.acts.Goals as goal

pub returns-in_ok-copied-in-Totals : goal.returns-in_ok-copied-in-Totals
returns-in_ok-copied-in-Totals c =
    acts_totals c.args.def.now c.args.statement.now c.args.rows.now c.new.result c.in_ok-totals-in-Totals.field-0 c.in_ok-copied-in-Totals.field-0.items
    (c.new.ensures ∙ c.as_slice.ensures) c.in-Totals.is c.in_ok-totals-in-Totals.ensures c.in_ok-copied-in-Totals.ensures
