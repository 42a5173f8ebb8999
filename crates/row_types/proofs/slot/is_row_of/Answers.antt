use Rattle.row_types.proofs.Cells.{length_of_row}
use Rattle.row_types.proofs.slot.is_row_of.Goals as goal

pub returns-then-columns-values : goal.returns-then-columns-values
returns-then-columns-values c = ((λ false_is_true. absurd cc), (λ fits. absurd (c.if-columns-values.true (length_of_row c.args.columns.now c.args.values.now fits))))
