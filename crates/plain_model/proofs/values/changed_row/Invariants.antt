use Rattle.std.proofs.Common.{◌≡◌, drop}
use Rattle.plain_model.specs.Values.{with_changes, changed_row}
use Rattle.plain_model.proofs.values.changed_row.Given as goal

abbrev pub invariant-loop-change : goal.invariant-loop-change
invariant-loop-change l = with_changes l.columns l.row (drop l.change-index l.changes) l.values.items ≡ changed_row l.columns l.changes l.row
