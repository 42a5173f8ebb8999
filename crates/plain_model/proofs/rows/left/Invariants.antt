use Rattle.std.proofs.Common.{◌≡◌, take, not}
use Rattle.std.specs.Prelude.{filter}
use Rattle.plain_model.specs.Values.{is_kept}
use Rattle.plain_model.proofs.rows.left.Given as goal

abbrev pub invariant-loop-row : goal.invariant-loop-row
invariant-loop-row l = l.rest.items ≡ filter (λ row. not (is_kept l.columns l.conditions row)) (take l.row-index l.rows)
