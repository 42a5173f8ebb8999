use Rattle.std.proofs.Common.{◌≡◌, take}
use Rattle.plain_model.specs.Meaning.{kept}
use Rattle.plain_model.proofs.rows.kept.Given as goal

abbrev pub invariant-loop-row : goal.invariant-loop-row
invariant-loop-row l = l.found.items ≡ kept l.columns l.conditions (take l.row-index l.rows)
