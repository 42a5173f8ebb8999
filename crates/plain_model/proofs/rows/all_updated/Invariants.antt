use Rattle.std.proofs.Common.{◌≡◌, map, take}
use Rattle.plain_model.specs.Meaning.{updated}
use Rattle.plain_model.proofs.rows.all_updated.Given as goal

abbrev pub invariant-loop-row : goal.invariant-loop-row
invariant-loop-row l = l.all.items ≡ map (updated l.columns l.s.changes l.s.conditions) (take l.row-index l.rows)
