use Rattle.std.proofs.Common.{◌≡◌, map, take}
use Rattle.plain_model.specs.Meaning.{shown}
use Rattle.plain_model.proofs.rows.all_shown.Given as goal

abbrev pub invariant-loop-row : goal.invariant-loop-row
invariant-loop-row l = l.all.items ≡ map (shown l.columns l.asked) (take l.row-index l.rows)
