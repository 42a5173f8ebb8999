use Rattle.std.proofs.Common.{◌≡◌, map, take}
use Rattle.plain_model.specs.Values.{cell}
use Rattle.plain_model.proofs.rows.shown.Given as goal

abbrev pub invariant-loop-name : goal.invariant-loop-name
invariant-loop-name l = l.values.items ≡ map (cell l.columns l.row) (take l.name-index l.names)
