use Rattle.std.proofs.Common.{◌≡◌, map, take, drop}
use Rattle.plain_model.specs.Values.{value_at}
use Rattle.sql_exec.proofs.values.in_columns.Given as goal

abbrev pub invariant-loop-i : goal.invariant-loop-i
invariant-loop-i l =
    (l.values.items ≡ map (value_at l.fn.row) (take l.i l.columns))
    × (map (value_at l.row.items) (drop l.i l.columns) ≡ map (value_at l.fn.row) (drop l.i l.columns))
