use Rattle.std.proofs.Common.{◌≡◌, map, take}
use Rattle.sql_check.specs.Columns.{column_number}
use Rattle.sql_check.proofs.planning.named_columns.Given as goal

abbrev pub invariant-loop-name : goal.invariant-loop-name
invariant-loop-name l = l.numbers.items ≡ map (column_number l.columns) (take l.name-index l.names)
