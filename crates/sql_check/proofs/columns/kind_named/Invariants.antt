use Rattle.std.proofs.Common.{◌≡◌, drop}
use Rattle.sql_check.specs.Columns.{kind_named}
use Rattle.sql_check.proofs.columns.kind_named.Given as goal

abbrev pub invariant-loop-column : goal.invariant-loop-column
invariant-loop-column l = kind_named (drop l.column-index l.columns) l.name ≡ kind_named l.columns l.name
