use Rattle.std.proofs.Common.{◌≡◌, drop}
use Rattle.std.specs.List.{position_from}
use Rattle.std.specs.Str.{bytes_eq}
use Rattle.row_types.specs.Schema.{column_named}
use Rattle.sql_check.proofs.columns.place_named.Given as goal

abbrev pub invariant-loop-i : goal.invariant-loop-i
invariant-loop-i l = position_from (λ c. bytes_eq c.name l.name) l.i (drop l.i l.columns) ≡ column_named l.columns l.name
