use Rattle.std.proofs.Common.{◌≡◌, drop}
use Rattle.std.specs.List.{list_any}
use Rattle.std.specs.Str.{bytes_eq}
use Rattle.sql_check.specs.Misfits.{column_names}
use Rattle.sql_check.proofs.misfits.is_named.Given as goal

abbrev pub invariant-loop-change : goal.invariant-loop-change
invariant-loop-change l = list_any (bytes_eq l.name) (column_names (drop l.change-index l.earlier)) ≡ list_any (bytes_eq l.name) (column_names l.earlier)
