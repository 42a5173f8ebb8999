-- the name is looked for among the rest
use Rattle.std.proofs.Common.{◌≡◌, drop}
use Rattle.std.specs.List.{position_from}
use Rattle.std.specs.Str.{bytes_eq}
use Rattle.row_types.specs.Schema.{table_named}
use Rattle.row_types.proofs.schema.table_named.Given as goal

abbrev pub invariant-loop-i : goal.invariant-loop-i
invariant-loop-i l = position_from (λ t. bytes_eq t.name l.name) l.i (drop l.i l.tables) ≡ table_named l.tables l.name
