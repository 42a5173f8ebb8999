use Rattle.std.proofs.Common.{◌∷◌, length, take}
use Rattle.std.specs.List.{flat_map}
use Rattle.row_types.specs.SchemaText.{table_text, Puts}
use Rattle.row_types.proofs.schema.Schema.write_schema.Given as goal

abbrev pub invariant-loop-table : goal.invariant-loop-table
invariant-loop-table l = Puts (length l.tables ∷ flat_map table_text (take l.table-index l.tables)) l.fn.into l.into 0 l.at
