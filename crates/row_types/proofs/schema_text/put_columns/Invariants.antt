use Rattle.std.proofs.Common.{take}
use Rattle.std.specs.List.{flat_map}
use Rattle.row_types.specs.SchemaText.{column_text, Puts}
use Rattle.row_types.proofs.schema_text.put_columns.Given as goal

abbrev pub invariant-loop-column : goal.invariant-loop-column
invariant-loop-column l = Puts (flat_map column_text (take l.column-index l.columns)) l.fn.into l.into l.at l.end
