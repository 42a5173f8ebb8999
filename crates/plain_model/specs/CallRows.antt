-- Rows that calls give.
use Rattle.std.specs.Prelude.{ℕ, ◌≤◌, List}
use Rattle.row_types.specs.declared.definition.TableDef.{TableDef}
use Rattle.row_types.specs.declared.row.Value.{Value}
use Rattle.row_types.specs.Keys.{row_key}
use Rattle.row_types.specs.Schema.{columns_at, keys_at}
use Rattle.row_types.specs.Slot.{IsRowOf}

-- the row fits its table, and its key lies between two, both among them
pub record IsRowAt (defs : List TableDef) (table lo hi : ℕ) (row : List Value) : Type 0 where
  pub fits : IsRowOf (columns_at defs table) row
  pub low : lo ≤ row_key (keys_at defs table) row
  pub high : row_key (keys_at defs table) row ≤ hi
