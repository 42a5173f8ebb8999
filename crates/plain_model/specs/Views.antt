-- How tables are seen.
use Rattle.std.specs.Prelude.{◌≡◌, List, [], ◌∷◌, length}
use Rattle.row_types.specs.declared.definition.TableDef.{TableDef}
use Rattle.row_types.specs.Tables.{Tables, AreTables}
use Rattle.key_space.specs.Plays.{Rows}

-- each definition with its rows
abbrev pub paired : List TableDef → List Rows → Tables
paired [] lists = []
paired (def ∷ defs) [] = []
paired (def ∷ defs) (rows ∷ lists) = record { def = def; rows = rows } ∷ paired defs lists

-- there is a list of rows for each definition, and together they are tables
pub record IsView (defs : List TableDef) (lists : List Rows) : Type 0 where
  pub len : length lists ≡ length defs
  pub tables : AreTables (paired defs lists)
