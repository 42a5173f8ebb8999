-- The text of a schema.
use Rattle.std.specs.Prelude.{◌≡◌, ℕ, ◌+◌, List, [], ◌∷◌, ◌++◌, length, take, drop, slice_index}
use Rattle.std.specs.List.{flat_map}
use Rattle.std.specs.Int.{w16, to_le_bytes}
use Rattle.row_types.specs.declared.definition.Kind.{Kind}
use Rattle.row_types.specs.declared.definition.Kind.TheVariants as kind
use Rattle.row_types.specs.declared.definition.Column.{Column}
use Rattle.row_types.specs.declared.definition.TableDef.{TableDef}

-- a byte with the length, and the name
abbrev pub name_text : List ℕ → List ℕ
name_text name = length name ∷ name

-- 1 for whole numbers; 2 and the limit for texts
abbrev pub kind_text : Kind → List ℕ
kind_text kind.Int = 1 ∷ []
kind_text (kind.Text limit) = 2 ∷ to_le_bytes w16 limit

-- the name of a column and its kind
abbrev pub column_text : Column → List ℕ
column_text c = name_text c.name ++ kind_text c.kind

-- the name, how many columns, the number of the key column, and the columns
abbrev pub table_text : TableDef → List ℕ
table_text def =
    name_text def.name ++ (length def.columns ∷ slice_index def.keys 0 ∷ flat_map column_text def.columns)

-- how many tables, and the tables
abbrev pub schema_text : List TableDef → List ℕ
schema_text tables = length tables ∷ flat_map table_text tables

-- the text stands from one place up to another, and all other bytes are as before
pub record Puts (text old new : List ℕ) (at end : ℕ) : Type 0 where
  pub ends : end ≡ at + length text
  pub len : length new ≡ length old
  pub front : take end new ≡ take at old ++ text
  pub rest : drop end new ≡ drop end old
