-- What the names of a statement stand for.
use Rattle.std.specs.Prelude.{ℕ, Bool, false, ◌==◌, List, [], ◌∷◌, length, slice_get, unwrap_or, Option, None}
use Rattle.std.specs.Prelude.{Some, option_map}
use Rattle.std.specs.List.{list_any, find}
use Rattle.std.specs.Str.{bytes_eq}
use Rattle.std.specs.Option.{option_map_or}
use Rattle.row_types.specs.declared.definition.Kind.{Kind}
use Rattle.row_types.specs.declared.definition.Kind.TheVariants as kinds
use Rattle.row_types.specs.declared.definition.Column.{Column}
use Rattle.row_types.specs.declared.definition.TableDef.{TableDef}
use Rattle.row_types.specs.declared.row.Value.{Value}
use Rattle.row_types.specs.declared.row.Value.TheVariants as values
use Rattle.row_types.specs.Schema.{table_named, column_named}

-- the definition of the first table with this name
abbrev pub def_named : List TableDef → List ℕ → Option TableDef
def_named tables name = find (λ (t : TableDef). bytes_eq t.name name) tables

-- a definition without columns
abbrev pub no_def : TableDef
no_def = record { name = []; columns = []; keys = [] }

-- the definition of table number n, without columns where there is none
abbrev pub def_at : List TableDef → ℕ → TableDef
def_at tables n = unwrap_or (slice_get tables n) no_def

-- the number of the table with this name, 0 where there is none
abbrev pub table_number : List TableDef → List ℕ → ℕ
table_number tables name = unwrap_or (table_named tables name) 0

-- the number of the column with this name, 0 where there is none
abbrev pub column_number : List Column → List ℕ → ℕ
column_number columns name = unwrap_or (column_named columns name) 0

-- the kind of the first column with this name
abbrev pub kind_named : List Column → List ℕ → Option Kind
kind_named columns name =
    option_map (λ (c : Column). c.kind) (find (λ (c : Column). bytes_eq c.name name) columns)

-- column number n is marked as the key
abbrev pub is_marked : List ℕ → ℕ → Bool
is_marked marks n = list_any (λ mark. mark == n) marks

-- the column with this name is the key
abbrev pub is_key : TableDef → List ℕ → Bool
is_key def name = option_map_or (is_marked def.keys) (column_named def.columns name) false

-- the kind of a value: whole numbers, or texts of at most as many bytes as it has
abbrev pub kind_of : Value → Kind
kind_of (values.Int number) = kinds.Int
kind_of (values.Text text) = kinds.Text (length text)

-- the text that a value is, empty for a whole number
abbrev pub text_in : Value → List ℕ
text_in (values.Int number) = []
text_in (values.Text text) = text
