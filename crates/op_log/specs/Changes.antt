-- Changes of rows, how each is spelled in a log, and how a log's bytes are read.
use Rattle.std.specs.Prelude.{◌≡◌, ◌≢◌, ℕ, ℤ, ◌+◌, ◌<◌, ◌≤◌, ◌^◌, List, ◌∷◌, ◌++◌, length, take, drop, FitsSigned}
use Rattle.std.specs.List.{AllByRecursion, flat_map}
use Rattle.std.specs.Int.{w16, w64, cast_unsigned, to_le_bytes}
use Rattle.row_types.specs.declared.definition.TableDef.{TableDef}
use Rattle.row_types.specs.declared.definition.Column.{Column}
use Rattle.row_types.specs.declared.row.Value.{Value}
use Rattle.row_types.specs.Schema.{columns_at}
use Rattle.row_types.specs.Slot.{IsRowOf, slot_len, slot_text}
use Rattle.op_log.specs.declared.change.RowChange.{RowChange}
use Rattle.op_log.specs.declared.change.RowChange.TheVariants.{Put, Del}

-- a whole number as 64 bits in two's complement, the lowest byte first
unfoldable pub number_text : ℤ → List ℕ
number_text number = to_le_bytes w64 (cast_unsigned w64 number)

-- a row that is set is 1, the table and the row's slot; one that is taken away is 2, the table and the
-- number in its key column
unfoldable pub change_text : List TableDef → RowChange → List ℕ
change_text defs (Put table row) = 1 ∷ to_le_bytes w16 table ++ slot_text (columns_at defs table) row
change_text defs (Del table number) = 2 ∷ to_le_bytes w16 table ++ number_text number

-- changes stand one after another
abbrev pub body_text : List TableDef → List RowChange → List ℕ
body_text defs changes = flat_map (change_text defs) changes

-- how many bytes a change takes that sets a row of this table
abbrev pub put_bytes : List TableDef → ℕ → ℕ
put_bytes defs table = 3 + slot_len (columns_at defs table)

-- how many bytes a change takes that takes a row away
abbrev pub del_bytes : ℕ
del_bytes = 11

-- the number is that of a table of the schema, and has at most 16 bits
abbrev pub IsTableNumber : List TableDef → ℕ → Type 0
IsTableNumber defs table = (table < length defs) × (table < 2 ^ 16)

-- the change is of a table of the schema, and its row fits or its number has 64 bits
abbrev pub IsChange : List TableDef → RowChange → Type 0
IsChange defs (Put table row) = IsTableNumber defs table × IsRowOf (columns_at defs table) row
IsChange defs (Del table number) = IsTableNumber defs table × FitsSigned w64 number

-- the first byte of a change, its table, and what follows
abbrev pub headed : ℕ → ℕ → List ℕ → List ℕ
headed kind table rest = kind ∷ to_le_bytes w16 table ++ rest

-- the bytes begin with the slot of this row
pub record IsRowRead (columns : List Column) (bytes : List ℕ) (row : List Value) : Type 0 where
  pub fits : IsRowOf columns row
  pub text : take (slot_len columns) bytes ≡ slot_text columns row
  pub inside : slot_len columns ≤ length bytes

-- the bytes begin with no change
abbrev pub HasNone : List TableDef → List ℕ → Type 0
HasNone defs bytes =
    (change : RowChange) (rest : List ℕ) → IsChange defs change → bytes ≢ change_text defs change ++ rest

-- the bytes begin with this change, which has so many of them
pub record IsReadAs (defs : List TableDef) (bytes : List ℕ) (change : RowChange) (len : ℕ) : Type 0 where
  pub fits : IsChange defs change
  pub text : take len bytes ≡ change_text defs change
  pub inside : len ≤ length bytes

-- The body begins with these changes, which end at this place, and none follows them there.
pub record IsFront (defs : List TableDef) (body : List ℕ) (changes : List RowChange) (end : ℕ) : Type 0 where
  pub fit : AllByRecursion (IsChange defs) changes
  pub text : body ≡ body_text defs changes ++ drop end body
  pub end_is : end ≡ length (body_text defs changes)
  pub last : HasNone defs (drop end body)
