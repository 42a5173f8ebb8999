-- The text of a slot: how a row, or no row, stands in the bytes that a table keeps for it.
use Rattle.std.specs.Prelude.{ℕ, ◌+◌, ◌-◌, ◌≤◌, max, not, if◌then◌else◌, ◌==◌, nat_lt, List, [], ◌∷◌, ◌++◌}
use Rattle.std.specs.Prelude.{length, take, drop, replicate, Option, None, Some, IsUtf8, FitsSigned}
use Rattle.std.specs.Str.{is_utf8}
use Rattle.std.specs.Option.{option_or}
use Rattle.std.specs.List.{sum_by, position_from}
use Rattle.std.specs.Int.{w16, w64, cast_unsigned, to_le_bytes, from_le_bytes}
use Rattle.row_types.specs.declared.definition.Kind.{Kind}
use Rattle.row_types.specs.declared.definition.Kind.TheVariants as kind
use Rattle.row_types.specs.declared.definition.Column.{Column}
use Rattle.row_types.specs.declared.row.Value.{Value}
use Rattle.row_types.specs.declared.row.Value.TheVariants as value

-- the bytes of a column: eight for a whole number; for a text two, and as many as it may have
abbrev pub width : Kind → ℕ
width kind.Int = 8
width (kind.Text limit) = 2 + limit

-- the bytes of all columns
abbrev pub widths : List Column → ℕ
widths columns = sum_by (λ c. width c.kind) columns

-- the bytes of a slot: a tag and the columns, and never below 16
abbrev pub slot_len : List Column → ℕ
slot_len columns = max 16 (1 + widths columns)

-- the bytes, and zeros up to a length
abbrev pub filled_to : ℕ → List ℕ → List ℕ
filled_to len bytes = bytes ++ replicate (len - length bytes) 0

-- a value in its column: a whole number in two's complement, or a text behind its length and before zeros
abbrev pub cell_text : Kind → Value → List ℕ
cell_text kind.Int (value.Int number) = to_le_bytes w64 (cast_unsigned w64 number)
cell_text (kind.Text limit) (value.Text text) = to_le_bytes w16 (length text) ++ filled_to limit text
cell_text kind.Int (value.Text text) = []
cell_text (kind.Text limit) (value.Int number) = []

-- the values in their columns, one after another
abbrev pub cells_text : List Column → List Value → List ℕ
cells_text (c ∷ columns) (v ∷ values) = cell_text c.kind v ++ cells_text columns values
cells_text (c ∷ columns) [] = []
cells_text [] values = []

-- the slot of a row: the tag 1, the values, and zeros
abbrev pub slot_text : List Column → List Value → List ℕ
slot_text columns row = filled_to (slot_len columns) (1 ∷ cells_text columns row)

-- the slot of no row
abbrev pub empty_slot : List Column → List ℕ
empty_slot columns = replicate (slot_len columns) 0

-- a column of this kind may hold the value
abbrev pub FitsKind : Kind → Value → Type 0
FitsKind kind.Int (value.Int number) = FitsSigned w64 number
FitsKind (kind.Text limit) (value.Text text) = (length text ≤ limit) × IsUtf8 text
FitsKind kind.Int (value.Text text) = ⊥
FitsKind (kind.Text limit) (value.Int number) = ⊥

-- the row has a value for each column, which the column may hold
abbrev pub IsRowOf : List Column → List Value → Type 0
IsRowOf [] [] = Unit {0}
IsRowOf (c ∷ columns) (v ∷ values) = FitsKind c.kind v × IsRowOf columns values
IsRowOf [] (v ∷ values) = ⊥
IsRowOf (c ∷ columns) [] = ⊥

-- the place of the first byte that isn't 0, where the bytes stand from a place on
abbrev pub first_not_zero : ℕ → List ℕ → Option ℕ
first_not_zero at bytes = position_from (λ b. not (b == 0)) at bytes

-- the first fault of a column: a length over the limit, a
-- text that isn't UTF-8, a byte behind the text that isn't 0
abbrev pub cell_fault : ℕ → Kind → List ℕ → Option ℕ
cell_fault at kind.Int bytes = None
cell_fault at (kind.Text limit) bytes =
    let len = from_le_bytes w16 (take 2 bytes) in
    let text = drop 2 bytes in
    if nat_lt limit len then Some at
    else (if is_utf8 (take len text) then first_not_zero (at + 2 + len) (drop len text) else Some (at + 2))

-- the first fault of the columns and of what is behind them
abbrev pub cells_fault : ℕ → List Column → List ℕ → Option ℕ
cells_fault at [] bytes = first_not_zero at bytes
cells_fault at (c ∷ columns) bytes =
    option_or (cell_fault at c.kind (take (width c.kind) bytes))
    (cells_fault (at + width c.kind) columns (drop (width c.kind) bytes))

-- the first fault of a slot, in the order of its bytes: a
-- tag over 1 at once, then what the tag says that follows
abbrev pub slot_fault : List Column → List ℕ → Option ℕ
slot_fault columns [] = None
slot_fault columns (tag ∷ bytes) =
    if tag == 0 then first_not_zero 1 bytes
    else (if tag == 1 then cells_fault 1 columns bytes else Some 0)
