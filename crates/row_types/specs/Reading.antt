-- What the bytes of a slot say, where they have no fault.
use Rattle.std.specs.Prelude.{◌≡◌, ◌⊎◌, ℕ, if◌then◌else◌, ◌==◌, List, [], ◌∷◌, take, drop, Option, None, Some}
use Rattle.std.specs.Prelude.{Result, Ok, Err}
use Rattle.std.specs.Int.{w16, w64, cast_signed, from_le_bytes}
use Rattle.row_types.specs.declared.definition.Kind.{Kind}
use Rattle.row_types.specs.declared.definition.Kind.TheVariants as kind
use Rattle.row_types.specs.declared.definition.Column.{Column}
use Rattle.row_types.specs.declared.row.Value.{Value}
use Rattle.row_types.specs.declared.row.Value.TheVariants as value
use Rattle.row_types.specs.declared.fault.SlotFault.{SlotFault}
use Rattle.row_types.specs.declared.fault.SlotFault.TheVariants.{BadSlot, OutOfMemory}
use Rattle.row_types.specs.Slot.{width, slot_fault}

-- the value of a column
abbrev pub cell_value : Kind → List ℕ → Value
cell_value kind.Int bytes = value.Int (cast_signed w64 (from_le_bytes w64 bytes))
cell_value (kind.Text limit) bytes = value.Text (take (from_le_bytes w16 (take 2 bytes)) (drop 2 bytes))

-- the values of columns that stand one after another
abbrev pub cells_values : List Column → List ℕ → List Value
cells_values [] bytes = []
cells_values (c ∷ columns) bytes =
    cell_value c.kind (take (width c.kind) bytes) ∷ cells_values columns (drop (width c.kind) bytes)

-- what a slot without a fault holds
abbrev pub slot_value : List Column → List ℕ → Option (List Value)
slot_value columns [] = None
slot_value columns (tag ∷ bytes) = if tag == 0 then None else Some (cells_values columns bytes)

-- what a slot holds, or the place of its fault where it has one
abbrev pub unless_fault : Option ℕ → Option (List Value) → Result (Option (List Value)) SlotFault
unless_fault None held = Ok held
unless_fault (Some at) held = Err (BadSlot at)

-- what a slot holds, or its first fault
abbrev pub read_slot : List Column → List ℕ → Result (Option (List Value)) SlotFault
read_slot columns slot = unless_fault (slot_fault columns slot) (slot_value columns slot)

-- the answer is the one that is due, but for a row that there was no memory for
abbrev pub IsUnlessMemory : Result (Option (List Value)) SlotFault → Result (Option (List Value)) SlotFault
    → Type 0
IsUnlessMemory result due =
    (result ≡ due) ⊎ ((result ≡ Err OutOfMemory) × ((row : List Value) × (due ≡ Ok (Some row))))
