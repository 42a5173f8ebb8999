-- Slots that have no fault.
use Rattle.std.proofs.Common.{◌≡◌, ℕ, ◌+◌, ◌-◌, ◌<◌, ◌≤◌, List, ◌∷◌, length, get_or, take, drop}
use Rattle.std.proofs.Common.{Option}
use Rattle.std.proofs.Common.{rules, None, Some, refl, sym, ap₂, ◌∙◌, arith}
use Rattle.std.specs.Prelude.{Result, Ok, Err, IfOk, IfSome, ℤ}
use Rattle.row_types.specs.declared.definition.Column.{Column}
use Rattle.row_types.specs.declared.row.Value.{Value}
use Rattle.row_types.specs.Slot.{width, slot_len, slot_text, empty_slot, slot_fault, IsRowOf}
use Rattle.row_types.specs.Reading.{cell_value, cells_values, slot_value, unless_fault}
use Rattle.row_types.specs.Keys.{int_of, int_at}
use Rattle.row_types.proofs.SlotLaws.{slot_read, slot_again, empty_again}
use Rattle.row_types.proofs.Bytes.{IsBytes}
use Rattle.row_types.proofs.Cells.{columns_from}

told : (fault : Option ℕ) (held due : Option (List Value)) → unless_fault fault held ≡ Ok due
    → (fault ≡ None) × (held ≡ due)
told None held due e = (refl, search (rules, e))
told (Some at) held due e = absurd cc

pub row_held : (columns : List Column) (row : List Value) → slot_len columns ≤ 4096 → IsRowOf columns row
    → (slot_fault columns (slot_text columns row) ≡ None)
    × (slot_value columns (slot_text columns row) ≡ Some row)
row_held columns row narrow fits = told _ _ _ (slot_again columns row narrow fits)

pub none_held : (columns : List Column)
    → (slot_fault columns (empty_slot columns) ≡ None) × (slot_value columns (empty_slot columns) ≡ None)
none_held columns = told _ _ _ (empty_again columns)

pub checked_row : (columns : List Column) (slot : List ℕ) (found : Option (List Value))
    → length slot ≡ slot_len columns
    → IsBytes slot → slot_fault columns slot ≡ None → found ≡ slot_value columns slot
    → IfSome found (λ row. IsRowOf columns row × (slot ≡ slot_text columns row))
checked_row columns slot None whole bytes sound is = _
checked_row columns slot (Some row) whole bytes sound is =
    slot_read columns slot row whole bytes (rw (sound, ← is) refl)

pub checked_rows : {E : Type 0} (columns : List Column) (slot : List ℕ)
    (result : Result (Option (List Value)) E)
    → length slot ≡ slot_len columns
    → IsBytes slot → slot_fault columns slot ≡ None → IfOk result (λ found. found ≡ slot_value columns slot)
    → IfOk result (λ found. IfSome found (λ row. IsRowOf columns row × (slot ≡ slot_text columns row)))
checked_rows columns slot (Ok found) whole bytes sound is =
    checked_row columns slot found whole bytes sound is
checked_rows columns slot (Err e) whole bytes sound is = _

-- the column at the place
pub cell_here : (at w i place : ℕ) (columns : List Column) (c : Column) (bytes : List ℕ) (number : ℤ)
    → i < length columns
    → c ≡ get_or columns i c → w ≡ width c.kind → i ≡ place
    → number ≡ int_of (Some (cell_value c.kind (take (at + w - at) (drop at bytes))))
    → int_at (cells_values columns bytes) place ≡ int_at (cells_values (drop i columns) (drop at bytes))
    (place - i)
    → number ≡ int_at (cells_values columns bytes) place
cell_here at w i place columns c bytes number inside is w-is here number-is left =
    let n : at + w - at ≡ width c.kind = omega arith in
    let zero-is : place - i ≡ 0 = omega arith in
    let from : cells_values (drop i columns) (drop at bytes)
    ≡ cell_value c.kind (take (at + w - at) (drop at bytes))
    ∷ cells_values (drop (i + 1) columns) (drop (width c.kind) (drop at bytes)) =
    rw (columns_from columns i c inside is, n) refl in
    number-is ∙ sym (left ∙ ap₂ (λ vs (k : ℕ). int_at vs k) from zero-is)
