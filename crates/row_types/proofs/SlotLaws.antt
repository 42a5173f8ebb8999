-- What has no fault is the slot of a row or of none, and the slot of a row has no fault and is read as that row.
use Rattle.std.proofs.Common.{◌≡◌, ℕ, zero, suc, ℤ, ◌+◌, ◌-◌, ◌^◌, ◌<◌, ◌≤◌, Bool, false, not, cond, eqb, List, [], ◌∷◌, ◌++◌, length, take, drop, replicate, Option, None, Some, Result, Ok, Err, refl, sym, ◌∙◌, ap, subst, append_assoc, arith, inl, inr, Fits}
use Rattle.std.specs.Prelude.{◌↔◌, ◌⊎◌, IfOk, IfSome, IsUtf8, FitsSigned}
use Rattle.std.specs.Int.{w16, w64, cast_signed, cast_unsigned, to_le_bytes, from_le_bytes}
use Rattle.std.proofs.Math.Facts.{sfits_to_z, Fits-of_z, Fits-of_lt}
use Rattle.std.proofs.lemmas.Int.{to_z-of_z, of_z-to_z}
use Rattle.std.proofs.lemmas.Nat.{le_bytes_2, le_bytes_8, from_le_bytes-to_le_bytes_2, from_le_bytes-to_le_bytes_8}
use Rattle.std.proofs.lemmas.List.{take_at, drop_at, take-append-drop, length-take, length-drop}
use Rattle.std.proofs.lemmas.List.Sums.{sum_by-cons}
use Rattle.std.proofs.lemmas.Option.{none-some}
use Rattle.row_types.specs.declared.definition.Kind.{Kind}
use Rattle.row_types.specs.declared.definition.Kind.TheVariants as kind
use Rattle.row_types.specs.declared.definition.Column.{Column}
use Rattle.row_types.specs.declared.row.Value.{Value}
use Rattle.row_types.specs.declared.row.Value.TheVariants as value
use Rattle.row_types.specs.declared.fault.SlotFault.{SlotFault}
use Rattle.row_types.specs.declared.fault.SlotFault.TheVariants.{BadSlot, OutOfMemory}
use Rattle.row_types.specs.Slot.{width, widths, slot_len, cell_text, cells_text, slot_text, empty_slot, FitsKind, IsRowOf, first_not_zero, cell_fault, cells_fault, slot_fault}
use Rattle.row_types.specs.Reading.{cell_value, cells_values, slot_value, unless_fault, read_slot, IsUnlessMemory}
use Rattle.row_types.proofs.Bytes.{IsBytes, IsBytes-drop, IsBytes-take}
use Rattle.row_types.proofs.Cells.{cell_fault_behind, text_of_no_fault, len_of_no_fault}
use Rattle.row_types.proofs.SchemaLaws.{neither}
use Rattle.row_types.proofs.WritingCells.{length-cell_text, length-cells_text}

-- ---- zeros

some_is_none : (x : ℕ) → ◌≡◌ {A = Option ℕ} (Some x) None → ⊥
some_is_none x e = cc

pub zeros_of_none : (at : ℕ) (bytes : List ℕ) → first_not_zero at bytes ≡ None → bytes ≡ replicate (length bytes) 0
zeros_of_none at [] none = refl
zeros_of_none at (zero ∷ bytes) none = ap (λ (r : List ℕ). 0 ∷ r) (zeros_of_none (at + 1) bytes none)
zeros_of_none at (suc b ∷ bytes) none =
    let other : eqb (suc b) 0 ≡ false = grind arith in
    let found = subst (λ (t : Bool). cond (not t) (Some at) (first_not_zero (at + 1) bytes) ≡ None) other none in
    absurd (some_is_none at found)

pub none_of_zeros : (at n : ℕ) → first_not_zero at (replicate n 0) ≡ None
none_of_zeros at zero = refl
none_of_zeros at (suc n) = none_of_zeros (at + 1) n

-- ---- one column

cell_read_int : (bytes : List ℕ) → length bytes ≡ 8 → IsBytes bytes → (cell_text kind.Int (cell_value kind.Int bytes) ≡ bytes) × FitsKind kind.Int (cell_value kind.Int bytes)
cell_read_int bytes len fits =
    let n = from_le_bytes w64 bytes in
    let small : n < 2 ^ 64 = omega (arith, fits 0, fits 1, fits 2, fits 3, fits 4, fits 5, fits 6, fits 7) in
    let back : cast_unsigned w64 (cast_signed w64 n) ≡ n = of_z-to_z w64 n small in
    (ap (to_le_bytes w64) back ∙ le_bytes_8 bytes n len fits refl, sfits_to_z (Fits-of_lt small))

cell_read_text : (at limit : ℕ) (bytes : List ℕ) → cell_fault at (kind.Text limit) bytes ≡ None → length bytes ≡ 2 + limit → IsBytes bytes
    → (cell_text (kind.Text limit) (cell_value (kind.Text limit) bytes) ≡ bytes) × FitsKind (kind.Text limit) (cell_value (kind.Text limit) bytes)
cell_read_text at limit bytes none len fits =
    let n = from_le_bytes w16 (take 2 bytes) in
    let rest = drop 2 bytes in
    let text = take n rest in
    let utf8 = text_of_no_fault at limit bytes none in
    let short = len_of_no_fault at limit bytes none in
    let text-len : length text ≡ n = omega (arith, length-take n rest, length-drop 2 bytes) in
    let front : to_le_bytes w16 n ≡ take 2 bytes = le_bytes_2 (take 2 bytes) n (omega (arith, length-take 2 bytes)) (IsBytes-take 2 bytes fits) refl in
    let zeros = zeros_of_none (at + 2 + n) (drop n rest) (sym (cell_fault_behind at limit n bytes refl short utf8) ∙ none) in
    let behind : replicate (limit - n) 0 ≡ drop n rest = sym (zeros ∙ ap (λ (k : ℕ). replicate k 0) (omega (arith, length-drop n rest, length-drop 2 bytes))) in
    let parts : cell_text (kind.Text limit) (value.Text text) ≡ bytes =
    ap (λ (k : ℕ). to_le_bytes w16 k ++ (text ++ replicate (limit - k) 0)) text-len ∙ ap (λ (f : List ℕ). f ++ (text ++ replicate (limit - n) 0)) front
    ∙ ap (λ (r : List ℕ). take 2 bytes ++ (text ++ r)) behind ∙ ap (λ (r : List ℕ). take 2 bytes ++ r) (take-append-drop n rest) ∙ take-append-drop 2 bytes in
    (parts, (omega (arith, text-len, short), utf8))

cell_read : (at : ℕ) (k : Kind) (bytes : List ℕ) → cell_fault at k bytes ≡ None → length bytes ≡ width k → IsBytes bytes
    → (cell_text k (cell_value k bytes) ≡ bytes) × FitsKind k (cell_value k bytes)
cell_read at kind.Int bytes none len fits = cell_read_int bytes len fits
cell_read at (kind.Text limit) bytes none len fits = cell_read_text at limit bytes none len fits

cell_again_int : (number : ℤ) → FitsSigned w64 number → cell_value kind.Int (cell_text kind.Int (value.Int number)) ≡ value.Int number
cell_again_int number fits =
    let n = cast_unsigned w64 number in
    let small : Fits w64 n = Fits-of_z fits in
    ap (λ (m : ℕ). value.Int (cast_signed w64 m)) (from_le_bytes-to_le_bytes_8 n (omega arith)) ∙ ap value.Int (to_z-of_z w64 number fits)

module _ (at limit : ℕ) (text : List ℕ) (narrow : 2 + limit < 2 ^ 16) (short : length text ≤ limit) (utf8 : IsUtf8 text) where
  slot_bytes : List ℕ
  slot_bytes = cell_text (kind.Text limit) (value.Text text)

  len_again : from_le_bytes w16 (take 2 slot_bytes) ≡ length text
  unfolding slot_bytes
  len_again = from_le_bytes-to_le_bytes_2 (length text) (omega arith)

  whole : take (length text) (drop 2 slot_bytes) ≡ text
  unfolding slot_bytes
  whole = take_at text (replicate (limit - length text) 0) (length text) refl

  rest : drop (length text) (drop 2 slot_bytes) ≡ replicate (limit - length text) 0
  unfolding slot_bytes
  rest = drop_at text (replicate (limit - length text) 0) (length text) refl

  pub text_again : cell_value (kind.Text limit) (cell_text (kind.Text limit) (value.Text text)) ≡ value.Text text
  unfolding slot_bytes
  text_again = ap (λ (n : ℕ). value.Text (take n (drop 2 slot_bytes))) len_again ∙ ap value.Text whole

  pub text_no_fault : cell_fault at (kind.Text limit) (cell_text (kind.Text limit) (value.Text text)) ≡ None
  unfolding slot_bytes
  text_no_fault = cell_fault_behind at limit (length text) slot_bytes (sym len_again) short (rw whole utf8) ∙ ap (first_not_zero (at + 2 + length text)) rest ∙ none_of_zeros (at + 2 + length text) (limit - length text)

cell_again : (k : Kind) (v : Value) → width k < 2 ^ 16 → FitsKind k v → cell_value k (cell_text k v) ≡ v
cell_again kind.Int (value.Int number) narrow fits = cell_again_int number fits
cell_again (kind.Text limit) (value.Text text) narrow fits = text_again 0 limit text narrow fits.0 fits.1
cell_again kind.Int (value.Text text) narrow fits = absurd fits
cell_again (kind.Text limit) (value.Int number) narrow fits = absurd fits

cell_no_fault : (at : ℕ) (k : Kind) (v : Value) → width k < 2 ^ 16 → FitsKind k v → cell_fault at k (cell_text k v) ≡ None
cell_no_fault at kind.Int (value.Int number) narrow fits = refl
cell_no_fault at (kind.Text limit) (value.Text text) narrow fits = text_no_fault at limit text narrow fits.0 fits.1
cell_no_fault at kind.Int (value.Text text) narrow fits = absurd fits
cell_no_fault at (kind.Text limit) (value.Int number) narrow fits = absurd fits

-- ---- columns one after another

widths-cons : (c : Column) (columns : List Column) → widths (c ∷ columns) ≡ width c.kind + widths columns
widths-cons c columns = sum_by-cons (λ (x : Column). width x.kind) c columns

pub cells_read : (at : ℕ) (columns : List Column) (bytes : List ℕ) → cells_fault at columns bytes ≡ None → widths columns ≤ length bytes → IsBytes bytes
    → IsRowOf columns (cells_values columns bytes) × (bytes ≡ cells_text columns (cells_values columns bytes) ++ replicate (length bytes - widths columns) 0)
cells_read at [] bytes none room fits = (tt, zeros_of_none at bytes none ∙ ap (λ (n : ℕ). replicate n 0) (omega arith))
cells_read at (c ∷ columns) bytes none room fits =
    let w = width c.kind in
    let w-is : w ≡ width c.kind = refl in
    let cell = take w bytes in
    let others = drop w bytes in
    let both = neither (cell_fault at c.kind cell) (cells_fault (at + w) columns others) none in
    let sum = widths-cons c columns in
    let cell-len : length cell ≡ w = omega (arith, length-take w bytes, sum) in
    let others-len = length-drop w bytes in
    let first = cell_read at c.kind cell both.0 cell-len (IsBytes-take w bytes fits) in
    let second = cells_read (at + w) columns others both.1 (omega (arith, others-len, sum)) (IsBytes-drop w bytes fits) in
    let texts = cells_text columns (cells_values columns others) in
    let n : length others - widths columns ≡ length bytes - widths (c ∷ columns) = omega (arith, others-len, sum) in
    let parts : bytes ≡ (cell_text c.kind (cell_value c.kind cell) ++ texts) ++ replicate (length bytes - widths (c ∷ columns)) 0 =
    sym (take-append-drop w bytes) ∙ ap (λ (r : List ℕ). cell ++ r) (second.1 ∙ ap (λ (m : ℕ). texts ++ replicate m 0) n)
    ∙ ap (λ (x : List ℕ). x ++ (texts ++ replicate (length bytes - widths (c ∷ columns)) 0)) (sym first.0) ∙ sym (append_assoc (cell_text c.kind (cell_value c.kind cell)) texts _) in
    ((first.1, second.0), parts)

pub cells_again : (columns : List Column) (row : List Value) (more : List ℕ) → widths columns < 2 ^ 16 → IsRowOf columns row → cells_values columns (cells_text columns row ++ more) ≡ row
cells_again [] [] more narrow fits = refl
cells_again (c ∷ columns) (v ∷ row) more narrow fits =
    let sum = widths-cons c columns in
    let cell = cell_text c.kind v in
    let behind = cells_text columns row ++ more in
    let parts : (cell ++ cells_text columns row) ++ more ≡ cell ++ behind = append_assoc cell (cells_text columns row) more in
    let len = length-cell_text c.kind v fits.0 in
    rw (parts, take_at cell behind (width c.kind) len, drop_at cell behind (width c.kind) len, cell_again c.kind v (omega (arith, sum)) fits.0, cells_again columns row more (omega (arith, sum)) fits.1) refl
cells_again [] (v ∷ row) more narrow fits = absurd fits
cells_again (c ∷ columns) [] more narrow fits = absurd fits

pub cells_no_fault : (at : ℕ) (columns : List Column) (row : List Value) (n : ℕ) → widths columns < 2 ^ 16 → IsRowOf columns row → cells_fault at columns (cells_text columns row ++ replicate n 0) ≡ None
cells_no_fault at [] [] n narrow fits = none_of_zeros at n
cells_no_fault at (c ∷ columns) (v ∷ row) n narrow fits =
    let sum = widths-cons c columns in
    let cell = cell_text c.kind v in
    let behind = cells_text columns row ++ replicate n 0 in
    let parts : (cell ++ cells_text columns row) ++ replicate n 0 ≡ cell ++ behind = append_assoc cell (cells_text columns row) (replicate n 0) in
    let len = length-cell_text c.kind v fits.0 in
    rw (parts, take_at cell behind (width c.kind) len, drop_at cell behind (width c.kind) len, cell_no_fault at c.kind v (omega (arith, sum)) fits.0) (cells_no_fault (at + width c.kind) columns row n (omega (arith, sum)) fits.1)
cells_no_fault at [] (v ∷ row) n narrow fits = absurd fits
cells_no_fault at (c ∷ columns) [] n narrow fits = absurd fits

-- ---- a slot

more_than_one : (b : ℕ) → (eqb (suc (suc b)) 0 ≡ false) × (eqb (suc (suc b)) 1 ≡ false)
more_than_one b = (grind arith, grind arith)

fault_of_tag : (b : ℕ) (columns : List Column) (bytes : List ℕ) → slot_fault columns (suc (suc b) ∷ bytes) ≡ Some 0
fault_of_tag b columns bytes = rw ((more_than_one b).0, (more_than_one b).1) refl

ok_is_err : {A E : Type 0} (x : A) (e : E) → ◌≡◌ {A = Result A E} (Ok x) (Err e) → ⊥
ok_is_err x e h = cc

-- what is read as some row, or as none, had no fault
ok_read : (fault : Option ℕ) (held read : Option (List Value)) → unless_fault fault held ≡ Ok read → (fault ≡ None) × (held ≡ read)
ok_read None held read e = (refl, cc)
ok_read (Some at) held read e = absurd (ok_is_err read (BadSlot at) (sym e))

pub slot_read : (columns : List Column) (slot : List ℕ) (row : List Value) → length slot ≡ slot_len columns → IsBytes slot → read_slot columns slot ≡ Ok (Some row) → IsRowOf columns row × (slot ≡ slot_text columns row)
slot_read columns [] row len fits e = absurd (none-some row (ok_read None None (Some row) e).1)
slot_read columns (zero ∷ bytes) row len fits e = absurd (none-some row (ok_read (first_not_zero 1 bytes) None (Some row) e).1)
slot_read columns (suc zero ∷ bytes) row len fits e =
    let both = ok_read (cells_fault 1 columns bytes) (Some (cells_values columns bytes)) (Some row) e in
    let same : cells_values columns bytes ≡ row = some_is both.1 in
    let room : widths columns ≤ length bytes = omega arith in
    let parts = cells_read 1 columns bytes both.0 room (λ i. fits (suc i)) in
    let cells-len = length-cells_text columns (cells_values columns bytes) parts.0 in
    let n : length bytes - widths columns ≡ slot_len columns - suc (length (cells_text columns (cells_values columns bytes))) = omega (arith, cells-len) in
    let text : 1 ∷ bytes ≡ slot_text columns (cells_values columns bytes) = ap (λ (r : List ℕ). 1 ∷ r) parts.1 ∙ ap (λ (k : ℕ). 1 ∷ (cells_text columns (cells_values columns bytes) ++ replicate k 0)) n in
    subst (λ (r : List Value). IsRowOf columns r × (1 ∷ bytes ≡ slot_text columns r)) same (parts.0, text) where
      some_is : {A : Type 0} {x y : A} → ◌≡◌ {A = Option A} (Some x) (Some y) → x ≡ y
      some_is e = cc
slot_read columns (suc (suc b) ∷ bytes) row len fits e = absurd (ok_is_err (Some row) (BadSlot 0) (sym e ∙ ap (λ (f : Option ℕ). unless_fault f (slot_value columns (suc (suc b) ∷ bytes))) (fault_of_tag b columns bytes)))

pub slot_again : (columns : List Column) (row : List Value) → slot_len columns ≤ 4096 → IsRowOf columns row → read_slot columns (slot_text columns row) ≡ Ok (Some row)
slot_again columns row narrow fits =
    let small : widths columns < 2 ^ 16 = omega arith in
    let n = slot_len columns - suc (length (cells_text columns row)) in
    rw (cells_no_fault 1 columns row n small fits, cells_again columns row (replicate n 0) small fits) refl

-- an empty slot is read as no row
pub empty_again : (columns : List Column) → read_slot columns (empty_slot columns) ≡ Ok None
empty_again columns =
    let n : slot_len columns ≡ suc (slot_len columns - 1) = omega arith in
    ap (λ (k : ℕ). read_slot columns (replicate k 0)) n ∙ rw (none_of_zeros 1 (slot_len columns - 1)) refl

-- what is read as no row is an empty slot
pub empty_read : (columns : List Column) (slot : List ℕ) → length slot ≡ slot_len columns → read_slot columns slot ≡ Ok None → slot ≡ empty_slot columns
empty_read columns [] len e = absurd (omega arith)
empty_read columns (zero ∷ bytes) len e =
    let both = ok_read (first_not_zero 1 bytes) None None e in
    ap (λ (r : List ℕ). 0 ∷ r) (zeros_of_none 1 bytes both.0) ∙ ap (λ (k : ℕ). replicate k 0) len
empty_read columns (suc zero ∷ bytes) len e = absurd (none-some (cells_values columns bytes) (sym (ok_read (cells_fault 1 columns bytes) (Some (cells_values columns bytes)) None e).1))
empty_read columns (suc (suc b) ∷ bytes) len e = absurd (ok_is_err None (BadSlot 0) (sym e ∙ ap (λ (f : Option ℕ). unless_fault f (slot_value columns (suc (suc b) ∷ bytes))) (fault_of_tag b columns bytes)))

-- ---- the clauses of the call

err_fault : (fault : Option ℕ) (held : Option (List Value)) (at : ℕ) → unless_fault fault held ≡ Err (BadSlot at) → fault ≡ Some at
err_fault None held at e = absurd (ok_is_err held (BadSlot at) e)
err_fault (Some x) held at e = cc

memory_is_bad : {A : Type 0} (at : ℕ) → ◌≡◌ {A = Result A SlotFault} (Err OutOfMemory) (Err (BadSlot at)) → ⊥
memory_is_bad at e = cc

some_is_none_row : (row : List Value) → ◌≡◌ {A = Result (Option (List Value)) SlotFault} (Ok (Some row)) (Ok None) → ⊥
some_is_none_row row e = cc

module _ (columns : List Column) (slot : List ℕ) (result : Result (Option (List Value)) SlotFault) (due : IsUnlessMemory result (read_slot columns slot)) where
  pub fault_is : (at : ℕ) → (result ≡ Err (BadSlot at)) ↔ (slot_fault columns slot ≡ Some at)
  fault_is at =
      elim due [
        | inl e ↦ ((λ bad. err_fault (slot_fault columns slot) (slot_value columns slot) at (sym e ∙ bad)), (λ f. e ∙ ap (λ (x : Option ℕ). unless_fault x (slot_value columns slot)) f))
        | inr m ↦ ((λ bad. absurd (memory_is_bad at (sym m.0 ∙ bad))), (λ f. absurd (ok_is_err (Some m.1.0) (BadSlot at) (sym m.1.1 ∙ ap (λ (x : Option ℕ). unless_fault x (slot_value columns slot)) f))))
      ]

  pub none_is : length slot ≡ slot_len columns → (result ≡ Ok None) ↔ (slot ≡ empty_slot columns)
  none_is len =
      elim due [
        | inl e ↦ ((λ none. empty_read columns slot len (sym e ∙ none)), (λ zeros. e ∙ ap (read_slot columns) zeros ∙ empty_again columns))
        | inr m ↦ ((λ none. absurd (ok_is_err None OutOfMemory (sym none ∙ m.0))), (λ zeros. absurd (some_is_none_row m.1.0 (sym m.1.1 ∙ ap (read_slot columns) zeros ∙ empty_again columns))))
      ]

  pub row_is : length slot ≡ slot_len columns → IsBytes slot → IfOk result (λ found. IfSome found (λ row. IsRowOf columns row × (slot ≡ slot_text columns row)))
  row_is len fits = by_case result due where
    by_case : (r : Result (Option (List Value)) SlotFault) → IsUnlessMemory r (read_slot columns slot) → IfOk r (λ found. IfSome found (λ row. IsRowOf columns row × (slot ≡ slot_text columns row)))
    by_case (Err e) given = tt
    by_case (Ok None) given = tt
    by_case (Ok (Some row)) (inl e) = slot_read columns slot row len fits (sym e)
    by_case (Ok (Some row)) (inr m) = absurd (ok_is_err (Some row) OutOfMemory m.0)

  pub again_is : slot_len columns ≤ 4096 → (row : List Value) → IsRowOf columns row → slot ≡ slot_text columns row → (result ≡ Ok (Some row)) ⊎ (result ≡ Err OutOfMemory)
  again_is narrow row fits text =
      elim due [
        | inl e ↦ inl (e ∙ ap (read_slot columns) text ∙ slot_again columns row narrow fits)
        | inr m ↦ inr m.0
      ]

-- a row has one slot text, and a text is of one row
pub one_row : (columns : List Column) (a b : List Value) → slot_len columns ≤ 4096 → IsRowOf columns a → IsRowOf columns b → slot_text columns a ≡ slot_text columns b → a ≡ b
one_row columns a b narrow a-fits b-fits same =
    let e : ◌≡◌ {A = Result (Option (List Value)) SlotFault} (Ok (Some a)) (Ok (Some b)) = sym (slot_again columns a narrow a-fits) ∙ ap (read_slot columns) same ∙ slot_again columns b narrow b-fits in
    cc
