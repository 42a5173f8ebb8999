-- Changes are told apart by their texts, and what is read is what stands there.
use Rattle.std.proofs.Common.{◌≡◌, ◌≢◌, ℕ, ℤ, suc, ◌+◌, ◌-◌, ◌^◌, ◌<◌, ◌≤◌, ◌⊎◌, inl, inr, List, [], ◌∷◌, ◌++◌, length, take, drop, set, replicate, Option, None, Some, Result, Ok, Err, refl, sym, ap, ap₂, ◌∙◌, subst, arith, Fits}
use Rattle.std.specs.Prelude.{FitsSigned, slice_get}
use Rattle.std.specs.Int.{w16, w64, cast_signed, cast_unsigned, to_le_bytes, from_le_bytes}
use Rattle.std.proofs.Math.Facts.{Fits-of_z}
use Rattle.std.proofs.lemmas.Int.{to_z-of_z}
use Rattle.std.proofs.lemmas.Nat.{from_le_bytes-to_le_bytes_2, from_le_bytes-to_le_bytes_8}
use Rattle.std.proofs.lemmas.List.{take_at, drop_at, drop_all, append-nil, length-append, length-replicate}
use borrow.Rule.Slice.PartMut.{put_mid}
use Rattle.row_types.specs.declared.definition.TableDef.{TableDef}
use Rattle.row_types.specs.declared.definition.Column.{Column}
use Rattle.row_types.specs.declared.row.Value.{Value}
use Rattle.row_types.specs.declared.fault.SlotFault.{SlotFault}
use Rattle.row_types.specs.declared.fault.SlotFault.TheVariants as slot
use Rattle.row_types.specs.Schema.{IsSchema, IsTable, columns_at, columns_of}
use Rattle.row_types.specs.Slot.{IsRowOf, cells_text, slot_len, slot_text, widths}
use Rattle.row_types.proofs.SchemaLaws.{table_of_schema}
use Rattle.row_types.proofs.SlotLaws.{one_row}
use Rattle.row_types.proofs.WritingCells.{length-cells_text}
use Rattle.op_log.specs.declared.change.RowChange.{RowChange}
use Rattle.op_log.specs.declared.change.RowChange.TheVariants.{Put, Del}
use Rattle.op_log.specs.declared.change.ChangeFault.{ChangeFault}
use Rattle.op_log.specs.declared.change.ChangeFault.TheVariants.{BadChange, OutOfMemory as NoMemory}
use Rattle.op_log.specs.Changes.{number_text, change_text, headed, put_bytes, IsChange, IsReadAs, IsRowRead}

-- ---- slots and numbers

pub length_slot : (columns : List Column) (row : List Value) → IsRowOf columns row → length (slot_text columns row) ≡ slot_len columns
length_slot columns row fits =
    let cells = 1 ∷ cells_text columns row in
    let len : length cells ≡ 1 + widths columns = omega (arith, length-cells_text columns row fits) in
    omega (arith, len, length-append cells (replicate (slot_len columns - length cells) 0), length-replicate {A = ℕ} (slot_len columns - length cells) 0)

two_slots : (columns : List Column) (a b : List Value) (x y : List ℕ) → slot_len columns ≤ 4096 → IsRowOf columns a → IsRowOf columns b
    → slot_text columns a ++ x ≡ slot_text columns b ++ y → (a ≡ b) × (x ≡ y)
two_slots columns a b x y narrow a-fits b-fits e =
    let n = slot_len columns in
    let a-len = length_slot columns a a-fits in
    let b-len = length_slot columns b b-fits in
    let texts : slot_text columns a ≡ slot_text columns b = sym (take_at (slot_text columns a) x n a-len) ∙ ap (take n) e ∙ take_at (slot_text columns b) y n b-len in
    (one_row columns a b narrow a-fits b-fits texts, sym (drop_at (slot_text columns a) x n a-len) ∙ ap (drop n) e ∙ drop_at (slot_text columns b) y n b-len)

pub length_number : (n : ℤ) → length (number_text n) ≡ 8
unfolding number_text
length_number n = refl

number_again : (n : ℤ) → FitsSigned w64 n → cast_signed w64 (from_le_bytes w64 (number_text n)) ≡ n
unfolding number_text
number_again n fits =
    let m = cast_unsigned w64 n in
    let small : Fits w64 m = Fits-of_z fits in
    ap (cast_signed w64) (from_le_bytes-to_le_bytes_8 m (omega arith)) ∙ to_z-of_z w64 n fits

two_numbers : (a b : ℤ) (x y : List ℕ) → FitsSigned w64 a → FitsSigned w64 b → number_text a ++ x ≡ number_text b ++ y → (a ≡ b) × (x ≡ y)
two_numbers a b x y a-fits b-fits e =
    let texts : number_text a ≡ number_text b = sym (take_at (number_text a) x 8 (length_number a)) ∙ ap (take 8) e ∙ take_at (number_text b) y 8 (length_number b) in (
      sym (number_again a a-fits) ∙ ap (λ t. cast_signed w64 (from_le_bytes w64 t)) texts ∙ number_again b b-fits,
      sym (drop_at (number_text a) x 8 (length_number a)) ∙ ap (drop 8) e ∙ drop_at (number_text b) y 8 (length_number b),
    )

-- ---- the head of a change

pub text_put : (defs : List TableDef) (table : ℕ) (row : List Value) (more : List ℕ) → change_text defs (Put table row) ++ more ≡ headed 1 table (slot_text (columns_at defs table) row ++ more)
unfolding change_text
text_put defs table row more = refl

pub text_del : (defs : List TableDef) (table : ℕ) (n : ℤ) (more : List ℕ) → change_text defs (Del table n) ++ more ≡ headed 2 table (number_text n ++ more)
unfolding change_text
text_del defs table n more = refl

abbrev first : List ℕ → ℕ
first [] = 0
first (b ∷ bytes) = b

pub same_head : (kind table k t : ℕ) (rest r : List ℕ) → table < 2 ^ 16 → t < 2 ^ 16 → headed kind table rest ≡ headed k t r → (kind ≡ k) × (table ≡ t) × (rest ≡ r)
same_head kind table k t rest r small t-small e =
    let numbers : to_le_bytes w16 table ≡ to_le_bytes w16 t = ap (λ bytes. take 2 (drop 1 bytes)) e in
    (ap first e, sym (from_le_bytes-to_le_bytes_2 table small) ∙ ap (from_le_bytes w16) numbers ∙ from_le_bytes-to_le_bytes_2 t t-small, ap (drop 3) e)

pub length_put : (defs : List TableDef) (table : ℕ) (row : List Value) → IsRowOf (columns_at defs table) row → length (change_text defs (Put table row)) ≡ put_bytes defs table
unfolding change_text
length_put defs table row fits = omega (arith, length_slot (columns_at defs table) row fits)

pub length_del : (defs : List TableDef) (table : ℕ) (n : ℤ) → length (change_text defs (Del table n)) ≡ 11
unfolding change_text
length_del defs table n = omega (arith, length_number n)

pub three_bytes : (defs : List TableDef) (change : RowChange) → 3 ≤ length (change_text defs change)
unfolding change_text
three_bytes defs (Put table row) = omega arith
three_bytes defs (Del table n) = omega arith

-- ---- one change at most

narrow_of : (found : Option TableDef) → ((def : TableDef) → found ≡ Some def → IsTable def) → slot_len (columns_of found) ≤ 4096
narrow_of None told = omega arith
narrow_of (Some def) told = (told def refl).narrow

narrow_at : (defs : List TableDef) (table : ℕ) → IsSchema defs → slot_len (columns_at defs table) ≤ 4096
narrow_at defs table schema = narrow_of (slice_get defs table) (λ def. table_of_schema defs table def schema)

one_is_two : ◌≡◌ {A = ℕ} 1 2 → ⊥
one_is_two e = omega (arith, e)

pub one : (defs : List TableDef) (a b : RowChange) (x y : List ℕ) → IsSchema defs → IsChange defs a → IsChange defs b
    → change_text defs a ++ x ≡ change_text defs b ++ y → (a ≡ b) × (x ≡ y)
one defs (Put t row) (Put u other) x y schema f g e =
    let heads = same_head 1 t 1 u (slot_text (columns_at defs t) row ++ x) (slot_text (columns_at defs u) other ++ y) f.0.1 g.0.1 (sym (text_put defs t row x) ∙ e ∙ text_put defs u other y) in
    let same = heads.1 in
    let fits : IsRowOf (columns_at defs t) other = subst (λ n. IsRowOf (columns_at defs n) other) (sym same) g.1 in
    let slots = two_slots (columns_at defs t) row other x y (narrow_at defs t schema) f.1 fits (heads.2 ∙ ap (λ n. slot_text (columns_at defs n) other ++ y) (sym same)) in
    (ap₂ Put same slots.0, slots.1)
one defs (Del t m) (Del u n) x y schema f g e =
    let heads = same_head 2 t 2 u (number_text m ++ x) (number_text n ++ y) f.0.1 g.0.1 (sym (text_del defs t m x) ∙ e ∙ text_del defs u n y) in
    let numbers = two_numbers m n x y f.1 g.1 heads.2 in
    (ap₂ Del heads.1 numbers.0, numbers.1)
one defs (Put t row) (Del u n) x y schema f g e =
    absurd (one_is_two (same_head 1 t 2 u (slot_text (columns_at defs t) row ++ x) (number_text n ++ y) f.0.1 g.0.1 (sym (text_put defs t row x) ∙ e ∙ text_del defs u n y)).0)
one defs (Del t m) (Put u other) x y schema f g e =
    absurd (one_is_two (sym (same_head 2 t 1 u (number_text m ++ x) (slot_text (columns_at defs u) other ++ y) f.0.1 g.0.1 (sym (text_del defs t m x) ∙ e ∙ text_put defs u other y)).0))

-- ---- what is written

pub written : (kind table : ℕ) (old text : List ℕ) → 3 ≤ length old
    → put_mid 3 (length (put_mid 1 2 (set old 0 kind) (to_le_bytes w16 table)) - 3) (put_mid 1 2 (set old 0 kind) (to_le_bytes w16 table)) text ≡ headed kind table text
written kind table [] text three = absurd (omega (arith, three))
written kind table (a ∷ []) text three = absurd (omega (arith, three))
written kind table (a ∷ b ∷ []) text three = absurd (omega (arith, three))
written kind table (a ∷ b ∷ c ∷ rest) text three =
    let none : drop (length (headed kind table rest) - 3) rest ≡ [] = drop_all (length (headed kind table rest) - 3) rest (omega arith) in
    ap (λ more. headed kind table (text ++ more)) none ∙ ap (headed kind table) (append-nil text)

-- ---- what is read

take_behind : (kind table n : ℕ) (rest : List ℕ) → take (3 + n) (headed kind table rest) ≡ headed kind table (take n rest)
take_behind kind table n rest =
    let more : 3 + n ≡ suc (suc (suc n)) = omega arith in
    ap (λ k. take k (headed kind table rest)) more

pub put_found : (defs : List TableDef) (table len : ℕ) (rest : List ℕ) (row : List Value) → table < length defs → table < 2 ^ 16 → len ≡ put_bytes defs table
    → IsRowRead (columns_at defs table) rest row → IsReadAs defs (headed 1 table rest) (Put table row) len
unfolding change_text
put_found defs table len rest row inside small is read = record {
  fits = ((inside, small), read.fits);
  text = ap (λ n. take n (headed 1 table rest)) is ∙ take_behind 1 table (slot_len (columns_at defs table)) rest ∙ ap (headed 1 table) read.text;
  inside = omega (arith, is, read.inside);
}

pub del_found : (defs : List TableDef) (table len : ℕ) (rest : List ℕ) (n : ℤ) → table < length defs → table < 2 ^ 16 → len ≡ 11
    → FitsSigned w64 n → take 8 rest ≡ number_text n → 8 ≤ length rest → IsReadAs defs (headed 2 table rest) (Del table n) len
unfolding change_text
del_found defs table len rest n inside small is fits text whole = record {
  fits = ((inside, small), fits);
  text = ap (λ n. take n (headed 2 table rest)) is ∙ take_behind 2 table 8 rest ∙ ap (headed 2 table) text;
  inside = omega (arith, is, whole);
}

-- what a reading comes to
abbrev pub ok_put : ℕ → List Value → ℕ → Result (RowChange × ℕ) ChangeFault
ok_put table row len = Ok (Put table row, len)

abbrev pub ok_del : ℕ → ℤ → ℕ → Result (RowChange × ℕ) ChangeFault
ok_del table n len = Ok (Del table n, len)

abbrev pub err_read : ChangeFault → Result (RowChange × ℕ) ChangeFault
err_read fault = Err fault

-- each change with this head is read, unless memory runs out
abbrev pub ReadsAll : List TableDef → ℕ → ℕ → List ℕ → Result (RowChange × ℕ) ChangeFault → Type 0
ReadsAll defs kind table rest result =
    (change : RowChange) (more : List ℕ) → IsChange defs change → headed kind table rest ≡ change_text defs change ++ more
    → (result ≡ Ok (change, length (change_text defs change))) ⊎ (result ≡ Err NoMemory)

module _ (defs : List TableDef) (kind table : ℕ) (rest : List ℕ) (small : table < 2 ^ 16) where
  pub bad_table : length defs ≤ table → ReadsAll defs kind table rest (Err BadChange)
  bad_table outside (Put t row) more fits e =
      let heads = same_head kind table 1 t rest (slot_text (columns_at defs t) row ++ more) small fits.0.1 (e ∙ text_put defs t row more) in
      absurd (omega (arith, outside, heads.1, fits.0))
  bad_table outside (Del t n) more fits e =
      let heads = same_head kind table 2 t rest (number_text n ++ more) small fits.0.1 (e ∙ text_del defs t n more) in
      absurd (omega (arith, outside, heads.1, fits.0))

  pub bad_kind : kind ≢ 1 → kind ≢ 2 → ReadsAll defs kind table rest (Err BadChange)
  bad_kind no_put no_del (Put t row) more fits e =
      absurd (no_put (same_head kind table 1 t rest (slot_text (columns_at defs t) row ++ more) small fits.0.1 (e ∙ text_put defs t row more)).0)
  bad_kind no_put no_del (Del t n) more fits e =
      absurd (no_del (same_head kind table 2 t rest (number_text n ++ more) small fits.0.1 (e ∙ text_del defs t n more)).0)

-- each row whose slot the bytes begin with is read, unless memory runs out
abbrev pub ReadsRows : List Column → List ℕ → Result (List Value) ChangeFault → Type 0
ReadsRows columns rest result = (row : List Value) (more : List ℕ) → IsRowOf columns row → rest ≡ slot_text columns row ++ more → (result ≡ Ok row) ⊎ (result ≡ Err NoMemory)

module _ (defs : List TableDef) (table : ℕ) (rest : List ℕ) (small : table < 2 ^ 16) where
  -- what a change with the head of a row that is set is
  put_parts : (change : RowChange) (more : List ℕ) → IsChange defs change → headed 1 table rest ≡ change_text defs change ++ more
      → (row : List Value) × IsRowOf (columns_at defs table) row × (rest ≡ slot_text (columns_at defs table) row ++ more) × (change ≡ Put table row)
  put_parts (Put t row) more fits e =
      let heads = same_head 1 table 1 t rest (slot_text (columns_at defs t) row ++ more) small fits.0.1 (e ∙ text_put defs t row more) in
      (row, subst (λ n. IsRowOf (columns_at defs n) row) (sym heads.1) fits.1, heads.2 ∙ ap (λ n. slot_text (columns_at defs n) row ++ more) (sym heads.1), ap (λ n. Put n row) (sym heads.1))
  put_parts (Del t n) more fits e =
      absurd (one_is_two (same_head 1 table 2 t rest (number_text n ++ more) small fits.0.1 (e ∙ text_del defs t n more)).0)

  del_parts : (change : RowChange) (more : List ℕ) → IsChange defs change → headed 2 table rest ≡ change_text defs change ++ more
      → (n : ℤ) × FitsSigned w64 n × (rest ≡ number_text n ++ more) × (change ≡ Del table n)
  del_parts (Put t row) more fits e =
      absurd (one_is_two (sym (same_head 2 table 1 t rest (slot_text (columns_at defs t) row ++ more) small fits.0.1 (e ∙ text_put defs t row more)).0))
  del_parts (Del t n) more fits e =
      let heads = same_head 2 table 2 t rest (number_text n ++ more) small fits.0.1 (e ∙ text_del defs t n more) in
      (n, fits.1, heads.2, ap (λ k. Del k n) (sym heads.1))

  ok_row : (a b : List Value) → ◌≡◌ {A = Result (List Value) ChangeFault} (Ok a) (Ok b) → a ≡ b
  ok_row a b e = cc

  some_number : (a b : ℤ) → ◌≡◌ {A = Option ℤ} (Some a) (Some b) → a ≡ b
  some_number a b e = cc

  ok_pair : (a b : RowChange) (m n : ℕ) → a ≡ b → m ≡ n → ◌≡◌ {A = Result (RowChange × ℕ) ChangeFault} (Ok (a, m)) (Ok (b, n))
  ok_pair a b m n p q = ap₂ (λ (change : RowChange) (len : ℕ). Ok (change, len)) p q

  pub put_only : (row : List Value) (len : ℕ) → len ≡ put_bytes defs table → ReadsRows (columns_at defs table) rest (Ok row) → ReadsAll defs 1 table rest (Ok (Put table row, len))
  put_only row len is reads change more fits e =
      let parts = put_parts change more fits e in
      let whole : length (change_text defs change) ≡ put_bytes defs table = ap (λ c. length (change_text defs c)) parts.3 ∙ length_put defs table parts.0 parts.1 in
      elim (reads parts.0 more parts.1 parts.2) [
        | inl same ↦ inl (ok_pair (Put table row) change len (length (change_text defs change)) (ap (Put table) (ok_row row parts.0 same) ∙ sym parts.3) (is ∙ sym whole))
        | inr memory ↦ absurd (cc memory)
      ]

  pub put_none : (fault : ChangeFault) → ReadsRows (columns_at defs table) rest (Err fault) → ReadsAll defs 1 table rest (Err fault)
  put_none fault reads change more fits e =
      let parts = put_parts change more fits e in
      elim (reads parts.0 more parts.1 parts.2) [
        | inl same ↦ absurd (cc same)
        | inr memory ↦ inr (ap (λ (r : Result (List Value) ChangeFault). again r) memory)
      ]
    where
      again : Result (List Value) ChangeFault → Result (RowChange × ℕ) ChangeFault
      again (Ok row) = Err BadChange
      again (Err fault) = Err fault

  pub del_only : (found : ℤ) (len : ℕ) → len ≡ 11 → ((n : ℤ) (more : List ℕ) → FitsSigned w64 n → rest ≡ number_text n ++ more → ◌≡◌ {A = Option ℤ} (Some found) (Some n))
      → ReadsAll defs 2 table rest (Ok (Del table found, len))
  del_only found len is reads change more fits e =
      let parts = del_parts change more fits e in
      let whole : length (change_text defs change) ≡ 11 = ap (λ c. length (change_text defs c)) parts.3 ∙ length_del defs table parts.0 in
      inl (ok_pair (Del table found) change len (length (change_text defs change)) (ap (Del table) (some_number found parts.0 (reads parts.0 more parts.1 parts.2)) ∙ sym parts.3) (is ∙ sym whole))

  pub del_none : ((n : ℤ) (more : List ℕ) → FitsSigned w64 n → rest ≡ number_text n ++ more → ◌≡◌ {A = Option ℤ} None (Some n)) → ReadsAll defs 2 table rest (Err BadChange)
  del_none reads change more fits e =
      let parts = del_parts change more fits e in
      absurd (cc (reads parts.0 more parts.1 parts.2))

-- ---- a row that is read

pub slot_front : (columns : List Column) (bytes : List ℕ) (row : List Value) (rest : List ℕ) (len : ℕ) → len ≡ slot_len columns → IsRowOf columns row
    → bytes ≡ slot_text columns row ++ rest → take len bytes ≡ slot_text columns row
slot_front columns bytes row rest len is fits e = ap (take len) e ∙ take_at (slot_text columns row) rest len (length_slot columns row fits ∙ sym is)

pub read_row : (found : Option (List Value)) (held row : List Value) → found ≡ Some held
    → (◌≡◌ {A = Result (Option (List Value)) SlotFault} (Ok found) (Ok (Some row))) ⊎ (◌≡◌ {A = Result (Option (List Value)) SlotFault} (Ok found) (Err slot.OutOfMemory))
    → (◌≡◌ {A = Result (List Value) ChangeFault} (Ok held) (Ok row)) ⊎ (◌≡◌ {A = Result (List Value) ChangeFault} (Ok held) (Err NoMemory))
read_row found held row is told = elim told [
  | inl same ↦ inl (ap (λ (r : List Value). Ok r) (some_row held row (sym is ∙ ok_found found (Some row) same)))
  | inr memory ↦ absurd (cc memory)
]
  where
    ok_found : (a b : Option (List Value)) → ◌≡◌ {A = Result (Option (List Value)) SlotFault} (Ok a) (Ok b) → a ≡ b
    ok_found a b e = cc

    some_row : (a b : List Value) → ◌≡◌ {A = Option (List Value)} (Some a) (Some b) → a ≡ b
    some_row a b e = cc

pub read_bad : (fault : SlotFault) (at : ℕ) (row : List Value) → fault ≡ slot.BadSlot at
    → (◌≡◌ {A = Result (Option (List Value)) SlotFault} (Err fault) (Ok (Some row))) ⊎ (◌≡◌ {A = Result (Option (List Value)) SlotFault} (Err fault) (Err slot.OutOfMemory))
    → (◌≡◌ {A = Result (List Value) ChangeFault} (Err BadChange) (Ok row)) ⊎ (◌≡◌ {A = Result (List Value) ChangeFault} (Err BadChange) (Err NoMemory))
read_bad fault at row is told = elim told [
  | inl same ↦ absurd (cc same)
  | inr memory ↦ absurd (other at (sym is ∙ same_fault fault slot.OutOfMemory memory))
]
  where
    same_fault : (a b : SlotFault) → ◌≡◌ {A = Result (Option (List Value)) SlotFault} (Err a) (Err b) → a ≡ b
    same_fault a b e = cc

    other : (at : ℕ) → slot.BadSlot at ≡ slot.OutOfMemory → ⊥
    other at e = cc e
