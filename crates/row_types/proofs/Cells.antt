-- The faults of one column, and of columns one after another.
use Rattle.std.proofs.Common.{◌≡◌, ℕ, suc, ◌+◌, ◌-◌, ◌<◌, ◌≤◌, Bool, true, false, cond, ltb, add-one, drop-cons, List, [], ◌∷◌, length, get_or, take, drop, Option, None, Some, refl, sym, ◌∙◌, ap, arith}
use Rattle.std.specs.Prelude.{IsUtf8, IsSome, is_some, Result, Ok, Err, IsOk, MatchResult}
use Rattle.std.specs.Str.{is_utf8}
use Rattle.std.specs.Option.{option_or}
use Rattle.std.specs.Int.{w16, from_le_bytes}
use Rattle.std.proofs.lemmas.Bool.{le-ltb}
use Rattle.std.proofs.lemmas.List.{drop-drop}
use Rattle.std.proofs.lemmas.List.Sums.{sum_by_more, sum_by_more_le}
use Rattle.std.proofs.lemmas.Str.{is_utf8-from_IsUtf8, IsUtf8-from_is_utf8}
use Rattle.row_types.specs.declared.definition.Kind.TheVariants as kind
use Rattle.row_types.specs.declared.definition.Column.{Column}
use Rattle.row_types.specs.declared.row.Value.{Value}
use Rattle.row_types.specs.Slot.{width, widths, IsRowOf, first_not_zero, cell_fault, cells_fault}

pub not_utf8 : (bytes : List ℕ) → (IsUtf8 bytes → ⊥) → is_utf8 bytes ≡ false
not_utf8 bytes bad = elim (is_utf8 bytes) as (λ b. is_utf8 bytes ≡ b → b ≡ false) [ true ↦ λ yes. absurd (bad (IsUtf8-from_is_utf8 bytes yes)) | false ↦ λ _. refl ] refl

-- a text that is whole and UTF-8 leaves only its padding to look at
pub cell_fault_behind : (at limit len : ℕ) (bytes : List ℕ) → len ≡ from_le_bytes w16 (take 2 bytes) → len ≤ limit → IsUtf8 (take len (drop 2 bytes))
    → cell_fault at (kind.Text limit) bytes ≡ first_not_zero (at + 2 + len) (drop len (drop 2 bytes))
cell_fault_behind at limit len bytes is fits utf8 =
    let short : ltb limit len ≡ false = le-ltb limit len fits in
    let whole = is_utf8-from_IsUtf8 (take len (drop 2 bytes)) utf8 in
    rw (← is, short, whole) refl

pub cell_fault_text : (at limit len : ℕ) (bytes : List ℕ) → len ≡ from_le_bytes w16 (take 2 bytes) → len ≤ limit → (IsUtf8 (take len (drop 2 bytes)) → ⊥)
    → cell_fault at (kind.Text limit) bytes ≡ Some (at + 2)
cell_fault_text at limit len bytes is fits bad =
    let short : ltb limit len ≡ false = le-ltb limit len fits in
    let fault = not_utf8 (take len (drop 2 bytes)) bad in
    rw (← is, short, fault) refl

-- a column without a fault has UTF-8 as its text
pub text_of_no_fault : (at limit : ℕ) (bytes : List ℕ) → cell_fault at (kind.Text limit) bytes ≡ None → IsUtf8 (take (from_le_bytes w16 (take 2 bytes)) (drop 2 bytes))
text_of_no_fault at limit bytes none =
    let len = from_le_bytes w16 (take 2 bytes) in
    let text = take len (drop 2 bytes) in
    let behind = first_not_zero (at + 2 + len) (drop len (drop 2 bytes)) in
    let split = λ (long whole : Bool). cond long (Some at) (cond whole behind (Some (at + 2))) in
    let whole : is_utf8 text ≡ true =
    elim (ltb limit len) as (λ long. split long (is_utf8 text) ≡ None → is_utf8 text ≡ true) [
      | true ↦ λ e. absurd cc
      | false ↦ elim (is_utf8 text) as (λ w. split false w ≡ None → w ≡ true) [ true ↦ λ _. refl | false ↦ λ e. absurd cc ]
    ] none in
    IsUtf8-from_is_utf8 text whole

pub len_of_no_fault : (at limit : ℕ) (bytes : List ℕ) → cell_fault at (kind.Text limit) bytes ≡ None → from_le_bytes w16 (take 2 bytes) ≤ limit
len_of_no_fault at limit bytes none = grind arith

-- the columns from one on begin with it
pub columns_from : (columns : List Column) (i : ℕ) (c : Column) → i < length columns → c ≡ get_or columns i c → drop i columns ≡ c ∷ drop (i + 1) columns
columns_from columns i c inside is = rw (add-one, drop-cons columns i c, ← is) refl

pub widths_more_le : (columns : List Column) (i : ℕ) (c : Column) → i < length columns → c ≡ get_or columns i c → widths (take i columns) + width c.kind ≤ widths columns
widths_more_le columns i c inside is = rw (ap (λ (x : Column). width x.kind) is) (sum_by_more_le (λ (x : Column). width x.kind) columns i c inside)

pub widths_more : (columns : List Column) (i : ℕ) (c : Column) → i < length columns → c ≡ get_or columns i c → widths (take (i + 1) columns) ≡ widths (take i columns) + width c.kind
widths_more columns i c inside is = rw (ap (λ (x : Column). width x.kind) is) (sum_by_more (λ (x : Column). width x.kind) columns i c inside)

pub cells_fault_more : (at : ℕ) (columns : List Column) (i : ℕ) (c : Column) (bytes : List ℕ) → i < length columns → c ≡ get_or columns i c
    → cells_fault at (drop i columns) bytes ≡ option_or (cell_fault at c.kind (take (width c.kind) bytes)) (cells_fault (at + width c.kind) (drop (i + 1) columns) (drop (width c.kind) bytes))
cells_fault_more at columns i c bytes inside is = rw (columns_from columns i c inside is) refl

pub option_or_some : (o p : Option ℕ) → IsSome o → option_or o p ≡ o
option_or_some None p some = absurd cc
option_or_some (Some x) p some = refl

pub option_or_none : (o p : Option ℕ) → is_some o ≡ false → option_or o p ≡ p
option_or_none None p none = refl
option_or_none (Some x) p none = absurd cc

pub length_of_row : (columns : List Column) (values : List Value) → IsRowOf columns values → length columns ≡ length values
length_of_row [] [] fits = refl
length_of_row (c ∷ columns) (v ∷ values) fits = ap suc (length_of_row columns values fits.1)
length_of_row [] (v ∷ values) fits = absurd fits
length_of_row (c ∷ columns) [] fits = absurd fits

pub result_is_ok : {A E : Type 0} (r : Result A E) (P : A → Type 0) (Q : E → Type 0) → MatchResult r P Q → ((e : E) → Q e → ⊥) → IsOk r
result_is_ok (Ok x) P Q m bad = refl
result_is_ok (Err e) P Q m bad = absurd (bad e m)

-- one column of the loop over them: its fault is the answer, and without one the rest tells it
module _ (at w i : ℕ) (columns : List Column) (c : Column) (bytes : List ℕ) (fault : Option ℕ) (inside : i < length columns) (is : c ≡ get_or columns i c) (w-is : w ≡ width c.kind)
    (fault-is : fault ≡ cell_fault (at + 1) c.kind (take (at + w - at) (drop at bytes))) (so_far : cells_fault (at + 1) (drop i columns) (drop at bytes) ≡ cells_fault 1 columns bytes) where
  here : cells_fault 1 columns bytes ≡ option_or fault (cells_fault (at + 1 + w) (drop (i + 1) columns) (drop w (drop at bytes)))
  here =
      let n : at + w - at ≡ w = omega arith in
      sym so_far ∙ cells_fault_more (at + 1) columns i c (drop at bytes) inside is ∙ rw (← w-is, fault-is, n, w-is) refl

  pub stops : IsSome fault → fault ≡ cells_fault 1 columns bytes
  stops some = sym (here ∙ option_or_some fault _ some)

  pub goes_on : is_some fault ≡ false → cells_fault (at + w + 1) (drop (i + 1) columns) (drop (at + w) bytes) ≡ cells_fault 1 columns bytes
  goes_on none =
      let place : at + 1 + w ≡ at + w + 1 = omega arith in
      sym (here ∙ option_or_none fault _ none ∙ rw (place, drop-drop w at bytes) refl)
