-- The rows of a list of entries, where each key has the row that a table has.
use Rattle.std.proofs.Common.{◌≡◌, inl, inr, ℕ, ◌<◌, Bool, true, false, not, cond, ◌&&◌, eqb, List, [], ◌∷◌, map, Option, None, Some, refl, sym, ◌∙◌, ap, subst, arith}
use Rattle.std.specs.Prelude.{◌==◌, nat_le, nat_lt, IfSome}
use Rattle.std.specs.List.{AllByRecursion, filter}
use Rattle.std.specs.List.Sorted.{IsStrictlySortedBy}
use Rattle.std.specs.Map.{keys_of}
use Rattle.std.specs.Ordering.{nat_cmp, is_eq, is_le, is_lt}
use Rattle.std.specs.declared.cmp.Ordering.TheVariants.{Less, Equal, Greater}
use Rattle.std.specs.Option.{option_flatten}
use Rattle.std.proofs.lemmas.Bool.{cases_lt, eqb-true, ltb-true}
use Rattle.std.proofs.lemmas.Map.Keys.{sorted_head, sorted_tail}
use Rattle.row_types.specs.declared.definition.TableDef.{TableDef}
use Rattle.row_types.specs.declared.row.Value.{Value}
use Rattle.row_types.specs.Keys.{row_key}
use Rattle.row_types.specs.Schema.{columns_at, keys_at}
use Rattle.row_types.specs.Slot.{IsRowOf}
use Rattle.row_types.specs.Tables.{AreRising}
use Rattle.key_space.specs.Plays.{Rows, row_at, rows_between}
use Rattle.plain_model.specs.CallRows.{IsRowAt}
use Rattle.row_lists.specs.Held.{Entries, at_key, row_of, rows_of, entries_between}
use Rattle.row_lists.proofs.Keys.{inside_is, less_is}

-- ---- tests on keys

at_is : (q k : ℕ) → is_eq (nat_cmp q k) ≡ eqb q k
at_is q k = one (nat_lt q k) refl
  where
    two : (b : Bool) → (q == k) ≡ b → is_eq (cond b Equal Greater) ≡ b
    two true e = refl
    two false e = refl

    one : (b : Bool) → nat_lt q k ≡ b → is_eq (cond b Less (cond (q == k) Equal Greater)) ≡ eqb q k
    one true e = let less = ltb-true q k e in grind arith
    one false e = two (q == k) refl

-- ---- one key

abbrev Above : ℕ → List ℕ → Type 0
Above q keys = AllByRecursion (λ y. q < y) keys

above_of : (x : ℕ) (keys : List ℕ) → AllByRecursion (λ y. nat_cmp x y ≡ Less) keys → Above x keys
above_of x [] all = tt
above_of x (y ∷ keys) all = (less_is x y all.0, above_of x keys all.1)

above_lower : (p q : ℕ) (keys : List ℕ) → p < q → Above q keys → Above p keys
above_lower p q [] less all = tt
above_lower p q (y ∷ keys) less all = (omega (arith, all.0), above_lower p q keys less all.1)

other_key : (a b : ℕ) → (a ≡ b → ⊥) → eqb a b ≡ false
other_key a b other = one (eqb a b) refl
  where
    one : (c : Bool) → eqb a b ≡ c → c ≡ false
    one true e = absurd (other (eqb-true a b e))
    one false e = refl

own_key : (n : ℕ) → eqb n n ≡ true
own_key n = grind arith

-- what stands at the first key, and what stands at another
head_at : (k : ℕ) (v : Option (List Value)) (es : Entries) (q : ℕ) → q ≡ k → row_of ((k, v) ∷ es) q ≡ v
head_at k v es q e = ap (λ b. option_flatten (cond b (Some v) (at_key es q))) (at_is q k ∙ ap (λ n. eqb n k) e ∙ own_key k) ∙ plain v
  where
    plain : (o : Option (List Value)) → option_flatten (Some o) ≡ o
    plain None = refl
    plain (Some row) = refl

tail_at : (k : ℕ) (v : Option (List Value)) (es : Entries) (q : ℕ) → (q ≡ k → ⊥) → row_of ((k, v) ∷ es) q ≡ row_of es q
tail_at k v es q other = ap (λ b. option_flatten (cond b (Some v) (at_key es q))) (at_is q k ∙ other_key q k other)

none_above : (es : Entries) (q : ℕ) → Above q (keys_of es) → row_of es q ≡ None
none_above [] q all = refl
none_above ((k, v) ∷ es) q all = tail_at k v es q (λ e. omega (arith, all.0, e)) ∙ none_above es q all.1

module _ (marks : List ℕ) where
  abbrev keys : Rows → List ℕ
  keys rows = map (row_key marks) rows

  row_head : (row : List Value) (rows : Rows) (q : ℕ) → row_key marks row ≡ q → row_at marks (row ∷ rows) q ≡ Some row
  row_head row rows q e = ap (λ b. cond b (Some row) (row_at marks rows q)) (ap (λ n. eqb n q) e ∙ own_key q)

  row_tail : (row : List Value) (rows : Rows) (q : ℕ) → (row_key marks row ≡ q → ⊥) → row_at marks (row ∷ rows) q ≡ row_at marks rows q
  row_tail row rows q other = ap (λ b. cond b (Some row) (row_at marks rows q)) (other_key (row_key marks row) q other)

  no_row_above : (rows : Rows) (q : ℕ) → Above q (keys rows) → row_at marks rows q ≡ None
  no_row_above [] q all = refl
  no_row_above (row ∷ rows) q all = row_tail row rows q (λ e. omega (arith, all.0, e)) ∙ no_row_above rows q all.1

  some_none : (row : List Value) → Some row ≡ None → ⊥
  some_none row e = cc

  -- ---- all keys

  -- the rows at the keys are those of a table
  abbrev Agree : Entries → Rows → Type 0
  Agree es rows = (q : ℕ) → row_of es q ≡ row_at marks rows q

  -- a key without a row tells nothing
  without_first : (k : ℕ) (es : Entries) (rows : Rows) → Above k (keys_of es) → Agree ((k, None) ∷ es) rows → Agree es rows
  without_first k es rows above agree q =
      elim (cases_lt q k) [
        | inl less ↦ sym (tail_at k None es q (λ e. omega (arith, e))) ∙ agree q
        | inr le ↦
            elim (cases_lt k q) [
              | inl less ↦ sym (tail_at k None es q (λ e. omega (arith, e))) ∙ agree q
              | inr ge ↦
                  let same : q ≡ k = omega arith in
                  subst (λ n. row_of es n ≡ row_at marks rows n) (sym same) (none_above es k above ∙ sym (head_at k None es k refl) ∙ agree k)
            ]
      ]

  -- the first keys are the same, and so are the rows there
  first_key : (k : ℕ) (row : List Value) (es : Entries) (first : List Value) (rows : Rows) → Above k (keys_of es) → Above (row_key marks first) (keys rows) → Agree ((k, Some row) ∷ es) (first ∷ rows) → row_key marks first ≡ k
  first_key k row es first rows above rising agree =
      elim (cases_lt k (row_key marks first)) [
        | inl less ↦
            absurd
            (some_none row
            (sym (head_at k (Some row) es k refl) ∙ agree k ∙ row_tail first rows k (λ e. omega (arith, e)) ∙ no_row_above rows k (above_lower k (row_key marks first) (keys rows) less rising)))
        | inr le ↦
            elim (cases_lt (row_key marks first) k) [
              | inl less ↦
                  let q = row_key marks first in
                  absurd (some_none first (sym (row_head first rows q refl) ∙ sym (agree q) ∙ tail_at k (Some row) es q (λ e. omega (arith, e)) ∙ none_above es q (above_lower q k (keys_of es) less above)))
              | inr ge ↦ omega arith
            ]
      ]

  first_row : (k : ℕ) (row : List Value) (es : Entries) (first : List Value) (rows : Rows) → row_key marks first ≡ k → Agree ((k, Some row) ∷ es) (first ∷ rows) → row ≡ first
  first_row k row es first rows e agree = let same : Some row ≡ Some first = sym (head_at k (Some row) es k refl) ∙ agree k ∙ row_head first rows k e in cc

  rest_agrees : (k : ℕ) (row : List Value) (es : Entries) (first : List Value) (rows : Rows) → Above k (keys_of es) → Above (row_key marks first) (keys rows) → row_key marks first ≡ k → Agree ((k, Some row) ∷ es) (first ∷ rows) → Agree es rows
  rest_agrees k row es first rows above rising same agree q =
      elim (cases_lt q k) [
        | inl less ↦ other (λ e. omega (arith, e))
        | inr le ↦
            elim (cases_lt k q) [
              | inl less ↦ other (λ e. omega (arith, e))
              | inr ge ↦
                  let here : k ≡ q = omega arith in
                  subst (λ n. row_of es n ≡ row_at marks rows n) here (none_above es k above ∙ sym (no_row_above rows k (subst (λ n. Above n (keys rows)) same rising)))
            ]
      ]
    where
      other : (q ≡ k → ⊥) → row_of es q ≡ row_at marks rows q
      other apart = sym (tail_at k (Some row) es q apart) ∙ agree q ∙ row_tail first rows q (λ e. apart (sym e ∙ same))

  no_more : (row : List Value) (rows : Rows) → Agree [] (row ∷ rows) → ⊥
  no_more row rows agree = some_none row (sym (row_head row rows (row_key marks row) refl) ∙ sym (agree (row_key marks row)))

  lacks : (k : ℕ) (row : List Value) (es : Entries) → Agree ((k, Some row) ∷ es) [] → ⊥
  lacks k row es agree = some_none row (sym (head_at k (Some row) es k refl) ∙ agree k)

  module _ (lo hi : ℕ) where
    abbrev in_range : ℕ → Bool
    in_range q = is_le (nat_cmp lo q) && not (is_lt (nat_cmp hi q))

    abbrev is_kept : List Value → Bool
    is_kept row = nat_le lo (row_key marks row) && nat_le (row_key marks row) hi

    drops : (k : ℕ) (es : Entries) (b : Bool) → rows_of (cond b ((k, None) ∷ filter (λ e. in_range e.0) es) (filter (λ e. in_range e.0) es)) ≡ rows_of (filter (λ e. in_range e.0) es)
    drops k es true = refl
    drops k es false = refl

    keeps : (k : ℕ) (row : List Value) (es : Entries) (first : List Value) (rows : Rows) (b : Bool) → row ≡ first → rows_of (filter (λ e. in_range e.0) es) ≡ filter is_kept rows
        → rows_of (cond b ((k, Some row) ∷ filter (λ e. in_range e.0) es) (filter (λ e. in_range e.0) es)) ≡ cond b (first ∷ filter is_kept rows) (filter is_kept rows)
    keeps k row es first rows true e rest = ap (λ (r : List Value). r ∷ rows_of (filter (λ e. in_range e.0) es)) e ∙ ap (λ (rs : Rows). first ∷ rs) rest
    keeps k row es first rows false e rest = rest

    pub between : (es : Entries) (rows : Rows) → IsStrictlySortedBy nat_cmp (keys_of es) → AreRising (keys rows) → Agree es rows → rows_of (filter (λ e. in_range e.0) es) ≡ filter is_kept rows
    between [] [] sorted rising agree = refl
    between [] (row ∷ rows) sorted rising agree = absurd (no_more row rows agree)
    between ((k, None) ∷ es) rows sorted rising agree = drops k es (in_range k) ∙ between es rows (sorted_tail nat_cmp k (keys_of es) sorted) rising (without_first k es rows (above_of k (keys_of es) (sorted_head nat_cmp k (keys_of es) sorted)) agree)
    between ((k, Some row) ∷ es) [] sorted rising agree = absurd (lacks k row es agree)
    between ((k, Some row) ∷ es) (first ∷ rows) sorted rising agree =
        let above = above_of k (keys_of es) (sorted_head nat_cmp k (keys_of es) sorted) in
        let same = first_key k row es first rows above rising.0 agree in
        let rest = between es rows (sorted_tail nat_cmp k (keys_of es) sorted) rising.1 (rest_agrees k row es first rows above rising.0 same agree) in
        let test : in_range k ≡ is_kept first = inside_is lo hi k ∙ ap (λ n. nat_le lo n && nat_le n hi) (sym same) in
        keeps k row es first rows (in_range k) (first_row k row es first rows same agree) rest ∙ ap (λ b. cond b (first ∷ filter is_kept rows) (filter is_kept rows)) test

-- the rows of a range of keys are those of the table
pub rows_are_between : (marks : List ℕ) (es : Entries) (rows : Rows) (lo hi : ℕ) → IsStrictlySortedBy nat_cmp (keys_of es) → AreRising (map (row_key marks) rows) → ((q : ℕ) → row_of es q ≡ row_at marks rows q)
    → rows_of (entries_between es lo hi) ≡ rows_between marks rows lo hi
rows_are_between marks es rows lo hi sorted rising agree = between marks lo hi es rows sorted rising agree

-- ---- what is known of rows that are found

pub kept_rows : (defs : List TableDef) (table : ℕ) (rows : Rows) (lo hi : ℕ) → AllByRecursion (IsRowOf (columns_at defs table)) rows → AllByRecursion (IsRowAt defs table lo hi) (rows_between (keys_at defs table) rows lo hi)
kept_rows defs table [] lo hi fits = tt
kept_rows defs table (row ∷ rows) lo hi fits = one (nat_le lo k) (nat_le k hi) refl refl (kept_rows defs table rows lo hi fits.1)
  where
    k : ℕ
    k = row_key (keys_at defs table) row

    one : (a b : Bool) → nat_le lo k ≡ a → nat_le k hi ≡ b → AllByRecursion (IsRowAt defs table lo hi) (rows_between (keys_at defs table) rows lo hi)
        → AllByRecursion (IsRowAt defs table lo hi) (cond (a && b) (row ∷ rows_between (keys_at defs table) rows lo hi) (rows_between (keys_at defs table) rows lo hi))
    one true true e f rest = (record { fits = fits.0; low = grind arith; high = grind arith }, rest)
    one true false e f rest = rest
    one false true e f rest = rest
    one false false e f rest = rest

pub found_row : (defs : List TableDef) (table : ℕ) (rows : Rows) (key : ℕ) → AllByRecursion (IsRowOf (columns_at defs table)) rows → IfSome (row_at (keys_at defs table) rows key) (IsRowAt defs table key key)
found_row defs table [] key fits = tt
found_row defs table (row ∷ rows) key fits = one (eqb (row_key (keys_at defs table) row) key) refl (found_row defs table rows key fits.1)
  where
    one : (b : Bool) → eqb (row_key (keys_at defs table) row) key ≡ b → IfSome (row_at (keys_at defs table) rows key) (IsRowAt defs table key key) → IfSome (cond b (Some row) (row_at (keys_at defs table) rows key)) (IsRowAt defs table key key)
    one true e rest = let same = eqb-true (row_key (keys_at defs table) row) key e in record { fits = fits.0; low = omega arith; high = omega arith }
    one false e rest = rest
