-- Calls for one row after another do with all rows of a list, in their places, what is meant.
use Rattle.std.proofs.Common.{◌≡◌, ℕ, ◌<◌, ◌≤◌, Bool, true, false, cond, not, eqb, List, [], ◌∷◌, ◌++◌, map, refl, sym, ◌∙◌, ap, subst, arith, append_assoc}
use Rattle.std.specs.Prelude.{nat_lt}
use Rattle.std.specs.List.{filter, flat_map, AllByRecursion}
use Rattle.std.proofs.lemmas.Bool.{lt-ltb, le-ltb}
use Rattle.row_types.specs.declared.row.Value.{Value}
use Rattle.row_types.specs.Keys.{row_key}
use Rattle.row_types.specs.Tables.{AreRising}
use Rattle.key_space.specs.Plays.{Rows, with_row, without_key}
use Rattle.sql_exec.specs.declared.act.Act.{Act}
use Rattle.sql_exec.specs.declared.act.Act.TheVariants.{Keep, Set, Take, Refuse}
use Rattle.sql_exec.specs.Acts.{effect, effects, left_of, is_in, rows_in, acted_in}

module _ (marks : List ℕ) where
  abbrev pub Rise : Rows → Type 0
  Rise rows = AreRising (map (row_key marks) rows)

  abbrev pub Above : ℕ → Rows → Type 0
  Above k rows = AllByRecursion (λ other. k < other) (map (row_key marks) rows)

  pub above_middle : (k : ℕ) (front : Rows) (row : List Value) (back : Rows) → Above k (front ++ row ∷ back) → k < row_key marks row
  above_middle k [] row back all = all.0
  above_middle k (r ∷ front) row back all = above_middle k front row back all.1

  above_swap : (k : ℕ) (front : Rows) (row new : List Value) (back : Rows) → row_key marks new ≡ row_key marks row → Above k (front ++ row ∷ back) → Above k (front ++ new ∷ back)
  above_swap k [] row new back same all = (subst (λ n. k < n) (sym same) all.0, all.1)
  above_swap k (r ∷ front) row new back same all = (all.0, above_swap k front row new back same all.1)

  above_more : (k l : ℕ) (rows : Rows) → k ≤ l → Above l rows → Above k rows
  above_more k l [] le all = tt
  above_more k l (r ∷ rows) le all = (omega (arith, all.0), above_more k l rows le all.1)

  pub rise_swap : (front : Rows) (row new : List Value) (back : Rows) → row_key marks new ≡ row_key marks row → Rise (front ++ row ∷ back) → Rise (front ++ new ∷ back)
  rise_swap [] row new back same rise = (above_more (row_key marks new) (row_key marks row) back (omega (arith, same)) rise.0, rise.1)
  rise_swap (r ∷ front) row new back same rise = (above_swap (row_key marks r) front row new back same rise.0, rise_swap front row new back same rise.1)

  none_low : (k : ℕ) (rows : Rows) → Above k rows → filter (λ other. nat_lt (row_key marks other) k) rows ≡ []
  none_low k [] all = refl
  none_low k (r ∷ rows) all = rw (le-ltb (row_key marks r) k (omega (arith, all.0))) (none_low k rows all.1)

  all_high : (k : ℕ) (rows : Rows) → Above k rows → filter (λ other. nat_lt k (row_key marks other)) rows ≡ rows
  all_high k [] all = refl
  all_high k (r ∷ rows) all = rw (lt-ltb k (row_key marks r) all.0) (ap (λ rest. r ∷ rest) (all_high k rows all.1))

  low_at : (front : Rows) (row new : List Value) (back : Rows) → row_key marks new ≡ row_key marks row → Rise (front ++ row ∷ back) → filter (λ other. nat_lt (row_key marks other) (row_key marks new)) (front ++ row ∷ back) ≡ front
  low_at [] row new back same rise = rw (le-ltb (row_key marks row) (row_key marks new) (omega (arith, same))) (none_low (row_key marks new) back (above_more (row_key marks new) (row_key marks row) back (omega (arith, same)) rise.0))
  low_at (r ∷ front) row new back same rise =
      rw (lt-ltb (row_key marks r) (row_key marks new) (omega (arith, same, above_middle (row_key marks r) front row back rise.0))) (ap (λ rest. r ∷ rest) (low_at front row new back same rise.1))

  high_at : (front : Rows) (row new : List Value) (back : Rows) → row_key marks new ≡ row_key marks row → Rise (front ++ row ∷ back) → filter (λ other. nat_lt (row_key marks new) (row_key marks other)) (front ++ row ∷ back) ≡ back
  high_at [] row new back same rise = rw (le-ltb (row_key marks new) (row_key marks row) (omega (arith, same))) (all_high (row_key marks new) back (above_more (row_key marks new) (row_key marks row) back (omega (arith, same)) rise.0))
  high_at (r ∷ front) row new back same rise =
      rw (le-ltb (row_key marks new) (row_key marks r) (omega (arith, same, above_middle (row_key marks r) front row back rise.0))) (high_at front row new back same rise.1)

  pub with_row_at : (front : Rows) (row new : List Value) (back : Rows) → row_key marks new ≡ row_key marks row → Rise (front ++ row ∷ back) → with_row marks (front ++ row ∷ back) new ≡ front ++ new ∷ back
  with_row_at front row new back same rise = rw (low_at front row new back same rise, high_at front row new back same rise) refl

  -- ---- a row taken from its place

  keep_above : (k : ℕ) (rows : Rows) → Above k rows → filter (λ row. not (eqb (row_key marks row) k)) rows ≡ rows
  keep_above k [] all = refl
  keep_above k (row ∷ rows) all =
      let other : eqb (row_key marks row) k ≡ false = grind (arith, all.0) in
      rw other (ap (λ rest. row ∷ rest) (keep_above k rows all.1))

  pub without_at : (front : Rows) (row : List Value) (back : Rows) → Rise (front ++ row ∷ back) → without_key marks (front ++ row ∷ back) (row_key marks row) ≡ front ++ back
  without_at [] row back rise =
      let same : eqb (row_key marks row) (row_key marks row) ≡ true = grind arith in
      rw same (keep_above (row_key marks row) back rise.0)
  without_at (r ∷ front) row back rise =
      let other : eqb (row_key marks r) (row_key marks row) ≡ false = grind (arith, above_middle (row_key marks r) front row back rise.0) in
      rw other (ap (λ rest. r ∷ rest) (without_at front row back rise.1))

  above_drop : (k : ℕ) (front : Rows) (row : List Value) (back : Rows) → Above k (front ++ row ∷ back) → Above k (front ++ back)
  above_drop k [] row back all = all.1
  above_drop k (r ∷ front) row back all = (all.0, above_drop k front row back all.1)

  pub rise_drop : (front : Rows) (row : List Value) (back : Rows) → Rise (front ++ row ∷ back) → Rise (front ++ back)
  rise_drop [] row back rise = rise.1
  rise_drop (r ∷ front) row back rise = (above_drop (row_key marks r) front row back rise.0, rise_drop front row back rise.1)

  -- ---- the rows of a list that pass a test, one after the other

  module _ (test : List Value → Bool) (act : List Value → Act) (Fits : List Value → Type 0) (keeps : (row new : List Value) → Fits row → act row ≡ Set new → row_key marks new ≡ row_key marks row) where
    abbrev pub left : List Value → Rows
    left row = cond (test row) (left_of (act row) row) (row ∷ [])

    move : (front : Rows) (row : List Value) (back : Rows) → effects marks act (filter test back) (front ++ row ∷ back) ≡ effects marks act (filter test back) ((front ++ row ∷ []) ++ back)
    move front row back = ap (effects marks act (filter test back)) (sym (append_assoc front (row ∷ []) back))

    stay : (front : Rows) (row : List Value) (back : Rows) → Rise (front ++ row ∷ back) → ((f : Rows) → Rise (f ++ back) → effects marks act (filter test back) (f ++ back) ≡ f ++ flat_map left back)
        → effects marks act (filter test back) (front ++ row ∷ back) ≡ front ++ row ∷ flat_map left back
    stay front row back rise more = move front row back ∙ more (front ++ row ∷ []) (subst Rise (sym (append_assoc front (row ∷ []) back)) rise) ∙ append_assoc front (row ∷ []) (flat_map left back)

    one : (a : Act) (front : Rows) (row : List Value) (back : Rows) → Fits row → act row ≡ a → Rise (front ++ row ∷ back) → ((f : Rows) → Rise (f ++ back) → effects marks act (filter test back) (f ++ back) ≡ f ++ flat_map left back)
        → effects marks act (filter test back) (effect marks a row (front ++ row ∷ back)) ≡ front ++ (left_of a row ++ flat_map left back)
    one Keep front row back fits is rise more = stay front row back rise more
    one Refuse front row back fits is rise more = stay front row back rise more
    one (Set new) front row back fits is rise more =
        let same = keeps row new fits is in
        ap (effects marks act (filter test back)) (with_row_at front row new back same rise) ∙ stay front new back (rise_swap front row new back same rise) more
    one Take front row back fits is rise more = ap (effects marks act (filter test back)) (without_at front row back rise) ∙ more front (rise_drop front row back rise)

    acted : (front back : Rows) → AllByRecursion Fits back → Rise (front ++ back) → effects marks act (filter test back) (front ++ back) ≡ front ++ flat_map left back
    acted front [] all rise = refl
    acted front (row ∷ back) all rise =
        elim (test row) as (λ b. effects marks act (cond b (row ∷ filter test back) (filter test back)) (front ++ row ∷ back) ≡ front ++ (cond b (left_of (act row) row) (row ∷ []) ++ flat_map left back)) [
          | true ↦ one (act row) front row back all.0 refl rise (λ f risen. acted f back all.1 risen)
          | false ↦ stay front row back rise (λ f risen. acted f back all.1 risen)
        ]

    -- from the rows themselves
    pub all_acted : (rows : Rows) → AllByRecursion Fits rows → Rise rows → effects marks act (filter test rows) rows ≡ flat_map left rows
    all_acted rows all rise = acted [] rows all rise

-- what is done with the rows of a part of a range is done with all rows
pub range_acted : (marks : List ℕ) (lo end : ℕ) (act : List Value → Act) (Fits : List Value → Type 0) (rows : Rows)
    → ((row new : List Value) → Fits row → act row ≡ Set new → row_key marks new ≡ row_key marks row)
    → AllByRecursion Fits rows → AreRising (map (row_key marks) rows) → effects marks act (rows_in marks lo end rows) rows ≡ acted_in marks lo end act rows
range_acted marks lo end act Fits rows keeps all rise = all_acted marks (is_in marks lo end) act Fits keeps rows all rise
