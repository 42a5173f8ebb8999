-- What is looked up in rows after a change.
use Rattle.std.proofs.Common.{◌≡◌, ℕ, ◌<◌, ◌≤◌, Bool, true, false, not, cond, eqb, List, [], ◌∷◌, Option, None, Some, refl, sym, ◌∙◌, ap, arith, inl, inr}
use Rattle.std.specs.Prelude.{nat_lt}
use Rattle.std.specs.Option.{option_or}
use Rattle.std.specs.List.{filter, find}
use Rattle.std.proofs.lemmas.Bool.{true≢false, cases_lt, lt-ltb, le-ltb, eqb-true, eqb-false}
use Rattle.std.proofs.lemmas.List.Folds.{find-append}
use Rattle.row_types.specs.declared.row.Value.{Value}
use Rattle.row_types.specs.Keys.{row_key}
use Rattle.key_space.specs.Plays.{Rows, row_at, with_row, without_key}

option_or_none : {A : Type 0} (o : Option A) → option_or o None ≡ o
option_or_none None = refl
option_or_none (Some x) = refl

module _ (p test : List Value → Bool) where
  kept_step : (x : List Value) (xs : Rows) (t : Bool) → test x ≡ t → (p x ≡ true → test x ≡ true) → find p (filter test xs) ≡ find p xs → find p (cond t (x ∷ filter test xs) (filter test xs)) ≡ cond (p x) (Some x) (find p xs)
  kept_step x xs true e keeps rest = ap (λ (o : Option (List Value)). cond (p x) (Some x) o) rest
  kept_step x xs false e keeps rest =
      elim (p x) as (λ b. (b ≡ true → test x ≡ true) → find p (filter test xs) ≡ cond b (Some x) (find p xs)) [
        | true ↦ λ k. absurd (true≢false (sym (k refl) ∙ e))
        | false ↦ λ k. rest
      ] keeps

  -- a filter that keeps what is looked for
  pub find_kept : (xs : Rows) → ((x : List Value) → p x ≡ true → test x ≡ true) → find p (filter test xs) ≡ find p xs
  find_kept [] keeps = refl
  find_kept (x ∷ xs) keeps = kept_step x xs (test x) refl (keeps x) (find_kept xs keeps)

  dropped_step : (x : List Value) (xs : Rows) (t : Bool) → test x ≡ t → (p x ≡ true → test x ≡ false) → find p (filter test xs) ≡ None → find p (cond t (x ∷ filter test xs) (filter test xs)) ≡ None
  dropped_step x xs false e drops rest = rest
  dropped_step x xs true e drops rest =
      elim (p x) as (λ b. (b ≡ true → test x ≡ false) → cond b (Some x) (find p (filter test xs)) ≡ None) [
        | true ↦ λ k. absurd (true≢false (sym e ∙ k refl))
        | false ↦ λ k. rest
      ] drops

  -- a filter that drops what is looked for
  pub find_dropped : (xs : Rows) → ((x : List Value) → p x ≡ true → test x ≡ false) → find p (filter test xs) ≡ None
  find_dropped [] drops = refl
  find_dropped (x ∷ xs) drops = dropped_step x xs (test x) refl (drops x) (find_dropped xs drops)

module _ (marks : List ℕ) (rows : Rows) (row : List Value) (key : ℕ) where
  low : Rows
  low = filter (λ other. nat_lt (row_key marks other) (row_key marks row)) rows

  high : Rows
  high = filter (λ other. nat_lt (row_key marks row) (row_key marks other)) rows

  split : row_at marks (with_row marks rows row) key ≡ option_or (find (λ r. eqb (row_key marks r) key) low) (cond (eqb (row_key marks row) key) (Some row) (find (λ r. eqb (row_key marks r) key) high))
  unfolding low high
  split = find-append (λ r. eqb (row_key marks r) key) (filter (λ other. nat_lt (row_key marks other) (row_key marks row)) rows) (row ∷ filter (λ other. nat_lt (row_key marks row) (row_key marks other)) rows)

  no_low : row_key marks row ≤ key → find (λ r. eqb (row_key marks r) key) low ≡ None
  unfolding low
  no_low le = find_dropped (λ r. eqb (row_key marks r) key) (λ other. nat_lt (row_key marks other) (row_key marks row)) rows (λ x e. le-ltb _ _ (omega (arith, eqb-true _ _ e)))

  no_high : key ≤ row_key marks row → find (λ r. eqb (row_key marks r) key) high ≡ None
  unfolding high
  no_high le = find_dropped (λ r. eqb (row_key marks r) key) (λ other. nat_lt (row_key marks row) (row_key marks other)) rows (λ x e. le-ltb _ _ (omega (arith, eqb-true _ _ e)))

  all_low : key < row_key marks row → find (λ r. eqb (row_key marks r) key) low ≡ row_at marks rows key
  unfolding low
  all_low lt = find_kept (λ r. eqb (row_key marks r) key) (λ other. nat_lt (row_key marks other) (row_key marks row)) rows (λ x e. lt-ltb _ _ (omega (arith, eqb-true _ _ e)))

  all_high : row_key marks row < key → find (λ r. eqb (row_key marks r) key) high ≡ row_at marks rows key
  unfolding high
  all_high lt = find_kept (λ r. eqb (row_key marks r) key) (λ other. nat_lt (row_key marks row) (row_key marks other)) rows (λ x e. lt-ltb _ _ (omega (arith, eqb-true _ _ e)))

  pub row_at-with_row : row_at marks (with_row marks rows row) key ≡ cond (eqb (row_key marks row) key) (Some row) (row_at marks rows key)
  row_at-with_row =
      elim (cases_lt key (row_key marks row)) [
        | inl lt ↦
            let other : eqb (row_key marks row) key ≡ false = grind arith in
            split ∙ rw (all_low lt, no_high (omega arith), other) (option_or_none (row_at marks rows key))
        | inr le ↦
            elim (cases_lt (row_key marks row) key) [
              | inl lt ↦
                  let other : eqb (row_key marks row) key ≡ false = grind arith in
                  split ∙ rw (no_low le, all_high lt, other) refl
              | inr ge ↦
                  let same : eqb (row_key marks row) key ≡ true = grind arith in
                  split ∙ rw (no_low le, same) refl
            ]
      ]

module _ (marks : List ℕ) (rows : Rows) (taken key : ℕ) where
  pub row_at-without_key : row_at marks (without_key marks rows taken) key ≡ cond (eqb taken key) None (row_at marks rows key)
  row_at-without_key = step (eqb taken key) refl where
    step : (b : Bool) → eqb taken key ≡ b → row_at marks (without_key marks rows taken) key ≡ cond b None (row_at marks rows key)
    step true e = find_dropped (λ r. eqb (row_key marks r) key) (λ r. not (eqb (row_key marks r) taken)) rows (λ x f. grind (arith, eqb-true _ _ e, eqb-true _ _ f))
    step false e = find_kept (λ r. eqb (row_key marks r) key) (λ r. not (eqb (row_key marks r) taken)) rows (λ x f. grind (arith, eqb-false _ _ e, eqb-true _ _ f))
