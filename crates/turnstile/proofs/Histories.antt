-- Histories and the entries of one pass.
use Rattle.std.proofs.Common.{◌≡◌, ◌≢◌, ◌⊎◌, inl, inr, ⊎_elim, ℕ, zero, suc, ◌+◌, ◌<◌, ◌≤◌, eqb, eq-eqb, ne_eqb, cond, List, [], ◌∷◌, ◌++◌, sym, refl, ap, ◌∙◌, subst, arith, append_assoc, append-nil}
use Rattle.std.specs.Prelude.{Option, true, false, Bool}
use mathlib.Core.Option.{some, some-injective, some-ne-none}
use mathlib.Core.Logic.{dite}
use native.Mathlib.Decide.{ℕ_discrete}
use lib.ListN.{get_elem?}
use Rattle.atomic_table.proofs.Lists.{at_longer}
use Rattle.turnstile.specs.History.{Begins, of_pass, entries, tagged, Owned, MayAdd, times, mine_of}

module _ {A : Type 0} where
  pub begins_same : (h : List A) → Begins h h
  begins_same h = ([], sym (append-nil h))

  pub begins_more : (h s m : List A) → Begins h s → Begins (h ++ m) s
  begins_more h s m b = (b.0 ++ m, ap (λ x. x ++ m) b.1 ∙ append_assoc s b.0 m)

  pub begins_again : (h s t : List A) → Begins h s → Begins s t → Begins h t
  begins_again h s t b c = (c.0 ++ b.0, b.1 ∙ ap (λ x. x ++ b.0) c.1 ∙ append_assoc t c.0 b.0)

  pub at_append : (l m : List A) (k : ℕ) (a : A) → get_elem? (l ++ m) k ≡ some a → (get_elem? l k ≡ some a) ⊎ ((j : ℕ) × (get_elem? m j ≡ some a))
  at_append [] m k a e = inr (k, e)
  at_append (x ∷ xs) m zero a e = inl e
  at_append (x ∷ xs) m (suc k) a e = at_append xs m k a e

module _ {E : Type 0} where
  step_of : (n : ℕ) (b : Bool) (e : E) (xs ys : List E) → cond b (e ∷ (xs ++ ys)) (xs ++ ys) ≡ cond b (e ∷ xs) xs ++ ys
  step_of n true e xs ys = refl
  step_of n false e xs ys = refl

  pub of_append : (n : ℕ) (xs ys : List (ℕ × E)) → of_pass n (xs ++ ys) ≡ of_pass n xs ++ of_pass n ys
  of_append n [] ys = refl
  of_append n (x ∷ xs) ys = ap (λ t. cond (eqb x.0 n) (x.1 ∷ t) t) (of_append n xs ys) ∙ step_of n (eqb x.0 n) x.1 (of_pass n xs) (of_pass n ys)

  pub of_own : (n : ℕ) (es : List E) → of_pass n (tagged n es) ≡ es
  of_own n [] = refl
  of_own n (e ∷ es) = ap (λ b. cond b (e ∷ of_pass n (tagged n es)) (of_pass n (tagged n es))) (eq-eqb n n refl) ∙ ap (λ t. e ∷ t) (of_own n es)

  pub of_other : (m n : ℕ) (es : List E) → n ≢ m → of_pass m (tagged n es) ≡ []
  of_other m n [] ne = refl
  of_other m n (e ∷ es) ne = ap (λ b. cond b (e ∷ of_pass m (tagged n es)) (of_pass m (tagged n es))) (ne_eqb n m ne) ∙ of_other m n es ne

  -- a pass's entries after another's were added
  pub of_others : (m n : ℕ) (xs : List (ℕ × E)) (es : List E) → n ≢ m → of_pass m (xs ++ tagged n es) ≡ of_pass m xs
  of_others m n xs es ne = of_append m xs (tagged n es) ∙ ap (λ t. of_pass m xs ++ t) (of_other m n es ne) ∙ append-nil (of_pass m xs)

  pub of_mine : (n : ℕ) (xs : List (ℕ × E)) (es : List E) → of_pass n (xs ++ tagged n es) ≡ of_pass n xs ++ es
  of_mine n xs es = of_append n xs (tagged n es) ∙ ap (λ t. of_pass n xs ++ t) (of_own n es)

  entries_own : (n : ℕ) (es : List E) → entries (tagged n es) ≡ es
  entries_own n [] = refl
  entries_own n (e ∷ es) = ap (λ t. e ∷ t) (entries_own n es)

  pub entries_more : (n : ℕ) (xs : List (ℕ × E)) (es : List E) → entries (xs ++ tagged n es) ≡ entries xs ++ es
  entries_more n [] es = entries_own n es
  entries_more n (x ∷ xs) es = ap (λ t. x.1 ∷ t) (entries_more n xs es)

  nil_front : (xs ys : List E) → xs ++ ys ≡ [] → xs ≡ []
  nil_front [] ys e = refl
  nil_front (x ∷ xs) ys e = absurd (cons_not_nil x (xs ++ ys) e) where
    cons_not_nil : (x : E) (xs : List E) → x ∷ xs ≡ [] → ⊥
    cons_not_nil x xs e = let F : List E → Type 0 = elim [ [] ↦ ⊥ | y ∷ ys ↦ Unit {0} ] in subst F e tt

  -- what has none of a pass begins with none of it
  pub of_less : (n : ℕ) (h s : List (ℕ × E)) → Begins h s → of_pass n h ≡ [] → of_pass n s ≡ []
  of_less n h s b e = nil_front (of_pass n s) (of_pass n b.0) (sym (of_append n s b.0) ∙ ap (of_pass n) (sym b.1) ∙ e)

  module _ (owner : E → Option ℕ) where
    tagged_at : (n k : ℕ) (es : List E) (x : ℕ × E) → get_elem? (tagged n es) k ≡ some x → (n ≡ x.0) × (get_elem? es k ≡ some x.1)
    tagged_at n k [] x e = absurd (some-ne-none x (sym e))
    tagged_at n zero (y ∷ ys) x e = let same = some-injective (n, y) x e in (ap (λ z. z.0) same, ap (λ z. some z.1) same)
    tagged_at n (suc k) (y ∷ ys) x e = tagged_at n k ys x e

    pub owned_more : (n : ℕ) (h : List (ℕ × E)) (es : List E) → Owned owner h → MayAdd owner n es → Owned owner (h ++ tagged n es)
    owned_more n h es o may k x m at own = ⊎_elim (λ (e : get_elem? h k ≡ some x). o k x m e own)
        (λ (e : (j : ℕ) × (get_elem? (tagged n es) j ≡ some x)). let t = tagged_at n e.0 es x e.1 in sym t.0 ∙ may e.0 x.1 m t.1 own) (at_append h (tagged n es) k x at)

    pub owned_less : (h s : List (ℕ × E)) → Begins h s → Owned owner h → Owned owner s
    owned_less h s b o k x m at own = o k x m (subst (λ t. get_elem? t k ≡ some x) (sym b.1) (at_longer s b.0 k x at)) own

  pub times_append : (n : ℕ) (xs ys : List (ℕ × List E)) → times n (xs ++ ys) ≡ times n xs + times n ys
  times_append n [] ys = omega arith
  times_append n (x ∷ xs) ys = let e = times_append n xs ys in let a : ℕ = cond (eqb x.0 n) 1 0 in let e' : times n (xs ++ ys) ≡ times n xs + times n ys = e in
      let b : ℕ = times n (xs ++ ys) in let c : ℕ = times n xs in let d : ℕ = times n ys in let e'' : b ≡ c + d = e' in let goal : a + b ≡ (a + c) + d = omega arith in goal

  mine_case : (b : Bool) (es r r' : List E) (t : ℕ) → 0 < cond b 1 0 + t → (0 < t → r ≡ r') → cond b es r ≡ cond b es r'
  mine_case true es r r' t h f = refl
  mine_case false es r r' t h f = f (omega arith)

  mine_skip : (b : Bool) (es r r' : List E) (t : ℕ) → cond b 1 0 + t ≡ 0 → (t ≡ 0 → r ≡ r') → cond b es r ≡ r'
  mine_skip true es r r' t h f = absurd (omega arith)
  mine_skip false es r r' t h f = f (omega arith)

  -- a pass that stands in the first list, or not in it
  pub mine_first : (n : ℕ) (xs ys : List (ℕ × List E)) → 0 < times n xs → mine_of n (xs ++ ys) ≡ mine_of n xs
  mine_first n [] ys h = absurd (omega arith)
  mine_first n (x ∷ xs) ys h = mine_case (eqb x.0 n) x.1 (mine_of n (xs ++ ys)) (mine_of n xs) (times n xs) h (λ p. mine_first n xs ys p)

  pub mine_later : (n : ℕ) (xs ys : List (ℕ × List E)) → times n xs ≡ 0 → mine_of n (xs ++ ys) ≡ mine_of n ys
  mine_later n [] ys h = refl
  mine_later n (x ∷ xs) ys h = mine_skip (eqb x.0 n) x.1 (mine_of n (xs ++ ys)) (mine_of n ys) (times n xs) h (λ p. mine_later n xs ys p)

  -- of one pass
  pub times_one : (n : ℕ) (es : List E) → times n ((n, es) ∷ []) ≡ 1
  times_one n es = ap (λ b. cond b 1 0 + 0) (eq-eqb n n refl)

  pub times_none : (m n : ℕ) (es : List E) → n ≢ m → times m ((n, es) ∷ []) ≡ 0
  times_none m n es ne = ap (λ b. cond b 1 0 + 0) (ne_eqb n m ne)

  pub mine_one : (n : ℕ) (es : List E) → mine_of n ((n, es) ∷ []) ≡ es
  mine_one n es = ap (λ b. cond b es []) (eq-eqb n n refl)

  pub one_only : (m n : ℕ) (es : List E) → 0 < times m ((n, es) ∷ []) → n ≡ m
  one_only m n es h = dite (ℕ_discrete n m) (λ e. e) (λ ne. let z = times_none m n es ne in absurd (omega arith))

  pub one_at_most : (m n : ℕ) (es : List E) → times m ((n, es) ∷ []) ≤ 1
  one_at_most m n es = dite (ℕ_discrete n m) (λ e. subst (λ k. times k ((n, es) ∷ []) ≤ 1) e (let o = times_one n es in omega arith)) (λ ne. let z = times_none m n es ne in omega arith)

  pub knows_new : (n : ℕ) (h : List (ℕ × E)) → ((m : ℕ) → 0 < times {E = E} m ((n, []) ∷ []) → of_pass m h ≡ mine_of m ((n, []) ∷ [])) → of_pass n h ≡ []
  knows_new n h k = let none : List E = [] in k n (let o = times_one n none in omega arith) ∙ mine_one n none
