-- What a pass owns is its own.
use Rattle.std.proofs.Common.{◌≡◌, ◌==◌, ℕ, zero, suc, ◌+◌, eqb, cond, List, [], ◌∷◌, length, sym, refl, ap, ◌∙◌, subst, arith}
use Rattle.std.specs.Prelude.{Some, Bool, true, false, count_by}
use mathlib.Core.Option.{some-injective, some-ne-none}
use Rattle.turnstile.specs.History.{of_pass, entries, Owned, MayAdd}
use Rattle.std.proofs.lemmas.List.Sums.{sum_by-cons}
use Rattle.test_threads.proofs.Some.{some_same}

pub may_mark : (number : ℕ) (mark : ℕ × ℕ) → number ≡ mark.0 → MayAdd (λ (e : ℕ × ℕ). Some e.0) number (mark ∷ [])
may_mark number mark own zero e m at is = own ∙ ap (λ x. x.0) (some-injective mark e at) ∙ some_same e.0 m is
may_mark number mark own (suc k) e m at is = absurd (some-ne-none e (sym at))

pub may_marks : (number : ℕ) (one two : ℕ × ℕ) → number ≡ one.0 → number ≡ two.0 → MayAdd (λ (e : ℕ × ℕ). Some e.0) number (one ∷ two ∷ [])
may_marks number one two a b zero e m at is = a ∙ ap (λ x. x.0) (some-injective one e at) ∙ some_same e.0 m is
may_marks number one two a b (suc k) e m at is = may_mark number two b k e m at is

counted : (b b' : Bool) (x : ℕ × ℕ) (r : List (ℕ × ℕ)) (c : ℕ) → b ≡ b' → c ≡ length r → cond b 1 0 + c ≡ length (cond b' (x ∷ r) r)
counted b true x r c e f = subst (λ t. cond t 1 0 + c ≡ suc (length r)) (sym e) (omega arith)
counted b false x r c e f = subst (λ t. cond t 1 0 + c ≡ length r) (sym e) (omega arith)

pub own_count : (n : ℕ) (h : List (ℕ × (ℕ × ℕ))) → Owned (λ (e : ℕ × ℕ). Some e.0) h → count_by (λ (e : ℕ × ℕ). e.0 == n) (entries h) ≡ length (of_pass n h)
own_count n [] o = refl
own_count n (x ∷ xs) o = let same : x.0 ≡ x.1.0 = o zero x x.1.0 refl refl in let r = own_count n xs (λ k. o (suc k)) in
    sum_by-cons (λ (e : ℕ × ℕ). cond {A = ℕ} (eqb e.0 n) 1 0) x.1 (entries xs) ∙ counted (eqb x.1.0 n) (eqb x.0 n) x.1 (of_pass n xs) (count_by (λ (e : ℕ × ℕ). e.0 == n) (entries xs)) (ap (λ k. eqb k n) (sym same)) r
