-- The value that a pass has.
use Rattle.std.proofs.Common.{◌≡◌, ℕ, eqb, cond, List, [], ◌∷◌, refl, subst, arith}
use Rattle.std.specs.Prelude.{Option, Some, None, Bool, true, false}
use mathlib.Core.Logic.{dite}
use native.Mathlib.Decide.{ℕ_discrete}
use Rattle.atomic_table.specs.Table.{rest}
use Rattle.turnstile.specs.Passes.{value_of}

module _ {A : Type 0} where
  pub none_is : (x : A) → None ≡ Some x → ⊥
  none_is x e = let F : Option A → Type 0 = elim [ None ↦ Unit {0} | Some z ↦ ⊥ ] in subst F e tt

  pub some_same : (x y : A) → Some x ≡ Some y → x ≡ y
  some_same x y e = let F : Option A → Type 0 = elim [ None ↦ ⊥ | Some z ↦ x ≡ z ] in subst F e refl

  in_first : (n : ℕ) (o : Option A) (xs : List (ℕ × Option A)) (m : A) (b : Bool) → eqb n 0 ≡ b → cond b o None ≡ Some m → (n, o) ∷ xs ≡ (0, Some m) ∷ xs
  in_first n o xs m true is e = dite (ℕ_discrete n 0) (λ z. λ k. (z k, e k) ∷ xs) (λ ne. absurd (grind (arith, is, ne)))
  in_first n o xs m false is e = absurd (none_is m e)

  -- the value is in the slot 0, which was taken last
  pub at_hand_is : (l : List (ℕ × Option A)) (m : A) → value_of l ≡ Some m → l ≡ (0, Some m) ∷ rest l
  at_hand_is [] m e = absurd (none_is m e)
  at_hand_is (x ∷ xs) m e = in_first x.0 x.1 xs m (eqb x.0 0) refl e

  pub at_hand : (l : List (ℕ × Option A)) (m : A) → value_of l ≡ Some m → (x : Option A) × (l ≡ (0, x) ∷ rest l)
  at_hand l m e = (Some m, at_hand_is l m e)
