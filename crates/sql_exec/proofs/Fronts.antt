-- The front of a list, one element after another.
use Rattle.std.proofs.Common.{◌≡◌, ℕ, zero, suc, ◌+◌, ◌<◌, List, [], ◌∷◌, ◌++◌, length, take, drop, get_or, sym, ap, subst, arith, ◌∙◌, append_assoc}
use Rattle.std.specs.List.{AllByRecursion}
use Rattle.std.proofs.lemmas.List.{take_more, drop_more, take-append-drop}

module _ {A : Type 0} (piece : List A) (i : ℕ) (x : A) (less : i < length piece) (is : x ≡ get_or piece i x) where
  pub front_one : take i piece ++ x ∷ [] ≡ take (i + 1) piece
  front_one = ap (λ y. take i piece ++ y ∷ []) is ∙ sym (take_more piece i x less)

  pub back_one : x ∷ drop (i + 1) piece ≡ drop i piece
  back_one = ap (λ y. y ∷ drop (i + 1) piece) is ∙ sym (drop_more piece i x less)

  pub front_more : (before : List A) → (before ++ take i piece) ++ x ∷ [] ≡ before ++ take (i + 1) piece
  front_more before = append_assoc before (take i piece) (x ∷ []) ∙ ap (λ (l : List A). before ++ l) front_one

  pub split_at : piece ≡ take i piece ++ x ∷ drop (i + 1) piece
  split_at = sym (take-append-drop i piece) ∙ ap (λ (l : List A). take i piece ++ l) (sym back_one)

-- what holds of each element holds of the one at a place
pub all_at : {A : Type 0} (P : A → Type 0) (list : List A) (i : ℕ) (x : A) → AllByRecursion P list → i < length list → x ≡ get_or list i x → P x
all_at P [] i x all less is = absurd (omega (arith, less))
all_at P (y ∷ list) zero x all less is = subst P (sym is) all.0
all_at P (y ∷ list) (suc i) x all less is = all_at P list i x all.1 (omega (arith, less)) is
