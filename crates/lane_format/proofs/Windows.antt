-- What a window has of its file, piece by piece.
use Rattle.std.proofs.Common.{◌≡◌, ℕ, ◌+◌, ◌-◌, ◌≤◌, List, Option, Some, None, inl, inr, length, min, take, drop, refl, sym, ◌∙◌, ap, arith}
use Rattle.std.proofs.lemmas.Bool.{cases_lt}
use Rattle.std.proofs.lemmas.List.{drop-drop, drop-take, take-take, take_all}
use Rattle.std.specs.Option.{ForSome, IfSome}

-- a piece that a window covers is the file's
pub window_piece : (window bytes : List ℕ) (begin len at n : ℕ) → take len window ≡ take len (drop begin bytes) → begin ≤ at → at + n ≤ begin + len → take n (drop (at - begin) window) ≡ take n (drop at bytes)
window_piece window bytes begin len at n is low high =
    let from = at - begin in
    let within : from + n ≤ len = omega arith in
    let there : begin + from ≡ at = omega arith in
    let same : take (from + n) window ≡ take (from + n) (drop begin bytes) = sym (take-take (from + n) len window within) ∙ ap (take (from + n)) is ∙ take-take (from + n) len (drop begin bytes) within in
    sym (drop-take from n window) ∙ ap (drop from) same ∙ drop-take from n (drop begin bytes) ∙ ap (take n) (drop-drop from begin bytes ∙ ap (λ k. drop k bytes) there)

pub if_some : (o : Option (List ℕ)) (P : List ℕ → Type 0) → ForSome o P → IfSome o P
if_some None P holds = tt
if_some (Some x) P holds = holds x refl

pub for_some : (o : Option (List ℕ)) (P : List ℕ → Type 0) → IfSome o P → ForSome o P
for_some None P holds = λ x is. absurd (cc)
for_some (Some y) P holds = λ x is. let same : y ≡ x = cc in rw (← same) holds

-- as many bytes as there are, and at most k, are the first k
pub front_of : (k n : ℕ) (xs : List ℕ) → n ≡ min (length xs) k → take n xs ≡ take k xs
front_of k n xs is = elim (cases_lt (length xs) k) [
  | inl short ↦ take_all n xs (omega (arith, is, short)) ∙ sym (take_all k xs (omega (arith, short)))
  | inr long ↦ let same : n ≡ k = omega (arith, is, long) in ap (λ m. take m xs) same
]
