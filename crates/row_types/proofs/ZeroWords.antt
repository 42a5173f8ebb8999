-- Words of zeros at the front of some bytes.
use Rattle.std.proofs.Common.{◌≡◌, ℕ, zero, suc, ◌+◌, ◌-◌, List, [], ◌∷◌, take, drop, replicate, sym, ap, ◌∙◌, arith}
use Rattle.std.proofs.lemmas.List.{drop-drop}
use Rattle.row_types.specs.Slot.{first_not_zero}

tail_same : (x y : ℕ) (xs ys : List ℕ) → ◌≡◌ {A = List ℕ} (x ∷ xs) (y ∷ ys) → (x ≡ y) × (xs ≡ ys)
tail_same x y xs ys e = (cc, cc)

-- zeros at the front are passed over
pub past_zeros : (k at : ℕ) (bytes : List ℕ) → take k bytes ≡ replicate k 0 → first_not_zero at bytes ≡ first_not_zero (at + k) (drop k bytes)
past_zeros zero at bytes zeros = ap (λ (n : ℕ). first_not_zero n bytes) (omega arith)
past_zeros (suc k) at [] zeros = absurd cc
past_zeros (suc k) at (b ∷ bytes) zeros =
    let same = tail_same b 0 (take k bytes) (replicate k 0) zeros in
    let place : at + 1 + k ≡ at + suc k = omega arith in
    rw same.0 (past_zeros k (at + 1) bytes same.1 ∙ ap (λ (n : ℕ). first_not_zero n (drop k bytes)) place)

-- one word further
pub past_word : (at len : ℕ) (bytes : List ℕ) → take (len + 8 - len) (drop len bytes) ≡ replicate 8 0 → first_not_zero (at + len) (drop len bytes) ≡ first_not_zero (at + (len + 8)) (drop (len + 8) bytes)
past_word at len bytes zeros =
    let eight : len + 8 - len ≡ 8 = omega arith in
    let word : take 8 (drop len bytes) ≡ replicate 8 0 = ap (λ (n : ℕ). take n (drop len bytes)) (sym eight) ∙ zeros in
    let place : at + len + 8 ≡ at + (len + 8) = omega arith in
    past_zeros 8 (at + len) (drop len bytes) word ∙ ap (λ (l : List ℕ). first_not_zero (at + len + 8) l) (drop-drop 8 len bytes) ∙ ap (λ (n : ℕ). first_not_zero n (drop (len + 8) bytes)) place
