-- Words of eight bytes that are equal as numbers are equal as bytes.
use Rattle.std.proofs.Common.{◌≡◌, ◌≢◌, ℕ, ◌+◌, ◌-◌, ◌<◌, ◌≤◌, List, ◌++◌, length, get_or, take, drop, sym, ap, ap₂, ◌∙◌, arith, subst, ◌⊎◌, inl, inr}
use Rattle.std.specs.Int.{w64, from_le_bytes, to_le_bytes}
use Rattle.std.proofs.lemmas.Nat.{le_bytes_8}
use Rattle.std.proofs.lemmas.Bool.{cases_lt}
use Rattle.std.proofs.lemmas.List.{drop-take, take-append-drop, get_or-take, get_or-drop, get_or_past, drop-drop, take-take}
use Rattle.std.proofs.lemmas.Grind.{common_steps}
use Rattle.fields.specs.Fields.{bytes_at}
use Rattle.fields.specs.Differ.{HoldsDifferences, IsDiffSpan}

word_len : (bs : List ℕ) (i : ℕ) → i + 8 ≤ length bs → length (bytes_at i 8 bs) ≡ 8
word_len bs i l = grind (arith, common_steps, l)

word_byte : (bs : List ℕ) (i : ℕ) → ((k : ℕ) → get_or bs k 0 < 256) → (k : ℕ) → get_or (bytes_at i 8 bs) k 0 < 256
word_byte bs i h k = go (cases_lt k 8)
  where
    go : (k < 8) ⊎ (8 ≤ k) → get_or (bytes_at i 8 bs) k 0 < 256
    go (inl l) = subst (λ n. n < 256) (sym (get_or-take 8 (drop i bs) k 0 l ∙ get_or-drop i bs k 0)) (h (i + k))
    go (inr l) = subst (λ n. n < 256) (sym (get_or_past (bytes_at i 8 bs) k 0 (short l))) (omega arith)
      where
        short : 8 ≤ k → length (bytes_at i 8 bs) ≤ k
        short m = grind (arith, common_steps, m)

pub same_word : (xs ys : List ℕ) (i : ℕ) → i + 8 ≤ length xs → length xs ≡ length ys → ((k : ℕ) → get_or xs k 0 < 256) → ((k : ℕ) → get_or ys k 0 < 256)
    → from_le_bytes w64 (bytes_at i 8 xs) ≡ from_le_bytes w64 (bytes_at i 8 ys) → bytes_at i 8 xs ≡ bytes_at i 8 ys
same_word xs ys i l e p q h =
    sym (le_bytes_8 (bytes_at i 8 xs) (from_le_bytes w64 (bytes_at i 8 xs)) (word_len xs i l) (word_byte xs i p) refl_number)
    ∙ ap (to_le_bytes w64) h
    ∙ le_bytes_8 (bytes_at i 8 ys) (from_le_bytes w64 (bytes_at i 8 ys)) (word_len ys i (omega (arith, l, e))) (word_byte ys i q) refl_number-2
  where
    refl_number : from_le_bytes w64 (bytes_at i 8 xs) ≡ from_le_bytes w64 (bytes_at i 8 xs)
    refl_number = cc

    refl_number-2 : from_le_bytes w64 (bytes_at i 8 ys) ≡ from_le_bytes w64 (bytes_at i 8 ys)
    refl_number-2 = cc

-- a list up to eight bytes further, and from eight bytes earlier on
take_word : (xs : List ℕ) (i : ℕ) → take (i + 8) xs ≡ take i xs ++ bytes_at i 8 xs
take_word xs i = sym (take-append-drop i (take (i + 8) xs)) ∙ ap₂ (λ a b. a ++ b) (take-take i (i + 8) xs (omega arith)) (drop-take i 8 xs)

drop_word : (xs : List ℕ) (i : ℕ) → drop i xs ≡ bytes_at i 8 xs ++ drop (i + 8) xs
drop_word xs i = sym (take-append-drop 8 (drop i xs)) ∙ ap (λ b. bytes_at i 8 xs ++ b) (drop-drop 8 i xs)

pub take_next_word : (xs ys : List ℕ) (i : ℕ) → take i xs ≡ take i ys → bytes_at i 8 xs ≡ bytes_at i 8 ys → take (i + 8) xs ≡ take (i + 8) ys
take_next_word xs ys i h w = take_word xs i ∙ ap₂ (λ a b. a ++ b) h w ∙ sym (take_word ys i)

pub drop_word_before : (xs ys : List ℕ) (i : ℕ) → drop (i + 8) xs ≡ drop (i + 8) ys → bytes_at i 8 xs ≡ bytes_at i 8 ys → drop i xs ≡ drop i ys
drop_word_before xs ys i h w = drop_word xs i ∙ ap₂ (λ a b. a ++ b) w h ∙ sym (drop_word ys i)

-- where two lists are equal from a place on, a place at which they differ lies before it
pub differs_before : (xs ys : List ℕ) (i end : ℕ) → get_or xs i 0 ≢ get_or ys i 0 → drop end xs ≡ drop end ys → i < end
differs_before xs ys i end n h = go (cases_lt i end)
  where
    same : end ≤ i → get_or xs i 0 ≡ get_or ys i 0
    same l =
        let at : end + (i - end) ≡ i = omega (arith, l) in
        ap (λ k. get_or xs k 0) (sym at) ∙ sym (get_or-drop end xs (i - end) 0) ∙ ap (λ s. get_or s (i - end) 0) h ∙ get_or-drop end ys (i - end) 0 ∙ ap (λ k. get_or ys k 0) at

    go : (i < end) ⊎ (end ≤ i) → i < end
    go (inl l) = l
    go (inr l) = absurd (n (same l))

-- where two lists are equal up to a place, a place at which they differ isn't before it
differs_from : (xs ys : List ℕ) (i at : ℕ) → get_or xs i 0 ≢ get_or ys i 0 → take at xs ≡ take at ys → at ≤ i
differs_from xs ys i at n h = go (cases_lt i at)
  where
    go : (i < at) ⊎ (at ≤ i) → at ≤ i
    go (inl l) = absurd (n (sym (get_or-take at xs i 0 l) ∙ ap (λ s. get_or s i 0) h ∙ get_or-take at ys i 0 l))
    go (inr l) = l

pub shortest : (a b : List ℕ) (at len other other_len : ℕ) → IsDiffSpan a b at len → HoldsDifferences a b other other_len → (other ≤ at) × (at + len ≤ other + other_len)
shortest a b at len other other_len s h =
    let last : at + len - 1 < other + other_len = differs_before a b (at + len - 1) (other + other_len) s.last h.behind in
    let some : 0 < len = s.some in
    (differs_from a b at other s.first h.before, omega (arith, last, some))
