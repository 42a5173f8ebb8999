-- Bytes whose bits are flipped by the items of a list: `at x i` is the byte that the item x has at place i.
use Rattle.std.specs.Prelude.{ℕ, zero, suc, Bool, List, [], ◌∷◌, ◌++◌, ◌+◌, ◌*◌, ◌%◌, ◌==◌, map, length}
use Rattle.std.specs.Prelude.{get_or, count_by}
use Rattle.std.specs.Int.{bit_at}
use Rattle.std.specs.List.{range_with_len}

abbrev pub is_set : ℕ → ℕ → Bool
is_set byte b = bit_at byte b == 1

-- the lists of a list, one behind the other
abbrev pub joined : {X : Type 0} → List (List X) → List X
joined [] = []
joined (xs ∷ rest) = xs ++ joined rest

-- how many of the items have bit b of the byte at place i set
abbrev pub flips : {X : Type 0} → (X → ℕ → ℕ) → List X → ℕ → ℕ → ℕ
flips at xs i b = count_by (λ x. is_set (at x i) b) xs

-- the bit of start where that number is even, and the opposite where it is odd
abbrev pub bit_after : {X : Type 0} → (X → ℕ → ℕ) → List ℕ → List X → ℕ → ℕ → ℕ
bit_after at start xs i b = (bit_at (get_or start i 0) b + flips at xs i b) % 2

-- the number of n bits of which each is what f says
abbrev pub number_of : ℕ → (ℕ → ℕ) → ℕ
number_of zero f = 0
number_of (suc n) f = f 0 + number_of n (λ b. f (b + 1)) * 2

-- the bytes of these bits
unfoldable pub flipped : {X : Type 0} → (X → ℕ → ℕ) → List ℕ → List X → List ℕ
flipped at start xs = map (λ i. number_of 8 (bit_after at start xs i)) (range_with_len 0 (length start))
