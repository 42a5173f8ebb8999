-- Bytes toggled: each becomes its XOR with the byte that something has at its place.
use Rattle.std.specs.Prelude.{ℕ, ◌-◌, cond, nat_le, List, map, length, get_or, bit_xor}
use Rattle.std.specs.List.{range_with_len}

-- the byte of a list at a place, 0 past its end
abbrev pub byte_at : List ℕ → ℕ → ℕ
byte_at bytes i = get_or bytes i 0

-- the byte at a place of a list that begins at an offset, 0 before it and past its end
abbrev pub byte_from : ℕ → List ℕ → ℕ → ℕ
byte_from offset bytes i = cond (nat_le offset i) (get_or bytes (i - offset) 0) 0

-- the bytes, each XOR the byte `at x i` that x has at its place i
unfoldable pub toggled : {X : Type 0} → (X → ℕ → ℕ) → List ℕ → X → List ℕ
toggled at start x = map (λ i. bit_xor (get_or start i 0) (at x i)) (range_with_len 0 (length start))
