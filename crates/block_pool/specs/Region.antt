-- How a pool keeps its blocks: which are out, the bytes of all, and the places of those that are free.
use Rattle.std.specs.Prelude.{◌≡◌, ◌≢◌, ℕ, zero, suc, take, drop, ◌+◌, ◌^◌, ◌<◌, Bool, false, cond, List, [], ◌∷◌, None, Some}
use Rattle.std.specs.Prelude.{length, get_or}
use Rattle.std.specs.List.{count_by}
use Rattle.block_pool.specs.Blocks.{Blocks}

-- the first n blocks of bytes that stand one behind the other
abbrev pub blocks_of : ℕ → List ℕ → List (List ℕ)
blocks_of zero bytes = []
blocks_of (suc n) bytes = take 4096 bytes ∷ blocks_of n (drop 4096 bytes)

-- the entry of each block
abbrev pub entries : List Bool → List (List ℕ) → Blocks
entries (out ∷ outs) (bytes ∷ region) = cond out (Some bytes) None ∷ entries outs region
entries [] region = []
entries (out ∷ outs) [] = []

-- the free places are those of blocks that aren't out, each once, and all of them
pub record IsKept (outs : List Bool) (region : List (List ℕ)) (free : List ℕ) : Type 0 where
  pub whole : length region ≡ length outs
  pub short : length outs < 2 ^ 32
  pub inside : (i : ℕ) → i < length free → get_or free i 0 < length outs
  pub unused : (i : ℕ) → i < length free → get_or outs (get_or free i 0) false ≡ false
  pub once : (i j : ℕ) → i < j → j < length free → get_or free i 0 ≢ get_or free j 0
  pub counted : count_by (λ out. out) outs + length free ≡ length outs
