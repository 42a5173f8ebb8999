-- Runs of neighbouring blocks.
use Rattle.std.specs.Prelude.{◌≡◌, ℕ, ◌+◌, ◌-◌, ◌≤◌, List, [], ◌∷◌, ◌++◌, None, Some, IsSome, length, take, drop, replicate}
use Rattle.std.specs.List.{AllByRecursion}
use Rattle.block_pool.specs.Blocks.{Blocks, used}

-- the places of a run: that of its first block, and how many it has
pub record Places : Type 0 where
  pub first : ℕ
  pub count : ℕ

-- the blocks at these places
abbrev pub blocks_at : Places → Blocks → Blocks
blocks_at run pool = take run.count (drop run.first pool)

-- the bytes of those blocks that are out, one block behind the other
abbrev pub text_of : Blocks → List ℕ
text_of [] = []
text_of (None ∷ pool) = text_of pool
text_of (Some bytes ∷ pool) = bytes ++ text_of pool

-- the blocks of the run are there and out, and have these bytes
pub record HoldsRun (pool : Blocks) (run : Places) (bytes : List ℕ) : Type 0 where
  pub inside : run.first + run.count ≤ length pool
  pub out : AllByRecursion IsSome (blocks_at run pool)
  pub bytes_are : bytes ≡ text_of (blocks_at run pool)

-- the blocks that are out are the first ones: none was given back yet
abbrev pub IsFresh : Blocks → Type 0
IsFresh pool = drop (used pool) pool ≡ replicate (length pool - used pool) None
