-- The blocks of a pool.
use Rattle.std.specs.Prelude.{◌≡◌, ℕ, List, Option, None, Some, is_some, slice_get, replicate}
use Rattle.std.specs.List.{count_by}

-- a pool as a list with an entry for each block: the bytes
-- of one that is out, and nothing for one that is free
abbrev pub Blocks : Type 0
Blocks = List (Option (List ℕ))

-- the block at this place is out, with these bytes
abbrev pub Holds : Blocks → ℕ → List ℕ → Type 0
Holds pool block bytes = slice_get pool block ≡ Some (Some bytes)

-- the block at this place is free
abbrev pub IsFree : Blocks → ℕ → Type 0
IsFree pool block = slice_get pool block ≡ Some None

-- how many blocks are out
abbrev pub used : Blocks → ℕ
used pool = count_by is_some pool

-- a block of zeros
unfoldable pub zeros : List ℕ
zeros = replicate 4096 0
