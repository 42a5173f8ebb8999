-- Blocks over which bytes were written.
use Rattle.std.specs.Prelude.{ℕ, List, [], ◌∷◌, None, Some, drop}
use Rattle.block_pool.specs.Blocks.{Blocks}

-- the bytes with others written over them from their front on; what goes past their end is lost
abbrev pub over : List ℕ → List ℕ → List ℕ
over [] bytes = bytes
over (x ∷ written) [] = []
over (x ∷ written) (y ∷ bytes) = x ∷ over written bytes

-- the blocks with bytes written over them, block by block; a free one takes none
abbrev pub written_over : List ℕ → Blocks → Blocks
written_over written [] = []
written_over written (None ∷ pool) = None ∷ written_over (drop 4096 written) pool
written_over written (Some bytes ∷ pool) = Some (over written bytes) ∷ written_over (drop 4096 written) pool
