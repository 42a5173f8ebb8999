-- What a pool is once bytes of its blocks were lent for writing.
use Rattle.std.specs.Prelude.{ℕ, List, ◌++◌, take, drop}
use Rattle.std.specs.Borrow.{Lends, MutBor, Fml, Array, u8}
use Rattle.block_pool.specs.contracts.pool.Pool.{the_row}
use Rattle.block_pool.specs.Blocks.{Blocks}
use Rattle.block_pool.specs.Written.{written_over}

-- what was written last stands in the blocks from this place on, and all before are as they were
abbrev pub LendsFrom : MutBor Blocks → ℕ → MutBor (List ℕ) → Fml
LendsFrom pool at bytes =
    Lends the_row (Array u8 0) pool bytes (λ w. take at pool.now ++ written_over w (drop at pool.now))
