-- A page over a block of a pool.
use Rattle.std.specs.Prelude.{◌≡◌, ◌≢◌, ◌⊎◌, ℕ, ◌+◌, ◌*◌, ◌<◌, ◌≤◌, Bool, true, false, List, [], Option}
use Rattle.std.specs.Prelude.{None, Some, length, slice_get, slice_index, get_or, replicate}
use Rattle.block_pool.specs.Blocks.{Blocks, Holds}

-- What a page keeps beside its bytes: its table and number, its stamp, its block's place in the pool, which
-- slots are held; and for slots of a length, how many from the first on are known to be taken.
pub record PageState : Type 0 where
  pub table : ℕ
  pub number : ℕ
  pub stamp : ℕ
  pub block : ℕ
  pub held : List Bool
  pub len : ℕ
  pub taken : ℕ

-- the bytes of a block that is out
abbrev pub bytes_of_entry : Option (Option (List ℕ)) → List ℕ
bytes_of_entry (Some (Some bytes)) = bytes
bytes_of_entry (Some None) = []
bytes_of_entry None = []

-- the bytes of a page
abbrev pub bytes_in : Blocks → PageState → List ℕ
bytes_in pool page = bytes_of_entry (slice_get pool page.block)

-- slot k is taken: it is held, or its first byte isn't 0
abbrev pub IsTaken : List ℕ → List Bool → ℕ → ℕ → Type 0
IsTaken bytes held len k = (get_or held k false ≡ true) ⊎ (slice_index bytes (k * len) ≢ 0)

-- slots have some bytes, and the first byte of each slot up to slot k lies outside of count bytes from offset
-- on
abbrev pub LiesOutside : ℕ → ℕ → ℕ → ℕ → Type 0
LiesOutside len offset count k =
    (1 ≤ len) × ((j : ℕ) → j ≤ k → (j * len < offset) ⊎ (offset + count ≤ j * len))

-- The page's block is out of this pool with 4,096 bytes, and the slots that are known to be taken are.
pub record IsPage (pool : Blocks) (page : PageState) : Type 0 where
  pub out : Holds pool page.block (bytes_in pool page)
  pub whole : length (bytes_in pool page) ≡ 4096
  pub marks : length page.held ≡ 256
  pub taken : (k : ℕ) → k < page.taken → IsTaken (bytes_in pool page) page.held page.len k

-- no slot is held
unfoldable pub none_held : List Bool
none_held = replicate 256 false
