-- The slots of a page.
use Rattle.std.specs.Prelude.{◌≡◌, ℕ, ◌/◌, ◌<◌, Bool, false, List, Option, None, Some, Result, Ok, Err}
use Rattle.std.specs.Prelude.{get_or, replicate}
use Rattle.row_types.specs.Page.{slot_at}
use Rattle.slot_pages.specs.declared.page.BadPage.{BadPage}

-- slot k is free: it is empty, and not held
pub record IsFree (bytes : List ℕ) (held : List Bool) (len k : ℕ) : Type 0 where
  pub empty : slot_at len bytes k ≡ replicate len 0
  pub open_to : get_or held k false ≡ false

-- slot k is free, and none before it
pub record IsFirstFree (bytes : List ℕ) (held : List Bool) (len k : ℕ) : Type 0 where
  pub inside : k < 4096 / len
  pub free : IsFree bytes held len k
  pub first : (j : ℕ) → j < k → ¬ (IsFree bytes held len j)

-- the answer of a check to the page's first fault
abbrev pub unless_bad : Option (ℕ × ℕ) → Result (Unit {0}) BadPage
unless_bad None = Ok tt
unless_bad (Some fault) = Err (record { slot = fault.0; at = fault.1 })
