-- When a fault of an object outside may be reported: exactly where that object's count of faults rose.
use Rattle.std.specs.Prelude.{◌≡◌, ℕ, ◌+◌, ◌-◌, ◌^◌, ◌≤◌, min, Result, OnErr, OnOk}

-- one more, or the same at the end of the type
abbrev pub one_more : ℕ → ℕ
one_more n = min (n + 1) (2 ^ 64 - 1)

-- the count rose from old to new; one that stands at the end of its type counts as risen
abbrev pub Rose : ℕ → ℕ → Type 0
Rose old new = one_more old ≤ new

-- the count never falls, an Err comes only where it rose, by exactly one, and an Ok leaves it
pub record HasCause {T E : Type 0} (old new : ℕ) (result : Result T E) : Type 0 where
  pub later : old ≤ new
  pub failed : OnErr result (new ≡ one_more old)
  pub still : OnOk result (new ≡ old)
