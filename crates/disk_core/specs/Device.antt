-- What the calls on a disk whose content is known do to it.
use Rattle.std.specs.Prelude.{◌≡◌, ℕ, ◌+◌, ◌≤◌, max, List, ◌++◌, length, take, drop, Option, None}
use Rattle.std.specs.Prelude.{MatchOption, IfSome, IsSomeAnd, Result, Ok, Err, IfOk, OnOk}
use Rattle.std.specs.Option.{option_map}

-- the bytes with others written at a place, over what is there and past the end
abbrev pub written : ℕ → List ℕ → List ℕ → List ℕ
written at bytes old = take at old ++ bytes ++ drop (at + length bytes) old

-- after a write of n bytes that didn't come to its end: any bytes
-- in the range, which may reach past the old end; all else stays
pub record Torn (at n : ℕ) (old new : List ℕ) : Type 0 where
  pub before : take at new ≡ take at old
  pub after : drop (at + n) new ≡ drop (at + n) old
  pub no_shorter : length old ≤ length new
  pub no_longer : length new ≤ max (length old) (at + n)

-- what a write does: Ok has written all bytes, Err may have written any of the range
abbrev pub Writes : {T E : Type 0} → Option (List ℕ) → ℕ → List ℕ → Result T E → Option (List ℕ) → Type 0
Writes old at bytes (Ok _) new = new ≡ option_map (written at bytes) old
Writes old at bytes (Err _) new =
    MatchOption old (new ≡ None) (λ content. IsSomeAnd new (Torn at (length bytes) content))

-- what a read into a piece gives: at Ok the bytes from that place on
abbrev pub Reads : {T E : Type 0} → Option (List ℕ) → ℕ → Result T E → List ℕ → Type 0
Reads content at result piece =
    OnOk result (IfSome content (λ bytes. piece ≡ take (length piece) (drop at bytes)))

-- what a question for the size gives: at Ok how many bytes there are
abbrev pub Measures : {E : Type 0} → Option (List ℕ) → Result ℕ E → Type 0
Measures content result = IfOk result (λ n. IfSome content (λ bytes. n ≡ length bytes))
