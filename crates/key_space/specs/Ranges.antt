-- Ranges of keys.
use Rattle.std.specs.Prelude.{ℕ, ◌+◌, ◌≤◌, Bool, ◌&&◌, nat_le, Option, None, Some, if◌then◌else◌}
use Rattle.key_space.specs.declared.range.Range.{Range}

-- some key lies in the range
abbrev pub IsNotEmpty : Range → Type 0
IsNotEmpty range = range.lo.number ≤ range.hi.number

-- the key lies in the range
pub record IsIn (range : Range) (key : ℕ) : Type 0 where
  pub above : range.lo.number ≤ key
  pub below : key ≤ range.hi.number

-- a key lies in both, where neither is empty
abbrev pub shares : Range → Range → Bool
shares a b = nat_le a.lo.number b.hi.number && nat_le b.lo.number a.hi.number

-- each key of b lies in a, where b isn't empty
abbrev pub covers : Range → Range → Bool
covers a b = nat_le a.lo.number b.lo.number && nat_le b.hi.number a.hi.number

-- the part of a range from the next key on; none where the key reaches to its end
abbrev pub behind : Range → ℕ → Option Range
behind range key =
    if nat_le range.hi.number key then None else Some (record range { lo = record range.lo { number = key + 1 } })
