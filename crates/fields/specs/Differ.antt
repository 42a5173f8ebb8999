-- Where two lists of bytes differ.
use Rattle.std.specs.Prelude.{◌≡◌, ◌≢◌, ℕ, ◌+◌, ◌-◌, ◌≤◌, ◌<◌, List, slice_index, take, drop, length}

-- outside of the span the two are alike
pub record HoldsDifferences (a b : List ℕ) (at len : ℕ) : Type 0 where
  pub before : take at a ≡ take at b
  pub behind : drop (at + len) a ≡ drop (at + len) b

-- the shortest span that holds all differing bytes: its first byte differs, and its last one
pub record IsDiffSpan (a b : List ℕ) (at len : ℕ) : Type 0 where
  pub some : 0 < len
  pub inside : at + len ≤ length a
  pub holds : HoldsDifferences a b at len
  pub first : slice_index a at ≢ slice_index b at
  pub last : slice_index a (at + len - 1) ≢ slice_index b (at + len - 1)
