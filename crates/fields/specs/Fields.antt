-- A number in bytes: it stands at a place, the lowest byte first.
use Rattle.std.specs.Prelude.{ℕ, ◌+◌, List, ◌++◌, length, take, drop}

-- these bytes from a place on, and what was there before and behind
abbrev pub with_bytes : ℕ → List ℕ → List ℕ → List ℕ
with_bytes at bytes old = take at old ++ bytes ++ drop (at + length bytes) old

-- so many bytes from a place on
abbrev pub bytes_at : ℕ → ℕ → List ℕ → List ℕ
bytes_at at len bytes = take len (drop at bytes)
