-- What a name is.
use Rattle.std.specs.Prelude.{ℕ, ◌≤◌, List, length, IsUtf8}

-- how many bytes a name may have
abbrev pub IsNameLen : ℕ → Type 0
IsNameLen n = (1 ≤ n) × (n ≤ 32)

-- a name has 1 to 32 bytes, which are UTF-8
pub record IsName (bytes : List ℕ) : Type 0 where
  pub len : IsNameLen (length bytes)
  pub utf8 : IsUtf8 bytes
