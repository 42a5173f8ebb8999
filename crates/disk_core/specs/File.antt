-- A file of the system: whether it is one that can't be opened or made, and how many calls failed.
use Rattle.std.specs.Prelude.{ℕ, Bool, List, ⊤}

-- whether a file of the system counts as missing, and how many of its calls failed
pub record FileView : Type 0 where
  pub missing : Bool
  pub faults : ℕ

-- nothing is told of what a crash leaves
abbrev pub AnyImage : List ℕ → Type 0
AnyImage image = ⊤
