-- The deltas that the type of the code stands for.
use Rattle.std.specs.Prelude.{ℕ, List, ◌≡◌, All, length, Vec}
use Rattle.std.specs.Global.{Global}
use Rattle.std.specs.Map.{values_of}
use Rattle.replay_core.specs.Deltas.{PageDelta}

-- a page's entry, its table and number with its XOR
abbrev pub Entry : Type 0
Entry = (ℕ × ℕ) × Vec ℕ Global

abbrev pub delta_at : Entry → PageDelta
delta_at e = record { table = e.0.0; page = e.0.1; xor = e.1.items }

-- each XOR has the bytes of a whole page
abbrev pub AreWhole : List Entry → Type 0
AreWhole entries = All (λ v. length v.items ≡ 4096) (values_of entries)
