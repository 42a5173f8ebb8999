-- What one push does to the bytes that a sink took.
use Rattle.std.specs.Prelude.{◌≡◌, ℕ, List, ◌++◌, take, Option, None, Some, MatchOption, Result, Ok, Err}
use Rattle.std.specs.Option.{option_map}

-- what one push does: Ok takes all bytes, Err a front of them
abbrev pub Pushes : {T E : Type 0} → Option (List ℕ) → List ℕ → Result T E → Option (List ℕ) → Type 0
Pushes old bytes (Ok _) new = new ≡ option_map (λ taken. taken ++ bytes) old
Pushes old bytes (Err _) new =
    MatchOption old (new ≡ None) (λ taken. (n : ℕ) × (new ≡ Some (taken ++ take n bytes)))
