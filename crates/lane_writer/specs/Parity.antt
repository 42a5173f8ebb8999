use Rattle.std.specs.Prelude.{◌==◌, ℕ, ◌%◌, Bool}

-- the generation belongs to the file of odd ones
abbrev pub is_odd : ℕ → Bool
is_odd generation = (generation % 2) == 1
