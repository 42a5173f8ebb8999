-- Doubled quotes.
use Rattle.std.specs.Prelude.{ℕ, ◌&&◌, ◌==◌, if◌then◌else◌, List, [], ◌∷◌}

-- what stands in a literal, each doubled quote in it once
abbrev pub unquoted : List ℕ → List ℕ
unquoted [] = []
unquoted (b ∷ []) = b ∷ []
unquoted (b ∷ c ∷ bs) = if b == 39 && c == 39 then 39 ∷ unquoted bs else b ∷ unquoted (c ∷ bs)

-- without the quote at the front, where one stands there
abbrev pub behind_quote : List ℕ → List ℕ
behind_quote [] = []
behind_quote (b ∷ bs) = if b == 39 then bs else b ∷ bs
