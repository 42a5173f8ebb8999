-- Ordered maps from keys to values, and the history of their changes.
use Rattle.std.specs.Prelude.{◌≡◌, ◌≢◌, ℕ, ◌==◌, if◌then◌else◌, Option, None, Some, List, [], ◌∷◌, ◌++◌}
use Rattle.olfit_nodes.specs.Nodes.{Entry}
use Rattle.olfit_rule.specs.declared.view.Change.{Change}
use Rattle.olfit_rule.specs.declared.view.Change.TheVariants.{Add, Drop}

-- the value of each key that is there
abbrev pub Map : Type 0
Map = ℕ → Option ℕ

-- the map of a list of entries
abbrev pub map_of : List Entry → ℕ → Option ℕ
map_of [] key = None
map_of (e ∷ entries) key = if e.0 == key then Some e.1 else map_of entries key

-- the map after one change
abbrev pub changed : Change → (ℕ → Option ℕ) → ℕ → Option ℕ
changed (Add k value) map key = if k == key then Some value else map key
changed (Drop k) map key = if k == key then None else map key

-- the map after these changes
abbrev pub map_after : (ℕ → Option ℕ) → List Change → ℕ → Option ℕ
map_after map [] = map
map_after map (c ∷ changes) = map_after (changed c map) changes

-- an added key is absent, a dropped one is there
abbrev pub May : Change → (ℕ → Option ℕ) → Type 0
May (Add k value) map = map k ≡ None
May (Drop k) map = map k ≢ None

-- each change may be made when it is
abbrev pub IsLegal : (ℕ → Option ℕ) → List Change → Type 0
IsLegal map [] = Unit {0}
IsLegal map (c ∷ changes) = May c map × IsLegal (changed c map) changes

-- the changes begin with these
abbrev pub StartsWith : List Change → List Change → Type 0
StartsWith changes first = (rest : List Change) × (changes ≡ first ++ rest)
