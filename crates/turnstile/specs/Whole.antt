-- What is known once all passes were given back.
use Rattle.std.specs.Prelude.{◌≡◌, ℕ, ◌<◌, ◌≤◌, List, [], ◌∷◌, Option}
use mathlib.Core.Option.{some}
use lib.ListN.{get_elem?}
use Rattle.turnstile.specs.declared.view.View.{View}
use Rattle.turnstile.specs.History.{Begins, of_pass, entries, Owned, times, mine_of}

module _ {M E : Type 0} where
  -- the seat has seen or heard this
  abbrev pub Hears : View M E → List (ℕ × E) → Type 0
  Hears v h = (j : ℕ) × (get_elem? (v.seen ∷ v.heard) j ≡ some h)

  -- the value stands for the whole history, in which the
  -- seat's passes have their entries, and nobody else has any
  pub record Whole (leads : M → List E → M → Type 0) (owner : E → Option ℕ) (start : M) (v : View M E)
      (h : List (ℕ × E)) (m : M) : Type 0 where
    pub stands : leads start (entries h) m
    pub owned : Owned owner h
    pub each_once : (n : ℕ) → n < v.made → times n v.parts ≡ 1
    pub below : (n : ℕ) → 0 < times n v.parts → n < v.made
    pub mine : (n : ℕ) → 0 < times n v.parts → of_pass n h ≡ mine_of n v.parts
    pub others : (n : ℕ) → v.made ≤ n → of_pass n h ≡ []
    pub begins : (t : List (ℕ × E)) → Hears v t → Begins h t
