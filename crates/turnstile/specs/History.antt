-- A history: entries in order, each with the number of the pass that made it.
use Rattle.std.specs.Prelude.{◌≡◌, ◌==◌, ℕ, ◌+◌, List, [], ◌∷◌, ◌++◌, map, cond, Option, Some}
use mathlib.Core.Option.{some}
use lib.ListN.{get_elem?}

module _ {A : Type 0} where
  -- the history begins with what was seen
  abbrev pub Begins : List A → List A → Type 0
  Begins hist seen = (rest : List A) × (hist ≡ seen ++ rest)

module _ {E : Type 0} where
  -- the entries of one pass, in order
  abbrev pub of_pass : ℕ → List (ℕ × E) → List E
  of_pass n [] = []
  of_pass n (x ∷ xs) = cond (x.0 == n) (x.1 ∷ of_pass n xs) (of_pass n xs)

  -- the entries of all passes, in order
  abbrev pub entries : List (ℕ × E) → List E
  entries = map (λ x. x.1)

  -- these entries, each made by the pass n
  abbrev pub tagged : ℕ → List E → List (ℕ × E)
  tagged n [] = []
  tagged n (e ∷ es) = (n, e) ∷ tagged n es

  -- an entry that has an owner was made by its owner
  abbrev pub Owned : (E → Option ℕ) → List (ℕ × E) → Type 0
  Owned owner hist = (k : ℕ) (x : ℕ × E) (n : ℕ) → get_elem? hist k ≡ some x → owner x.1 ≡ Some n → x.0 ≡ n

  -- the pass n may make these entries: it owns each that has an owner
  abbrev pub MayAdd : (E → Option ℕ) → ℕ → List E → Type 0
  MayAdd owner n es = (k : ℕ) (e : E) (m : ℕ) → get_elem? es k ≡ some e → owner e ≡ Some m → n ≡ m

  -- how often the pass n stands among these passes
  abbrev pub times : ℕ → List (ℕ × List E) → ℕ
  times n [] = 0
  times n (x ∷ xs) = cond (x.0 == n) 1 0 + times n xs

  -- the entries that stand here beside the pass n, or none
  abbrev pub mine_of : ℕ → List (ℕ × List E) → List E
  mine_of n [] = []
  mine_of n (x ∷ xs) = cond (x.0 == n) x.1 (mine_of n xs)
