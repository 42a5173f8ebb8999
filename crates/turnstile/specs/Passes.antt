-- What a clause says of a pass.
use Rattle.std.specs.Prelude.{◌≡◌, ◌==◌, ℕ, ◌+◌, ◌^◌, ◌<◌, ◌≤◌, length, List, [], ◌∷◌, ◌++◌, Option, Some, None}
use Rattle.std.specs.Prelude.{cond}
use Rattle.atomic_table.specs.Seated.{TableId}
use Rattle.atomic_table.specs.Table.{rest}
use Rattle.turnstile.specs.declared.view.View.{View}
use Rattle.turnstile.specs.declared.view.Stage.{Stage}
use Rattle.turnstile.specs.declared.view.Stage.TheVariants.{Idle, Inside}
use Rattle.turnstile.specs.declared.pass.PassWith.{PassWith}
use mathlib.Core.Option.{some}
use lib.ListN.{get_elem?}
use Rattle.turnstile.specs.History.{Begins, of_pass, entries, Owned, times}
use Rattle.turnstile.specs.Whole.{Hears}
use Rattle.turnstile.specs.Steps.{number_of, first_mine, IsOne}

-- Which turnstile it is: its table, and the value that was given to `new`
pub record Name (M : Type 0) : Type 0 where
  pub table : TableId
  pub first : M

module _ {A : Type 0} where
  -- the value that is at hand out of the slot 0
  abbrev pub value_of : List (ℕ × Option A) → Option A
  value_of [] = None
  value_of (x ∷ xs) = cond (x.0 == 0) x.1 None

module _ {M E : Type 0} where
  abbrev pub view : PassWith M E → View M E
  view p = p.seat.me.0

  -- the number of the pass
  abbrev pub number : PassWith M E → ℕ
  number p = p.number

  -- how many turns the pass has left
  abbrev pub left : PassWith M E → ℕ
  left p = p.left

  -- of the first pass: how many passes it and its turnstile have, itself among them; of others 0
  abbrev pub made : PassWith M E → ℕ
  made p = p.made

  -- the entries that the pass has made, in order
  abbrev pub mine : PassWith M E → List E
  mine p = first_mine (view p).parts

  -- the beginning of the history that the pass has seen
  abbrev pub seen : PassWith M E → List (ℕ × E)
  seen p = (view p).seen

  -- the value that the pass has, in a turn
  abbrev pub value_in : PassWith M E → Option M
  value_in p = value_of p.seat.me.1

  -- a seat with this view, this table and these slots is that of a pass of
  -- the turnstile which tells these numbers. What it has seen has its entries
  pub record IsAt (t : Name M) (stage : Stage) (v : View M E) (table : TableId) (slots : List (ℕ × Option M))
      (number left made : ℕ) : Type 0 where
    pub table_is : table ≡ t.table
    pub started : v.start ≡ Some t.first
    pub stage_is : v.stage ≡ stage
    pub holds : slots ≡ []
    pub one : IsOne v.parts
    pub number_is : number ≡ number_of v.parts
    pub left_is : left ≡ v.left
    pub made_is : made ≡ v.made
    pub knows : of_pass number v.seen ≡ first_mine v.parts

  -- the pass is the turnstile's, and makes no turn
  abbrev pub IsPass : Name M → PassWith M E → Type 0
  IsPass t p = IsAt t Idle (view p) p.seat.table_id p.seat.me.1 p.number p.left p.made

  -- the pass is the turnstile's, and makes a turn
  abbrev pub IsInside : Name M → PassWith M E → Type 0
  IsInside t p = IsAt t Inside (view p) p.seat.table_id (rest p.seat.me.1) p.number p.left p.made

  -- the pass has a value, of which this holds
  abbrev pub Has : PassWith M E → (M → Type 0) → Type 0
  Has p F = (m : M) × (value_in p ≡ Some m) × F m

  -- what the pass has seen may be more, and all else stays
  abbrev pub SameButSeen : PassWith M E → PassWith M E → Type 0
  SameButSeen p q = (number q ≡ number p) × (mine q ≡ mine p) × (left q ≡ left p) × (made q ≡ made p)

  -- what the pass has seen and made may be more, and all else stays
  abbrev pub SameButEntries : PassWith M E → PassWith M E → Type 0
  SameButEntries p q = (number q ≡ number p) × (left q ≡ left p) × (made q ≡ made p)

  -- the pass has used one turn, and made no entry yet
  abbrev pub OneTurnLess : PassWith M E → PassWith M E → Type 0
  OneTurnLess p q = (number q ≡ number p) × (mine q ≡ mine p) × (left q + 1 ≡ left p) × (made q ≡ made p)

  -- the first pass has made one pass more, and all else stays
  abbrev pub OnePassMore : PassWith M E → PassWith M E → Type 0
  OnePassMore p q =
      (number q ≡ number p) × (mine q ≡ mine p) × (left q ≡ left p) × (made q ≡ made p + 1)
      × (seen q ≡ seen p)

  -- a pass with this number that has all turns, has made no entry, and counts so many passes
  abbrev pub IsNew : PassWith M E → ℕ → ℕ → Type 0
  IsNew p n count = (number p ≡ n) × (left p ≡ 2 ^ 56) × (mine p ≡ []) × (made p ≡ count)

  -- the pass has made at least as many entries as turns
  abbrev pub IsPaced : PassWith M E → Type 0
  IsPaced p = 2 ^ 56 ≤ left p + length (mine p)

  -- the pass stays so in a turn that adds an entry, from its begin to its end
  abbrev pub TurnIsPaced : PassWith M E → PassWith M E → PassWith M E → Type 0
  TurnIsPaced p q r =
      (es : List E) → OneTurnLess p q → SameButEntries q r → mine r ≡ mine q ++ es → 1 ≤ length es
      → IsPaced p → IsPaced r

  -- each of these is a pass of the turnstile that makes no turn
  abbrev pub ArePasses : Name M → List (PassWith M E) → Type 0
  ArePasses t ps = (k : ℕ) (p : PassWith M E) → get_elem? ps k ≡ some p → IsPass t p

  -- each pass with its entries
  abbrev pub parts_of : List (PassWith M E) → List (ℕ × List E)
  parts_of [] = []
  parts_of (p ∷ ps) = (number p, mine p) ∷ parts_of ps

  -- how many passes these have made, themselves among them:
  -- the first pass counts them, and another counts none
  abbrev pub made_by : List (PassWith M E) → ℕ
  made_by [] = 0
  made_by (p ∷ ps) = made p + made_by ps

  -- the view has seen or heard all that these have seen
  abbrev pub AllTold : List (PassWith M E) → View M E → Type 0
  AllTold ps v = (k : ℕ) (p : PassWith M E) → get_elem? ps k ≡ some p → Hears v (seen p)

  -- The value stands for the whole history h. The passes are numbered from 0 on, each number
  -- once; h has of each just its own entries, begins with what each has seen, and has no others
  pub record IsWhole (leads : M → List E → M → Type 0) (owner : E → Option ℕ) (start : M)
      (ps : List (PassWith M E)) (h : List (ℕ × E)) (m : M) : Type 0 where
    pub stands : leads start (entries h) m
    pub owned : Owned owner h
    pub each_once : (n : ℕ) → n < length ps → times n (parts_of ps) ≡ 1
    pub of_each : (k : ℕ) (p : PassWith M E) → get_elem? ps k ≡ some p → (number p < length ps)
        × (of_pass (number p) h ≡ mine p) × Begins h (seen p)
    pub of_others : (n : ℕ) → length ps ≤ n → of_pass n h ≡ []
