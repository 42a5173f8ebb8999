-- The rule of the turnstile: what holds of its table between any two steps.
-- Word 8 is how many tickets were drawn, word 9 how many turns have
-- ended, and word 10 how many threads sleep. The one slot has the value.
use Rattle.std.specs.Prelude.{◌≡◌, ℕ, ◌+◌, ◌*◌, ◌<◌, ◌≤◌, List, [], ◌∷◌, Option, Some, None}
use mathlib.Core.Option.{some}
use mathlib.Core.Option as maybe
use lib.ListN.{get_elem?}
use Rattle.atomic_table.specs.Table.{State}
use Rattle.turnstile.specs.declared.view.View.{View}
use Rattle.turnstile.specs.declared.view.Stage.{Stage}
use Rattle.turnstile.specs.declared.view.Stage.TheVariants.{Idle, Waiting, Inside, Filling}
use Rattle.turnstile.specs.History.{Begins, of_pass, entries, Owned, times, mine_of}

-- What the rule knows beside what the seats know: the history; the seat that drew each ticket; the seat of
-- each pass, and that of the first; how many passes were made; the words; the
-- stage of the turn that was called; and what the slot has while no seat has it
pub record Room (M E : Type 0) : Type 0 where
  pub hist : List (ℕ × E)
  pub holder : ℕ → ℕ
  pub seat_of : ℕ → ℕ
  pub base : ℕ
  pub made : ℕ
  pub drawn : ℕ
  pub served : ℕ
  pub sleepers : ℕ
  pub turn : Stage
  pub home : maybe.Option (Option M)

-- The words of the table. Eight that stay 0 lie on either side of the
-- three, so that 64 bytes are between these and all other memory.
abbrev pub words_of : ℕ → ℕ → ℕ → List ℕ
words_of drawn served sleepers =
    0 ∷ 0 ∷ 0 ∷ 0 ∷ 0 ∷ 0 ∷ 0 ∷ 0 ∷ drawn ∷ served ∷ sleepers ∷ 0 ∷ 0 ∷ 0 ∷ 0 ∷ 0 ∷ 0 ∷ 0 ∷ 0 ∷ []

module _ {M E : Type 0} where
  -- the turns that a seat may still draw tickets for, or give to new passes, which have 2^56 each
  abbrev pub rights : View M E → ℕ
  rights v = v.left + v.spare * 72057594037927936

  abbrev pub total : List (View M E) → ℕ
  total [] = 0
  total (v ∷ vs) = rights v + total vs

  -- the seat i has drawn a ticket that isn't served yet, for a pass
  abbrev pub Queued : Room M E → ℕ → View M E → Type 0
  Queued r i v =
      (r.holder v.ticket ≡ i) × (r.served ≤ v.ticket) × (v.ticket < r.drawn)
      × ((n : ℕ) × (0 < times n v.parts))

  -- the seat's ticket is the one that was called, and the seat has seen the whole history
  abbrev pub Called : Room M E → View M E → Stage → Type 0
  Called r v stage = (v.ticket ≡ r.served) × (r.turn ≡ stage) × (v.seen ≡ r.hist)

  abbrev pub Stands : Room M E → ℕ → View M E → Stage → Type 0
  Stands r i v Idle = Unit {0}
  Stands r i v Waiting = Queued r i v × (v.ticket ≡ r.served → r.turn ≡ Idle)
  Stands r i v Inside = Queued r i v × Called r v Inside
  Stands r i v Filling = Queued r i v × Called r v Filling

  -- what the seat i knows is so
  pub record Fits (start : M) (r : Room M E) (i : ℕ) (v : View M E) : Type 0 where
    pub start_is : (m : M) → v.start ≡ Some m → m ≡ start
    pub first : 0 < v.made → (i ≡ r.base) × (v.made ≡ r.made) × (v.made + v.spare ≡ 64)
    pub later : v.made ≡ 0 → v.spare ≡ 0
    pub seen : Begins r.hist v.seen
    pub heard : (k : ℕ) (h : List (ℕ × E)) → get_elem? v.heard k ≡ some h → Begins r.hist h
    pub stands : Stands r i v v.stage
    pub once : (n : ℕ) → times n v.parts ≤ 1
    pub parts : (n : ℕ) → 0 < times n v.parts → (r.seat_of n ≡ i) × (n < r.made)
        × (of_pass n r.hist ≡ mine_of n v.parts)

  -- the turn that was called is that of a seat at this stage;
  -- with Idle nobody has looked yet, or the ticket isn't drawn
  abbrev pub Busy : List (View M E) → Room M E → Stage → Type 0
  Busy views r Idle = Unit {0}
  Busy views r Waiting = ⊥
  Busy views r Inside =
      (r.served < r.drawn)
      × ((v : View M E) × (get_elem? views (r.holder r.served) ≡ some v) × (v.stage ≡ Inside))
  Busy views r Filling =
      (r.served < r.drawn)
      × ((v : View M E) × (get_elem? views (r.holder r.served) ≡ some v) × (v.stage ≡ Filling))

  module _ (leads : M → List E → M → Type 0) (owner : E → Option ℕ) where
    -- the slot has the value that the history leads to, unless the seat whose turn it is has it
    abbrev pub Slot : M → Room M E → Stage → Type 0
    Slot start r Idle = (m : M) × (r.home ≡ some (Some m)) × leads start (entries r.hist) m
    Slot start r Waiting = ⊥
    Slot start r Inside = Unit {0}
    Slot start r Filling = r.home ≡ some None

    -- No word wraps: the tickets that were drawn and those that may be are 2^62 and the one of `new`
    pub record Kept (start : M) (s : State (Option M) (View M E)) : Type 0 where
      pub room : Room M E
      pub words : s.words ≡ words_of room.drawn room.served room.sleepers
      pub homes : s.homes ≡ room.home ∷ []
      pub slot : Slot start room room.turn
      pub busy : Busy s.views room room.turn
      pub upto : room.served ≤ room.drawn
      pub budget : room.drawn + total s.views ≡ 4611686018427387905
      pub most : room.made ≤ 64
      pub fresh : (n : ℕ) → room.made ≤ n → of_pass n room.hist ≡ []
      pub owned : Owned owner room.hist
      pub each : (i : ℕ) (v : View M E) → get_elem? s.views i ≡ some v → Fits start room i v
