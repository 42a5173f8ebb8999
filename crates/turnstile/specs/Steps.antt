-- What each step of the turnstile does to the seat that makes it, and how seats are split and joined.
use Rattle.std.specs.Prelude.{◌≡◌, ◌≢◌, ℕ, ◌+◌, ◌-◌, ◌<◌, List, [], ◌∷◌, ◌++◌, Option, Some, None}
use mathlib.Core.Option.{some}
use lib.ListN.{get_elem?}
use Rattle.atomic_table.specs.Table.{Me}
use Rattle.atomic_table.specs.Seated.{TableId}
use Rattle.atomic_table.specs.declared.shared.Seat.{Seat}
use Rattle.turnstile.specs.declared.view.View.{View}
use Rattle.turnstile.specs.declared.view.Stage.{Stage}
use Rattle.turnstile.specs.declared.view.Stage.TheVariants.{Idle, Waiting, Inside, Filling}
use Rattle.turnstile.specs.History.{Begins, of_pass, entries, tagged, Owned, times, mine_of}

module _ {E : Type 0} where
  abbrev pub number_of : List (ℕ × List E) → ℕ
  number_of [] = 0
  number_of (x ∷ xs) = x.0

  abbrev pub first_mine : List (ℕ × List E) → List E
  first_mine [] = []
  first_mine (x ∷ xs) = x.1

  -- the seat has one pass
  abbrev pub IsOne : List (ℕ × List E) → Type 0
  IsOne ps = ps ≡ (number_of ps, first_mine ps) ∷ []

module _ {M E : Type 0} where
  -- The seat of `new`, with the ticket 0. The first pass has 2^56 turns, and may make 63 others
  abbrev pub first_view : M → View M E
  first_view m =
      record {
        start = Some m;
        made = 1;
        left = 72057594037927936;
        spare = 63;
        stage = Filling;
        ticket = 0;
        seen = [];
        heard = [];
        parts = (0, []) ∷ [];
      }

  -- what is left of a seat that was joined to another
  abbrev pub spent_view : View M E
  spent_view =
      record {
        start = None;
        made = 0;
        left = 0;
        spare = 0;
        stage = Idle;
        ticket = 0;
        seen = [];
        heard = [];
        parts = [];
      }

  -- the first pass after it made another
  abbrev pub after_pass : View M E → View M E
  after_pass v = record v { made = v.made + 1; spare = v.spare - 1 }

  abbrev pub new_pass : View M E → View M E
  new_pass v =
      record {
        start = v.start;
        made = 0;
        left = 72057594037927936;
        spare = 0;
        stage = Idle;
        ticket = 0;
        seen = v.seen;
        heard = [];
        parts = (v.made, []) ∷ [];
      }

  -- a note has no pass, and says what a seat has seen
  abbrev pub note : View M E → View M E
  note v =
      record {
        start = v.start;
        made = 0;
        left = 0;
        spare = 0;
        stage = Idle;
        ticket = 0;
        seen = v.seen;
        heard = [];
        parts = [];
      }

  -- the first seat, with what the second had
  abbrev pub joined : View M E → View M E → View M E
  joined v w =
      record {
        start = v.start;
        made = v.made + w.made;
        left = v.left + w.left;
        spare = v.spare + w.spare;
        stage =
            v.stage;
        ticket =
            v.ticket;
        seen = v.seen;
        heard = v.heard ++ w.seen ∷ w.heard;
        parts = w.parts ++ v.parts;
      }

  abbrev pub with_ticket : View M E → ℕ → View M E
  with_ticket v n = record v { stage = Waiting; ticket = n; left = v.left - 1 }

  abbrev pub staged : View M E → Stage → View M E
  staged v stage = record v { stage = stage }

  -- the seat has seen this history
  abbrev pub seeing : View M E → List (ℕ × E) → View M E
  seeing v h = record v { seen = h }

  -- the seat is inside, and has seen this history
  abbrev pub entered : View M E → List (ℕ × E) → View M E
  entered v h = record v { stage = Inside; seen = h }

  -- the turn has ended, and its one pass has made these entries
  abbrev pub with_entries : View M E → List E → View M E
  with_entries v es =
      record v {
        stage = Idle;
        seen = v.seen ++ tagged (number_of v.parts) es;
        parts = (number_of v.parts, first_mine v.parts ++ es) ∷ [];
      }

  -- the history has of each of the seat's passes what the seat knows of it
  abbrev pub Knows : View M E → List (ℕ × E) → Type 0
  Knows v h = (n : ℕ) → 0 < times n v.parts → of_pass n h ≡ mine_of n v.parts

  -- the history begins with all that the seat has seen and heard
  abbrev pub AllHeard : View M E → List (ℕ × E) → Type 0
  AllHeard v h = Begins h v.seen × ((k : ℕ) (x : List (ℕ × E)) → get_elem? v.heard k ≡ some x → Begins h x)

  abbrev pub draws : Me (Option M) (View M E) → ℕ → Me (Option M) (View M E) → Type 0
  draws m n w = w ≡ (with_ticket m.0 n, m.1)

  abbrev pub opens : Me (Option M) (View M E) → Me (Option M) (View M E) → Type 0
  opens m w = w ≡ (staged m.0 Inside, (0, None) ∷ [])

  abbrev pub serves : List E → Me (Option M) (View M E) → Me (Option M) (View M E) → Type 0
  serves es m w = w ≡ (with_entries m.0 es, [])

  -- the seat sees what has happened so far
  abbrev pub learns : (E → Option ℕ) → Me (Option M) (View M E) → Me (Option M) (View M E) → Type 0
  learns owner m w =
      (h : List (ℕ × E)) × (w ≡ (seeing m.0 h, m.1)) × AllHeard m.0 h × Knows m.0 h × Owned owner h

  module _ (leads : M → List E → M → Type 0) (owner : E → Option ℕ) where
    -- the seat is inside: it has the value, and sees the history that leads to it
    abbrev pub IsCalled : Me (Option M) (View M E) → Me (Option M) (View M E) → Type 0
    IsCalled m w =
        (h : List (ℕ × E)) × (x : M) × (w ≡ (entered m.0 h, (0, Some x) ∷ [])) × AllHeard m.0 h × Knows m.0 h
        × Owned owner h
        × ((start : M) → m.0.start ≡ Some start → leads start (entries h) x)

    -- the seat is called exactly where the number found is its ticket
    abbrev pub looks : Me (Option M) (View M E) → ℕ → Me (Option M) (View M E) → Type 0
    looks m n w = (n ≡ m.0.ticket → IsCalled m w) × (n ≢ m.0.ticket → w ≡ m)

  -- the seat is one of this table, at this stage
  abbrev pub IsOf : TableId → Seat (Option M) (View M E) → Stage → Type 0
  IsOf table seat stage = (seat.table_id ≡ table) × (table.words ≡ 19) × (seat.me.0.stage ≡ stage)

  -- the seat waits with this ticket at the table that was made with this value, and has no slot
  abbrev pub WaitsWith : TableId → M → Seat (Option M) (View M E) → ℕ → Type 0
  WaitsWith table first seat ticket =
      IsOf table seat Waiting × (seat.me.0.ticket ≡ ticket) × (seat.me.0.start ≡ Some first)
      × (seat.me.1 ≡ [])

  -- the seat is still one of its table, and knows and has this
  abbrev pub Becomes : Seat (Option M) (View M E) → Seat (Option M) (View M E) → Me (Option M) (View M E)
      → Type 0
  Becomes old new me = (new.table_id ≡ old.table_id) × (new.me ≡ me)
