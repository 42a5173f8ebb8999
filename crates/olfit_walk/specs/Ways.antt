-- The way from the root to the node of a level into which a key belongs.
use Rattle.std.specs.Prelude.{◌≡◌, ◌≢◌, ℕ, ◌*◌, ◌+◌, ◌-◌, ◌^◌, ◌<◌, ◌≤◌, ◌⊎◌, Option, None, Some, List}
use Rattle.std.specs.Prelude.{slice_index}
use Rattle.std.specs.Option.{ForSome}
use Rattle.key_space.specs.declared.key.Key.{Key}
use Rattle.olfit_nodes.specs.declared.head.Link.{Link}
use Rattle.olfit_nodes.specs.Nodes.{child_in, count_of, entries_of, entry_at, level_of, right_of}
use Rattle.olfit_rule.specs.declared.view.Moment.{Moment}
use Rattle.olfit_rule.specs.declared.view.View.{View}
use Rattle.olfit_rule.specs.Maps.{map_of}
use Rattle.olfit_rule.specs.Tree.{node_of, low, IsAt, Covers}
use Rattle.olfit_rule.specs.Rule.{IsAgain}
use Rattle.olfit_walk.specs.declared.answers.Look.{Look}
use Rattle.olfit_walk.specs.declared.answers.Look.TheVariants.{Found as FoundLook, Absent}
use Rattle.olfit_walk.specs.declared.looks.Way.{Way}
use Rattle.olfit_walk.specs.declared.looks.Way.TheVariants.{Leaf, Again}
use Rattle.olfit_walk.specs.declared.looks.End.{End}
use Rattle.olfit_walk.specs.declared.looks.End.TheVariants.{Found, Again as Stopped}
use Rattle.olfit_walk.specs.declared.seek.Turn.{Turn}
use Rattle.olfit_walk.specs.declared.seek.Turn.TheVariants.{Next, Value, Again as Torn}

-- no right neighbour has the key
abbrev pub IsBelowRight : List ℕ → ℕ → Type 0
IsBelowRight words key = ForSome (right_of words) (λ (link : Link). key < link.key)

-- the node that follows on the way: the right neighbour where the
-- key isn't below its low key, else the child; none at the end
abbrev pub IsNext : List ℕ → ℕ → ℕ → Option ℕ → Type 0
IsNext words target key (Some next) =
    ((link : Link) × (right_of words ≡ Some link) × (link.key ≤ key) × (next ≡ link.node))
    ⊎ (IsBelowRight words key × (level_of words ≢ target) × (child_in key (entries_of words) ≡ Some next))
IsNext words target key None =
    IsBelowRight words key × ((level_of words ≡ target) ⊎ (child_in key (entries_of words) ≡ None))

-- so many of the first entries have keys of at most this, and the next one has a greater key
pub record IsUpto (words : List ℕ) (key upto : ℕ) : Type 0 where
  pub within : upto ≤ count_of words
  pub below : (i : ℕ) → i < upto → (entry_at words i).0 ≤ key
  pub above : upto < count_of words → key < (entry_at words upto).0

-- what the entries say of a key: the child, or in a leaf the value; where they lead nowhere they don't have it
abbrev pub IsSaid : List ℕ → ℕ → Turn → Type 0
IsSaid words key (Next node) = (level_of words ≢ 0) × (child_in key (entries_of words) ≡ Some node)
IsSaid words key (Value value) =
    ((level_of words ≡ 0) ⊎ (child_in key (entries_of words) ≡ None))
    × (value ≡ map_of (entries_of words) key)
IsSaid words key (Torn first second) = ⊥

-- where the way to the leaf of a key goes on, or at its end what the entries say of the key
abbrev pub IsTurn : List ℕ → ℕ → Turn → Type 0
IsTurn words key (Next node) = IsNext words 0 key (Some node)
IsTurn words key (Value value) = IsNext words 0 key None × (value ≡ map_of (entries_of words) key)
IsTurn words key (Torn first second) = ⊥

-- the way goes on as the node's words said at the moment that was seen, or the node is to be read again
abbrev pub TurnsAt : ℕ → ℕ → Turn → View → Type 0
TurnsAt i key (Next node) v = IsTurn (node_of v.seen.image i) key (Next node)
TurnsAt i key (Value value) v = IsTurn (node_of v.seen.image i) key (Value value)
TurnsAt i key (Torn first second) v = IsAgain i first second v

-- what the leaf into which the key belongs says of it, or a node is to be read again
abbrev pub HasFound : ℕ → End → View → Type 0
HasFound key (Found value) v =
    (node : ℕ) × IsAt v.seen 0 node × Covers v.seen node key
    × (value ≡ map_of (entries_of (node_of v.seen.image node)) key)
HasFound key (Stopped node first second) v = IsAgain node first second v

-- the way has come to a node: a link leads to it, and the key isn't below its low key
abbrev pub IsOnWay : Moment → ℕ → ℕ → ℕ → Type 0
IsOnWay t target key node = (level : ℕ) × IsAt t level node × (target ≤ level) × (low t node ≤ key)

-- how far the way still is: levels count more than keys
abbrev pub distance : Moment → ℕ → ℕ → ℕ
distance t key node = slice_index t.levels node * 2 ^ 128 + (key - low t node)

-- the words are those of the leaf into which the key belongs, or a node is to be read again
abbrev pub HasCome : ℕ → List ℕ → Way → View → Type 0
HasCome key words Leaf v =
    (node : ℕ) × IsAt v.seen 0 node × Covers v.seen node key × (words ≡ node_of v.seen.image node)
HasCome key words (Again node first second) v = IsAgain node first second v

-- what a look-up returns that found this of a key
abbrev pub look_of : Key → Option ℕ → ℕ → Look
look_of key (Some value) known = FoundLook record { key = key; value = Some value; known = known }
look_of key None known = Absent record { key = key; value = None; known = known }
