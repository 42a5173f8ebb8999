-- What the writer keeps of the nodes between its calls, and how a call changes them.
use Rattle.std.specs.Prelude.{◌≡◌, ◌≢◌, ◌⊎◌, ℕ, ◌*◌, ◌+◌, ◌^◌, ◌<◌, ◌≤◌, Option, None, Some, List, []}
use Rattle.std.specs.Prelude.{◌∷◌, ◌++◌, length, slice_index, slice_set}
use Rattle.std.specs.List.{All, Contains}
use Rattle.atomic_table.specs.Seated.{TableId}
use Rattle.atomic_table.specs.declared.shared.Seat.{Seat}
use Rattle.olfit_nodes.specs.declared.head.Link.{Link}
use Rattle.olfit_nodes.specs.Nodes.{Entry, entries_of, right_of, IsClear}
use Rattle.olfit_rule.specs.declared.view.Change.{Change}
use Rattle.olfit_rule.specs.declared.view.Change.TheVariants.{Add, Drop}
use Rattle.olfit_rule.specs.declared.view.Moment.{Moment}
use Rattle.olfit_rule.specs.declared.view.View.{View}
use Rattle.olfit_rule.specs.Maps.{map_of}
use Rattle.olfit_rule.specs.Tree.{node_of, low, version, Good, IsAt, Covers}
use Rattle.olfit_rule.specs.Rule.{IsAtRest, IsSame}
use Rattle.olfit_change.specs.Room.{weight, weights, Needs, NeedsFrom, IsOwed, IsPaid}

-- the writer is at rest, its nodes stand for its map, and the table has so many of them
pub record IsReady (table : TableId) (nodes : ℕ) (seat : Seat ℕ View) : Type 0 where
  pub table_is : seat.table_id ≡ table
  pub rest : IsAtRest seat.me.0
  pub good : Good seat.me.0.base seat.me.0.seen
  pub count : length seat.me.0.seen.image ≡ nodes
  pub sized : (0 < nodes) × (nodes < 2 ^ 32) × (table.words ≡ nodes * 64 + 1)

-- the writer knows what it knew
abbrev pub Stays : Seat ℕ View → Seat ℕ View → Type 0
Stays old new = IsSame old new × (new.me.0 ≡ old.me.0)

-- no link leads to the nodes from this one on, and none of them was
-- changed; no node lies above the root, which is lower than that number
pub record IsFreeFrom (used : ℕ) (t : Moment) : Type 0 where
  pub most : (0 < used) × (used ≤ length t.image)
  pub linked : (level i : ℕ) → IsAt t level i → i < used
  pub fresh : (i : ℕ) → used ≤ i → version t.image i ≡ 0
  pub top : (level i : ℕ) → IsAt t level i → level < slice_index t.levels t.root
  pub tall : slice_index t.levels t.root ≤ used

-- the level above has an entry that leads to the node: its low key, with its number
abbrev pub HasEntryAbove : Moment → ℕ → ℕ → Type 0
HasEntryAbove t level i = (above : ℕ) × IsAt t (level + 1) above
    × Contains (entries_of (node_of t.image above)) (low t i, i)

-- a node is the root, or the level above was told of it
abbrev pub IsToldOf : Moment → ℕ → ℕ → Type 0
IsToldOf t level i = (i ≡ t.root) ⊎ HasEntryAbove t level i

-- each node to which a link leads, but the root, has its entry in the level above
abbrev pub IsTold : Moment → Type 0
IsTold t = (level i : ℕ) → IsAt t level i → IsToldOf t level i

-- words 55 to 63 of each node are 0
abbrev pub IsClean : Moment → Type 0
IsClean t = (i : ℕ) → i < length t.image → IsClear (node_of t.image i)

-- no version is greater than twice the changes so far
abbrev pub HasLowVersions : Moment → Type 0
HasLowVersions t = (i : ℕ) → version t.image i ≤ 2 * length t.log

-- an entry may be put into the node: its key belongs there and is absent; in a leaf that
-- adds a key to the map, and above the leaves the key is the low key of a node one level below
pub record MayPut (changes : List Change) (node key value : ℕ) (v : View) : Type 0 where
  pub at : (level : ℕ) × IsAt v.seen level node
  pub covers : Covers v.seen node key
  pub absent : map_of (entries_of (node_of v.seen.image node)) key ≡ None
  pub leaf : IsAt v.seen 0 node → changes ≡ Add key value ∷ []
  pub inner : (below : ℕ) → IsAt v.seen (below + 1) node
      → (changes ≡ []) × IsAt v.seen below value × (low v.seen value ≡ key)

-- these changes were made, by one change of the entries of one node, which above the leaves loses none
pub record IsChangedAt (node : ℕ) (changes : List Change) (v w : View) : Type 0 where
  pub base : w.base ≡ v.base
  pub log : w.seen.log ≡ v.seen.log ++ changes
  pub levels : w.seen.levels ≡ v.seen.levels
  pub root : w.seen.root ≡ v.seen.root
  pub low : low w.seen node ≡ low v.seen node
  pub right : right_of (node_of w.seen.image node) ≡ right_of (node_of v.seen.image node)
  pub kept : (below : ℕ) → IsAt v.seen (below + 1) node
      → All (Contains (entries_of (node_of w.seen.image node))) (entries_of (node_of v.seen.image node))
  pub clear : IsClear (node_of v.seen.image node) → IsClear (node_of w.seen.image node)
  pub others : (i : ℕ) → i ≢ node → node_of w.seen.image i ≡ node_of v.seen.image i
  pub version : version w.seen.image node ≡ version v.seen.image node + 2
  pub cost : weights w.seen + weight (node_of v.seen.image node)
      ≡ weights v.seen + weight (node_of w.seen.image node)

-- the entries of a node and, behind them, those of the node that was split off it
abbrev pub both_entries : Moment → ℕ → Link → List Entry
both_entries t node link = entries_of (node_of t.image node) ++ entries_of (node_of t.image link.node)

-- these changes were made, and the node was split: the link leads to a new node of
-- the same level, which has the keys from the link's on that belonged into the node
pub record IsSplitAt (node : ℕ) (link : Link) (changes : List Change) (v w : View) : Type 0 where
  pub base : w.base ≡ v.base
  pub log : w.seen.log ≡ v.seen.log ++ changes
  pub levels : w.seen.levels ≡ slice_set v.seen.levels link.node (slice_index v.seen.levels node)
  pub root : w.seen.root ≡ v.seen.root
  pub covers : Covers v.seen node link.key
  pub above : low v.seen node < link.key
  pub low : (low w.seen node ≡ low v.seen node) × (low w.seen link.node ≡ link.key)
  pub right : (right_of (node_of w.seen.image node) ≡ Some link)
      × (right_of (node_of w.seen.image link.node) ≡ right_of (node_of v.seen.image node))
  pub kept : All (Contains (both_entries w.seen node link)) (entries_of (node_of v.seen.image node))
  pub clear : IsClear (node_of v.seen.image node)
      → IsClear (node_of w.seen.image node) × IsClear (node_of w.seen.image link.node)
  pub others : (i : ℕ) → i ≢ node → i ≢ link.node → node_of w.seen.image i ≡ node_of v.seen.image i
  pub versions : (version w.seen.image node ≡ version v.seen.image node + 2)
      × (version w.seen.image link.node ≡ version v.seen.image link.node + 2)
  pub lighter : weights w.seen + weight (node_of v.seen.image node) ≤ weights v.seen

-- a new root was made, one level above the old one
pub record IsGrown (top fresh : ℕ) (v w : View) : Type 0 where
  pub base : w.base ≡ v.base
  pub log : w.seen.log ≡ v.seen.log
  pub levels : w.seen.levels ≡ slice_set v.seen.levels fresh (top + 2)
  pub root : w.seen.root ≡ fresh
  pub right : right_of (node_of w.seen.image fresh) ≡ None
  pub clear : IsClear (node_of w.seen.image fresh)
  pub others : (i : ℕ) → i ≢ fresh → node_of w.seen.image i ≡ node_of v.seen.image i
  pub version : version w.seen.image fresh ≡ version v.seen.image fresh + 2
  pub lighter : weights w.seen ≤ weights v.seen

-- the writer is between two of its calls, with so many nodes in use
pub record IsBetweenCalls (table : TableId) (nodes used : ℕ) (seat : Seat ℕ View) : Type 0 where
  pub ready : IsReady table nodes seat
  pub free : IsFreeFrom used seat.me.0.seen
  pub told : IsTold seat.me.0.seen
  pub clean : IsClean seat.me.0.seen
  pub versions : HasLowVersions seat.me.0.seen

-- An entry for a node that was split off below is still to be put into a level: into the
-- node into which the key belongs, which hasn't the entry yet. No node from there up was
-- changed for it, and of every other node the level above was told.
pub record IsLinking (level key : ℕ) (link : Link) (used : ℕ) (t : Moment) : Type 0 where
  pub free : IsFreeFrom used t
  pub told : (l i : ℕ) → IsAt t l i → i ≢ link.node → IsToldOf t l i
  pub clean : IsClean t
  pub versions : HasLowVersions t
  pub above : (l i : ℕ) → level ≤ l → IsAt t l i → version t.image i + 2 ≤ 2 * length t.log
  pub child : (below : ℕ) × (level ≡ below + 1) × IsAt t below link.node × (low t link.node ≡ link.key)
  pub some : (0 < link.key) × (0 < length t.log)
  pub fresh : (i : ℕ) → IsAt t level i → map_of (entries_of (node_of t.image i)) link.key ≡ None
  pub belongs : (i : ℕ) → IsAt t level i → Covers t i key → Covers t i link.key

-- a leaf had room for a key: no node is taken for it
pub record IsPutIn (used key : ℕ) (old new : Moment) : Type 0 where
  pub needs : Needs old key 0
  pub paid : (keys : ℕ) → IsPaid used keys old → IsPaid used (keys + 1) new

-- A leaf was split for a key, and the entry of the new leaf is still to be put above. There are nodes for
-- that, one fewer than the key takes in all, and they are paid for.
pub record IsLeftAbove (nodes used key : ℕ) (link : Link) (old new : Moment) : Type 0 where
  pub linking : IsLinking 1 key link (used + 1) new
  pub room : (needed : ℕ) × NeedsFrom new 1 key needed × (used + 1 + needed ≤ nodes)
  pub needs : (more : ℕ) → NeedsFrom new 1 key more → Needs old key (more + 1)
  pub owed : (keys : ℕ) → IsPaid used keys old → IsOwed (used + 1) (keys + 1) new

-- the levels from one upwards are the same at two moments
pub record SameFrom (level : ℕ) (t u : Moment) : Type 0 where
  pub root : u.root ≡ t.root
  pub on : (l i : ℕ) → level ≤ l → IsAt t l i → IsAt u l i
  pub back : (l i : ℕ) → level ≤ l → IsAt u l i → IsAt t l i
  pub words : (l i : ℕ) → level ≤ l → IsAt t l i → node_of u.image i ≡ node_of t.image i

-- the changes after a key was taken out
abbrev pub TakesFromLog : ℕ → Option ℕ → List Change → List Change → Type 0
TakesFromLog key (Some value) old new = new ≡ old ++ Drop key ∷ []
TakesFromLog key None old new = new ≡ old
