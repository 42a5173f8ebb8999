-- An index as its callers see it.
use Rattle.std.specs.Prelude.{◌≡◌, ℕ, ◌+◌, ◌-◌, ◌*◌}
use Rattle.std.specs.Prelude.{◌<◌}
use Rattle.std.specs.Prelude.{◌≤◌, Option, None, Some, IsSome, List, [], ◌∷◌, ◌++◌, length, take, drop}
use Rattle.atomic_table.specs.Seated.{TableId}
use Rattle.key_space.specs.declared.key.Key.{Key}
use Rattle.olfit_nodes.specs.Nodes.{Entry, count_of, entries_of, right_of, Rises}
use Rattle.olfit_rule.specs.declared.view.Change.TheVariants.{Add, Drop}
use Rattle.olfit_rule.specs.declared.view.Moment.{Moment}
use Rattle.olfit_rule.specs.declared.view.View.{View}
use Rattle.olfit_rule.specs.Maps.{map_of, map_after}
use Rattle.olfit_rule.specs.Tree.{node_of, version, IsAt}
use Rattle.olfit_walk.specs.Looks.{entries_of_keys}
use Rattle.olfit_change.specs.Room.{Needs}
use Rattle.olfit_tree.specs.Build.{nodes_at, per_leaf}
use Rattle.olfit_tree.specs.declared.writer.AddFault.{AddFault}
use Rattle.olfit_tree.specs.declared.writer.AddFault.TheVariants.{Present, NodesFull}

-- an index: where its words lie, how many nodes it has, and its number among other indexes
pub record Lain : Type 0 where
  pub table : TableId
  pub nodes : ℕ
  pub number : ℕ

-- a writer: of which index, of which entries it was built, the present
-- moment, how many nodes are in use, and how many keys were added
pub record Writing : Type 0 where
  pub table : TableId
  pub base : List Entry
  pub now : Moment
  pub used : ℕ
  pub inserts : ℕ

-- the map that the writer has made
abbrev pub map_now : Writing → ℕ → Option ℕ
map_now w = map_after (map_of w.base) w.now.log

-- Changes

-- the key is absent, and there are as many nodes as it takes
pub record CanAdd (key limit : ℕ) (w : Writing) : Type 0 where
  pub absent : map_now w key ≡ None
  pub room : (needed : ℕ) × Needs w.now key needed × (w.used + needed ≤ limit)

-- why a key can't be added
abbrev pub CannotAdd : ℕ → AddFault → ℕ → Writing → Type 0
CannotAdd key (Present value) limit w = map_now w key ≡ Some value
CannotAdd key (NodesFull used most built inserts) limit w =
    (map_now w key ≡ None) × ((needed : ℕ) × Needs w.now key needed × (limit < w.used + needed))
    × (used ≡ w.used) × (most ≡ limit) × (built ≡ length w.base) × (inserts ≡ w.inserts)
    × (6 * (limit - 4) ≤ built + inserts)

-- a key was added: one change more
pub record HasAdded (key value : ℕ) (old new : Writing) : Type 0 where
  pub same : (new.table ≡ old.table) × (new.base ≡ old.base)
  pub log : new.now.log ≡ old.now.log ++ Add key value ∷ []
  pub inserts : new.inserts ≡ old.inserts + 1
  pub used : (needed : ℕ) × Needs old.now key needed × (new.used ≡ old.used + needed)

-- a drop returns the value that the key had; where it had none, nothing is changed
abbrev pub HasDropped : ℕ → Option ℕ → Writing → Writing → Type 0
HasDropped key (Some value) old new =
    (map_now old key ≡ Some value) × (new.now.log ≡ old.now.log ++ Drop key ∷ [])
    × (new.table ≡ old.table) × (new.base ≡ old.base) × (new.used ≡ old.used) × (new.inserts ≡ old.inserts)
HasDropped key None old new = (map_now old key ≡ None) × (new ≡ old)

-- The building

-- how many nodes a level of an index for so many nodes has when it is built
abbrev pub built_at : ℕ → Writing → ℕ → ℕ
built_at nodes w level = nodes_at (length w.base) (per_leaf nodes (length w.base)) level

-- Leaf i has so many of the entries of which the index was built, from its place on. Above the leaves a node
-- that has a right neighbour has 16 entries, and the last one of its level has what is left of an entry for
-- each node below.
pub record IsPacked (nodes : ℕ) (w : Writing) : Type 0 where
  pub leaves : (i : ℕ) → IsAt w.now 0 i
      → entries_of (node_of w.now.image i) ≡ take (per_leaf nodes (length w.base))
      (drop (i * per_leaf nodes (length w.base)) w.base)
  pub inner : (level i : ℕ) → IsAt w.now (level + 1) i → IsSome (right_of (node_of w.now.image i))
      → count_of (node_of w.now.image i) ≡ 16
  pub last : (level i : ℕ) → IsAt w.now (level + 1) i → right_of (node_of w.now.image i) ≡ None
      → 16 * (built_at nodes w (level + 1) - 1) + count_of (node_of w.now.image i) ≡ built_at nodes w level

-- no node was changed yet
abbrev pub IsNew : Moment → Type 0
IsNew t = (i : ℕ) → version t.image i ≡ 0

-- The end

-- all entries of the map of a view, by rising keys
pub record HasAll (rows : List (Key × ℕ)) (v : View) : Type 0 where
  pub rises : Rises (entries_of_keys rows)
  pub each : (key : ℕ) → map_of (entries_of_keys rows) key ≡ map_after (map_of v.base) v.seen.log key

-- all entries of the map, by rising keys
pub record IsAllOf (w : Writing) (rows : List (Key × ℕ)) : Type 0 where
  pub rises : Rises (entries_of_keys rows)
  pub each : (key : ℕ) → map_of (entries_of_keys rows) key ≡ map_now w key
