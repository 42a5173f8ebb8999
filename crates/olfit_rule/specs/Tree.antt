-- What the nodes of an index are at one moment, and when they stand for a map.
-- A link leads to a node where the root word, a right link or an entry of an inner node names
-- it. Each level is a chain of nodes from the one with the low key 0 along the right links.
use Rattle.std.specs.Prelude.{◌≡◌, ℕ, ◌+◌, ◌<◌, ◌≤◌, ◌==◌, if◌then◌else◌, Option, None, Some, IfSome, List}
use Rattle.std.specs.Prelude.{[], ◌∷◌, length, map, slice_index, slice_get, slice_index_or, slice_set}
use Rattle.std.specs.Option.{ForSome}
use Rattle.std.specs.List.{All, flat_map}
use Rattle.olfit_nodes.specs.declared.head.Link.{Link}
use Rattle.olfit_nodes.specs.Nodes.{Entry, count_of, entries_of, level_of, low_of, right_of, Rises}
use Rattle.olfit_rule.specs.declared.view.Moment.{Moment}
use Rattle.olfit_rule.specs.Maps.{map_of, map_after, IsLegal}

-- the words of each node
abbrev pub Nodes : Type 0
Nodes = List (List ℕ)

abbrev pub node_of : Nodes → ℕ → List ℕ
node_of nodes i = slice_index_or nodes i []

abbrev pub word_of : Nodes → ℕ → ℕ → ℕ
word_of nodes i k = slice_index (node_of nodes i) k

abbrev pub version : Nodes → ℕ → ℕ
version nodes i = word_of nodes i 0

-- the least key that belongs into a node
abbrev pub low : Moment → ℕ → ℕ
low t i = low_of (node_of t.image i)

-- a link leads to the node, which is so far above the leaves
abbrev pub IsAt : Moment → ℕ → ℕ → Type 0
IsAt t level i = (i < length t.image) × (slice_index t.levels i ≡ level + 1)

-- the key belongs into the node: it isn't below the low key, and below that of the right neighbour
pub record Covers (t : Moment) (i key : ℕ) : Type 0 where
  pub above : low t i ≤ key
  pub below : ForSome (right_of (node_of t.image i)) (λ (link : Link). key < link.key)

-- an inner node: its first entry has its low key, and each entry
-- leads to a node one level below with the entry's key as low key
pub record IsInner (t : Moment) (level i : ℕ) (entries : List Entry) : Type 0 where
  pub first : IfSome (slice_get entries 0) (λ (e : Entry). e.0 ≡ low t i)
  pub some : 0 < length entries
  pub children : All (λ (e : Entry). IsAt t level e.1 × (low t e.1 ≡ e.0)) entries

-- a node to which a link leads, so far above the leaves
pub record IsNode (base : List Entry) (t : Moment) (level i : ℕ) : Type 0 where
  pub height : level_of (node_of t.image i) ≡ level
  pub few : count_of (node_of t.image i) ≤ 16
  pub rises : Rises (entries_of (node_of t.image i))
  pub inside : All (λ (e : Entry). Covers t i e.0) (entries_of (node_of t.image i))
  pub right : ForSome (right_of (node_of t.image i))
      (λ (link : Link). IsAt t level link.node × (low t link.node ≡ link.key) × (low t i < link.key))
  -- a leaf says of each key that belongs into it what the map says
  pub leaf : level ≡ 0 → (key : ℕ) → Covers t i key
      → map_of (entries_of (node_of t.image i)) key ≡ map_after (map_of base) t.log key
  pub inner : (below : ℕ) → level ≡ below + 1 → IsInner t below i (entries_of (node_of t.image i))

-- the nodes stand for the map after the changes so far
pub record Good (base : List Entry) (t : Moment) : Type 0 where
  pub sized : length t.levels ≡ length t.image
  pub first : IsAt t 0 0 × (low t 0 ≡ 0)
  pub root : (level : ℕ) × IsAt t level t.root × (low t t.root ≡ 0)
  pub nodes : (level i : ℕ) → IsAt t level i → IsNode base t level i
  -- a key belongs into one node of each level
  pub alone : (level i j key : ℕ) → IsAt t level i → IsAt t level j → Covers t i key → Covers t j key → i ≡ j
  pub legal : IsLegal (map_of base) t.log

-- what lasts: a node to which a link leads has its level and its low key for ever
pub record Lasts (a b : Moment) : Type 0 where
  pub at : (level i : ℕ) → IsAt a level i → IsAt b level i
  pub low : (level i : ℕ) → IsAt a level i → low b i ≡ low a i

-- the entries of the leaves, node by node
abbrev pub leaf_entries : Nodes → List Entry
leaf_entries nodes = flat_map (λ (words : List ℕ). if level_of words == 0 then entries_of words else []) nodes

-- the level of a node to which a link leads, plus 1, where such nodes have entries
abbrev pub mark_of : List ℕ → ℕ
mark_of words = if count_of words == 0 then 0 else level_of words + 1

-- the levels at the opening: a link leads to node 0 and to each node that has entries
abbrev pub levels_of : Nodes → List ℕ
levels_of [] = []
levels_of (words ∷ nodes) = (level_of words + 1) ∷ map mark_of nodes

-- the levels where a link leads to a right neighbour
abbrev pub linked_to : List ℕ → ℕ → Option Link → List ℕ
linked_to levels level None = levels
linked_to levels level (Some link) = slice_set levels link.node (level + 1)

-- the levels once the words of a node count
abbrev pub levels_with : List ℕ → List ℕ → List ℕ
levels_with levels words = linked_to levels (level_of words) (right_of words)
