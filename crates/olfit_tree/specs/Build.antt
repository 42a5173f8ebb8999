-- Trees over sorted entries. The nodes of a level have so many of its entries each, one after the
-- other, and the last one has the rest; the next level lies over the low keys and numbers of these nodes.
use Rattle.std.specs.Prelude.{◌≡◌, ℕ, zero, suc, ◌+◌, ◌-◌, ◌*◌, ◌/◌, ◌==◌, ◌<◌, max, nat_le, if◌then◌else◌}
use Rattle.std.specs.Prelude.{Option, List, ◌++◌, length, map, take, drop}
use Rattle.std.specs.Prelude.{slice_get, slice_index, slice_index_or}
use Rattle.std.specs.Option.{option_map}
use Rattle.std.specs.List.{range_with_len}
use Rattle.olfit_nodes.specs.declared.head.Link.{Link}
use Rattle.olfit_nodes.specs.Nodes.{Entry, entries_of, level_of, low_of, right_of, IsClear}
use Rattle.olfit_rule.specs.Tree.{Nodes, node_of}
use Rattle.olfit_rule.specs.Rule.{nodes_in}

-- how many nodes of so many entries each it takes
abbrev pub parts : ℕ → ℕ → ℕ
parts rows each = (rows + (each - 1)) / each

-- how many nodes a level over so many entries has
abbrev pub level_nodes : ℕ → ℕ → ℕ
level_nodes rows each = max 1 (parts rows each)

-- how many nodes the levels above so many nodes have, with 16 entries in
-- each full one; there are no more such levels than the first number
abbrev pub nodes_above : ℕ → ℕ → ℕ
nodes_above zero below = 0
nodes_above (suc levels) below =
    if nat_le below 1 then 0 else parts below 16 + nodes_above levels (parts below 16)

-- how many nodes a tree has over so many entries, with so many
-- in each full leaf and 16 in each full node above
abbrev pub nodes_with : ℕ → ℕ → ℕ
nodes_with rows each = level_nodes rows each + nodes_above (level_nodes rows each) (level_nodes rows each)

-- how many nodes a tree has over so many entries, with 16 in each full node
abbrev pub nodes_over : ℕ → ℕ
nodes_over rows = nodes_with rows 16

-- how many nodes a level has of a tree over so many entries, with so many in each full leaf
abbrev pub nodes_at : ℕ → ℕ → ℕ → ℕ
nodes_at rows each zero = level_nodes rows each
nodes_at rows each (suc below) = level_nodes (nodes_at rows each below) 16

-- how many entries each leaf but the last one gets
abbrev pub per_leaf : ℕ → ℕ → ℕ
per_leaf nodes rows = if nat_le rows (6 * (nodes - 4)) then 8 else 16

-- the low key of the node whose entries begin in this place of its level: 0 where it is the first
abbrev pub low_at : List Entry → ℕ → ℕ
low_at entries place = if place == 0 then 0 else (slice_index_or entries place (0, 0)).0

-- the right neighbour of the node whose entries end before this place
abbrev pub right_at : List Entry → ℕ → ℕ → Option Link
right_at entries place next =
    option_map (λ (e : Entry). record { key = e.0; node = next }) (slice_get entries place)

-- node i of a level over these entries, whose first node has this number
pub record IsPiece (level first each : ℕ) (entries : List Entry) (i : ℕ) (words : List ℕ) : Type 0 where
  pub wide : length words ≡ 64
  pub version : slice_index words 0 ≡ 0
  pub height : level_of words ≡ level
  pub low : low_of words ≡ low_at entries (i * each)
  pub right : right_of words ≡ right_at entries (i * each + each) (first + i + 1)
  pub rows : entries_of words ≡ take each (drop (i * each) entries)
  pub clear : IsClear words

-- so many nodes of a level over these entries
abbrev pub ArePieces : Nodes → ℕ → ℕ → ℕ → List Entry → ℕ → Type 0
ArePieces nodes level first each entries count =
    (i : ℕ) → i < count → IsPiece level first each entries i (node_of nodes (first + i))

-- The words of so many nodes of a level over these entries were put behind those so
-- far. The level's first node has the number `first`; the nodes stay so whatever words follow.
pub record HasPut (level first each : ℕ) (entries : List Entry) (old new : List ℕ) (count : ℕ) : Type 0 where
  pub kept : (more : List ℕ) × (new ≡ old ++ more)
  pub from : length old ≡ first * 64
  pub long : length new ≡ (first + count) * 64
  pub pieces : (rest : List ℕ) → ArePieces (nodes_in (new ++ rest)) level first each entries count

-- the low keys and numbers of so many nodes of a level
abbrev pub leads : ℕ → ℕ → List Entry → ℕ → List Entry
leads first each entries count =
    map (λ (i : ℕ). (low_at entries (i * each), first + i)) (range_with_len 0 count)

-- The nodes are a tree over these rows up to this level, which begins with the node `first` and
-- has `size` of these entries in each full node. Full leaves have so many rows each, and full nodes
-- above them 16 entries. A level lies over more than one node.
abbrev pub IsTree : Nodes → ℕ → List Entry → ℕ → ℕ → ℕ → List Entry → Type 0
IsTree nodes each rows zero size first entries =
    (size ≡ each) × (first ≡ 0) × (entries ≡ rows)
    × ArePieces nodes 0 first size entries (level_nodes (length entries) size)
IsTree nodes each rows (suc below) size first entries =
    (size ≡ 16)
    × ((lower : ℕ) × (start : ℕ) × (under : List Entry)
    × IsTree nodes each rows below lower start under
    × (1 < level_nodes (length under) lower)
    × (first ≡ start + level_nodes (length under) lower)
    × (entries ≡ leads start lower under (level_nodes (length under) lower)))
    × ArePieces nodes (suc below) first size entries (level_nodes (length entries) size)

-- the words are those of a tree of so many nodes over these rows, up to its root, which is the last
-- node; it stays a tree whatever words follow
pub record HoldsTree (words : List ℕ) (each used : ℕ) (rows : List Entry) : Type 0 where
  pub long : length words ≡ used * 64
  pub count : used ≡ nodes_with (length rows) each
  pub tree : (level : ℕ) × (size : ℕ) × (entries : List Entry)
      × (level_nodes (length entries) size ≡ 1)
      × ((rest : List ℕ) → IsTree (nodes_in (words ++ rest)) each rows level size (used - 1) entries)
