-- How many new nodes an entry takes.
use Rattle.std.specs.Prelude.{◌≡◌, ℕ, ◌+◌, ◌-◌, ◌*◌, ◌==◌, if◌then◌else◌, ◌<◌, ◌≤◌, ◌⊎◌, List, slice_index}
use Rattle.std.specs.Prelude.{sum_by}
use Rattle.olfit_nodes.specs.Nodes.{count_of, level_of}
use Rattle.olfit_rule.specs.declared.view.Moment.{Moment}
use Rattle.olfit_rule.specs.Tree.{node_of, IsAt, Covers}

-- the node of each level from one to below another into which the key belongs has 16 entries
abbrev pub IsFullBetween : Moment → ℕ → ℕ → ℕ → Type 0
IsFullBetween t from upto key =
    (level i : ℕ) → from ≤ level → level < upto → IsAt t level i → Covers t i key
    → count_of (node_of t.image i) ≡ 16

-- the node of this level into which the key belongs has fewer than 16 entries
abbrev pub HasRoomAt : Moment → ℕ → ℕ → Type 0
HasRoomAt t level key = (i : ℕ) × IsAt t level i × Covers t i key × (count_of (node_of t.image i) < 16)

-- How many new nodes an entry for the key at this level takes: one for each full
-- node from this level upwards, and one more where the root is full.
pub record NeedsFrom (t : Moment) (level key needed : ℕ) : Type 0 where
  pub top : (top : ℕ) × IsAt t top t.root
      × (((level + needed ≤ top) × IsFullBetween t level (level + needed) key
      × HasRoomAt t (level + needed) key)
      ⊎ ((level + needed ≡ top + 2) × IsFullBetween t level (top + 1) key))

-- how many new nodes an entry for the key takes
abbrev pub Needs : Moment → ℕ → ℕ → Type 0
Needs t key needed = NeedsFrom t 0 key needed

-- how far a node is on its way to a split: its entries above nine, twice above the leaves
abbrev pub weight : List ℕ → ℕ
weight words = (count_of words - 9) * (if level_of words == 0 then 1 else 2)

-- how far all nodes are on their way to splits
abbrev pub weights : Moment → ℕ
weights t = sum_by weight t.image

-- Keys pay for nodes: six for each node in use, up to a number that doesn't
-- grow. Where the root is a leaf, four are left for a root above it.
pub record IsPaid (used keys : ℕ) (t : Moment) : Type 0 where
  pub nodes : 6 * used + weights t ≤ keys + 25
  pub leaf : slice_index t.levels t.root ≡ 1 → 6 * used + weights t + 4 ≤ keys + 25

-- The nodes are paid for while an entry is still to be put above a
-- leaf that was split, and so is that entry or a new root.
pub record IsOwed (used keys : ℕ) (t : Moment) : Type 0 where
  pub entry : 6 * used + weights t + 2 ≤ keys + 25
  pub leaf : slice_index t.levels t.root ≡ 1 → 6 * used + weights t + 6 ≤ keys + 25
