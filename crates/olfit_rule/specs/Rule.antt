-- The rule of the table of an index, and what each step tells.
-- The words of node i lie from i * 64 on; the word behind the last node is the number of
-- the root. A node's word 0 is its version, which is odd while the writer changes the node.
use Rattle.std.specs.Prelude.{◌≡◌, ◌≢◌, ℕ, ◌+◌, ◌*◌, ◌/◌, ◌%◌, ◌^◌, ◌<◌, ◌≤◌, ◌==◌, ◌⊎◌, if◌then◌else◌, List, []}
use Rattle.std.specs.Prelude.{◌++◌, length, map}
use Rattle.std.specs.Prelude.{take, drop, slice_index, slice_set, true, false}
use mathlib.Core.Option.{some}
use lib.ListN.{get_elem?}
use Rattle.std.specs.List.{range_with_len}
use Rattle.atomic_table.specs.Table.{State, Me, Step}
use Rattle.atomic_table.specs.Seated.{TableId}
use Rattle.atomic_table.specs.declared.shared.Seat.{Seat}
use Rattle.olfit_nodes.specs.Nodes.{Entry, level_of}
use Rattle.olfit_rule.specs.declared.view.Change.{Change}
use Rattle.olfit_rule.specs.declared.view.Moment.{Moment}
use Rattle.olfit_rule.specs.declared.view.View.{View}
use Rattle.olfit_rule.specs.declared.steps.Read.{Read}
use Rattle.olfit_rule.specs.declared.steps.Read.TheVariants.{Whole, Again}
use Rattle.olfit_rule.specs.Maps.{StartsWith}
use Rattle.olfit_rule.specs.Tree.{Nodes, node_of, word_of, version, Good, Lasts, leaf_entries, levels_of}
use Rattle.olfit_rule.specs.Tree.{levels_with}

-- the nodes with b in word k of node i
abbrev pub put : Nodes → ℕ → ℕ → ℕ → Nodes
put nodes i k b = slice_set nodes i (slice_set (node_of nodes i) k b)

-- the words are those of the nodes, and behind them the number of the root
pub record Lies (words : List ℕ) (nodes : Nodes) (root : ℕ) : Type 0 where
  pub count : length words ≡ length nodes * 64 + 1
  pub last : slice_index words (length nodes * 64) ≡ root
  pub wide : (i : ℕ) → i < length nodes → length (node_of nodes i) ≡ 64
  pub each : (i k : ℕ) → i < length nodes → k < 64 → slice_index words (i * 64 + k) ≡ word_of nodes i k

-- a node that isn't latched counts as it is, and a latched one has a later version than it counts with
pub record Counts (nodes image : Nodes) : Type 0 where
  pub count : length image ≡ length nodes
  pub unlatched : (i : ℕ) → version nodes i % 2 ≡ 0 → node_of nodes i ≡ node_of image i
  pub older : (i : ℕ) → version image i ≤ version nodes i

-- from an earlier moment to a later one: versions don't fall, a node with the
-- same version is the same, and the later changes begin with the earlier ones
pub record Later (a b : Moment) : Type 0 where
  pub count : 0 < length a.image → length a.image ≡ length b.image
  pub begins : StartsWith b.log a.log
  pub older : (i : ℕ) → i < length a.image → version a.image i ≤ version b.image i
  pub same : (i : ℕ) → i < length a.image → version a.image i ≡ version b.image i
      → node_of a.image i ≡ node_of b.image i
  pub lasts : Lasts a b

-- what a seat knows is so: the writer's is the present moment, any other's an earlier one
pub record Knows (nodes : Nodes) (now : Moment) (base : List Entry) (writer seat : ℕ)
    (v : View) : Type 0 where
  pub own : v.writes ≡ true → (seat ≡ writer) × (v.words ≡ nodes) × (v.seen ≡ now)
  pub built : 0 < length v.seen.image → (v.base ≡ base) × (v.met ≡ base)
  pub later : Later v.seen now
  pub told : StartsWith now.log v.told
  pub last : v.last ≤ version nodes v.node

-- The rule: the words are those of nodes that, each as it counts, stand
-- for the map after the changes so far, and each seat knows what is so.
pub record Kept (s : State ℕ View) : Type 0 where
  pub nodes : Nodes
  pub now : Moment
  pub base : List Entry
  pub writer : ℕ
  pub lies : Lies s.words nodes now.root
  pub counts : Counts nodes now.image
  pub good : Good base now
  pub seats : (j : ℕ) (v : View) → get_elem? s.views j ≡ some v → Knows nodes now base writer j v

-- The opening

-- node i of these words
abbrev pub part : List ℕ → ℕ → List ℕ
part words i = take 64 (drop (i * 64) words)

-- the nodes whose words these are, with the number of the root behind them
abbrev pub nodes_in : List ℕ → Nodes
nodes_in words = map (part words) (range_with_len 0 (length words / 64))

-- the moment of the opening
abbrev pub opening_of : List ℕ → Moment
opening_of words =
    record {
      image = nodes_in words;
      levels = levels_of (nodes_in words);
      root = slice_index words (length words / 64 * 64);
      log = [];
    }

-- what the writer knows at the opening
abbrev pub opener : List ℕ → View
opener words =
    record {
      writes = true;
      words = nodes_in words;
      base = leaf_entries (nodes_in words);
      seen = opening_of words;
      told = [];
      node = 0;
      last = 0;
      loads = 0;
      met = leaf_entries (nodes_in words);
    }

-- the writer has nothing latched
pub record IsAtRest (v : View) : Type 0 where
  pub writes : v.writes ≡ true
  pub same : v.words ≡ v.seen.image
  pub wide : (i : ℕ) → i < length v.seen.image → length (node_of v.seen.image i) ≡ 64
  pub even : (i : ℕ) → i < length v.seen.image → version v.seen.image i % 2 ≡ 0

-- an index can open with these words: no node is latched, and they stand for the entries of their leaves
pub record CanOpen (words : List ℕ) : Type 0 where
  pub count : (n : ℕ) × (length words ≡ n * 64 + 1)
  pub rest : IsAtRest (opener words)
  pub good : Good (leaf_entries (nodes_in words)) (opening_of words)

-- Steps

abbrev pub Sat : Type 0
Sat = Me ℕ View

-- a load moves the reader to the present moment
pub record Moved (v w : View) : Type 0 where
  pub writes : w.writes ≡ v.writes
  pub kept : (w.words ≡ v.words) × (w.told ≡ v.told) × (w.base ≡ v.base) × (w.met ≡ v.met)
  pub later : Later v.seen w.seen
  pub told : StartsWith w.seen.log v.told
  pub good : Good w.base w.seen

-- A load of the version of node i: the reader moves to the present
-- moment, and an even version is the one with which the node counts.
pub record Looked (i r : ℕ) (v w : View) : Type 0 where
  pub moved : Moved v w
  pub at : (w.node ≡ i) × (w.last ≡ r)
  pub found : r % 2 ≡ 0 → (version w.seen.image i ≡ r) × (length (node_of w.seen.image i) ≡ 64)
  pub loads : w.loads ≡ v.loads + 1

abbrev pub looked : Step ℕ → Sat → ℕ → Sat → Type 0
looked st m r m' =
    (m'.1 ≡ m.1) × ((i : ℕ) → st.word ≡ i * 64 → i < length m.0.seen.image → Looked i r m.0 m'.0)

-- a load of the root word: the reader moves to the present moment, and the word is the root of it
pub record FoundRoot (r : ℕ) (v w : View) : Type 0 where
  pub moved : Moved v w
  pub root : r ≡ w.seen.root
  pub loads : w.loads ≡ v.loads

abbrev pub found_root : Step ℕ → Sat → ℕ → Sat → Type 0
found_root st m r m' =
    (m'.1 ≡ m.1) × (st.word ≡ length m.0.seen.image * 64 → 0 < length m.0.seen.image → FoundRoot r m.0 m'.0)

-- A load of word k of the node that is read: if the version is
-- still the one that was seen, the word is the one that was seen.
pub record Peeked (k r : ℕ) (v w : View) : Type 0 where
  pub same : w ≡ record v { last = w.last }
  pub later : v.last ≤ w.last
  pub found : version v.seen.image v.node % 2 ≡ 0 → w.last ≡ version v.seen.image v.node
      → r ≡ word_of v.seen.image v.node k
  pub check : k ≡ 0 → r ≡ w.last

abbrev pub peeked : Step ℕ → Sat → ℕ → Sat → Type 0
peeked st m r m' = (m'.1 ≡ m.1) × ((k : ℕ) → st.word ≡ m.0.node * 64 + k → k < 64 → Peeked k r m.0 m'.0)

-- The writer loads a word as it left it. What it was told begins its changes,
-- and the seat that it met is of an index that was built of the same entries.
abbrev pub own_read : Step ℕ → Sat → ℕ → Sat → Type 0
own_read st m r m' =
    (m' ≡ m) × ((i k : ℕ) → i < length m.0.words → st.word ≡ i * 64 + k → k < 64 → r ≡ word_of m.0.words i k)
    × (st.word ≡ length m.0.words * 64 → r ≡ m.0.seen.root) × StartsWith m.0.seen.log m.0.told
    × (0 < length m.0.words → m.0.met ≡ m.0.base)

-- the writer stores a word
abbrev pub wrote : Step ℕ → Sat → ℕ → Sat → Type 0
wrote st m r m' =
    (m'.1 ≡ m.1)
    × ((i k : ℕ) → st.word ≡ i * 64 + k → k < 64 → m'.0 ≡ record m.0 { words = put m.0.words i k st.first })

-- the moment from which on node i counts with these words
abbrev pub after_change : ℕ → List ℕ → List Change → Moment → Moment
after_change i words changes t =
    record {
      image = slice_set t.image i words;
      levels = levels_with t.levels words;
      root = t.root;
      log = t.log ++ changes;
    }

-- what the writer knows once it has unlatched node i with the version b
abbrev pub after_end : ℕ → ℕ → List Change → View → View
after_end i b changes v =
    record v {
      words = put v.words i 0 b;
      seen = after_change i (slice_set (node_of v.words i) 0 b) changes v.seen;
    }

abbrev pub ended : List Change → Step ℕ → Sat → ℕ → Sat → Type 0
ended changes st m r m' =
    (m'.1 ≡ m.1) × ((i : ℕ) → st.word ≡ i * 64 → m'.0 ≡ after_end i st.first changes m.0)

-- the moment from which on this node is the root
abbrev pub after_root : ℕ → Moment → Moment
after_root root t =
    record {
      image = t.image;
      levels = slice_set t.levels root (level_of (node_of t.image root) + 1);
      root = root;
      log = t.log;
    }

abbrev pub stored_root : Step ℕ → Sat → ℕ → Sat → Type 0
stored_root st m r m' =
    (m'.1 ≡ m.1)
    × (st.word ≡ length m.0.words * 64 → m'.0 ≡ record m.0 { seen = after_root st.first m.0.seen })

-- what a new reader knows
abbrev pub reader_of : View → View
reader_of v =
    record {
      writes = false;
      words = [];
      base = v.base;
      seen = v.seen;
      told = v.told;
      node = 0;
      last = 0;
      loads = 0;
      met = v.met;
    }

abbrev pub no_moment : Moment
no_moment = record { image = []; levels = []; root = 0; log = [] }

-- what a seat knows that another one has taken in
abbrev pub nobody : View
nobody =
    record {
      writes = false;
      words = [];
      base = [];
      seen = no_moment;
      told = [];
      node = 0;
      last = 0;
      loads = 0;
      met = [];
    }

-- a seat is told of the changes that another one has seen, and,
-- where that one has seen nodes, of which entries they were built
abbrev pub informed : View → View → View
informed v w =
    record v { told = w.seen.log; met = if length w.seen.image == 0 then v.met else w.base }

-- What functions do

-- the same seat
abbrev pub IsSame : Seat ℕ View → Seat ℕ View → Type 0
IsSame p q = (q.table_id ≡ p.table_id) × (q.id ≡ p.id) × (q.me.1 ≡ p.me.1)

-- the same seat, which has seen no less, and all of which it was told
pub record Follows (p q : Seat ℕ View) : Type 0 where
  pub table : q.table_id ≡ p.table_id
  pub id : q.id ≡ p.id
  pub slots : q.me.1 ≡ p.me.1
  pub writes : q.me.0.writes ≡ p.me.0.writes
  pub base : q.me.0.base ≡ p.me.0.base
  pub later : Later p.me.0.seen q.me.0.seen
  pub told : StartsWith q.me.0.seen.log p.me.0.told
  pub kept : q.me.0.told ≡ p.me.0.told
  pub loads : p.me.0.loads ≤ q.me.0.loads

-- the version of a node was loaded, once more than before
pub record HasBegun (node first : ℕ) (v w : View) : Type 0 where
  pub at : (w.node ≡ node) × (w.last ≡ first)
  pub even : first % 2 ≡ 0 → version w.seen.image node ≡ first
  pub loads : w.loads ≡ v.loads + 1

-- A node is being read: a reader has loaded its version, and that is even, so it is
-- the one with which the node counts at the moment that was seen.
pub record IsReading (table : TableId) (node first : ℕ) (p : Seat ℕ View) : Type 0 where
  pub table_is : p.table_id ≡ table
  pub inside : (node * 64 + 64 ≤ table.words) × (node < 2 ^ 32)
  pub reads : p.me.0.writes ≡ false
  pub at : (p.me.0.node ≡ node) × (node < length p.me.0.seen.image)
  pub even : (first % 2 ≡ 0) × (version p.me.0.seen.image node ≡ first)
  pub wide : length (node_of p.me.0.seen.image node) ≡ 64
  pub since : first ≤ p.me.0.last

-- words of the node were loaded, which changes nothing but the version found last: it doesn't fall
pub record Peeks (p q : Seat ℕ View) : Type 0 where
  pub same : IsSame p q
  pub view : q.me.0 ≡ record p.me.0 { last = q.me.0.last }
  pub later : p.me.0.last ≤ q.me.0.last

-- the version found last is still that of the node at the moment that was seen
abbrev pub IsStill : View → Type 0
IsStill v = v.last ≡ version v.seen.image v.node

-- a reader can read this node
pub record CanRead (node : ℕ) (v : View) : Type 0 where
  pub reads : v.writes ≡ false
  pub inside : node < length v.seen.image

-- the node was latched, or its version changed while it was read
abbrev pub IsAgain : ℕ → ℕ → ℕ → View → Type 0
IsAgain i first second v =
    (v.node ≡ i) × (v.last ≡ second)
    × (((first % 2 ≡ 1) × (second ≡ first)) ⊎ ((first ≢ second) × (version v.seen.image i ≡ first)))

-- the words are those that the node had at the moment that was seen, or the node is to be read again
abbrev pub IsRead : ℕ → List ℕ → Read → View → Type 0
IsRead i words Whole v = words ≡ node_of v.seen.image i
IsRead i words (Again first second) v = IsAgain i first second v

-- the words of a node with its next even version
abbrev pub renewed : Nodes → ℕ → List ℕ → List ℕ
renewed nodes i words = slice_set words 0 (version nodes i + 2)

-- the moment after a node's words are replaced
abbrev pub rewritten : ℕ → List ℕ → List Change → Moment → Moment
rewritten i words changes t = after_change i (renewed t.image i words) changes t

-- what the writer knows after it has replaced a node's words
abbrev pub after_rewrite : ℕ → List ℕ → List Change → View → View
after_rewrite i words changes v =
    record v {
      words = slice_set v.seen.image i (renewed v.seen.image i words);
      seen = rewritten i words changes v.seen;
    }

-- the first k words of the latched node i are those of ws
pub record Partly (i k : ℕ) (ws : List ℕ) (v w : View) : Type 0 where
  pub same : w ≡ record v { words = w.words }
  pub nodes : w.words ≡ slice_set v.words i (node_of w.words i)
  pub wide : length (node_of w.words i) ≡ 64
  pub odd : version w.words i ≡ version v.words i + 1
  pub done : (j : ℕ) → 0 < j → j < k → word_of w.words i j ≡ slice_index ws j
