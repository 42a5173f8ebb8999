-- What look-ups tell of the map.
use Rattle.std.specs.Prelude.{Bool, ◌&&◌, ◌≡◌, ◌≢◌, ℕ, ◌+◌, ◌-◌, ◌*◌, ◌%◌, ◌^◌, min, nat_le, ◌<◌, ◌≤◌, ◌⊎◌}
use Rattle.std.specs.Prelude.{Option, None, Some, IsSome, List, length, map, false}
use Rattle.std.specs.List.{All}
use Rattle.atomic_table.specs.Seated.{TableId}
use Rattle.atomic_table.specs.declared.shared.Seat.{Seat}
use Rattle.key_space.specs.declared.key.Key.{Key}
use Rattle.key_space.specs.declared.range.Range.{Range}
use Rattle.olfit_nodes.specs.declared.head.Link.{Link}
use Rattle.olfit_nodes.specs.Nodes.{Entry, right_of, Rises}
use Rattle.olfit_rule.specs.declared.view.Change.{Change}
use Rattle.olfit_rule.specs.declared.view.Moment.{Moment}
use Rattle.olfit_rule.specs.declared.view.View.{View}
use Rattle.olfit_rule.specs.Maps.{map_of, map_after, IsLegal, StartsWith}
use Rattle.olfit_rule.specs.Tree.{node_of, version, IsAt, Covers}
use Rattle.olfit_walk.specs.declared.answers.Look.{Look}
use Rattle.olfit_walk.specs.declared.answers.Look.TheVariants.{Found, Absent, Again}
use Rattle.olfit_walk.specs.declared.answers.Piece.{Piece}
use Rattle.olfit_walk.specs.declared.answers.Part.{Part}
use Rattle.olfit_walk.specs.declared.answers.Part.TheVariants.{Chunk, Again as AgainPart}

-- a reader: of which index, of which entries it was built, the last moment that the reader
-- has seen, the changes of which it was told, the node that it read last, the version that
-- it found there last, and how many nodes it has begun to read
pub record Reading : Type 0 where
  pub table : TableId
  pub base : List Entry
  pub seen : Moment
  pub told : List Change
  pub node : ℕ
  pub found : ℕ
  pub loads : ℕ

-- what a seat is as a reader
abbrev pub reading_of : Seat ℕ View → Reading
reading_of p =
    record {
      table = p.table_id;
      base = p.me.0.base;
      seen = p.me.0.seen;
      told = p.me.0.told;
      node = p.me.0.node;
      found = p.me.0.last;
      loads = p.me.0.loads;
    }

-- a reader of this index, which has so many nodes
pub record CanLook (table : TableId) (nodes : ℕ) (p : Seat ℕ View) : Type 0 where
  pub table_is : p.table_id ≡ table
  pub reads : p.me.0.writes ≡ false
  pub count : length p.me.0.seen.image ≡ nodes
  pub sized : (0 < nodes) × (nodes < 2 ^ 32) × (table.words ≡ nodes * 64 + 1)

-- what is said of a key is what the map after the changes that were seen says, of a legal history
pub record IsTrueOf (r : Reading) (key : ℕ) (value : Option ℕ) : Type 0 where
  pub says : map_after (map_of r.base) r.seen.log key ≡ value
  pub legal : IsLegal (map_of r.base) r.seen.log

-- the reader has seen no less than before, and all of which it was
-- told, and has loaded a version: its answer is of nodes read since then
pub record HasSeen (old new : Reading) : Type 0 where
  pub same : (new.table ≡ old.table) × (new.base ≡ old.base) × (new.told ≡ old.told)
  pub later : StartsWith new.seen.log old.seen.log
  pub told : StartsWith new.seen.log old.told
  pub loaded : old.loads < new.loads

-- of the node that was read last the first version was odd, or the last one found is another
abbrev pub IsTornBy : ℕ → ℕ → ℕ → Reading → Type 0
IsTornBy node first second r =
    (r.node ≡ node) × (r.found ≡ second)
    × (((first % 2 ≡ 1) × (second ≡ first)) ⊎ ((first ≢ second) × (version r.seen.image node ≡ first)))

-- how a look-up ends: with what is so of its key, and with the number of changes of which the reader was told
abbrev pub Tells : ℕ → Look → Reading → Type 0
Tells key (Found l) r =
    (l.key.number ≡ key) × (l.known ≡ length r.told) × IsSome l.value × IsTrueOf r key l.value
Tells key (Absent l) r =
    (l.key.number ≡ key) × (l.known ≡ length r.told) × (l.value ≡ None) × IsTrueOf r key l.value
Tells key (Again node first second) r = IsTornBy node first second r

-- entries with their keys as numbers
abbrev pub entries_of_keys : List (Key × ℕ) → List Entry
entries_of_keys rows = map (λ (e : Key × ℕ). (e.0.number, e.1)) rows

-- the entry's key lies between two, both among them
abbrev pub is_between : ℕ → ℕ → Entry → Bool
is_between from upto e = nat_le from e.0 && nat_le e.0 upto

-- where a piece of a leaf ends: before its right neighbour's low key, and with the range
abbrev pub end_in : Option Link → ℕ → ℕ
end_in None hi = hi
end_in (Some link) hi = min hi (link.key - 1)

-- A piece has, by rising keys, exactly the entries with keys from its first to
-- its last one. It ends with the range or with the leaf that has its first key.
pub record IsPiece (range : Range) (p : Piece) (r : Reading) : Type 0 where
  pub known : p.known ≡ length r.told
  pub from : p.from ≡ range.lo
  pub upto : (range.lo.number ≤ p.upto.number) × (p.upto.number ≤ range.hi.number)
  pub leaf : (node : ℕ) × IsAt r.seen 0 node × Covers r.seen node range.lo.number
      × (p.upto.number ≡ end_in (right_of (node_of r.seen.image node)) range.hi.number)
  pub rises : Rises (entries_of_keys p.entries.items)
  pub each : (key : ℕ) → range.lo.number ≤ key → key ≤ p.upto.number
      → IsTrueOf r key (map_of (entries_of_keys p.entries.items) key)
  pub only : All
      (λ (e : Key × ℕ). (range.lo.number ≤ e.0.number) × (e.0.number ≤ p.upto.number)) p.entries.items

-- how the reading of a piece ends
abbrev pub TellsPart : Range → Part → Reading → Type 0
TellsPart range (Chunk piece) r = IsPiece range piece r
TellsPart range (AgainPart node first second) r = IsTornBy node first second r
