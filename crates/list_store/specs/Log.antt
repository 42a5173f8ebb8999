-- The log file of the changes of tables: which batches it may hold, and what its bytes read as.
use Rattle.std.specs.Prelude.{◌≡◌, ◌≢◌, ◌⊎◌, ℕ, ◌+◌, ◌<◌, ◌≤◌, false, List, [], ◌∷◌, ◌++◌, length}
use Rattle.std.specs.List.{AllByRecursion}
use Rattle.row_types.specs.declared.definition.TableDef.{TableDef}
use Rattle.row_types.specs.Tables.{Tables}
use Rattle.op_log.specs.Changes.{HasNone, IsChange, body_text, change_text}
use Rattle.op_log.specs.declared.change.RowChange.{RowChange}
use Rattle.lane_format.specs.Lane.{IsLane, IsNotOpen}
use Rattle.lane_format.specs.LaneRead.{lane_reads, placed}
use Rattle.lane_format.specs.LaneRead as lane
use Rattle.call_log.specs.Played.{ArePlayed, BatchesPlayed, IsPlayed, empty_tables, played, played_batches}
use Rattle.call_log.specs.History.{bodies_of, gate_behind, log_limit}

-- ---- Logs

-- Batches that a log may hold: their changes fit, none ends past the last place, and each can be played on
-- the tables that those before it leave.
pub record MayBeLogged (defs : List TableDef) (batches : List (List RowChange)) : Type 0 where
  pub fit : AllByRecursion (AllByRecursion (IsChange defs)) batches
  pub near : gate_behind defs batches ≤ log_limit
  pub played : BatchesPlayed (empty_tables defs) batches

-- the tables that they leave
abbrev pub logged_tables : List TableDef → List (List RowChange) → Tables
logged_tables defs batches = played_batches (empty_tables defs) batches

-- The file is a log that leaves these tables: the lane of generation 2 with a body for each batch. Behind the
-- last one stands a gate that isn't open, and whatever follows doesn't count.
pub record IsLogOf (defs : List TableDef) (tables : Tables) (bytes : List ℕ) : Type 0 where
  pub batches : List (List RowChange)
  pub logged : MayBeLogged defs batches
  pub tables_are : tables ≡ logged_tables defs batches
  pub lane : IsLane 2 0 (bodies_of defs batches) bytes

-- ---- Damage

-- the file reads as the lane of this generation with these bodies, all of them whole
abbrev pub HasBodies : ℕ → List (List ℕ) → List ℕ → Type 0
HasBodies generation bodies bytes = lane_reads false 0 bytes (lane.Holding generation (placed 11 bodies))

-- the first bodies of the file are these batches of a log, and these bodies follow them
pub record ReadsOn (defs : List TableDef) (batches : List (List RowChange)) (bodies : List (List ℕ))
    (bytes : List ℕ) : Type 0 where
  pub logged : MayBeLogged defs batches
  pub lane : HasBodies 2 (bodies_of defs batches ++ bodies) bytes

-- a body begins with these changes, which can be played one after the other, and then comes the rest
pub record PlaysTo (defs : List TableDef) (tables : Tables) (body : List ℕ) (changes : List RowChange)
    (rest : List ℕ) : Type 0 where
  pub fit : AllByRecursion (IsChange defs) changes
  pub text : body ≡ body_text defs changes ++ rest
  pub played : ArePlayed tables changes

-- Why the body behind a gate is no batch on these tables, and the place of that: it ends past the last place;
-- or no change stands at a place in it; or one that does takes a row away that isn't there.
pub data IsNoBatch (defs : List TableDef) (tables : Tables) (gate : ℕ) (body : List ℕ) (at : ℕ) : Type 0 where
  EndsLate : log_limit < gate + 5 + length body → at ≡ gate → IsNoBatch defs tables gate body at
  NoChange : (changes : List RowChange) (rest : List ℕ) → gate + 5 + length body ≤ log_limit
      → PlaysTo defs tables body changes rest → 1 ≤ length rest → HasNone defs rest
      → at ≡ gate + 5 + length (body_text defs changes) → IsNoBatch defs tables gate body at
  NoRow : (changes : List RowChange) (change : RowChange) (rest : List ℕ)
      → gate + 5 + length body ≤ log_limit
      → PlaysTo defs tables body changes (change_text defs change ++ rest) → IsChange defs change
      → ¬ (IsPlayed (played tables changes) change)
      → at ≡ gate + 5 + length (body_text defs changes) → IsNoBatch defs tables gate body at

-- The file is open, and the place from which on it isn't a log of changes of these tables: that at which it
-- is no lane; that of the generation, where it is another than 2; that in the first body which is no batch;
-- or that of the first gate, where the file ends before the gate behind its last batch.
pub data IsDamagedAt (defs : List TableDef) (bytes : List ℕ) (at : ℕ) : Type 0 where
  NoLane : lane_reads false 0 bytes (lane.DamagedAt at) → IsDamagedAt defs bytes at
  OtherGeneration : (generation : ℕ) (bodies : List (List ℕ)) → HasBodies generation bodies bytes
      → generation ≢ 2 → at ≡ 1 → IsDamagedAt defs bytes at
  NoBatch : (batches : List (List RowChange)) (body : List ℕ) (bodies : List (List ℕ))
      → ReadsOn defs batches (body ∷ bodies) bytes
      → IsNoBatch defs (logged_tables defs batches) (gate_behind defs batches) body at
      → IsDamagedAt defs bytes at
  NoGate : (batches : List (List RowChange)) → ReadsOn defs batches [] bytes
      → length bytes ≤ gate_behind defs batches → at ≡ 11 → IsDamagedAt defs bytes at

-- ---- Readings

-- what a log file reads as: not open, damaged from a place on, or a log that leaves these tables
pub data LogRead : Type 0 where
  NotOpen : LogRead
  DamagedAt : (at : ℕ) → LogRead
  Holding : (tables : Tables) → LogRead

-- the file reads as that, where the tables have these definitions
abbrev pub log_reads : List TableDef → List ℕ → LogRead → Type 0
log_reads defs bytes NotOpen = IsNotOpen bytes
log_reads defs bytes (DamagedAt at) = IsDamagedAt defs bytes at
log_reads defs bytes (Holding tables) = IsLogOf defs tables bytes

-- the tables that a store begins with over the file: those that its log leaves, and empty ones where it isn't
-- open
abbrev pub BeginsWith : List TableDef → Tables → List ℕ → Type 0
BeginsWith defs tables bytes =
    log_reads defs bytes (Holding tables)
    ⊎ (log_reads defs bytes NotOpen × (tables ≡ empty_tables defs))
