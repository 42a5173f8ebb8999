-- What rows of tables in memory hold, where no transaction runs and where one does.
use Rattle.std.specs.Prelude.{◌≡◌, ℕ, zero, suc, ◌+◌, ◌≤◌, List, [], ◌∷◌, length, drop, Option}
use Rattle.std.specs.Prelude.{None, Some, Bool, true, false}
use Rattle.std.specs.List.{AllByRecursion}
use Rattle.row_types.specs.declared.definition.TableDef.{TableDef}
use Rattle.row_types.specs.Tables.{Tables, AreTables, schema_of}
use Rattle.row_lists.specs.Held.{Entries}
use Rattle.key_space.specs.Plays.{RowOp}
use Rattle.plain_model.specs.declared.stop.Stop.{Stop}
use Rattle.plain_model.specs.declared.stop.Stop.TheVariants as stops
use Rattle.plain_model.specs.declared.stop.Resource.{Resource}
use Rattle.plain_model.specs.declared.stop.Resource.TheVariants.{Txn}
use Rattle.plain_model.specs.Calls.{IsMark}
use Rattle.plain_model.specs.CallPlays.{at_moment, latest, moments_of, OpsPlay}
use Rattle.op_log.specs.Changes.{IsChange, body_text}
use Rattle.op_log.specs.declared.change.RowChange.{RowChange}
use Rattle.lane_format.specs.Lane.{body_of}
use Rattle.call_log.specs.Standing.{change_moments, changes_at, standing}
use Rattle.call_log.specs.Played.{ArePlayed, IsPlayed, played, tables_behind_change}
use Rattle.call_log.specs.History.{AreOpsSpent, IsTxnFull, txn_limit}
use Rattle.txn_rows.specs.declared.undo.Step.{Step}
use Rattle.txn_rows.specs.declared.rows.TxnRows.{TxnRows}
use Rattle.txn_rows.specs.Steps.{AreOf, AreThere, GoesBack, Holds, IsBefore, IsOnTable, stands}

-- the definitions of the tables
abbrev pub defs_of : TxnRows → List TableDef
defs_of rows = rows.schema

-- a frame of these changes: four bytes, the changes and one byte; the four bytes alone where there are none
abbrev pub IsFrameOf : List TableDef → List RowChange → List ℕ → Type 0
IsFrameOf defs [] frame = length frame ≡ 4
IsFrameOf defs (change ∷ changes) frame =
    (length frame ≡ 5 + length (body_text defs (change ∷ changes)))
    × (body_of frame ≡ body_text defs (change ∷ changes))

-- No transaction runs: the lists hold these tables, and these changes can be forced.
pub record IsIdleOn (defs : List TableDef) (lists : List Entries) (steps : List Step) (frame : List ℕ)
    (tables : Tables) (batch : List RowChange) : Type 0 where
  pub lists_len : length lists ≡ length defs
  pub holds : Holds defs (stands lists) tables
  pub no_steps : steps ≡ []
  pub fit : AllByRecursion (IsChange defs) batch
  pub short : length (body_text defs batch) ≤ txn_limit
  pub frame_is : IsFrameOf defs batch frame

-- A transaction runs that began at these tables, and these operations, the latest first, were
-- answered: the lists hold the tables after them, the frame has the bytes of the changes that
-- stand, and each mark can be gone back to.
pub record RunsOn (defs : List TableDef) (lists : List Entries) (steps : List Step) (frame : List ℕ)
    (count : ℕ) (first : Tables) (ops : List RowOp) : Type 0 where
  pub lists_len : length lists ≡ length defs
  pub first_are : AreTables first
  pub first_schema : schema_of first ≡ defs
  pub play : OpsPlay first ops
  pub holds : Holds defs (stands lists) (latest (moments_of first ops))
  pub fit : AllByRecursion (IsChange defs) (standing ops)
  pub short : length (body_text defs (standing ops)) ≤ txn_limit
  pub count_is : count ≡ length ops
  pub frame_len : length frame ≡ 4 + length (body_text defs (standing ops))
  pub frame_is : drop 4 frame ≡ body_text defs (standing ops)
  pub there : AreThere (stands lists) steps
  pub steps_are : AreOf defs 4 steps (standing ops)
  pub steps_before : AllByRecursion (IsBefore (length ops)) steps
  pub on_tables : AllByRecursion (IsOnTable (length defs)) steps
  pub marks : (mark : ℕ) → IsMark ops mark → GoesBack defs (stands lists) steps (standing ops) mark
      (at_moment mark (moments_of first ops)) (changes_at mark (change_moments ops))

-- no transaction runs, the tables are these, and these changes can be forced
abbrev pub Idle : TxnRows → Tables → List RowChange → Type 0
Idle rows tables batch =
    IsIdleOn rows.schema rows.lists.items rows.undo.steps.items rows.frame.items tables batch

-- a transaction runs that began at these tables, and these operations were answered, the latest first
abbrev pub Running : TxnRows → Tables → List RowOp → Type 0
Running rows first ops =
    RunsOn rows.schema rows.lists.items rows.undo.steps.items rows.frame.items rows.count first ops

-- no transaction runs
abbrev pub IsIdle : TxnRows → Type 0
IsIdle rows = (tables : Tables) × (batch : List RowChange) × Idle rows tables batch

-- a transaction runs
abbrev pub IsRunning : TxnRows → Type 0
IsRunning rows = (first : Tables) × (ops : List RowOp) × Running rows first ops

-- ---- Stops

-- the bytes that a change would add to those that stand are too many
abbrev pub IsTooMany : List TableDef → List RowOp → Option ℕ → Resource → Type 0
IsTooMany defs ops None resource = ⊥
IsTooMany defs ops (Some more) (Txn used limit) =
    (used ≡ length (body_text defs (standing ops))) × IsTxnFull more used limit
IsTooMany defs ops (Some more) resource = ⊥

-- how a call with a stop has left the rows: as they were, but for a transaction that is spent, which is
-- undone; a refusal comes from a change that would add `more` bytes
abbrev pub LeftBy : TxnRows → Tables → List RowOp → Option ℕ → Stop → Type 0
LeftBy rows first ops more stops.OutOfMemory = Running rows first ops
LeftBy rows first ops more (stops.Refused resource) =
    Running rows first ops × IsTooMany (defs_of rows) ops more resource
LeftBy rows first ops more (stops.Spent limit) = AreOpsSpent (length ops) limit × Idle rows first []
LeftBy rows first ops more (stops.Die holder) = ⊥
LeftBy rows first ops more (stops.Fault file) = ⊥

-- ---- Loading

-- the change of this number can't be played on tables, and those before it can
abbrev pub StopsAt : Tables → List RowChange → ℕ → Type 0
StopsAt tables [] index = ⊥
StopsAt tables (change ∷ changes) zero = ¬ (IsPlayed tables change)
StopsAt tables (change ∷ changes) (suc index) =
    IsPlayed tables change × StopsAt (tables_behind_change tables change) changes index

-- how a batch was loaded: whole, or up to a change that can't be played
abbrev pub IsLoaded : TxnRows → Tables → List RowChange → Option ℕ → Type 0
IsLoaded rows tables batch None = ArePlayed tables batch × Idle rows (played tables batch) []
IsLoaded rows tables batch (Some index) = StopsAt tables batch index

-- whether a change was played
abbrev pub IsTried : TxnRows → Tables → RowChange → Bool → Type 0
IsTried rows tables change true =
    IsPlayed tables change × Idle rows (tables_behind_change tables change) []
IsTried rows tables change false = ¬ (IsPlayed tables change) × Idle rows tables []
