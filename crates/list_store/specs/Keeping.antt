-- What a store keeps of tables, in memory and in its log file.
use Rattle.std.specs.Prelude.{◌≡◌, ℕ, false, List, [], Option, Some}
use Rattle.row_types.specs.declared.definition.TableDef.{TableDef}
use Rattle.row_types.specs.Tables.{Tables}
use Rattle.plain_model.specs.Calls.{is_running}
use Rattle.op_log.specs.declared.change.RowChange.{RowChange}
use Rattle.disk_core.specs.declared.disk.Disk.{Ghosts}
use Rattle.disk_core.specs.Crash.{Only}
use Rattle.disk_core.specs.Moments.{LeavesNow}
use Rattle.lane_format.specs.Writer.{Holds, IsSettled, lane_of, stage_of}
use Rattle.lane_format.specs.Writer as lane
use Rattle.lane_format.specs.declared.writer.Stage.TheVariants.{Open}
use Rattle.call_log.specs.History.{batches_of, bodies_of, gate_behind, last_batch}
use Rattle.list_keeper.specs.Past.{IsPast, tables_in}
use Rattle.list_store.specs.Log.{IsLogOf, MayBeLogged, logged_tables}
use Rattle.list_store.specs.declared.store.ListStore.{ListStore}

-- the disk of a store's log file
abbrev pub disk_of : {D : Type 0} → ListStore D → D
disk_of store = lane.disk_of store.writer

-- the definitions of its tables
abbrev pub defs_of : {D : Type 0} → ListStore D → List TableDef
defs_of store = store.keeper.defs

-- the batches of its log
abbrev pub batches_in : {D : Type 0} → ListStore D → List (List RowChange)
batches_in store = batches_of store.keeper.calls

-- the place of the gate behind them
abbrev pub gate_of : {D : Type 0} → ListStore D → ℕ
gate_of store = gate_behind (defs_of store) (batches_in store)

module _ {D : Type 0} (d : Ghosts D) where
  -- the disk's content is known to be these bytes, and a crash now leaves these alone: nothing is pending
  abbrev pub IsQuiet : D → List ℕ → Type 0
  IsQuiet disk bytes = (d.content disk ≡ Some bytes) × Only bytes (d.may_leave disk)

  -- The store has these tables: no transaction runs, its keeper has them, and its log file is
  -- the open lane of generation 2 with each batch that has been committed, which leave them.
  pub record Keeps (store : ListStore D) (tables : Tables) : Type 0 where
    pub past : IsPast store.keeper
    pub idle : is_running store.keeper.calls ≡ false
    pub forced : last_batch store.keeper.calls ≡ []
    pub tables_are : tables ≡ tables_in store.keeper
    pub logged : MayBeLogged (defs_of store) (batches_in store)
    pub leaves : tables ≡ logged_tables (defs_of store) (batches_in store)
    pub lane : lane_of store.writer ≡ 0
    pub stage : stage_of store.writer ≡ Open 2 (gate_of store)
    pub file : Holds d store.writer 2 (bodies_of (defs_of store) (batches_in store))

  -- It has them also if the machine stops now: every crash leaves a log of them.
  pub record Secures (store : ListStore D) (tables : Tables) : Type 0 where
    pub keeps : Keeps store tables
    pub settled : IsSettled d store.writer 2 (bodies_of (defs_of store) (batches_in store))
    pub crash : LeavesNow d (disk_of store) (IsLogOf (defs_of store) tables)
