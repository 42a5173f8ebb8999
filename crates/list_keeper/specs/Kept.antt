-- What a keeper's fields know of its calls.
use Rattle.std.specs.Prelude.{◌≡◌, ℕ, zero, suc, ◌+◌, ◌≤◌, Bool, true, false, List, Result, Ok, Err, IsTrue}
use Rattle.row_types.specs.declared.definition.TableDef.{TableDef}
use Rattle.plain_model.specs.declared.stop.Stop.{Stop}
use Rattle.plain_model.specs.Calls.{Call, is_running, ops_of, runs_behind}
use Rattle.call_log.specs.Played.{empty_tables}
use Rattle.call_log.specs.History.{IsHistory, begin_count, begun_at, last_batch, log_bytes, log_limit}
use Rattle.call_log.specs.History.{log_room, settled}
use Rattle.txn_rows.specs.Rows.{Idle, Running, defs_of}
use Rattle.txn_rows.specs.declared.rows.TxnRows.{TxnRows}
use Rattle.list_keeper.specs.declared.state.State.{State}

-- the definitions of its tables
abbrev pub defs_in : State → List TableDef
defs_in state = defs_of state.rows

-- the rows are those of the transaction that runs, or those that all committed ones have left
abbrev pub HoldsRows : List TableDef → Bool → TxnRows → List Call → Type 0
HoldsRows defs true rows calls = Running rows (begun_at (empty_tables defs) calls) (ops_of calls)
HoldsRows defs false rows calls = Idle rows (settled (empty_tables defs) calls) (last_batch calls)

-- the rows and the bytes in use are what the calls have left, a transaction
-- that runs has room in the log file, and the latest one's number says no
-- more than have begun
pub record AreLeftBy (defs : List TableDef) (rows : TxnRows) (running : Bool) (bytes number : ℕ)
    (calls : List Call) : Type 0 where
  pub history : IsHistory defs calls
  pub running_is : running ≡ is_running calls
  pub bytes_are : bytes ≡ log_bytes defs calls
  pub few : bytes ≤ log_limit + 1
  pub room : IsTrue running → bytes + log_room ≤ log_limit
  pub numbered : number ≤ begin_count calls
  pub holds : HoldsRows defs running rows calls

-- the fields are what the calls have left
abbrev pub IsKept : State → List Call → Type 0
IsKept state calls =
    AreLeftBy (defs_in state) state.rows state.running state.bytes state.number calls

-- the fields are what some calls have left
abbrev pub IsState : State → Type 0
IsState state = (calls : List Call) × IsKept state calls

-- the bytes that a batch takes whose body has so many: none where it has no changes
abbrev pub batch_bytes : ℕ → ℕ
batch_bytes zero = 0
batch_bytes (suc len) = 5 + suc len

-- whether a transaction still runs after an answer: it doesn't where the answer is that something is spent
abbrev pub runs_on : {T : Type 0} → Result T Stop → Bool
runs_on (Ok answer) = true
runs_on (Err stop) = runs_behind stop true
