-- What clauses see of a keeper: its calls from the log's beginning on, and what is known of them.
use Rattle.std.specs.Prelude.{◌≢◌, ◌+◌, ◌≤◌, List, []}
use Rattle.std.specs.List.{AllByRecursion}
use Rattle.row_types.specs.declared.definition.TableDef.{TableDef}
use Rattle.row_types.specs.Tables.{Tables}
use Rattle.plain_model.specs.Calls.{Call}
use Rattle.op_log.specs.Changes.{IsChange}
use Rattle.call_log.specs.Played.{empty_tables}
use Rattle.call_log.specs.History.{IsHistory, batches_of, log_bytes, log_limit, settled}

-- the definitions of a keeper's tables, and its calls
pub record Told : Type 0 where
  pub defs : List TableDef
  pub calls : List Call

-- the tables after all transactions that are committed
abbrev pub tables_in : Told → Tables
tables_in told = settled (empty_tables told.defs) told.calls

-- the calls are those of a keeper in memory, the changes of each batch
-- fit, no batch is empty, and together they fit a log file
pub record IsPast (told : Told) : Type 0 where
  pub history : IsHistory told.defs told.calls
  pub fit : AllByRecursion (AllByRecursion (IsChange told.defs)) (batches_of told.calls)
  pub some : AllByRecursion (λ batch. batch ≢ []) (batches_of told.calls)
  pub few : log_bytes told.defs told.calls ≤ log_limit + 1
