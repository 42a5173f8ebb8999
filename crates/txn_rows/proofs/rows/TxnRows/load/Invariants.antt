use Rattle.std.proofs.Common.{◌≡◌, ◌+◌, [], List, length}
use Rattle.std.specs.List.{AllByRecursion}
use Rattle.row_types.specs.Tables.{Tables}
use Rattle.op_log.specs.Changes.{IsChange}
use Rattle.op_log.specs.declared.change.RowChange.{RowChange}
use Rattle.txn_rows.specs.Rows.{Idle, defs_of}
use Rattle.txn_rows.proofs.Ends.{LoadsOn}
use Rattle.txn_rows.proofs.rows.TxnRows.load.Given as goal

abbrev pub invariant-loop-change : goal.invariant-loop-change
invariant-loop-change l = record {
  same : defs_of l.self ≡ defs_of l.fn.self;
  fit : AllByRecursion (IsChange (defs_of l.self)) l.change-iterator.rest.items;
  count : l.index + length l.change-iterator.rest.items ≡ length l.fn.batch;
  loads : (tables : Tables) (before : List RowChange) → Idle l.fn.self tables before
      → (now : Tables) × Idle l.self now [] × LoadsOn tables l.fn.batch now l.change-iterator.rest.items l.index;
}
