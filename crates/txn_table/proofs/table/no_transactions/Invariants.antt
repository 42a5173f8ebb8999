-- the sessions so far have no transactions
use Rattle.std.proofs.Common.{◌≡◌, ◌≤◌}
use Rattle.std.specs.Prelude.{vec_capacity, replicate}
use Rattle.txn_table.specs.Rows.{no_records}
use Rattle.txn_table.proofs.table.no_transactions.Given as goal

abbrev pub invariant-loop : goal.invariant-loop
invariant-loop l = record {
  items : l.buffers.items ≡ replicate l.counter (no_records l.q);
  room : 17 ≤ vec_capacity l.buffers;
}
