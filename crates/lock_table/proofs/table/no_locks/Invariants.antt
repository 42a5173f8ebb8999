-- the sessions so far have no locks
use Rattle.std.proofs.Common.{◌≡◌, ◌≤◌, []}
use Rattle.std.specs.Prelude.{vec_capacity, replicate}
use Rattle.lock_table.proofs.table.no_locks.Given as goal

abbrev pub invariant-loop : goal.invariant-loop
invariant-loop l = record {
  items : l.owned.items ≡ replicate l.counter [];
  room : 17 ≤ vec_capacity l.owned;
}
