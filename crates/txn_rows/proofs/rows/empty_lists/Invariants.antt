use Rattle.std.proofs.Common.{◌≡◌, length}
use Rattle.txn_rows.specs.Steps.{AreEmpty}
use Rattle.txn_rows.proofs.rows.empty_lists.Given as goal

abbrev pub invariant-loop : goal.invariant-loop
invariant-loop l = AreEmpty l.lists.items × (length l.lists.items ≡ l.counter)
