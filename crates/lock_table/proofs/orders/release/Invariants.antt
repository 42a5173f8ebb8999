-- the orders so far are without the session's places, and the others as they were
use Rattle.std.proofs.Common.{◌≡◌, ◌≤◌, ◌<◌, ℕ, length, get_or}
use Rattle.lock_table.specs.declared.order.Order.{Order}
use Rattle.lock_table.specs.Locks.{Locks}
use Rattle.lock_table.specs.Orders.{AreOwn, cleared}
use Rattle.lock_table.specs.Tables.{IsKept}
use Rattle.lock_table.proofs.orders.release.Given as goal

abbrev pub invariant-loop-i : goal.invariant-loop-i
invariant-loop-i l = record {
  len : length l.orders ≡ length l.fn.orders;
  done : (locks : Locks) (k : ℕ) (d : Order) → AreOwn locks → l.who < length locks → k < l.i
      → IsKept locks k (get_or l.fn.orders k d) → IsKept (cleared locks l.who) k (get_or l.orders k d);
  rest : (k : ℕ) (d : Order) → l.i ≤ k → get_or l.orders k d ≡ get_or l.fn.orders k d;
}
