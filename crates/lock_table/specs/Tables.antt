-- How a table of locks keeps them.
use Rattle.std.specs.Prelude.{◌≡◌, ◌≤◌, ◌<◌, ℕ, List, [], length, slice_index_or, vec_capacity}
use Rattle.lock_table.specs.declared.order.Order.{Order}
use Rattle.lock_table.specs.Locks.{Locks}
use Rattle.lock_table.specs.Orders.{AreOwn, IsOrdered}

-- the order is that with this number, and has room for the places of all locks
pub record IsKept (locks : Locks) (number : ℕ) (order : Order) : Type 0 where
  pub ordered : IsOrdered locks number order.widest order.places.items
  pub room : 17408 ≤ vec_capacity order.places

-- the order has no places, and room for those of all locks
pub record IsNew (order : Order) : Type 0 where
  pub none : order.places.items ≡ []
  pub room : 17408 ≤ vec_capacity order.places

-- sixteen orders are kept
pub record AreKept (locks : Locks) (orders : List Order) : Type 0 where
  pub all : length orders ≡ 16
  pub each : (number : ℕ) (d : Order) → number < 16 → IsKept locks number (slice_index_or orders number d)

-- the locks of seventeen sessions, with their orders
pub record IsTable (locks : Locks) (orders : List Order) : Type 0 where
  pub sessions : length locks ≡ 17
  pub own : AreOwn locks
  pub kept : AreKept locks orders
