-- the orders so far are new
use Rattle.std.proofs.Common.{◌≡◌, ◌≤◌, length}
use Rattle.std.specs.Prelude.{vec_capacity}
use Rattle.std.specs.List.{All}
use Rattle.lock_table.specs.Tables.{IsNew}
use Rattle.lock_table.proofs.orders.no_places.Given as goal

abbrev pub invariant-loop : goal.invariant-loop
invariant-loop l = record {
  count : length l.orders.items ≡ l.counter;
  room : 16 ≤ vec_capacity l.orders;
  each : All IsNew l.orders.items;
}
