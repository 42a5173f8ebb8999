-- none of the locks so far covers the request
use Rattle.std.proofs.Common.{◌≡◌, drop}
use Rattle.std.specs.List.{list_any}
use Rattle.key_space.specs.Locks.{covers_ask}
use Rattle.lock_table.specs.Orders.{held_at}
use Rattle.lock_table.proofs.places.is_covered.Given as goal

abbrev pub invariant-loop-place : goal.invariant-loop-place
invariant-loop-place l = list_any (covers_ask l.ask) (held_at l.owned l.places) ≡ list_any (covers_ask l.ask) (held_at l.owned (drop l.place-index l.places))
