-- the least owner of the locks so far
use Rattle.std.proofs.Common.{◌≡◌, take}
use Rattle.key_space.specs.Locks.{in_the_way, least_owner}
use Rattle.lock_table.specs.Orders.{held_at}
use Rattle.lock_table.proofs.places.least_owner.Given as goal

abbrev pub invariant-loop-place : goal.invariant-loop-place
invariant-loop-place l = l.least ≡ least_owner (in_the_way l.older l.ask) (held_at l.owned (take l.place-index l.places))
