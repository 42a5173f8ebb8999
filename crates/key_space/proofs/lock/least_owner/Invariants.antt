-- the least owner of the locks so far
use Rattle.std.proofs.Common.{◌≡◌, take}
use Rattle.key_space.specs.Locks.{in_the_way, least_owner}
use Rattle.key_space.proofs.lock.least_owner.Given as goal

abbrev pub invariant-loop-h : goal.invariant-loop-h
invariant-loop-h l = l.least ≡ least_owner (in_the_way l.older l.ask) (take l.h-index l.held)
