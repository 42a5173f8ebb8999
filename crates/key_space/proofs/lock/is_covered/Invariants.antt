-- no lock so far covers the request
use Rattle.std.proofs.Common.{◌≡◌, false, take}
use Rattle.std.specs.List.{list_any}
use Rattle.key_space.specs.Locks.{covers_ask}
use Rattle.key_space.proofs.lock.is_covered.Given as goal

abbrev pub invariant-loop-h : goal.invariant-loop-h
invariant-loop-h l = list_any (covers_ask l.ask) (take l.h-index l.held) ≡ false
