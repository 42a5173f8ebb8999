use Rattle.std.proofs.Common.{◌≡◌, ◌+◌, ◌≤◌}
use Rattle.std.specs.Vec.{vec_len, vec_capacity}
use Rattle.turnstile.specs.Words.{name_of}
use Rattle.turnstile.specs.Passes.{IsPass, left, made}
use Rattle.test_threads.proofs.lane.lanes.Given as goal

abbrev pub invariant-loop : goal.invariant-loop
invariant-loop g l = IsPass (name_of l.room) l.first × (left l.first ≡ left l.initial.first) × (made l.first ≡ l.counter + 1) × (vec_len l.lanes ≡ l.counter) × (l.count ≤ vec_capacity l.lanes)
