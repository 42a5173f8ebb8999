use Rattle.std.proofs.Common.{◌≡◌, ◌+◌}
use Rattle.turnstile.specs.Words.{name_of}
use Rattle.turnstile.specs.Passes.{IsPass, left}
use Rattle.test_threads.proofs.count.count_turns.Given as goal

abbrev pub invariant-loop : goal.invariant-loop
invariant-loop g l = IsPass (name_of l.room) l.pass × (left l.pass + l.counter ≡ left l.initial.pass)
