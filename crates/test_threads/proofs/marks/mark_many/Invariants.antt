use Rattle.std.proofs.Common.{◌≡◌, ◌+◌, length}
use Rattle.turnstile.specs.Words.{name_of}
use Rattle.turnstile.specs.Passes.{IsPass, mine, number, left, made}
use Rattle.test_threads.proofs.marks.mark_many.Given as goal

abbrev pub invariant-loop-i : goal.invariant-loop-i
invariant-loop-i g l = IsPass (name_of l.room) l.pass × (number l.pass ≡ number l.initial.pass) × (made l.pass ≡ made l.initial.pass) × (left l.pass + l.i ≡ left l.initial.pass)
    × (length (mine l.pass) ≡ length (mine l.initial.pass) + l.i)
