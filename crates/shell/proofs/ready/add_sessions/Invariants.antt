use Rattle.std.proofs.Common.{◌≡◌, ◌+◌, ◌++◌, length}
use Rattle.shell.specs.Ready.{numbered}
use Rattle.shell.proofs.ready.add_sessions.Given as goal

abbrev pub invariant-loop-session : goal.invariant-loop-session
invariant-loop-session l =
    goal.iterator-loop-session.can_next l.session-iterator × goal.iterator-loop-session.is_finite l.session-iterator
    × (l.sections.items ≡ l.fn.sections.items ++ numbered 1 l.yielded) × (l.number ≡ 1 + length l.yielded)
