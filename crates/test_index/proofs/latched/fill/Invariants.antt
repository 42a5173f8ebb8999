use Rattle.std.proofs.Common.{◌≡◌, length}
use Rattle.olfit_change.specs.States.{IsBetweenCalls}
use Rattle.test_index.proofs.latched.fill.Given as goal

abbrev pub invariant-loop-done : goal.invariant-loop-done
invariant-loop-done l = IsBetweenCalls l.shared.table_id 8 l.used l.me × (length l.me.me.0.seen.log ≡ l.done)
