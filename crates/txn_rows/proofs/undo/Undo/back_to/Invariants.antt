use Rattle.std.proofs.Common.{length}
use Rattle.txn_rows.proofs.States.{Undoing}
use Rattle.txn_rows.proofs.undo.Undo.back_to.Given as goal

abbrev pub invariant-loop-step : goal.invariant-loop-step
invariant-loop-step l = Undoing l.initial.lists l.lists l.initial.self.steps.items l.self.steps.items l.count l.len

abbrev pub decreases-loop-step : goal.decreases-loop-step
decreases-loop-step l = length l.self.steps.items
