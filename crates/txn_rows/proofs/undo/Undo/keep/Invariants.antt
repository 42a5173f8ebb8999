use Rattle.std.proofs.Common.{length}
use Rattle.std.specs.List.{AllByRecursion}
use Rattle.txn_rows.specs.Steps.{IsOnTable, KeepsRows}
use Rattle.txn_rows.proofs.undo.Undo.keep.Given as goal

abbrev pub invariant-loop-step : goal.invariant-loop-step
invariant-loop-step l = AllByRecursion (IsOnTable (length l.lists)) l.self.steps.items × KeepsRows l.initial.lists l.lists

abbrev pub decreases-loop-step : goal.decreases-loop-step
decreases-loop-step l = length l.self.steps.items
