use Rattle.std.proofs.Common.{◌≡◌, drop}
use Rattle.plain_model.specs.PlanMeaning.{ints_after}
use Rattle.sql_exec.proofs.values.ints_after.Given as goal

abbrev pub invariant-loop-step : goal.invariant-loop-step
invariant-loop-step l = ints_after l.row l.number (drop l.step-index l.further) ≡ ints_after l.row l.first l.further
