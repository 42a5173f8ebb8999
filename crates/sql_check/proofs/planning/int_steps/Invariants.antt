use Rattle.std.proofs.Common.{◌≡◌, map, take}
use Rattle.sql_check.specs.Plans.{int_step}
use Rattle.sql_check.proofs.planning.int_steps.Given as goal

abbrev pub invariant-loop-step : goal.invariant-loop-step
invariant-loop-step l = l.plans.items ≡ map (int_step l.columns) (take l.step-index l.steps)
