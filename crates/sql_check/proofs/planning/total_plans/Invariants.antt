use Rattle.std.proofs.Common.{◌≡◌, map, take}
use Rattle.sql_check.specs.Plans.{total_plan}
use Rattle.sql_check.proofs.planning.total_plans.Given as goal

abbrev pub invariant-loop-total : goal.invariant-loop-total
invariant-loop-total l = l.plans.items ≡ map (total_plan l.columns) (take l.total-index l.totals)
