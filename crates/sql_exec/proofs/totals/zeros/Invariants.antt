use Rattle.std.proofs.Common.{◌≡◌, ◌++◌, map, drop, pos}
use Rattle.sql_check.specs.declared.plan.TotalPlan.{TotalPlan}
use Rattle.sql_exec.proofs.totals.zeros.Given as goal

abbrev pub invariant-loop : goal.invariant-loop
invariant-loop l = l.sums.items ++ map (λ (total : TotalPlan). pos 0) (drop l.index l.totals) ≡ map (λ (total : TotalPlan). pos 0) l.totals
