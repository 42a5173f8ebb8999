use Rattle.std.proofs.Common.{◌≡◌, map}
use Rattle.sql_check.specs.Plans.{assignment_of}
use Rattle.sql_check.proofs.planning.assignments_of.Given as goal

abbrev pub invariant-loop-change : goal.invariant-loop-change
invariant-loop-change l = l.plans.items ≡ map (assignment_of l.columns) l.yielded
