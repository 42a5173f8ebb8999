use Rattle.std.proofs.Common.{◌≡◌, drop}
use Rattle.plain_model.specs.PlanMeaning.{with_assignments, planned_row}
use Rattle.sql_exec.proofs.values.planned_row.Given as goal

abbrev pub invariant-loop-change : goal.invariant-loop-change
invariant-loop-change l = with_assignments l.row (drop l.change-index l.changes) l.values.items ≡ planned_row l.changes l.row
