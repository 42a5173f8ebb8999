use Rattle.std.proofs.Common.{◌≡◌, drop}
use Rattle.sql_check.specs.Misfits.{first_fault, total_fault}
use Rattle.sql_check.proofs.misfits.totals_fault.Given as goal

abbrev pub invariant-loop-total : goal.invariant-loop-total
invariant-loop-total l = first_fault (total_fault l.columns) (drop l.total-index l.totals) ≡ first_fault (total_fault l.columns) l.totals
