use Rattle.std.proofs.Common.{◌≡◌, drop}
use Rattle.sql_check.specs.Misfits.{first_fault, shown_fault}
use Rattle.sql_check.proofs.misfits.names_fault.Given as goal

abbrev pub invariant-loop-name : goal.invariant-loop-name
invariant-loop-name l = first_fault (shown_fault l.columns) (drop l.name-index l.names) ≡ first_fault (shown_fault l.columns) l.names
