use Rattle.std.proofs.Common.{◌≡◌, [], take, drop}
use Rattle.std.specs.List.{AllByRecursion}
use Rattle.sql_check.specs.Misfits.{column_names, changes_fault}
use Rattle.sql_check.specs.Valued.{IsChangeOfValues}
use Rattle.sql_check.proofs.misfits.changes_fault.Given as goal

abbrev pub invariant-loop-i : goal.invariant-loop-i
invariant-loop-i l = record {
  rest : changes_fault l.def (column_names (take l.i l.changes)) (drop l.i l.changes) ≡ changes_fault l.def [] l.changes;
  values : AllByRecursion IsChangeOfValues (take l.i l.changes);
}
