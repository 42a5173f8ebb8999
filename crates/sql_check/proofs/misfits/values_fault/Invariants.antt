use Rattle.std.proofs.Common.{◌≡◌, take, drop}
use Rattle.std.specs.List.{AllByRecursion}
use Rattle.sql_check.specs.Misfits.{values_fault}
use Rattle.sql_check.specs.Valued.{IsValue}
use Rattle.sql_check.proofs.misfits.values_fault.Given as goal

abbrev pub invariant-loop-i : goal.invariant-loop-i
invariant-loop-i l = record {
  rest : values_fault (drop l.i l.columns) (drop l.i l.row) ≡ values_fault l.columns l.row;
  values : AllByRecursion IsValue (take l.i l.row);
}
