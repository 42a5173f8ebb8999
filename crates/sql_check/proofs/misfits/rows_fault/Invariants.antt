use Rattle.std.proofs.Common.{◌≡◌, take, drop}
use Rattle.std.specs.List.{AllByRecursion}
use Rattle.sql_check.specs.Misfits.{first_fault, row_fault}
use Rattle.sql_check.specs.Valued.{IsValue}
use Rattle.sql_check.proofs.misfits.rows_fault.Given as goal

abbrev pub invariant-loop-row : goal.invariant-loop-row
invariant-loop-row l = record {
  rest : first_fault (row_fault l.columns) (drop l.row-index l.rows) ≡ first_fault (row_fault l.columns) l.rows;
  values : AllByRecursion (AllByRecursion IsValue) (take l.row-index l.rows);
}
