use Rattle.std.proofs.Common.{◌≡◌, ◌++◌, length, take, drop}
use Rattle.sql_exec.specs.Selects.{with_row_added}
use Rattle.sql_exec.proofs.totals.add_row.Given as goal

abbrev pub invariant-loop-i : goal.invariant-loop-i
invariant-loop-i l = record {
  len : length l.sums ≡ length l.totals;
  rest : take l.i l.sums ++ with_row_added (drop l.i l.totals) l.row (drop l.i l.sums) ≡ with_row_added l.totals l.row l.fn.sums;
}
