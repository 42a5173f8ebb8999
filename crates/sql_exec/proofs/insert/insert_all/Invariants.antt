use Rattle.std.proofs.Common.{◌≡◌}
use Rattle.sql_exec.proofs.ChangeLoops.{InsertedUpTo}
use Rattle.sql_exec.proofs.insert.insert_all.Given as goal

abbrev pub invariant-loop-row : goal.invariant-loop-row
invariant-loop-row g l = record {
  schema : g.R.RowCalls.defs l.rows ≡ g.R.RowCalls.defs l.fn.rows;
  so_far : InsertedUpTo (g.R.RowCalls.defs l.fn.rows) l.p.table l.fn.range l.list l.row-index (g.R.RowCalls.calls l.fn.rows) (g.R.RowCalls.calls l.rows);
}
