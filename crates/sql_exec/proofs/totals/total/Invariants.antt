use Rattle.std.proofs.Common.{◌≡◌, ◌-◌, length}
use Rattle.sql_exec.specs.Selects.{sums_of}
use Rattle.sql_exec.proofs.ReadLoops.{ReadSoFar}
use Rattle.sql_exec.proofs.totals.total.Given as goal

abbrev pub invariant-loop-sums : goal.invariant-loop-sums
invariant-loop-sums g l = record {
  schema : g.R.RowCalls.defs l.rows ≡ g.R.RowCalls.defs l.fn.rows;
  len : length l.sums.items ≡ length l.p.totals;
  so_far : ReadSoFar (g.R.RowCalls.defs l.fn.rows) l.p.table l.fn.range l.rest (λ rows. l.sums.items ≡ sums_of l.p rows) (g.R.RowCalls.calls l.fn.rows) (g.R.RowCalls.calls l.rows);
}

abbrev pub decreases-loop-sums : goal.decreases-loop-sums
decreases-loop-sums g l = l.rest.hi.number - l.rest.lo.number
