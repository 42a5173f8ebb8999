use Rattle.std.proofs.Common.{◌≡◌, ◌-◌}
use Rattle.sql_exec.proofs.ChangeLoops.{ChangedSoFar}
use Rattle.sql_exec.proofs.change.change_all.Given as goal

abbrev pub invariant-loop-passed : goal.invariant-loop-passed
invariant-loop-passed g l = record {
  schema : g.R.RowCalls.defs l.rows ≡ g.R.RowCalls.defs l.fn.rows;
  so_far : ChangedSoFar (g.R.RowCalls.defs l.fn.rows) l.table l.plan l.fn.range l.rest l.count (g.R.RowCalls.calls l.fn.rows) (g.R.RowCalls.calls l.rows);
}

abbrev pub decreases-loop-passed : goal.decreases-loop-passed
decreases-loop-passed g l = l.rest.hi.number - l.rest.lo.number
