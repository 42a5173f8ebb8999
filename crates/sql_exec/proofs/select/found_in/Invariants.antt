use Rattle.std.proofs.Common.{◌≡◌, ◌-◌}
use Rattle.sql_exec.specs.Selects.{shown_of}
use Rattle.sql_exec.proofs.ReadLoops.{ReadSoFar}
use Rattle.sql_exec.proofs.select.found_in.Given as goal

abbrev pub invariant-loop-found : goal.invariant-loop-found
invariant-loop-found g l = record {
  schema : g.R.RowCalls.defs l.rows ≡ g.R.RowCalls.defs l.fn.rows;
  so_far : ReadSoFar (g.R.RowCalls.defs l.fn.rows) l.p.table l.fn.range l.rest (λ rows. l.found.items ≡ shown_of l.p l.wanted rows) (g.R.RowCalls.calls l.fn.rows) (g.R.RowCalls.calls l.rows);
}

abbrev pub decreases-loop-found : goal.decreases-loop-found
decreases-loop-found g l = l.rest.hi.number - l.rest.lo.number
