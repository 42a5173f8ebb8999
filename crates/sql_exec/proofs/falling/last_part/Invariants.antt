use Rattle.std.proofs.Common.{◌≡◌}
use Rattle.sql_exec.specs.Bodies.{CanRead, OnlyForward}
use Rattle.sql_exec.specs.Sends.{SendsNothing}
use Rattle.sql_exec.proofs.falling.last_part.Given as goal

abbrev pub invariant-loop-found : goal.invariant-loop-found
invariant-loop-found g l =
    let calls = g.R.RowCalls.calls in record {
      schema : g.R.RowCalls.defs l.rows ≡ g.R.RowCalls.defs l.fn.rows;
      forward : OnlyForward (calls l.fn.rows) (calls l.rows);
      sent : SendsNothing (calls l.fn.rows) (calls l.rows);
      can : CanRead (calls l.rows) l.p.table l.rest.lo.number l.rest.hi.number;
    }

abbrev pub decreases-loop-found : goal.decreases-loop-found
decreases-loop-found g l = l.width.halvings
