use Rattle.std.proofs.Common.{◌≡◌, ◌≤◌, ◌+◌, ◌-◌}
use Rattle.row_types.specs.Schema.{keys_at}
use Rattle.key_space.specs.Ranges.{IsNotEmpty}
use Rattle.sql_exec.specs.Acts.{rows_in}
use Rattle.sql_exec.specs.Bodies.{CanRead, OnlyForward}
use Rattle.sql_exec.specs.Plays.{OnTable}
use Rattle.sql_exec.specs.Sends.{SendsNothing}
use Rattle.sql_exec.specs.Windows.{last_shown}
use Rattle.sql_exec.proofs.falling.last_found.Given as goal

abbrev pub invariant-loop-wanted : goal.invariant-loop-wanted
invariant-loop-wanted g l =
    let calls = g.R.RowCalls.calls in
    let defs = g.R.RowCalls.defs l.fn.rows in
    let n = l.p.table in record {
      schema : g.R.RowCalls.defs l.rows ≡ defs;
      forward : OnlyForward (calls l.fn.rows) (calls l.rows);
      sent : SendsNothing (calls l.fn.rows) (calls l.rows);
      can : CanRead (calls l.rows) n l.fn.range.lo.number l.fn.range.hi.number;
      low : l.rest.lo.number ≡ l.fn.range.lo.number;
      some : IsNotEmpty l.rest;
      high : l.rest.hi.number ≤ l.fn.range.hi.number;
      says : OnTable defs n (λ r s. (l.found.items ≡ last_shown l.p l.fn.limit (rows_in (keys_at defs n) (l.rest.hi.number + 1) (l.fn.range.hi.number + 1) r)) × (s ≡ r)) (calls l.fn.rows) (calls l.rows);
    }

abbrev pub decreases-loop-wanted : goal.decreases-loop-wanted
decreases-loop-wanted g l = l.rest.hi.number - l.rest.lo.number
