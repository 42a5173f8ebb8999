use Rattle.std.proofs.Common.{◌≡◌, ◌≤◌, false, take}
use Rattle.std.specs.List.{flat_map}
use Rattle.row_types.specs.Schema.{keys_at}
use Rattle.sql_exec.specs.Acts.{act_of, done_count, effects, put_by, some_refused, taken_by}
use Rattle.sql_exec.specs.Bodies.{CanWrite, OnlyForward}
use Rattle.sql_exec.specs.Pieces.{SendsAll}
use Rattle.sql_exec.specs.Plays.{OnTable}
use Rattle.sql_exec.proofs.change.act_all.Given as goal

abbrev pub invariant-loop-row : goal.invariant-loop-row
invariant-loop-row g l =
    let calls = g.R.RowCalls.calls in
    let defs = g.R.RowCalls.defs l.fn.rows in
    let marks = keys_at defs l.table in
    let act = act_of l.plan in
    let done = take l.row-index l.piece in record {
      schema : g.R.RowCalls.defs l.rows ≡ defs;
      forward : OnlyForward (calls l.fn.rows) (calls l.rows);
      can : CanWrite (calls l.rows) l.table l.fn.range.lo.number l.fn.range.hi.number;
      few : l.count ≤ l.row-index;
      good : some_refused act done ≡ false;
      count : l.count ≡ done_count act done;
      plain : OnTable defs l.table (λ r s. s ≡ effects marks act done r) (calls l.fn.rows) (calls l.rows);
      sent : SendsAll (flat_map (λ row. put_by (act row)) done) (flat_map (λ row. taken_by marks (act row) row) done) (calls l.fn.rows) (calls l.rows);
    }
