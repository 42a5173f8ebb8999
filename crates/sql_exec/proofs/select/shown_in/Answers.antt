use Rattle.std.proofs.Common.{rules, ◌≡◌, Err, None}
use Rattle.row_types.specs.Schema.{keys_at}
use Rattle.plain_model.specs.declared.stop.Stop.{Stop}
use Rattle.sql_exec.specs.Bodies.{here}
use Rattle.sql_exec.specs.Selects.{Found, FoundInOrder}
use Rattle.sql_exec.specs.Windows.{FoundLast}
use Rattle.sql_exec.proofs.Lasting.{last_in_order}
use Rattle.sql_exec.proofs.OneTable.{on_weaker}
use Rattle.sql_exec.proofs.Reading.{falling_order, rising_order}
use Rattle.sql_exec.proofs.ReadLoops.{no_more, reads_weaker, stops_on}
use Rattle.sql_exec.proofs.select.shown_in.Goals as goal

pub returns-then-not-p-clause-read : goal.returns-then-not-p-clause-read
returns-then-not-p-clause-read g c =
    let defs = g.R.RowCalls.defs c.args.rows.now in
    let p = c.args.p.now in
    let marks = keys_at defs p.table in
    reads_weaker (λ found. Found marks c.args.range p p.limit found.items) (λ found. FoundInOrder marks c.args.range p found.items)
    (λ found rows is. rising_order defs p c.args.range found.items rows c.if-not-p.true is) c.found_in.result c.found_in.ensures.read

pub returns-in-Some-clause-read : goal.returns-in-Some-clause-read
returns-in-Some-clause-read g c =
    let defs = g.R.RowCalls.defs c.args.rows.now in
    let p = c.args.p.now in
    let marks = keys_at defs p.table in
    reads_weaker (λ found. FoundLast marks c.args.range p c.in-Some.limit found.items) (λ found. FoundInOrder marks c.args.range p found.items)
    (λ found rows is. last_in_order marks p c.args.range c.in-Some.limit found.items rows c.if-not-p.false c.in-Some.is is) c.last_found.result c.last_found.ensures.read

pub returns-in_err-found-in-None-clause-read : goal.returns-in_err-found-in-None-clause-read
returns-in_err-found-in-None-clause-read g c =
    let stop : Stop = c.in_err-found-in-None.field-0.0 in
    let is : c.from_residual.result ≡ Err stop = search rules in
    stops_on stop c.from_residual.result is here (no_more (g.R.RowCalls.calls c.args.rows.now)) c.in_err-found-in-None.ensures.read

pub returns-in_ok-found-in-None-clause-read : goal.returns-in_ok-found-in-None-clause-read
returns-in_ok-found-in-None-clause-read g c =
    let defs = g.R.RowCalls.defs c.args.rows.now in
    let p = c.args.p.now in
    let read = c.in_ok-found-in-None.ensures.read in record {
      forward = read.forward;
      sent = read.sent;
      runs = read.runs;
      end = tt;
      says = on_weaker defs p.table (λ r s. Found (keys_at defs p.table) c.args.range p None c.in_ok-found-in-None.found.items r × (s ≡ r)) (λ r s. FoundInOrder (keys_at defs p.table) c.args.range p _ r × (s ≡ r)) (g.R.RowCalls.calls c.args.rows.now) (g.R.RowCalls.calls c.found_in-in-None.new.rows)
          (λ r s f. (falling_order defs p c.args.range c.in_ok-found-in-None.found.items _ r c.if-not-p.false c.in-None.is c.reverse.ensures.items f.0, f.1)) read.says;
    }
