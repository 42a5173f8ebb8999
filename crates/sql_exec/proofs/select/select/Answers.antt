use Rattle.std.proofs.Common.{rules, ◌≡◌, Err, sym, subst}
use Rattle.key_space.specs.Plays.{Rows}
use Rattle.sql_check.specs.Columns.{def_at}
use Rattle.sql_check.specs.declared.plan.Plan.TheVariants.{Select}
use Rattle.plain_model.specs.declared.reply.Reply.TheVariants as replies
use Rattle.plain_model.specs.declared.stop.Stop.{Stop}
use Rattle.sql_exec.specs.Bodies.{here}
use Rattle.sql_exec.specs.Parts.{PlanReplies}
use Rattle.sql_exec.specs.Plays.{OnTable}
use Rattle.sql_exec.proofs.Forward.{forward_since}
use Rattle.sql_exec.proofs.Reading.{select_ends}
use Rattle.sql_exec.proofs.ReadLoops.{no_more, stops_on}
use Rattle.sql_exec.proofs.select.select.Goals as goal

pub returns-in_err-found-clause-read : goal.returns-in_err-found-clause-read
returns-in_err-found-clause-read g c =
    let stop : Stop = c.in_err-found.field-0.0 in
    let is : c.from_residual.result ≡ Err stop = search rules in
    stops_on stop c.from_residual.result is here (no_more (g.R.RowCalls.calls c.args.rows.now)) c.in_err-found.ensures.read

pub returns-clause-read : goal.returns-clause-read
returns-clause-read g c =
    let defs = g.R.RowCalls.defs c.args.rows.now in
    let p = c.args.p.now in
    let start = g.R.RowCalls.calls c.args.rows.now in
    let new = g.R.RowCalls.calls c.shown_in.new.rows in
    let read = c.in_ok-found.ensures.read in record {
      forward = read.forward;
      sent = read.sent;
      runs = read.runs;
      end = tt;
      says = subst (λ (rows : Rows). OnTable defs p.table (λ r s. PlanReplies (def_at defs p.table) (Select p) (replies.Rows rows) r × (s ≡ r)) start new) (sym c.from_vec.ensures)
          (select_ends defs p c.args.range start new c.requires.kept (forward_since start new read.forward) c.in_ok-found.found.items read.says);
    }
