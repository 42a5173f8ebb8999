use Rattle.std.proofs.Common.{rules, arith, ◌≡◌, ◌∙◌, List, Err, Ok, refl, ap, subst}
use Rattle.row_types.specs.declared.definition.TableDef.{TableDef}
use Rattle.row_types.specs.Schema.{keys_at}
use Rattle.plain_model.specs.declared.stop.Stop.{Stop}
use Rattle.sql_exec.specs.declared.window.Window.{Window}
use Rattle.sql_exec.specs.declared.window.Window.TheVariants.{Whole}
use Rattle.sql_exec.specs.Bodies.{here}
use Rattle.sql_exec.specs.Parts.{Reads}
use Rattle.sql_exec.specs.Windows.{WindowEnds}
use Rattle.sql_exec.proofs.Forward.{forward_on}
use Rattle.sql_exec.proofs.ReadLoops.{can_later, can_within, no_more, nothing_on, says_after, stops_on}
use Rattle.sql_exec.proofs.falling.last_part.Goals as goal

pub loop-found-init : goal.loop-found-init
loop-found-init g c = record { schema = refl; forward = here; sent = no_more (g.R.RowCalls.calls c.args.rows.now); can = c.requires.can }

pub last_in-requires-clause-can : goal.last_in-requires-clause-can
last_in-requires-clause-can g c =
    let rest = c.args.rest in
    let window = c.window-window.result in
    can_within (g.R.RowCalls.calls c.loop-found.rows) c.args.p.now.table rest.lo.number rest.hi.number window.lo.number window.hi.number c.window-window.ensures.low (omega (arith, ap (λ k. k.number) c.window-window.ensures.high)) c.loop-found.invariant.can

pub returns-in_err-found-clause-read : goal.returns-in_err-found-clause-read
returns-in_err-found-clause-read g c =
    let stop : Stop = c.in_err-found.field-0.0 in
    let is : c.from_residual.result ≡ Err stop = search rules in
    let inv = c.loop-found.invariant in
    let p = c.args.p.now in
    stops_on stop c.from_residual.result is inv.forward inv.sent
    (subst (λ (ds : List TableDef). Reads ds p.table (WindowEnds (keys_at ds p.table) c.window-window.result p c.args.wanted) (g.R.RowCalls.calls c.loop-found.rows) (Err stop) (g.R.RowCalls.calls c.last_in.new.rows)) inv.schema c.in_err-found.ensures.read)

pub returns-in-Whole-clause-read : goal.returns-in-Whole-clause-read
returns-in-Whole-clause-read g c =
    let calls = g.R.RowCalls.calls in
    let defs = g.R.RowCalls.defs c.args.rows.now in
    let p = c.args.p.now in
    let window = c.window-window.result in
    let start = calls c.args.rows.now in
    let old = calls c.loop-found.rows in
    let new = calls c.last_in.new.rows in
    let inv = c.loop-found.invariant in
    let read : Reads defs p.table (WindowEnds (keys_at defs p.table) window p c.args.wanted) old (Ok (Whole c.in-Whole.found)) new =
    subst (λ (w : Window). Reads defs p.table (WindowEnds (keys_at defs p.table) window p c.args.wanted) old (Ok w) new) c.in-Whole.is
    (subst (λ (ds : List TableDef). Reads ds p.table (WindowEnds (keys_at ds p.table) window p c.args.wanted) old (Ok c.in_ok-found.field-0) new) inv.schema c.in_ok-found.ensures.read) in
    record {
      forward = forward_on start old new inv.forward read.forward;
      sent = nothing_on start old new inv.sent read.sent;
      runs = read.runs;
      end = tt;
      says = says_after (WindowEnds (keys_at defs p.table) window p c.args.wanted) (Whole c.in-Whole.found) inv.forward inv.sent read;
    }

pub loop-found-preserved : goal.loop-found-preserved
loop-found-preserved g c =
    let calls = g.R.RowCalls.calls in
    let start = calls c.args.rows.now in
    let old = calls c.loop-found.rows in
    let new = calls c.last_in.new.rows in
    let inv = c.loop-found.invariant in
    let read = c.in_ok-found.ensures.read in
    record {
      schema = c.last_in.ensures.schema ∙ inv.schema;
      forward = forward_on start old new inv.forward read.forward;
      sent = nothing_on start old new inv.sent read.sent;
      can = can_later old new c.args.p.now.table c.args.rest.lo.number c.args.rest.hi.number read.forward read.runs inv.can;
    }
