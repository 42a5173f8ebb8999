use Rattle.std.proofs.Common.{rules, arith, ◌≡◌, ◌∙◌, ◌+◌, ℕ, List, Option, Some, None, Result, Ok, Err, Bool, cond, refl, sym, subst}
use Rattle.row_types.specs.declared.definition.TableDef.{TableDef}
use Rattle.row_types.specs.Schema.{keys_at}
use Rattle.std.specs.List.{flat_map}
use Rattle.plain_model.specs.declared.stop.Stop.{Stop}
use Rattle.sql_exec.specs.Sends.{SendsOnly}
use Rattle.sql_exec.specs.Acts.{act_of}
use Rattle.sql_exec.specs.Bodies.{here}
use Rattle.sql_exec.specs.Pieces.{ActsOne, ActsAll}
use Rattle.sql_exec.proofs.Acting.{acts_can, acts_forward, count_more, did_sends, few_more, good_more, puts, takes, sends_more, sends_part}
use Rattle.sql_exec.proofs.OneTable.{stays}
use Rattle.sql_exec.proofs.Turning.{list_more, list_refused, list_stops, stops_sent}
use Rattle.sql_exec.proofs.Forward.{forward_on, forward_since}
use Rattle.sql_exec.proofs.change.act_all.Goals.{then-is_done, else-is_done}
use Rattle.sql_exec.proofs.change.act_all.Goals as goal

pub loop-row-init : goal.loop-row-init
loop-row-init g c = record {
  schema = refl;
  forward = here;
  can = c.requires.can;
  few = omega arith;
  good = refl;
  count = refl;
  plain = λ first plays. stays c.args.table (λ r s. s ≡ r) _ _ refl refl;
  sent = record { put = refl; taken = refl };
}

pub loop-row-preserved : goal.loop-row-preserved
loop-row-preserved g c =
    let calls = g.R.RowCalls.calls in
    let defs = g.R.RowCalls.defs c.args.rows.now in
    let n = c.args.table in
    let marks = keys_at defs n in
    let act = act_of c.args.plan in
    let start = calls c.args.rows.now in
    let old = calls c.loop-row.rows in
    let new = calls c.act.new.rows in
    let list = c.args.piece.now in
    let i = c.loop-row.row-index in
    let row = c.row-item.result in
    let less = c.loop-row-test.true in
    let at = c.row-item.is in
    let inv = c.loop-row.invariant in
    let d = c.in-Some.is_done in
    let acts : ActsOne marks n (act row) row old (Ok (Some d)) new =
    subst (λ (ds : List TableDef). ActsOne (keys_at ds n) n (act row) row old (Ok (Some d)) new) inv.schema (subst (λ (o : Option Bool). ActsOne (keys_at (g.R.RowCalls.defs c.loop-row.rows) n) n (act row) row old (Ok o) new) c.in-Some.is c.in_ok-is_done.ensures.calls) in
    let forward = acts_forward marks n (act row) row old (Ok (Some d)) new acts in
    let sum : c.if-is_done.count ≡ c.loop-row.count + cond d 1 0 = elim c.if-is_done.branch [
      | then-is_done w ↦ w.count-is ∙ rw w.if-is_done.true refl
      | else-is_done w ↦ w.count-is ∙ rw w.if-is_done.false (omega arith)
    ] in
    record {
      schema = c.in_ok-is_done.ensures.schema ∙ inv.schema;
      forward = forward_on start old new inv.forward forward;
      can = acts_can marks n (act row) row c.args.range.lo.number c.args.range.hi.number old (Some d) new acts inv.can;
      few = few_more d c.loop-row.count _ i inv.few sum;
      good = good_more marks act list i row less at inv.good acts.1;
      count = count_more marks act list i row less at c.loop-row.count _ d inv.count acts.0 sum;
      plain = list_more defs n act list i row less at start old new inv.plain acts.2 (forward_since old new forward);
      sent = sends_more marks act list i row less at start old new inv.sent (did_sends marks n (act row) row old new acts.2);
    }

pub returns-in_err-is_done-clause-forward : goal.returns-in_err-is_done-clause-forward
returns-in_err-is_done-clause-forward g c =
    let calls = g.R.RowCalls.calls in
    let n = c.args.table in
    let row = c.row-item.result in
    forward_on (calls c.args.rows.now) (calls c.loop-row.rows) (calls c.act.new.rows) c.loop-row.invariant.forward
    (acts_forward (keys_at (g.R.RowCalls.defs c.loop-row.rows) n) n (act_of c.args.plan row) row (calls c.loop-row.rows) (Err c.in_err-is_done.field-0.0) (calls c.act.new.rows) c.in_err-is_done.ensures.calls)

pub returns-in_err-is_done-clause-acts : goal.returns-in_err-is_done-clause-acts
returns-in_err-is_done-clause-acts g c =
    let calls = g.R.RowCalls.calls in
    let defs = g.R.RowCalls.defs c.args.rows.now in
    let n = c.args.table in
    let act = act_of c.args.plan in
    let start = calls c.args.rows.now in
    let old = calls c.loop-row.rows in
    let new = calls c.act.new.rows in
    let list = c.args.piece.now in
    let i = c.loop-row.row-index in
    let row = c.row-item.result in
    let less = c.loop-row-test.true in
    let at = c.row-item.is in
    let inv = c.loop-row.invariant in
    let stop : Stop = c.in_err-is_done.field-0.0 in
    let is : c.from_residual.result ≡ Err stop = search rules in
    let acts : ActsOne (keys_at defs n) n (act row) row old (Err stop) new = subst (λ (ds : List TableDef). ActsOne (keys_at ds n) n (act row) row old (Err stop) new) inv.schema c.in_err-is_done.ensures.calls in
    subst (λ (r : Result (Option ℕ) Stop). ActsAll defs n c.args.plan list start r new) (sym is) (record {
      plain = list_stops defs n act list i row less at start old new stop acts inv.plain inv.good;
      sent = stops_sent defs n act list i row less at start old new stop acts inv.sent;
    })

pub returns-in_default-clause-acts : goal.returns-in_default-clause-acts
returns-in_default-clause-acts g c =
    let calls = g.R.RowCalls.calls in
    let defs = g.R.RowCalls.defs c.args.rows.now in
    let n = c.args.table in
    let marks = keys_at defs n in
    let act = act_of c.args.plan in
    let start = calls c.args.rows.now in
    let old = calls c.loop-row.rows in
    let new = calls c.act.new.rows in
    let list = c.args.piece.now in
    let i = c.loop-row.row-index in
    let row = c.row-item.result in
    let inv = c.loop-row.invariant in
    let none : c.in_ok-is_done.field-0 ≡ None = c.in_default.is in
    let acts : ActsOne (keys_at (g.R.RowCalls.defs c.loop-row.rows) n) n (act row) row old (Ok None) new = subst (λ (o : Option Bool). ActsOne (keys_at (g.R.RowCalls.defs c.loop-row.rows) n) n (act row) row old (Ok o) new) none c.in_ok-is_done.ensures.calls in
    record {
      plain = list_refused defs n act list i row c.loop-row-test.true c.row-item.is start old new inv.plain acts.0 acts.1;
      sent = subst (SendsOnly (flat_map (puts marks act) list) (flat_map (takes marks act) list) start) (sym acts.1) (sends_part marks act list i start old inv.sent);
    }
