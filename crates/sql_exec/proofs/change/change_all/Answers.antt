use Rattle.std.proofs.Common.{rules, ◌≡◌, ◌∙◌, ◌≤◌, List, Option, Ok, Err, refl, sym, subst}
use Rattle.std.specs.Prelude.{IfSome}
use Rattle.row_types.specs.declared.definition.TableDef.{TableDef}
use Rattle.plain_model.specs.declared.stop.Stop.{Stop}
use Rattle.sql_exec.specs.declared.act.Passed.{Passed}
use Rattle.sql_exec.specs.Pieces.{ActsPiece}
use Rattle.sql_exec.proofs.ChangeLoops.{changes_made, changes_on, changes_refused, changes_stop, none_changed}
use Rattle.sql_exec.proofs.PieceLaws.{behind_is}
use Rattle.sql_exec.proofs.change.change_all.Goals as goal

pub loop-passed-init : goal.loop-passed-init
loop-passed-init g c = record {
  schema = refl;
  so_far = none_changed (g.R.RowCalls.defs c.args.rows.now) c.args.table c.args.plan c.args.range (g.R.RowCalls.calls c.args.rows.now) c.requires.can c.requires.range;
}

pub returns-in_err-passed-clause-changed : goal.returns-in_err-passed-clause-changed
returns-in_err-passed-clause-changed g c =
    let inv = c.loop-passed.invariant in
    let stop : Stop = c.in_err-passed.field-0.0 in
    let is : c.from_residual.result ≡ Err stop = search rules in
    changes_stop c.requires.plan c.requires.kept inv.so_far c.act_piece.ensures.forward stop c.from_residual.result is
    (subst (λ (ds : List TableDef). ActsPiece ds c.args.table c.args.plan c.loop-passed.rest (g.R.RowCalls.calls c.loop-passed.rows) (Err stop) (g.R.RowCalls.calls c.act_piece.new.rows)) inv.schema c.in_err-passed.ensures.acts) c.in_err-passed.ensures.end

pub returns-in_default-clause-changed : goal.returns-in_default-clause-changed
returns-in_default-clause-changed g c =
    let inv = c.loop-passed.invariant in
    let old = g.R.RowCalls.calls c.loop-passed.rows in
    let new = g.R.RowCalls.calls c.act_piece.new.rows in
    changes_refused c.requires.plan c.requires.kept inv.so_far c.act_piece.ensures.forward
    (subst (λ (o : Option Passed). ActsPiece (g.R.RowCalls.defs c.args.rows.now) c.args.table c.args.plan c.loop-passed.rest old (Ok o) new) c.in_default.is
    (subst (λ (ds : List TableDef). ActsPiece ds c.args.table c.args.plan c.loop-passed.rest old (Ok c.in_ok-passed.field-0) new) inv.schema c.in_ok-passed.ensures.acts)) c.in_ok-passed.ensures.can.0

pub returns-in_default-behind-clause-changed : goal.returns-in_default-behind-clause-changed
returns-in_default-behind-clause-changed g c =
    let inv = c.loop-passed.invariant in
    let rest = c.loop-passed.rest in
    let old = g.R.RowCalls.calls c.loop-passed.rows in
    let new = g.R.RowCalls.calls c.act_piece.new.rows in
    let up : rest.lo.number ≤ c.in-Some.passed.upto.number = subst (λ (o : Option Passed). IfSome o (λ p. rest.lo.number ≤ p.upto.number)) c.in-Some.is c.in_ok-passed.ensures.low in
    changes_made c.requires.plan c.requires.kept inv.so_far c.act_piece.ensures.forward c.in-Some.passed c.saturating_add-count.result c.saturating_add-count.ensures up
    (subst (λ (o : Option Passed). ActsPiece (g.R.RowCalls.defs c.args.rows.now) c.args.table c.args.plan rest old (Ok o) new) c.in-Some.is
    (subst (λ (ds : List TableDef). ActsPiece ds c.args.table c.args.plan rest old (Ok c.in_ok-passed.field-0) new) inv.schema c.in_ok-passed.ensures.acts)) (c.behind.ensures.none c.in_default-behind.is) c.in_ok-passed.ensures.can.0

pub loop-passed-preserved : goal.loop-passed-preserved
loop-passed-preserved g c =
    let inv = c.loop-passed.invariant in
    let rest = c.loop-passed.rest in
    let old = g.R.RowCalls.calls c.loop-passed.rows in
    let new = g.R.RowCalls.calls c.act_piece.new.rows in
    let up : rest.lo.number ≤ c.in-Some.passed.upto.number = subst (λ (o : Option Passed). IfSome o (λ p. rest.lo.number ≤ p.upto.number)) c.in-Some.is c.in_ok-passed.ensures.low in
    let behind = c.in-Some-behind.more in record {
      schema = c.in_ok-passed.ensures.schema ∙ inv.schema;
      so_far = changes_on c.requires.plan c.requires.kept inv.so_far c.act_piece.ensures.forward c.in-Some.passed c.saturating_add-count.result c.saturating_add-count.ensures up
          (subst (λ (o : Option Passed). ActsPiece (g.R.RowCalls.defs c.args.rows.now) c.args.table c.args.plan rest old (Ok o) new) c.in-Some.is
          (subst (λ (ds : List TableDef). ActsPiece ds c.args.table c.args.plan rest old (Ok c.in_ok-passed.field-0) new) inv.schema c.in_ok-passed.ensures.acts))
          behind (behind_is rest behind c.in-Some.passed.upto.number (sym c.behind.ensures.value ∙ c.in-Some-behind.is)) c.in_ok-passed.ensures.can;
    }
