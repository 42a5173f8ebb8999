use Rattle.std.proofs.Common.{◌≡◌, List, Err, sym, ap, subst, ◌∙◌, rules}
use Rattle.row_types.specs.declared.block.Block.TheVariants.{Transaction as Behind}
use Rattle.plain_model.specs.declared.reply.Reply.{Reply}
use Rattle.engine_txn.specs.Steps.{with_end}
use Rattle.engine_txn.specs.Progress.{Answered}
use Rattle.engine_txn.proofs.Endings.{answered_end, answered_short, begun_broken, broken_end, inside_all, inside_short}
use Rattle.engine_txn.proofs.block.run_begun.Goals as goal

pub returns-then-not-branch-clause-runs : goal.returns-then-not-branch-clause-runs
returns-then-not-branch-clause-runs g c =
    let defs = g.B.RowCalls.defs c.args.calls.now in
    let begun = g.B.RowCalls.calls c.args.calls.now in
    let now = g.B.RowCalls.calls c.run_inside.new.calls in
    let t = c.args.t.now in
    let said = c.run_inside.new.replies.items in
    let cut = inside_short defs t begun said c.in_ok-run_inside.field-0 now c.if-not-branch.true c.in_ok-run_inside.ensures.runs in
    answered_short defs t begun c.requires.begun said c.add_no_block.new.replies.items now cut c.add_no_block.ensures

pub returns-in_err-end-clause-runs : goal.returns-in_err-end-clause-runs
returns-in_err-end-clause-runs g c =
    let defs = g.B.RowCalls.defs c.args.calls.now in
    let begun = g.B.RowCalls.calls c.args.calls.now in
    let now = g.B.RowCalls.calls c.run_inside.new.calls in
    let new = g.B.RowCalls.calls c.end.new.calls in
    let t = c.args.t.now in
    let said = c.run_inside.new.replies.items in
    let stop = c.in_err-end.field-0.0 in
    let going = inside_all defs t begun said c.in_ok-run_inside.field-0 now c.if-not-branch.false c.in_ok-run_inside.ensures.runs in
    let gives : c.from_residual-in_err-end.result ≡ Err stop = search rules in
    begun_broken defs (Behind t) begun _ c.from_residual-in_err-end.result stop new gives (broken_end defs t begun c.requires.begun said now stop new going c.in_err-end.ensures.calls)

pub returns-clause-runs : goal.returns-clause-runs
returns-clause-runs g c =
    let defs = g.B.RowCalls.defs c.args.calls.now in
    let begun = g.B.RowCalls.calls c.args.calls.now in
    let now = g.B.RowCalls.calls c.run_inside.new.calls in
    let new = g.B.RowCalls.calls c.end.new.calls in
    let t = c.args.t.now in
    let said = c.run_inside.new.replies.items in
    let going = inside_all defs t begun said c.in_ok-run_inside.field-0 now c.if-not-branch.false c.in_ok-run_inside.ensures.runs in
    let answered = answered_end defs t begun c.requires.begun said now c.in_ok-end.field-0 new going c.in_ok-end.ensures.calls in
    let is = ap (with_end t.end said) (sym c.reply-reply.ensures) ∙ sym c.add_end.ensures in
    subst (λ (l : List Reply). Answered defs (Behind t) begun l new) is answered
