use Rattle.std.proofs.Common.{◌≡◌, ℕ, ◌+◌, ◌<◌, ◌++◌, Bool, List, [], ◌∷◌, drop, length, Result, Ok, Err, refl, sym, ap, subst, ◌∙◌, arith, rules}
use Rattle.row_types.specs.Block.{Placed}
use Rattle.row_types.specs.declared.definition.TableDef.{TableDef}
use Rattle.plain_model.specs.declared.reply.Reply.{Reply}
use Rattle.plain_model.specs.declared.stop.Stop.{Stop}
use Rattle.plain_model.proofs.NothingUsedUp.{texts_from}
use Rattle.engine_txn.specs.Progress.{AnswersText, Going, RunsInside}
use Rattle.engine_txn.proofs.Inside.{broken_at, cut_short, going_first, going_more, halts_of, spent_is}
use Rattle.engine_txn.proofs.block.run_inside.Goals as goal

pub loop-text-init : goal.loop-text-init
loop-text-init g c =
    let defs = g.B.RowCalls.defs c.args.calls.now in
    let begun = g.B.RowCalls.calls c.args.calls.now in
    let t = c.args.t.now in
    record {
      schema = refl;
      going = subst (λ (l : List Reply). Going defs t t.statements begun l begun) (sym c.requires.first) (going_first defs t begun c.requires.begun);
      count = ap length c.requires.first;
      cap = refl;
    }

pub loop-text-preserved : goal.loop-text-preserved
loop-text-preserved g c =
    let defs = g.B.RowCalls.defs c.args.calls.now in
    let begun = g.B.RowCalls.calls c.args.calls.now in
    let now = g.B.RowCalls.calls c.loop-text.calls in
    let new = g.B.RowCalls.calls c.answer.new.calls in
    let t = c.args.t.now in
    let i = c.loop-text.text-index in
    let text = c.text-item.result in
    let rest = drop (i + 1) t.statements in
    let replies = c.loop-text.replies.items in
    let from = subst (λ (xs : List Placed). drop i xs ≡ text ∷ drop (i + 1) xs) c.as_slice-text-items.ensures (texts_from c.as_slice-text-items.result.now i text c.loop-text-test.true c.text-item.is) in
    let going = subst (λ (l : List Placed). Going defs t l begun replies now) from c.loop-text.invariant.going in
    let answers = subst (λ (ds : List TableDef). AnswersText ds text now (Ok c.in-Ok.reply) new) c.loop-text.invariant.schema c.in-Ok.ensures.text in
    let more = going_more defs t begun c.requires.begun text rest replies now new going c.answer.ensures.works c.in-Ok.reply answers c.in-Ok.ensures.runs in
    record {
      schema = c.answer.ensures.schema ∙ c.loop-text.invariant.schema;
      going = subst (λ (l : List Reply). Going defs t rest begun l new) (sym c.push_reserved.ensures.items) more;
      count = search rules;
      cap = search rules;
    }

pub returns-in-Err-clause-runs : goal.returns-in-Err-clause-runs
returns-in-Err-clause-runs g c =
    let defs = g.B.RowCalls.defs c.args.calls.now in
    let begun = g.B.RowCalls.calls c.args.calls.now in
    let now = g.B.RowCalls.calls c.loop-text.calls in
    let new = g.B.RowCalls.calls c.answer.new.calls in
    let t = c.args.t.now in
    let i = c.loop-text.text-index in
    let text = c.text-item.result in
    let rest = drop (i + 1) t.statements in
    let replies = c.loop-text.replies.items in
    let all = c.push_reserved-in-Err.new.self.items in
    let same = c.as_slice-text-items.ensures in
    let from = subst (λ (xs : List Placed). drop i xs ≡ text ∷ drop (i + 1) xs) same (texts_from c.as_slice-text-items.result.now i text c.loop-text-test.true c.text-item.is) in
    let going = subst (λ (l : List Placed). Going defs t l begun replies now) from c.loop-text.invariant.going in
    let spent = spent_is c.in-Err.stop c.in_ok-spent_reply-in-Err.field-0 (sym c.spent_reply.ensures ∙ c.in_ok-spent_reply-in-Err.was) in
    let answers = subst (λ (ds : List TableDef). AnswersText ds text now (Err c.in-Err.stop) new) c.loop-text.invariant.schema c.in-Err.ensures.text in
    let at_spent = subst (λ (s : Stop). AnswersText defs text now (Err s) new) spent.1 answers in
    let is = c.push_reserved-in-Err.ensures.items ∙ ap (λ (r : Reply). replies ++ r ∷ []) spent.2 in
    let inside = subst (λ (xs : List Placed). i < length xs) same c.loop-text-test.true in
    let count : length all ≡ i + 2 = search rules in
    cut_short defs t begun c.requires.begun text rest replies now new going c.answer.ensures.works spent.0 all at_spent is
    (ap (λ (n : ℕ). drop n t.statements) (omega (arith, count))) (omega (arith, count)) (omega (arith, count, inside))

pub returns-in_err-spent_reply-in-Err-clause-runs : goal.returns-in_err-spent_reply-in-Err-clause-runs
returns-in_err-spent_reply-in-Err-clause-runs g c =
    let defs = g.B.RowCalls.defs c.args.calls.now in
    let begun = g.B.RowCalls.calls c.args.calls.now in
    let now = g.B.RowCalls.calls c.loop-text.calls in
    let new = g.B.RowCalls.calls c.answer.new.calls in
    let t = c.args.t.now in
    let i = c.loop-text.text-index in
    let text = c.text-item.result in
    let rest = drop (i + 1) t.statements in
    let replies = c.loop-text.replies.items in
    let stop = c.in-Err.stop in
    let from = subst (λ (xs : List Placed). drop i xs ≡ text ∷ drop (i + 1) xs) c.as_slice-text-items.ensures (texts_from c.as_slice-text-items.result.now i text c.loop-text-test.true c.text-item.is) in
    let going = subst (λ (l : List Placed). Going defs t l begun replies now) from c.loop-text.invariant.going in
    let halts = halts_of stop c.in_err-spent_reply-in-Err.field-0.0 c.in-Err.ensures.end.kind (sym c.spent_reply.ensures ∙ c.in_err-spent_reply-in-Err.was) in
    let answers = subst (λ (ds : List TableDef). AnswersText ds text now (Err stop) new) c.loop-text.invariant.schema c.in-Err.ensures.text in
    let broken = broken_at defs t begun c.requires.begun text rest replies now new going c.answer.ensures.works stop answers halts.0 in
    let gives : c.from_residual.result ≡ Err c.in_err-spent_reply-in-Err.field-0.0 = search rules in
    let is : c.from_residual.result ≡ Err stop = gives ∙ ap Err (sym halts.1) in
    subst (λ (r : Result Bool Stop). RunsInside defs t begun replies r new) (sym is) broken
