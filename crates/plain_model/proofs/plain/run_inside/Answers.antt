use Rattle.std.proofs.Common.{◌+◌, List, drop, sym, subst}
use Rattle.std.specs.List.{AllByRecursion}
use Rattle.row_types.specs.Block.{Placed}
use Rattle.plain_model.specs.declared.reply.Reply.{Reply}
use Rattle.plain_model.specs.Blocks.{IsPlain, RunsSoFar}
use Rattle.plain_model.proofs.NothingUsedUp.{texts_from}
use Rattle.plain_model.proofs.Running.{runs_more, all_push}
use Rattle.plain_model.proofs.plain.run_inside.Goals as goal

pub loop-text-preserved : goal.loop-text-preserved
loop-text-preserved c =
    let t = c.args.t.now in
    let tables = c.args.tables.now in
    let texts = c.as_slice-statements.result.now in
    let i = c.loop-text.text-index in
    let text = c.text-item.result in
    let rest = drop (i + 1) texts in
    let replies = c.loop-text.replies.items in
    let from = texts_from texts i text c.loop-text-test.true c.text-item.is in
    let so_far : RunsSoFar t.statements (drop i texts) t.end tables replies c.loop-text.now = c.loop-text.invariant.so_far in
    let before = subst (λ (l : List Placed). RunsSoFar t.statements l t.end tables replies c.loop-text.now) from so_far in
    let after = runs_more t.statements rest text t.end tables c.loop-text.now c.in_ok-reply.next replies c.in_ok-reply.reply c.in_ok-reply.ensures before in
    let pushed = sym c.in_ok-push-2.ensures.items in
    record {
      so_far = subst (λ (l : List Reply). RunsSoFar t.statements rest t.end tables l c.in_ok-reply.next) pushed after;
      plain = subst (λ (l : List Reply). AllByRecursion IsPlain l) pushed (all_push IsPlain replies c.in_ok-reply.reply c.loop-text.invariant.plain c.in_ok-reply.ensures.3);
    }
