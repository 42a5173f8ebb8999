use Rattle.std.proofs.Common.{◌+◌, ◌<◌, ◌≤◌, ◌++◌, List, drop, length, sym, ap, ◌∙◌, arith, rules}
use Rattle.std.proofs.Math.ListN.{drop_of_length-le}
use Rattle.row_types.specs.Block.{Placed}
use Rattle.plain_model.specs.declared.reply.Reply.{Reply}
use Rattle.plain_model.specs.Blocks.{without_block}
use Rattle.engine_txn.proofs.Endings.{no_block_at_end, one_no_block}
use Rattle.engine_txn.proofs.block.add_no_block.Goals as goal

pub loop-preserved : goal.loop-preserved
loop-preserved c =
    let t = c.args.t.now in
    let i = c.loop.counter in
    let inside : i < length t.statements = omega (arith, c.loop-test.true, c.len-end.ensures) in
    record {
      some = search rules;
      cap = search rules;
      all = ap (λ (l : List Reply). l ++ without_block (drop (i + 1) t.statements) t.end) c.push_reserved.ensures.items ∙ one_no_block c.loop.replies.items t.statements i t.end inside ∙ c.loop.invariant.all;
    }

pub returns : goal.returns
returns c =
    let t = c.args.t.now in
    let i = c.loop.counter in
    let said = c.loop.replies.items in
    let past : length t.statements ≤ i = omega (arith, c.loop-test.false, c.len-end.ensures) in
    c.add_end.ensures ∙ no_block_at_end t.end said ∙ ap (λ (l : List Placed). said ++ without_block l t.end) (sym (drop_of_length-le t.statements past)) ∙ c.loop.invariant.all
