use Rattle.std.proofs.Common.{arith}
use Rattle.olfit_walk.proofs.Walks.{walk_on, walk_ended}
use Rattle.olfit_change.proofs.Ready.{few_at, rises_at, stays_on, words_still}
use Rattle.olfit_change.proofs.descend.node_at.Goals as goal

pub next_node-requires-clause-few : goal.next_node-requires-clause-few
next_node-requires-clause-few c =
    let way = c.way.invariant.way in
    few_at _ _ c.args.me.now way.0 c.way.node _ c.requires.ready way.1 (words_still c.args.me.now c.way.me c.way.node _ c.way.invariant.same c.own_node-words.ensures.words)

pub next_node-requires-clause-rises : goal.next_node-requires-clause-rises
next_node-requires-clause-rises c =
    let way = c.way.invariant.way in
    rises_at _ _ c.args.me.now way.0 c.way.node _ c.requires.ready way.1 (words_still c.args.me.now c.way.me c.way.node _ c.way.invariant.same c.own_node-words.ensures.words)

pub way-smaller : goal.way-smaller
way-smaller c =
    let on = walk_on _ _ c.args.target c.args.key c.way.node c.in-Some.next c.own_node-words.result c.requires.ready.good c.way.invariant.way (omega arith)
    (words_still c.args.me.now c.way.me c.way.node _ c.way.invariant.same c.own_node-words.ensures.words) c.in-Some.ensures in on.1

pub way-preserved : goal.way-preserved
way-preserved c =
    let on = walk_on _ _ c.args.target c.args.key c.way.node c.in-Some.next c.own_node-words.result c.requires.ready.good c.way.invariant.way (omega arith)
    (words_still c.args.me.now c.way.me c.way.node _ c.way.invariant.same c.own_node-words.ensures.words) c.in-Some.ensures in record {
      same = stays_on c.args.me.now c.way.me c.own_node-words.new.me c.way.invariant.same c.own_node-words.ensures.same;
      way = on.0;
    }

pub returns-in-None-clause-node : goal.returns-in-None-clause-node
returns-in-None-clause-node c =
    walk_ended _ _ c.args.target c.args.key c.way.node c.own_node-words.result c.requires.ready.good c.way.invariant.way
    (words_still c.args.me.now c.way.me c.way.node _ c.way.invariant.same c.own_node-words.ensures.words) c.in-None.ensures
