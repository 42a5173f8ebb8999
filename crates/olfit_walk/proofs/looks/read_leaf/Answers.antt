use Rattle.std.proofs.Common.{◌≤◌, ℕ, List, sym, subst, arith}
use Rattle.olfit_nodes.specs.Nodes.{count_of, entries_of, Rises}
use Rattle.olfit_walk.proofs.Walks.{on_way_later, same_distance, walk_on, walk_ended, follows_on}
use Rattle.olfit_walk.proofs.looks.read_leaf.Goals as goal

pub returns-in-Again-clause-seat : goal.returns-in-Again-clause-seat
returns-in-Again-clause-seat c = follows_on _ _ _ c.way.invariant.seat c.in-Again.ensures.seat

pub returns-in-None-clause-seat : goal.returns-in-None-clause-seat
returns-in-None-clause-seat c = follows_on _ _ _ c.way.invariant.seat c.in-Whole.ensures.seat

pub next_node-requires-clause-few : goal.next_node-requires-clause-few
next_node-requires-clause-few c =
    let way = on_way_later _ _ 0 c.args.key c.way.node c.in-Whole.ensures.seat.later.lasts c.way.invariant.way in
    subst (λ (ws : List ℕ). count_of ws ≤ 16) (sym c.in-Whole.ensures.read) (c.in-Whole.ensures.good.nodes way.0 c.way.node way.1).few

pub next_node-requires-clause-rises : goal.next_node-requires-clause-rises
next_node-requires-clause-rises c =
    let way = on_way_later _ _ 0 c.args.key c.way.node c.in-Whole.ensures.seat.later.lasts c.way.invariant.way in
    subst (λ (ws : List ℕ). Rises (entries_of ws)) (sym c.in-Whole.ensures.read) (c.in-Whole.ensures.good.nodes way.0 c.way.node way.1).rises

pub way-smaller : goal.way-smaller
way-smaller c =
    let lasts = c.in-Whole.ensures.seat.later.lasts in
    let way = on_way_later _ _ 0 c.args.key c.way.node lasts c.way.invariant.way in
    let same = same_distance _ _ 0 c.args.key c.way.node lasts c.way.invariant.way in
    let on = walk_on _ _ 0 c.args.key c.way.node c.in-Some.next c.read_node.new.into c.in-Whole.ensures.good way (omega arith) c.in-Whole.ensures.read c.in-Some.ensures in
    let less = on.1 in omega (arith, less, same)

pub way-preserved : goal.way-preserved
way-preserved c =
    let way = on_way_later _ _ 0 c.args.key c.way.node c.in-Whole.ensures.seat.later.lasts c.way.invariant.way in
    let on = walk_on _ _ 0 c.args.key c.way.node c.in-Some.next c.read_node.new.into c.in-Whole.ensures.good way (omega arith) c.in-Whole.ensures.read c.in-Some.ensures in record {
      seat = follows_on _ _ _ c.way.invariant.seat c.in-Whole.ensures.seat;
      good = c.in-Whole.ensures.good;
      way = on.0;
    }

pub returns-in-None-clause-come : goal.returns-in-None-clause-come
returns-in-None-clause-come c =
    let way = on_way_later _ _ 0 c.args.key c.way.node c.in-Whole.ensures.seat.later.lasts c.way.invariant.way in
    let end = walk_ended _ _ 0 c.args.key c.way.node c.read_node.new.into c.in-Whole.ensures.good way c.in-Whole.ensures.read c.in-None.ensures in
    (c.way.node, end.0, end.1, c.in-Whole.ensures.read)
