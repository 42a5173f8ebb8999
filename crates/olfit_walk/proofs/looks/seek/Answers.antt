use Rattle.std.proofs.Common.{arith, refl}
use Rattle.olfit_walk.proofs.Walks.{on_way_later, same_distance, walk_on, walk_ended, follows_on}
use Rattle.olfit_walk.proofs.looks.seek.Goals as goal

pub read_turn-requires-clause-at : goal.read_turn-requires-clause-at
read_turn-requires-clause-at c = let way = c.way.invariant.way in (way.0, way.1)

pub returns-in-Again-clause-seat : goal.returns-in-Again-clause-seat
returns-in-Again-clause-seat c = follows_on _ _ _ c.way.invariant.seat c.read_turn.ensures.seat

pub returns-in-Value-clause-seat : goal.returns-in-Value-clause-seat
returns-in-Value-clause-seat c = follows_on _ _ _ c.way.invariant.seat c.read_turn.ensures.seat

pub returns-in-Value-clause-found : goal.returns-in-Value-clause-found
returns-in-Value-clause-found c =
    let way = on_way_later _ _ 0 c.args.key c.way.at c.in-Value.ensures.seat.later.lasts c.way.invariant.way in
    let turn = c.in-Value.ensures.turn in
    let end = walk_ended _ _ 0 c.args.key c.way.at _ c.in-Value.ensures.good way refl turn.0 in
    (c.way.at, end.0, end.1, turn.1)

pub way-smaller : goal.way-smaller
way-smaller c =
    let lasts = c.in-Next.ensures.seat.later.lasts in
    let way = on_way_later _ _ 0 c.args.key c.way.at lasts c.way.invariant.way in
    let same = same_distance _ _ 0 c.args.key c.way.at lasts c.way.invariant.way in
    let on = walk_on _ _ 0 c.args.key c.way.at c.in-Next.next _ c.in-Next.ensures.good way (omega arith) refl c.in-Next.ensures.turn in
    let less = on.1 in omega (arith, less, same)

pub way-preserved : goal.way-preserved
way-preserved c =
    let way = on_way_later _ _ 0 c.args.key c.way.at c.in-Next.ensures.seat.later.lasts c.way.invariant.way in
    let on = walk_on _ _ 0 c.args.key c.way.at c.in-Next.next _ c.in-Next.ensures.good way (omega arith) refl c.in-Next.ensures.turn in record {
      seat = follows_on _ _ _ c.way.invariant.seat c.in-Next.ensures.seat;
      good = c.in-Next.ensures.good;
      way = on.0;
    }
