use Rattle.std.proofs.Common.{◌≤◌}
use Rattle.olfit_walk.proofs.seek.read_turn.Goals as goal

pub search-found-requires-clause-few : goal.search-found-requires-clause-few
search-found-requires-clause-few c =
    let at = c.requires.at in
    (c.begin-first.ensures.good.nodes at.0 c.args.node (c.begin-first.ensures.seat.later.lasts.at at.0 c.args.node at.1)).few

pub search-found-requires-clause-rises : goal.search-found-requires-clause-rises
search-found-requires-clause-rises c =
    let at = c.requires.at in
    (c.begin-first.ensures.good.nodes at.0 c.args.node (c.begin-first.ensures.seat.later.lasts.at at.0 c.args.node at.1)).rises
