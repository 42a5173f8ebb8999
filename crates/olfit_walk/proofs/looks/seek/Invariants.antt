use Rattle.olfit_rule.specs.Tree.{Good}
use Rattle.olfit_rule.specs.Rule.{Follows}
use Rattle.olfit_walk.specs.Ways.{IsOnWay, distance}
use Rattle.olfit_walk.proofs.looks.seek.Given as goal

abbrev pub invariant-way : goal.invariant-way
invariant-way l = record {
  seat : Follows l.fn.me l.me;
  good : Good l.me.me.0.base l.me.me.0.seen;
  way : IsOnWay l.me.me.0.seen 0 l.key l.at;
}

abbrev pub decreases-way : goal.decreases-way
decreases-way l = distance l.me.me.0.seen l.key l.at
