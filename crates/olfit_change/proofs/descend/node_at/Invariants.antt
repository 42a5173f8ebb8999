use Rattle.olfit_walk.specs.Ways.{IsOnWay, distance}
use Rattle.olfit_change.specs.States.{Stays}
use Rattle.olfit_change.proofs.descend.node_at.Given as goal

abbrev pub invariant-way : goal.invariant-way
invariant-way l = record {
  same : Stays l.fn.me l.me;
  way : IsOnWay l.fn.me.me.0.seen l.target l.key l.node;
}

abbrev pub decreases-way : goal.decreases-way
decreases-way l = distance l.fn.me.me.0.seen l.key l.node
