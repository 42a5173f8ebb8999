use Rattle.olfit_change.specs.States.{Stays}
use Rattle.olfit_change.specs.Room.{IsFullBetween}
use Rattle.olfit_change.proofs.Weights.{Stripped}
use Rattle.olfit_change.proofs.descend.nodes_needed.Given as goal

abbrev pub invariant-loop-above : goal.invariant-loop-above
invariant-loop-above l = record {
  same : Stays l.fn.me l.me;
  stripped : Stripped l.above l.fn.me.me.0.seen;
  full : IsFullBetween l.fn.me.me.0.seen 0 l.above l.key;
}
