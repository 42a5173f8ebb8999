use Rattle.std.proofs.Common.{ℕ, ◌≡◌, ◌+◌}
use Rattle.olfit_rule.specs.Rule.{IsSame}
use Rattle.olfit_rule.specs.Tree.{IsAt}
use Rattle.olfit_change.specs.Room.{IsFullBetween, IsOwed}
use Rattle.olfit_change.proofs.Weights.{Pays}
use Rattle.olfit_change.specs.States.{IsReady, IsLinking, SameFrom}
use Rattle.olfit_change.proofs.keys.link_above.Given as goal

abbrev pub invariant-loop-above : goal.invariant-loop-above
invariant-loop-above l = record {
  ready : IsReady l.shared.table_id l.nodes l.me;
  same : IsSame l.fn.me l.me;
  base : l.me.me.0.base ≡ l.fn.me.me.0.base;
  log : l.me.me.0.seen.log ≡ l.fn.me.me.0.seen.log;
  linking : IsLinking l.above l.key l.link l.used l.me.me.0.seen;
  upper : SameFrom l.above l.fn.me.me.0.seen l.me.me.0.seen;
  root : IsAt l.me.me.0.seen l.top l.me.me.0.seen.root;
  full : IsFullBetween l.fn.me.me.0.seen 1 l.above l.key;
  paid : (keys : ℕ) → IsOwed l.fn.used keys l.fn.me.me.0.seen → Pays l.above l.top l.used keys l.me.me.0.seen;
  used : l.used + 1 ≡ l.fn.used + l.above;
}
