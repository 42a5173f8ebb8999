use Rattle.std.proofs.Common.{◌≤◌, ◌<◌, ℕ}
use Rattle.olfit_nodes.specs.Nodes.{entry_at}
use Rattle.olfit_rule.specs.Tree.{node_of}
use Rattle.olfit_rule.specs.Rule.{IsReading, IsStill, Peeks}
use Rattle.olfit_walk.proofs.seek.upto.Given as goal

abbrev pub invariant-loop-place : goal.invariant-loop-place
invariant-loop-place l = record {
  peeks : Peeks l.initial.me l.me;
  reading : (first : ℕ) → IsReading l.shared.table_id l.node first l.initial.me → IsReading l.shared.table_id l.node first l.me;
  below : IsStill l.me.me.0 → (i : ℕ) → i < l.place → (entry_at (node_of l.initial.me.me.0.seen.image l.node) i).0 ≤ l.key;
}
