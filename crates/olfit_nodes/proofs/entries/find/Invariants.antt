use Rattle.std.proofs.Common.{◌≢◌, ℕ, ◌<◌}
use Rattle.olfit_nodes.specs.Nodes.{entry_at}
use Rattle.olfit_nodes.proofs.entries.find.Given as goal

abbrev pub invariant-loop-place : goal.invariant-loop-place
invariant-loop-place l = (k : ℕ) → k < l.place → (entry_at l.words k).0 ≢ l.key
