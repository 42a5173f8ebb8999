use Rattle.std.proofs.Common.{◌≡◌, ◌<◌, ℕ, length}
use Rattle.std.specs.Prelude.{slice_index}
use Rattle.olfit_rule.specs.Tree.{word_of}
use Rattle.olfit_rule.specs.Rule.{IsReading, IsStill, Peeks}
use Rattle.olfit_rule.proofs.steps.gather.Given as goal

abbrev pub invariant-loop-i : goal.invariant-loop-i
invariant-loop-i l = record {
  peeks : Peeks l.initial.me l.me;
  reading : (first : ℕ) → IsReading l.shared.table_id l.node first l.initial.me → IsReading l.shared.table_id l.node first l.me;
  long : length l.into ≡ 64;
  words : IsStill l.me.me.0 → (k : ℕ) → k < l.i → slice_index l.into k ≡ word_of l.initial.me.me.0.seen.image l.node k;
}
