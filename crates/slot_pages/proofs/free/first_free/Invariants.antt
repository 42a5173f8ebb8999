use Rattle.std.proofs.Common.{ℕ, ◌<◌}
use Rattle.slot_pages.specs.Slots.{IsFree}
use Rattle.slot_pages.proofs.free.first_free.Given as goal

abbrev pub invariant-loop-k : goal.invariant-loop-k
invariant-loop-k l = (j : ℕ) → j < l.k → ¬ (IsFree l.bytes l.held l.len j)
