use Rattle.std.proofs.Common.{ℕ, ◌<◌, ◌≤◌, ◌-◌, ◌/◌}
use Rattle.slot_pages.specs.State.{IsTaken}
use Rattle.slot_pages.proofs.free.taken_from.Given as goal

abbrev pub invariant-loop-k : goal.invariant-loop-k
invariant-loop-k l = record {
  few : l.k ≤ 65535;
  taken : (j : ℕ) → j < l.k → IsTaken l.bytes l.held l.len j;
}

abbrev pub decreases-loop-k : goal.decreases-loop-k
decreases-loop-k l = 4096 / l.len - l.k
