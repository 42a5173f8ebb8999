use Rattle.std.proofs.Common.{◌≡◌, ℕ, ◌<◌, ◌≤◌, get_or}
use Rattle.disk_core.specs.Places.{written_below, crashed_byte}
use Rattle.disk_core.proofs.tear.tear.Given as goal

abbrev pub invariant-loop-place : goal.invariant-loop-place
invariant-loop-place l = record {
  taken : l.taken ≡ written_below l.history.calls l.place;
  few : l.taken ≤ l.place;
  torn : (k : ℕ) → k < l.place → get_or l.image k 0 ≡ crashed_byte l.synced l.fn.image l.history.calls l.choice k;
  ahead : (k : ℕ) → l.place ≤ k → get_or l.image k 0 ≡ get_or l.fn.image k 0;
}
