use Rattle.std.proofs.Common.{◌≡◌, ◌-◌, ◌<◌, ◌≤◌, ℕ, length, get_or, vec_capacity}
use Rattle.block_pool.proofs.pool.places.Given as goal

abbrev pub invariant-loop-i : goal.invariant-loop-i
invariant-loop-i l = record {
  len : length l.places.items ≡ l.i;
  room : l.n ≤ vec_capacity l.places;
  falling : (k : ℕ) → k < l.i → get_or l.places.items k 0 ≡ l.n - 1 - k;
}
