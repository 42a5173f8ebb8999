use Rattle.std.proofs.Common.{◌≡◌, ◌-◌, ◌<◌, ◌≤◌, ℕ, length, get_or, vec_capacity}
use Rattle.block_pool.proofs.pool.leave.Given as goal

abbrev pub invariant-loop-i : goal.invariant-loop-i
invariant-loop-i l = record {
  len : length l.free.items ≡ l.i;
  room : vec_capacity l.fn.free ≤ vec_capacity l.free;
  falling : (k : ℕ) → k < l.i → get_or l.free.items k 0 ≡ l.limit - 1 - k;
}
