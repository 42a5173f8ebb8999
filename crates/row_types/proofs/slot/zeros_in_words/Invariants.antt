-- the words so far are zeros
use Rattle.std.proofs.Common.{◌≡◌, ℕ, ◌+◌, ◌-◌, ◌≤◌, length, drop}
use Rattle.row_types.specs.Slot.{first_not_zero}
use Rattle.row_types.proofs.slot.zeros_in_words.Given as goal

abbrev pub invariant-loop-len : goal.invariant-loop-len
invariant-loop-len l = record {
  zeros : (at : ℕ) → first_not_zero at l.bytes ≡ first_not_zero (at + l.len) (drop l.len l.bytes);
  within : l.len ≤ length l.bytes;
}

abbrev pub decreases-loop-len : goal.decreases-loop-len
decreases-loop-len l = length l.bytes - l.len
