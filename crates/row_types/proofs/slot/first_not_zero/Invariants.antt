use Rattle.std.proofs.Common.{◌≡◌, ◌+◌, drop}
use Rattle.row_types.specs.Slot.{first_not_zero}
use Rattle.row_types.proofs.slot.first_not_zero.Given as goal

abbrev pub invariant-loop-i : goal.invariant-loop-i
invariant-loop-i l = first_not_zero (l.at + l.zeros + l.i) (drop l.i (drop l.zeros l.bytes)) ≡ first_not_zero l.at l.bytes
