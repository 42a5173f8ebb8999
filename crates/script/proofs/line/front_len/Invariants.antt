use Rattle.std.proofs.Common.{◌≡◌, ℕ, ◌+◌, ◌-◌, ◌<◌, ◌≤◌, get_or, length, take, drop}
use Rattle.script.specs.Lines.{lines, parts_of}
use Rattle.script.specs.Headers.{behind}
use Rattle.script.proofs.line.front_len.Given as goal

-- no header stands before the place
abbrev pub invariant-loop-at : goal.invariant-loop-at
invariant-loop-at l = record {
  parts : (at : ℕ) → parts_of at (lines l.bytes) ≡ behind (take l.at l.bytes) (parts_of (at + l.at) (lines (drop l.at l.bytes)));
  within : l.at ≤ length l.bytes;
  ended : 0 < l.at → l.at < length l.bytes → get_or l.bytes (l.at - 1) 0 ≡ 10;
}

abbrev pub decreases-loop-at : goal.decreases-loop-at
decreases-loop-at l = length l.bytes - l.at
