use Rattle.std.proofs.Common.{◌≡◌, ◌≤◌, length, take}
use Rattle.script.specs.Lines.{trimmed}
use Rattle.script.proofs.line.trimmed_len.Given as goal

abbrev pub invariant-loop-len : goal.invariant-loop-len
invariant-loop-len l = record {
  same : trimmed (take l.len l.line) ≡ trimmed l.line;
  within : l.len ≤ length l.line;
}

abbrev pub decreases-loop-len : goal.decreases-loop-len
decreases-loop-len l = l.len
