use Rattle.std.proofs.Common.{◌+◌, ◌-◌, ◌≤◌, length, drop}
use Rattle.sql_lex.specs.Seen.{items_of}
use Rattle.sql_lex.proofs.Runs.{SoFar}
use Rattle.sql_lex.proofs.scanning.scan_tokens.Given as goal

-- the tokens so far, and what is left
abbrev pub invariant-loop-at : goal.invariant-loop-at
invariant-loop-at l = record {
  so_far : SoFar (l.base + length l.text) l.text (items_of l.tokens.items) (drop l.at l.text);
  within : l.at ≤ length l.text;
}

abbrev pub decreases-loop-at : goal.decreases-loop-at
decreases-loop-at l = length l.text - l.at
