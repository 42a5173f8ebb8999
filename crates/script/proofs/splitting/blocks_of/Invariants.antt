use Rattle.std.proofs.Common.{◌≤◌, ◌-◌, length, drop}
use Rattle.std.specs.Str.{IsCharBoundary}
use Rattle.script.specs.Reached.{HasRead}
use Rattle.script.proofs.splitting.blocks_of.Given as goal

-- the statements so far, and what is left
abbrev pub invariant-loop-at : goal.invariant-loop-at
invariant-loop-at l = record {
  read : HasRead l.base l.text (drop l.at l.text) l.builder;
  within : l.at ≤ length l.text;
  cut : IsCharBoundary l.text l.at;
}

abbrev pub decreases-loop-at : goal.decreases-loop-at
decreases-loop-at l = length l.text - l.at
