use Rattle.std.proofs.Common.{◌-◌, length}
use Rattle.script.specs.Reached.{HasSections}
use Rattle.script.proofs.splitting.script_of.Given as goal

-- the sections so far
abbrev pub invariant-loop-at : goal.invariant-loop-at
invariant-loop-at l = HasSections l.text l.at l.setup l.sessions

abbrev pub decreases-loop-at : goal.decreases-loop-at
decreases-loop-at l = length l.text - l.at
