use Rattle.std.proofs.Common.{length, ◌-◌}
use Rattle.op_log.specs.Bodies.{RunsTo}
use Rattle.op_log.proofs.read.read_body.Given as goal

abbrev pub invariant-loop-change : goal.invariant-loop-change
invariant-loop-change l = RunsTo l.schema l.body l.changes.items l.at

abbrev pub decreases-loop-change : goal.decreases-loop-change
decreases-loop-change l = length l.body - l.at
