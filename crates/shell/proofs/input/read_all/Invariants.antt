use Rattle.std.proofs.Common.{◌-◌, ◌≤◌, vec_len}
use Rattle.io_edge.specs.Runs.{ReadsOn}
use Rattle.shell.proofs.input.read_all.Given as goal

abbrev pub invariant-loop-piece : goal.invariant-loop-piece
invariant-loop-piece g l = ReadsOn g.S.Source l.fn.source l.source l.input.items × (vec_len l.input ≤ 67108865)

abbrev pub decreases-loop-piece : goal.decreases-loop-piece
decreases-loop-piece g l = 67108865 - vec_len l.input
