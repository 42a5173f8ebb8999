use Rattle.std.proofs.Common.{◌≡◌, ◌++◌}
use Rattle.key_space.specs.Plays.{Rows}
use Rattle.sql_exec.specs.Windows.{last_shown}
use Rattle.sql_exec.proofs.falling.collect_last.Given as goal

abbrev pub invariant-loop-row : goal.invariant-loop-row
invariant-loop-row l = (before : Rows) → l.fn.found.items ≡ last_shown l.p l.wanted before → l.found.items ≡ last_shown l.p l.wanted (before ++ l.yielded)
