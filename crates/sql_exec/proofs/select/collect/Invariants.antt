use Rattle.std.proofs.Common.{◌≡◌, ◌++◌}
use Rattle.key_space.specs.Plays.{Rows}
use Rattle.sql_exec.specs.Selects.{shown_of}
use Rattle.sql_exec.proofs.select.collect.Given as goal

abbrev pub invariant-loop-row : goal.invariant-loop-row
invariant-loop-row l = (before : Rows) → l.fn.found.items ≡ shown_of l.p l.wanted before → l.found.items ≡ shown_of l.p l.wanted (before ++ l.yielded)
