use Rattle.std.proofs.Common.{length}
use Rattle.sql_parse.specs.Grammar.{step_sign, step_of}
use Rattle.sql_parse.specs.Reading.{steps_at, term_at}
use Rattle.sql_parse.proofs.Repetition.{Looped}
use Rattle.sql_parse.proofs.parser.Parser.steps.Given as goal

-- what was read so far, and what is left to read
abbrev pub invariant-steps : goal.invariant-steps
invariant-steps l = Looped step_sign step_of term_at (steps_at l.fn.self) l.steps l.self

abbrev pub decreases-steps : goal.decreases-steps
decreases-steps l = length l.self.items
