use Rattle.std.proofs.Common.{length}
use Rattle.sql_lex.specs.declared.keyword.Keyword.TheVariants.{And}
use Rattle.sql_parse.specs.Grammar.{word}
use Rattle.sql_parse.specs.Phrases.{second}
use Rattle.sql_parse.specs.Reading.{separated_at, condition_at}
use Rattle.sql_parse.proofs.Repetition.{Looped}
use Rattle.sql_parse.proofs.parser.Parser.all_conditions.Given as goal

-- what was read so far, and what is left to read
abbrev pub invariant-ands : goal.invariant-ands
invariant-ands l = Looped (word And) second condition_at (separated_at (word And) condition_at l.fn.self) l.conditions l.self

abbrev pub decreases-ands : goal.decreases-ands
decreases-ands l = length l.self.items
