use Rattle.std.proofs.Common.{length}
use Rattle.sql_lex.specs.declared.token.Sign.TheVariants.{Comma}
use Rattle.sql_parse.specs.Phrases.{second}
use Rattle.sql_parse.specs.Grammar.{sign}
use Rattle.sql_parse.specs.Reading.{listed_at, value_at}
use Rattle.sql_parse.proofs.Repetition.{Looped}
use Rattle.sql_parse.proofs.parser.Parser.values.Given as goal

-- what was read so far, and what is left to read
abbrev pub invariant-commas : goal.invariant-commas
invariant-commas l = Looped (sign Comma) second value_at (listed_at value_at l.fn.self) l.values l.self

abbrev pub decreases-commas : goal.decreases-commas
decreases-commas l = length l.self.items
