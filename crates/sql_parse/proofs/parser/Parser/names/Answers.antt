use Rattle.sql_lex.specs.declared.token.Sign.TheVariants.{Comma}
use Rattle.sql_parse.specs.Grammar.{sign, IsName}
use Rattle.sql_parse.specs.Reading.{name_at}
use Rattle.sql_parse.proofs.Loops.{round_keeps}
use Rattle.sql_parse.proofs.ExactTokens.{quiet_sign}
use Rattle.sql_parse.proofs.ExactTokens.{name_exact}
use Rattle.sql_parse.proofs.parser.Parser.names.Goals as goal

pub commas-preserved : goal.commas-preserved
commas-preserved c = round_keeps (sign Comma) IsName name_at _ name_exact (quiet_sign Comma) c.commas.self _ _ _ c.commas-test.ensures.found c.commas-test.ensures.passed c.in_ok-name-2.ensures _ _ _ c.commas.invariant c.in_ok-push-2.ensures.ok
