use Rattle.sql_lex.specs.declared.token.Sign.TheVariants.{Comma}
use Rattle.sql_parse.specs.Grammar.{sign, IsChange}
use Rattle.sql_parse.specs.Reading.{change_at}
use Rattle.sql_parse.proofs.Loops.{round_keeps, round_ends}
use Rattle.sql_parse.proofs.ExactTokens.{quiet_sign}
use Rattle.sql_parse.proofs.ExactRules.{change_exact}
use Rattle.sql_parse.proofs.parser.Parser.changes.Goals as goal

pub commas-smaller : goal.commas-smaller
commas-smaller c = round_ends (sign Comma) IsChange change_at _ change_exact (quiet_sign Comma) c.commas.self _ _ _ c.commas-test.ensures.found c.commas-test.ensures.passed c.in_ok-change-2.ensures

pub commas-preserved : goal.commas-preserved
commas-preserved c = round_keeps (sign Comma) IsChange change_at _ change_exact (quiet_sign Comma) c.commas.self _ _ _ c.commas-test.ensures.found c.commas-test.ensures.passed c.in_ok-change-2.ensures _ _ _ c.commas.invariant c.in_ok-push-2.ensures.ok
