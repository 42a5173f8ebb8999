use Rattle.sql_lex.specs.declared.keyword.Keyword.TheVariants.{And}
use Rattle.sql_parse.specs.Grammar.{word, IsCondition}
use Rattle.sql_parse.specs.Reading.{condition_at}
use Rattle.sql_parse.proofs.Loops.{round_keeps, round_ends}
use Rattle.sql_parse.proofs.ExactTokens.{quiet_word}
use Rattle.sql_parse.proofs.ExactRules.{condition_exact}
use Rattle.sql_parse.proofs.parser.Parser.all_conditions.Goals as goal

pub ands-smaller : goal.ands-smaller
ands-smaller c = round_ends (word And) IsCondition condition_at _ condition_exact (quiet_word And) c.ands.self _ _ _ c.ands-test.ensures.found c.ands-test.ensures.passed c.in_ok-condition-2.ensures

pub ands-preserved : goal.ands-preserved
ands-preserved c = round_keeps (word And) IsCondition condition_at _ condition_exact (quiet_word And) c.ands.self _ _ _ c.ands-test.ensures.found c.ands-test.ensures.passed c.in_ok-condition-2.ensures _ _ _ c.ands.invariant c.in_ok-push-2.ensures.ok
