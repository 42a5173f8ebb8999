use Rattle.std.proofs.Common.{subst, sym, ap, ◌∙◌, List}
use Rattle.sql_parse.specs.declared.statement.Step.{Step}
use Rattle.sql_parse.specs.Grammar.{step_sign, step_of, IsTerm}
use Rattle.sql_parse.specs.Reading.{term_at, steps_at}
use Rattle.sql_parse.proofs.Repetition.{Looped}
use Rattle.sql_parse.proofs.Loops.{looped_next, round_shorter}
use Rattle.sql_parse.proofs.ExactRules.{term_exact, quiet_step}
use Rattle.sql_parse.proofs.parser.Parser.steps.Goals as goal

pub steps-smaller : goal.steps-smaller
steps-smaller c = round_shorter step_sign step_of IsTerm term_at _ term_exact quiet_step c.steps.self c.term.new.self c.in-Some.is_minus c.in_ok-term.term (sym c.in-Some.ensures.found) (ap term_at (sym c.in-Some.ensures.passed) ∙ c.in_ok-term.ensures)

pub steps-preserved : goal.steps-preserved
steps-preserved c =
    subst (λ (v : List Step). Looped step_sign step_of term_at (steps_at c.args.self.now) v c.term.new.self) (sym c.in_ok-push.ensures.ok) (looped_next step_sign step_of IsTerm term_at _ term_exact quiet_step _ c.steps.steps c.steps.self c.steps.invariant c.term.new.self c.in-Some.is_minus c.in_ok-term.term (sym c.in-Some.ensures.found) (ap term_at (sym c.in-Some.ensures.passed) ∙ c.in_ok-term.ensures))
