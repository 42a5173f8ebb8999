use Rattle.std.proofs.Common.{◌≡◌, map, take, drop}
use Rattle.std.specs.List.{AllByRecursion}
use Rattle.sql_parse.specs.declared.statement.Step.{Step}
use Rattle.sql_check.specs.Misfits.{first_fault, term_fault}
use Rattle.sql_check.specs.Valued.{IsTermOfValue}
use Rattle.sql_check.proofs.misfits.steps_fault.Given as goal

abbrev pub invariant-loop-step : goal.invariant-loop-step
invariant-loop-step l = record {
  rest : first_fault (term_fault l.columns l.kind l.is_alone) (map (λ (s : Step). s.term) (drop l.step-index l.steps)) ≡ first_fault (term_fault l.columns l.kind l.is_alone) (map (λ (s : Step). s.term) l.steps);
  values : AllByRecursion IsTermOfValue (map (λ (s : Step). s.term) (take l.step-index l.steps));
}
