use Rattle.std.proofs.Common.{◌≡◌, take, drop}
use Rattle.std.specs.List.{AllByRecursion}
use Rattle.sql_check.specs.Misfits.{first_fault, condition_fault}
use Rattle.sql_check.specs.Valued.{IsConditionOfValue}
use Rattle.sql_check.proofs.misfits.conditions_fault.Given as goal

abbrev pub invariant-loop-condition : goal.invariant-loop-condition
invariant-loop-condition l = record {
  rest : first_fault (condition_fault l.columns) (drop l.condition-index l.conditions) ≡ first_fault (condition_fault l.columns) l.conditions;
  values : AllByRecursion IsConditionOfValue (take l.condition-index l.conditions);
}
