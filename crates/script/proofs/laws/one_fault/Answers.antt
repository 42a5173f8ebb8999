use Rattle.script.proofs.UniqueLaws.{one_place, script_or_fault}
use Rattle.script.proofs.laws.one_fault.Goals as goal

pub returns-clause-not_both : goal.returns-clause-not_both
returns-clause-not_both c = script_or_fault

pub returns-clause-one_place : goal.returns-clause-one_place
returns-clause-one_place c = one_place
