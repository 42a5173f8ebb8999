use Rattle.std.proofs.Common.{ℕ, List, ◌∙◌, subst}
use Rattle.script.specs.Script.{IsNoScript}
use Rattle.shell.proofs.InputSoFar.{whole_within}
use Rattle.shell.proofs.Words.{bad_there}
use Rattle.shell.proofs.call.read_script.Goals as goal

pub returns-clause-fault : goal.returns-clause-fault
returns-clause-fault g c = whole_within g.S.Source c.args.source.now c.read_all.new.source c.in-Ok.ensures.read

pub returns-in-Err-BadScript-clause-fault : goal.returns-in-Err-BadScript-clause-fault
returns-in-Err-BadScript-clause-fault g c = (
  c.in-Ok.ensures.read,
  λ x told. subst (λ (l : List ℕ). IsNoScript l c.in-Err-BadScript.at) (c.deref.ensures.value ∙ c.in-Ok.ensures.input x told) (bad_there (IsNoScript c.deref.result.now) c.in-Err-BadScript.field-0 c.in-Err-BadScript.at c.in-Err-BadScript.field-0-is c.in-Err-BadScript.ensures.fault),
)
