use Rattle.plain_model.proofs.PlanLaws.{plan_means}
use Rattle.plain_model.proofs.laws.plan_means_its_statement.Goals as goal

pub returns : goal.returns
returns c = plan_means
