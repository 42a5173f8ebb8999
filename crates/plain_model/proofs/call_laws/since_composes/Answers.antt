use Rattle.plain_model.proofs.CallLaws.{since_joined}
use Rattle.plain_model.proofs.call_laws.since_composes.Goals as goal

pub returns : goal.returns
returns c = since_joined
