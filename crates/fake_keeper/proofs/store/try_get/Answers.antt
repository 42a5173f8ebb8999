use Rattle.plain_model.specs.Calls.{AskGet}
use Rattle.fake_keeper.proofs.store.try_get.Goals as goal

pub returns-in-Some-clause-cause : goal.returns-in-Some-clause-cause
returns-in-Some-clause-cause c = c.stop_of_any.ensures (AskGet c.args.table c.args.key.number)
