use Rattle.plain_model.specs.Calls.{AskChunk}
use Rattle.fake_keeper.proofs.store.try_chunk.Goals as goal

pub returns-in-Some-clause-cause : goal.returns-in-Some-clause-cause
returns-in-Some-clause-cause c = c.stop_of_any.ensures (AskChunk c.args.table c.args.range)
