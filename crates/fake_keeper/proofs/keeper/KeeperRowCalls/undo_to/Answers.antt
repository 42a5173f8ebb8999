use Rattle.plain_model.specs.Calls.{AskUndoTo}
use Rattle.fake_keeper.proofs.keeper.KeeperRowCalls.undo_to.Goals as goal

pub returns-in-Err-clause-cause : goal.returns-in-Err-clause-cause
returns-in-Err-clause-cause c = c.in-Err.ensures.cause (AskUndoTo c.args.mark)
