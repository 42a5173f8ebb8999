use Rattle.plain_model.specs.Calls.{AskLock}
use Rattle.fake_keeper.proofs.switch.stop_of_lock.Goals as goal

pub returns-in_default : goal.returns-in_default
returns-in_default c = λ name mode. c.stop_of_any.ensures (AskLock name mode)
