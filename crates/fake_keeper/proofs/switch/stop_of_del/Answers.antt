use Rattle.plain_model.specs.Calls.{AskDel}
use Rattle.fake_keeper.proofs.switch.stop_of_del.Goals as goal

pub returns-in_default : goal.returns-in_default
returns-in_default c = λ table key. c.stop_of_any.ensures (AskDel table key)
