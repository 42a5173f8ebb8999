use Rattle.plain_model.specs.Calls.{AskBegin}
use Rattle.fake_keeper.proofs.switch.stop_of_begin.Goals as goal

pub returns-in_default : goal.returns-in_default
returns-in_default c = λ age. c.stop_of_any.ensures (AskBegin age)
