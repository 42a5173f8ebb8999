use Rattle.plain_model.specs.Calls.{AskPut}
use Rattle.fake_keeper.proofs.switch.stop_of_put.Goals as goal

pub returns-in_default : goal.returns-in_default
returns-in_default c = λ table row. c.stop_of_any.ensures (AskPut table row)
