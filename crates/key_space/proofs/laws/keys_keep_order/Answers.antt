use Rattle.key_space.proofs.KeyLaws.{key_of_int-lt}
use Rattle.key_space.proofs.laws.keys_keep_order.Goals as goal

pub returns : goal.returns
returns c = key_of_int-lt
