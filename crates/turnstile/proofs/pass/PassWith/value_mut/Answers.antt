use Rattle.turnstile.proofs.Values.{at_hand}
use Rattle.turnstile.proofs.pass.PassWith.value_mut.Goals as goal

pub slot_mut-slot-requires : goal.slot_mut-slot-requires
slot_mut-slot-requires g c = (c.requires.table, at_hand c.args.self.now.seat.me.1 c.requires.some.0 c.requires.some.1)
