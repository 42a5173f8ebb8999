use Rattle.std.proofs.Common.{arith}
use Rattle.slot_pages.proofs.SlotPlaces.{not_free}
use Rattle.slot_pages.proofs.free.first_free.Goals as goal

pub loop-k-init : goal.loop-k-init
loop-k-init c =
    λ j l. not_free c.args.bytes.now c.args.held.now c.args.len j (omega (arith, c.requires.least))
    (c.requires.taken j l)
