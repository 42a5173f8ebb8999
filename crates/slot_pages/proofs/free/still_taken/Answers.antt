use Rattle.std.proofs.Common.{arith}
use Rattle.slot_pages.proofs.SlotPlaces.{before_range}
use Rattle.slot_pages.proofs.free.still_taken.Goals as goal

pub returns-clause-same : goal.returns-clause-same
returns-clause-same c = λ k l.
    before_range k c.args.len c.args.offset c.args.count c.args.taken (omega (arith, c.if-len-eq0.false)) l
    (λ m. absurd (omega (arith, c.if-first-len.false, m)))
