use Rattle.op_log.proofs.Bodies.{too_short}
use Rattle.op_log.proofs.read.read_change.Goals as goal

pub returns-in_default-clause-only : goal.returns-in_default-clause-only
returns-in_default-clause-only c = λ change rest fits e.
    absurd (too_short c.args.schema.now c.args.from.now c.in_default.len_below change rest fits e)
