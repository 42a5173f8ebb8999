use Rattle.std.proofs.Common.{arith}
use Rattle.fields.proofs.ToggleLaws.{toggled_from}
use Rattle.fields.specs.Toggle.{byte_at}
use Rattle.fields.proofs.xor.xor_into.Goals as goal

pub returns : goal.returns
returns c = toggled_from byte_at c.args.into.now c.args.by.now c.loop-i.into c.loop-i.auto.into (λ i l. c.loop-i.invariant.done i (omega (arith, l, c.loop-i-test.false)))
