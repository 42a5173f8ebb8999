use Rattle.std.proofs.Common.{arith}
use Rattle.fields.proofs.ToggleLaws.{part_toggled}
use Rattle.replay_core.proofs.page_bytes.toggle.Goals as goal

pub returns : goal.returns
returns c =
    part_toggled c.args.offset _ c.args.bytes.now c.args.xor.now c.xor_into.new.into (omega arith)
    (omega (arith, c.requires)) c.xor_into.ensures
