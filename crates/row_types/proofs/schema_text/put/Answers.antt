use Rattle.std.proofs.Common.{◌+◌, ◌-◌, length, subst, sym, arith}
use Rattle.row_types.specs.SchemaText.{Puts}
use Rattle.row_types.proofs.Putting.{puts_bytes}
use borrow.Rule.Slice.PartMut.{put_mid}
use Rattle.row_types.proofs.schema_text.put.Goals as goal

pub returns : goal.returns
returns c =
    let k = c.args.at + length c.args.bytes.now - c.args.at in
    subst (λ b. Puts c.args.bytes.now c.args.into.now (put_mid c.args.at k c.args.into.now b) c.args.at (c.args.at + length c.args.bytes.now)) (sym c.copy_from_slice.ensures.after)
    (puts_bytes c.args.into.now c.args.bytes.now c.args.at k c.requires (omega arith))
