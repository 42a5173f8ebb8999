use Rattle.std.proofs.Common.{◌≤◌, ◌-◌, List, ℕ, length, set, ap₂, ◌∙◌, arith}
use Rattle.row_types.specs.Schema.{columns_at}
use Rattle.row_types.specs.Slot.{slot_text}
use borrow.Rule.Slice.PartMut.{put_mid}
use Rattle.op_log.specs.Changes.{change_text}
use Rattle.op_log.proofs.ChangeLaws.{written}
use Rattle.op_log.proofs.write.write_put.Goals as goal

pub returns : goal.returns
unfolding change_text
returns c =
    let old = c.args.into.now in
    let three : 3 ≤ length old = omega (arith, c.requires.whole) in
    ap₂ (λ (table text : List ℕ). put_mid 3 (length (put_mid 1 2 (set old 0 1) table) - 3) (put_mid 1 2 (set old 0 1) table) text) (c.copy_from_slice.ensures.after ∙ c.to_le_bytes.ensures) c.encode.ensures
    ∙ written 1 c.args.table old (slot_text (columns_at c.args.schema.now c.args.table) c.args.row.now) three
