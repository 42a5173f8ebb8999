use Rattle.std.proofs.Common.{◌≡◌, ◌≤◌, ◌-◌, List, ℕ, length, set, ap, ap₂, ◌∙◌, arith}
use Rattle.std.specs.Int.{w16, w64, to_le_bytes}
use Rattle.std.proofs.lemmas.Int.{to_z-of_z}
use borrow.Rule.Slice.PartMut.{put_mid}
use Rattle.op_log.specs.Changes.{change_text, number_text}
use Rattle.op_log.proofs.ChangeLaws.{written}
use Rattle.op_log.proofs.write.write_del.Goals as goal

pub returns : goal.returns
unfolding change_text number_text
returns c =
    let old = c.args.into.now in
    let three : 3 ≤ length old = omega (arith, c.requires.whole) in
    let head : c.copy_from_slice.new.self ≡ to_le_bytes w16 c.args.table = c.copy_from_slice.ensures.after ∙ c.to_le_bytes.ensures in
    let number : c.copy_from_slice-2.new.self ≡ number_text c.args.number = c.copy_from_slice-2.ensures.after ∙ c.to_le_bytes-2.ensures ∙ ap number_text (to_z-of_z w64 c.args.number c.ranges.number) in
    ap₂ (λ (table text : List ℕ). put_mid 3 (length (put_mid 1 2 (set old 0 2) table) - 3) (put_mid 1 2 (set old 0 2) table) text) head number
    ∙ written 2 c.args.table old (number_text c.args.number) three
