use Rattle.std.proofs.Common.{◌≡◌, ◌+◌, ◌-◌, ◌∷◌, ◌++◌, drop, length, refl, ◌∙◌, ap}
use Rattle.std.specs.Int.{w16, to_le_bytes}
use borrow.Rule.Slice.PartMut.{put_mid}
use Rattle.xor_records.specs.Record.{head_text, record_text}
use Rattle.xor_records.proofs.WritingLaws.{put_next, put_last}
use Rattle.xor_records.proofs.write.write_diff.Goals as goal

pub returns-clause-text : goal.returns-clause-text
unfolding record_text
returns-clause-text c =
    let old = c.args.into.now in
    let head = c.args.head.now in
    let xor = c.args.xor.now in
    let front : c.put_u16.new.into ≡ 1 ∷ head_text head ++ to_le_bytes w16 (length xor) ++ drop 27 old
    = c.put_u16.ensures ∙ put_next (1 ∷ head_text head) (to_le_bytes w16 (length xor)) old c.put_head.new.into 25 27 refl refl c.put_head.ensures in
    ap (put_mid 27 (27 + length xor - 27) c.put_u16.new.into) c.copy_from_slice.ensures.after
    ∙ put_last (1 ∷ head_text head ++ to_le_bytes w16 (length xor)) xor old c.put_u16.new.into 27 (27 + length xor) refl refl front
