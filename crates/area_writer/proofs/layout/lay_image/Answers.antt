use Rattle.std.proofs.Common.{◌≡◌, ◌++◌, ◌-◌, drop, refl, ◌∙◌, ap, arith, length}
use Rattle.std.specs.Int.{w16, w32, w64, to_le_bytes}
use borrow.Rule.Slice.PartMut.{put_mid}
use Rattle.area_format.specs.Area.{image_text, image_head_text}
use Rattle.area_writer.proofs.PutLaws.{put_next, put_to_end}
use Rattle.area_writer.proofs.layout.lay_image.Goals as goal

pub returns : goal.returns
unfolding image_text
returns c =
    let old = c.args.into.now in
    let head = c.args.head.now in
    let table : c.put_u16.new.into ≡ to_le_bytes w16 head.table ++ drop 2 old = c.put_u16.ensures in
    let page : c.put_u32.new.into ≡ to_le_bytes w16 head.table ++ to_le_bytes w32 head.page ++ drop 6 old
    = c.put_u32.ensures ∙ put_next (to_le_bytes w16 head.table) (to_le_bytes w32 head.page) old c.put_u16.new.into 2 6 refl refl table in
    let stamp : c.put_u64.new.into ≡ image_head_text head ++ drop 14 old
    = c.put_u64.ensures ∙ put_next (to_le_bytes w16 head.table ++ to_le_bytes w32 head.page) (to_le_bytes w64 head.stamp) old c.put_u32.new.into 6 14 refl refl page in
    ap (put_mid 14 (length c.put_u64.new.into - 14) c.put_u64.new.into) c.copy_from_slice.ensures.after
    ∙ put_to_end (image_head_text head) c.args.bytes.now old c.put_u64.new.into 14 4110 refl (omega (arith, c.requires.page)) c.requires.room stamp
