use Rattle.std.proofs.Common.{◌≡◌, ◌∷◌, ◌++◌, [], drop, set, refl, ◌∙◌, arith}
use Rattle.std.specs.Int.{w16, w32, w64, to_le_bytes}
use Rattle.xor_records.proofs.WritingLaws.{first_set, put_next}
use Rattle.xor_records.proofs.write.put_head.Goals as goal

pub returns : goal.returns
returns c =
    let old = c.args.into.now in
    let head = c.args.head.now in
    let kind : set old 0 1 ≡ (1 ∷ []) ++ drop 1 old = first_set old 1 (omega arith) in
    let txn : c.put_u64.new.into ≡ (1 ∷ []) ++ to_le_bytes w64 head.txn ++ drop 9 old = c.put_u64.ensures ∙ put_next (1 ∷ []) (to_le_bytes w64 head.txn) old (set old 0 1) 1 9 refl refl kind in
    let table : c.put_u16.new.into ≡ (1 ∷ []) ++ to_le_bytes w64 head.txn ++ to_le_bytes w16 head.table ++ drop 11 old
    = c.put_u16.ensures ∙ put_next ((1 ∷ []) ++ to_le_bytes w64 head.txn) (to_le_bytes w16 head.table) old c.put_u64.new.into 9 11 refl refl txn in
    let page : c.put_u32.new.into ≡ (1 ∷ []) ++ to_le_bytes w64 head.txn ++ to_le_bytes w16 head.table ++ to_le_bytes w32 head.page ++ drop 15 old
    = c.put_u32.ensures ∙ put_next ((1 ∷ []) ++ to_le_bytes w64 head.txn ++ to_le_bytes w16 head.table) (to_le_bytes w32 head.page) old c.put_u16.new.into 11 15 refl refl table in
    let stamp : c.put_u64-2.new.into ≡ (1 ∷ []) ++ to_le_bytes w64 head.txn ++ to_le_bytes w16 head.table ++ to_le_bytes w32 head.page ++ to_le_bytes w64 head.stamp ++ drop 23 old
    = c.put_u64-2.ensures
    ∙ put_next ((1 ∷ []) ++ to_le_bytes w64 head.txn ++ to_le_bytes w16 head.table ++ to_le_bytes w32 head.page) (to_le_bytes w64 head.stamp) old c.put_u32.new.into 15 23 refl refl page in
    c.put_u16-2.ensures
    ∙ put_next ((1 ∷ []) ++ to_le_bytes w64 head.txn ++ to_le_bytes w16 head.table ++ to_le_bytes w32 head.page ++ to_le_bytes w64 head.stamp) (to_le_bytes w16 head.offset) old c.put_u64-2.new.into 23 25 refl refl stamp
