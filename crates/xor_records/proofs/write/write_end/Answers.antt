use Rattle.std.proofs.Common.{◌∷◌, [], set, refl, ◌∙◌, arith}
use Rattle.std.specs.Int.{w64, to_le_bytes}
use Rattle.xor_records.specs.Record.{record_text}
use Rattle.xor_records.proofs.WritingLaws.{first_set, put_next}
use Rattle.xor_records.proofs.write.write_end.Goals as goal

pub returns-clause-text : goal.returns-clause-text
unfolding record_text
returns-clause-text c =
    let old = c.args.into.now in
    c.put_u64.ensures ∙ put_next (3 ∷ []) (to_le_bytes w64 c.args.txn) old (set old 0 3) 1 9 refl refl (first_set old 3 (omega arith))
