use Rattle.std.proofs.Common.{◌≡◌, ◌-◌, ◌≤◌, length, min, take, drop, sym, ◌∙◌, ap, subst, arith}
use Rattle.std.proofs.lemmas.List.{take-take}
use Rattle.xor_records.specs.Record.{record_text}
use Rattle.replay_core.specs.Windows.{Covers, piece_of}
use Rattle.replay_core.specs.Segments.{IsDamagedBehind, NoRecord}
use Rattle.replay_core.proofs.ReadingLaws.{front_record, in_body_of, ok_no_err, record_at_front, stepped}
use Rattle.replay_core.proofs.WindowLaws.{piece_there}
use Rattle.replay_core.proofs.segment_reader.SegmentReader.step.Goals as goal

pub returns-in-Err-clause-damaged : goal.returns-in-Err-clause-damaged
returns-in-Err-clause-damaged g c = λ file at same items read bytes known.
    let old = c.args.self.now in
    let n = c.min-n.result in
    let m = old.end - old.place in
    let here = piece_there (g.D.Disk.content c.args.disk.now) old.size c.reach.new.self bytes old.place n c.reach.ensures.window known c.in-Ok.ensures.covers in
    let few : n ≡ min m 4123 = omega arith in
    let is : old.place ≡ at = cc in
    subst (IsDamagedBehind bytes items) is
    (NoRecord old.end (in_body_of bytes items old.place old.end c.requires.inside (read bytes known))
    (λ rec rest sound text.
    ok_no_err _ c.in-Err.field-0 c.read_rec.result
    (c.read_rec.ensures.only rec (take (n - length (record_text rec)) rest) sound (c.bytes.ensures.piece ∙ here ∙ front_record (drop old.place bytes) rec rest m n sound text few)) c.in-Err.is))

pub returns-clause-found : goal.returns-clause-found
returns-clause-found g c =
    let old = c.args.self.now in
    let n = c.min-n.result in
    let len = c.in-Ok-read_rec.len in
    let found = c.in-Ok-read_rec.ensures.found in
    let within : len ≤ n = omega (arith, found.2, c.bytes.ensures.len) in
    let size = record_at_front c.bytes.result.now c.in-Ok-read_rec.field-0-0 len found.0 found.1 found.2 in
    let covers = c.in-Ok.ensures.covers in
    let part : Covers old.place len c.reach.new.self = (covers.0, omega (arith, covers.1, within)) in
    let text : piece_of c.reach.new.self old.place len ≡ record_text c.in-Ok-read_rec.field-0-0 =
    sym (take-take len n (drop (old.place - c.reach.new.self.at) c.reach.new.self.bytes.items) within)
    ∙ ap (take len) (sym c.bytes.ensures.piece)
    ∙ found.1 in
    record {
      covers = part;
      less = omega (arith, size, within, c.requires.over.end, c.requires.inside);
      rec = c.in-Ok-read_rec.field-0-0;
      is = found.0;
      text = text;
      read = λ items read bytes known.
          stepped bytes items old.place old.end len c.in-Ok-read_rec.field-0-0 (in_body_of bytes items old.place old.end c.requires.inside (read bytes known))
          (omega (arith, c.requires.over.end, c.requires.over.size bytes known)) (omega (arith, within)) found.0
          (sym (piece_there (g.D.Disk.content c.args.disk.now) old.size c.reach.new.self bytes old.place len c.reach.ensures.window known part) ∙ text);
    }
