use Rattle.std.proofs.Common.{◌≡◌, [], length, sym, ◌∙◌, ap}
use Rattle.std.proofs.lemmas.List.{append-nil}
use Rattle.xor_records.specs.Record.{record_text}
use Rattle.replay_core.proofs.ReadingLaws.{ok_no_err, ok_same}
use Rattle.replay_core.proofs.item.Item.rec.Goals as goal

pub unreachable-requires : goal.unreachable-requires
unreachable-requires c =
    let r = c.requires in
    ok_no_err _ c.in-Err.field-0 c.read_rec.result (c.read_rec.ensures.only r.0 [] r.1.is (r.1.text ∙ sym (append-nil (record_text r.0)))) c.in-Err.is

pub returns : goal.returns
returns c = λ rec shows.
    let only = c.read_rec.ensures.only rec [] shows.is (shows.text ∙ sym (append-nil (record_text rec))) in
    let same = ok_same (c.in-Ok.rec, c.in-Ok.field-0-1) (rec, length (record_text rec)) c.read_rec.result c.in-Ok.is only in
    ap (λ p. p.0) same
