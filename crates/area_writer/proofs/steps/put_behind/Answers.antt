use Rattle.std.proofs.Common.{◌++◌}
use Rattle.std.proofs.lemmas.Result.{on_ok_weaker}
use Rattle.disk_core.specs.Device.{written}
use Rattle.area_writer.specs.Put.{HasText}
use Rattle.area_writer.proofs.Behind.{text_grown}
use Rattle.area_writer.proofs.Told.{told_after, written_ok}
use Rattle.area_writer.proofs.steps.put_behind.Goals as goal

pub returns-clause-text : goal.returns-clause-text
returns-clause-text g c =
    let content = g.D.Disk.content in
    let old = content c.args.disk.now in
    let new = content c.write_at.new.self in
    let at = c.args.at in
    let bytes = c.args.bytes.now in
    on_ok_weaker c.write_at.result
    (λ is. λ text place has. told_after (written at bytes) old new (HasText text) (HasText (text ++ bytes)) is has (λ x has_text. text_grown text bytes x at place has_text))
    (written_ok old at bytes c.write_at.result new c.write_at.ensures.written)
