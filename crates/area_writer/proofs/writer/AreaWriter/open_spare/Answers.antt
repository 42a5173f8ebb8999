use Rattle.std.proofs.Common.{[], ◌∷◌, sym, subst, IsOk}
use Rattle.disk_core.specs.Device.{written}
use Rattle.disk_core.proofs.Moments.{weaker}
use Rattle.area_format.specs.Area.{Holds, area_text}
use Rattle.area_writer.specs.Crash.{Leaves, NotOpenOrHolds, TornFrom}
use Rattle.area_writer.specs.Put.{HasText}
use Rattle.area_writer.proofs.Behind.{opened_holds, opened_or_shut}
use Rattle.area_writer.proofs.Left.{done_so, leaves, some_of}
use Rattle.area_writer.proofs.Told.{at_done, told_after}
use Rattle.area_writer.proofs.writer.AreaWriter.open_spare.Goals as goal

pub returns-clause-leaves : goal.returns-clause-leaves
returns-clause-leaves g c = λ area fits sealed known.
    let D = g.D.Disk in
    let old = c.args.self.now.spare in
    let mid = c.put_gate-done.new.disk in
    let step = c.put_gate-done.ensures in
    let result = c.finish.result in
    let P = NotOpenOrHolds area in
    let Q = Holds area in
    let file = some_of (D.content old) known in
    let pending = λ (is : IsOk result). done_so result is (at_done _ _ c.put_gate-done.result result step.durable c.finish.ensures.ok c.finish.ensures.err (λ pending ok. pending)) in
    let changed = λ (is : IsOk result). done_so result is (at_done _ _ c.put_gate-done.result result step.written c.finish.ensures.ok c.finish.ensures.err (λ changed ok. changed)) in
    subst (λ x. Leaves D old x (IsOk result) P Q) (sym c.finish.ensures.spare)
    (leaves D g.met.D.Disk.counts_now old mid (IsOk result) P Q
    (weaker D old mid (TornFrom (D.may_leave old) 0 (1 ∷ [])) P (λ image torn. opened_or_shut area file.0 image (D.may_leave old) fits (sealed.file file.0 file.1) (sealed.pending file.0 file.1) torn) step.moments) step.told pending
    (λ is told. told_after (written 0 (1 ∷ [])) (D.content old) (D.content mid) (HasText (area_text area)) Q (changed is) sealed.file (λ x has. opened_holds area x fits has)))
