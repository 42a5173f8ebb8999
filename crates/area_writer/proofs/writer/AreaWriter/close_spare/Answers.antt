use Rattle.std.proofs.Common.{◌≡◌, [], ◌∷◌, sym, subst, arith, IsOk}
use Rattle.disk_core.specs.Device.{written}
use Rattle.disk_core.proofs.Moments.{weaker}
use Rattle.area_format.specs.Area.{IsNotOpen}
use Rattle.area_writer.specs.Crash.{Leaves, OldOrNotOpen, TornFrom}
use Rattle.area_writer.proofs.Behind.{closed_or_old}
use Rattle.area_writer.proofs.Left.{done_so, leaves}
use Rattle.area_writer.proofs.Told.{at_done, told_after}
use Rattle.area_writer.proofs.writer.AreaWriter.close_spare.Goals as goal

pub returns-clause-leaves : goal.returns-clause-leaves
returns-clause-leaves g c =
    let D = g.D.Disk in
    let old = c.args.self.now.spare in
    let mid = c.put_gate-done.new.disk in
    let step = c.put_gate-done.ensures in
    let result = c.finish.result in
    let P = OldOrNotOpen D old in
    let pending = λ (is : IsOk result). done_so result is (at_done _ _ c.put_gate-done.result result step.durable c.finish.ensures.ok c.finish.ensures.err (λ pending ok. pending)) in
    let changed = λ (is : IsOk result). done_so result is (at_done _ _ c.put_gate-done.result result step.written c.finish.ensures.ok c.finish.ensures.err (λ changed ok. changed)) in
    subst (λ x. Leaves D old x (IsOk result) P IsNotOpen) (sym c.finish.ensures.spare)
    (leaves D g.met.D.Disk.counts_now old mid (IsOk result) P IsNotOpen
    (weaker D old mid (TornFrom (D.may_leave old) 0 (0 ∷ [])) P (closed_or_old (D.may_leave old)) step.moments) step.told pending
    (λ is told. told_after (written 0 (0 ∷ [])) (D.content old) (D.content mid) (λ _. Unit {0}) IsNotOpen (changed is) (λ _ _. tt) (λ x _ is. let one : 0 ≡ 1 = is in omega (arith, one))))
