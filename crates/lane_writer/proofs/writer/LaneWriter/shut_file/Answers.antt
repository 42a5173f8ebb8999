use Rattle.std.proofs.Common.{◌≡◌, sym, ap, subst, arith, IsOk}
use Rattle.lane_format.specs.Lane.{IsNotOpen, shut}
use Rattle.lane_writer.specs.Crash.{Leaves, OldOrNotOpen}
use Rattle.lane_writer.specs.Writer.{file_of}
use Rattle.lane_writer.proofs.Left.{done_so, leaves}
use Rattle.lane_writer.proofs.Told.{at_done, told_after}
use Rattle.lane_writer.proofs.writer.LaneWriter.shut_file.Goals as goal

pub returns-clause-leaves : goal.returns-clause-leaves
returns-clause-leaves g c =
    let D = g.D.Disk in
    let odd = c.args.odd in
    let old = file_of odd c.args.self.now.disks in
    let mid = file_of odd c.close-done.new.disks in
    let step = c.close-done.ensures in
    let same : file_of odd c.finish.new.self.disks ≡ mid = ap (file_of odd) c.finish.ensures.disks in
    let pending = λ (is : IsOk c.finish.result). done_so c.finish.result is (at_done _ _ c.close-done.result c.finish.result step.durable c.finish.ensures.ok c.finish.ensures.err (λ pending ok. pending)) in
    let changed = λ (is : IsOk c.finish.result). done_so c.finish.result is (at_done _ _ c.close-done.result c.finish.result step.shut c.finish.ensures.ok c.finish.ensures.err (λ changed ok. changed)) in
    subst (λ x. Leaves D old x (IsOk c.finish.result) (OldOrNotOpen D old) IsNotOpen) (sym same)
    (leaves D g.met.D.Disk.counts_now old mid (IsOk c.finish.result) (OldOrNotOpen D old) IsNotOpen step.moments step.told pending
    (λ is told. told_after shut (D.content old) (D.content mid) (λ _. Unit {0}) IsNotOpen (changed is) (λ _ _. tt) (λ x _ is. let one : 0 ≡ 1 = is in omega (arith, one))))
