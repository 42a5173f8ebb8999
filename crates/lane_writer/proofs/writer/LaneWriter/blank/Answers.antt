use Rattle.std.proofs.Common.{true, false, sym, refl, subst, IsOk}
use Rattle.lane_format.specs.Lane.{IsNotOpen}
use Rattle.lane_writer.specs.Crash.{Leaves, OldOrNotOpen}
use Rattle.lane_writer.specs.Plans.{IsBlanked}
use Rattle.lane_writer.specs.Writer.{disk_of}
use Rattle.lane_writer.proofs.Blanks.{both, done_for, even_failed, in_order, keeps_second}
use Rattle.lane_writer.proofs.writer.LaneWriter.blank.Goals as goal

pub returns-in_err-shut_file-clause-calls : goal.returns-in_err-shut_file-clause-calls
returns-in_err-shut_file-clause-calls g c = λ live.
    let first = c.shut_file.ensures in
    even_failed g.D.Disk c.args.self.now c.shut_file.new.self c.in_err-shut_file.field-0.0 c.shut_file.result c.from_residual-in_err-shut_file.result c.in_err-shut_file.was c.from_residual-in_err-shut_file.ensures.1 live first.fault first.other first.calls

pub returns-clause-calls : goal.returns-clause-calls
returns-clause-calls g c = λ live.
    let first = c.in_ok-shut_file.ensures in
    let second = c.shut_file-2.ensures in
    in_order g.D.Disk c.args.self.now c.shut_file.new.self c.shut_file-2.new.self c.shut_file-2.result first.stage first.fault.lane first.other second.fault second.other first.calls second.calls

pub returns-clause-fault : goal.returns-clause-fault
returns-clause-fault g c =
    let first = c.in_ok-shut_file.ensures in
    let second = c.shut_file-2.ensures in
    (true, keeps_second g.D.Disk c.args.self.now c.shut_file.new.self c.shut_file-2.new.self c.shut_file-2.result first.stage first.fault.lane first.other second.fault second.other c.in_ok-live.ensures first.fault.still)

pub returns-clause-leaves : goal.returns-clause-leaves
returns-clause-leaves g c =
    let D = g.D.Disk in
    let first = c.in_ok-shut_file.ensures in
    let second = c.shut_file-2.ensures in
    let old = c.args.self.now in
    let mid = c.shut_file.new.self in
    let new = c.shut_file-2.new.self in
    let result = c.shut_file-2.result in
    let even = disk_of false old in
    both (λ odd. Leaves D (disk_of odd old) (disk_of odd new) (IsBlanked odd old result) (OldOrNotOpen D (disk_of odd old)) IsNotOpen)
    (subst (λ x. Leaves D x (disk_of true new) (IsOk result) (OldOrNotOpen D x) IsNotOpen) first.other second.leaves)
    (subst (λ x. Leaves D even x (IsBlanked false old result) (OldOrNotOpen D even) IsNotOpen) (sym second.other) (done_for D even (disk_of false mid) _ (IsBlanked false old result) (OldOrNotOpen D even) IsNotOpen (λ _. refl) first.leaves))
