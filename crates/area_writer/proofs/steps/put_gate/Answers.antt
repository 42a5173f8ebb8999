use Rattle.std.proofs.Common.{[], ◌∷◌}
use Rattle.disk_core.specs.ChangeCalls.{SyncCall, WriteCall}
use Rattle.disk_core.proofs.Plans.{stopped_before, then_made}
use Rattle.disk_core.proofs.Moments.{goes_on}
use Rattle.area_writer.specs.Crash.{TornFrom}
use Rattle.area_writer.proofs.Left.{one_write}
use Rattle.area_writer.proofs.steps.put_gate.Goals as goal

pub returns-in_err-write_at-clause-moments : goal.returns-in_err-write_at-clause-moments
returns-in_err-write_at-clause-moments g c =
    let D = g.D.Disk in
    one_write D g.met.D.Disk.only_now c.args.disk.now c.write_at.new.self 0 (c.args.gate ∷ []) c.write_at.ensures.time c.write_at.ensures.crash

pub returns-clause-moments : goal.returns-clause-moments
returns-clause-moments g c =
    let D = g.D.Disk in
    let old = c.args.disk.now in
    let write = one_write D g.met.D.Disk.only_now old c.write_at.new.self 0 (c.args.gate ∷ []) c.write_at.ensures.time c.write_at.ensures.crash in
    goes_on D old c.write_at.new.self c.sync.new.self (TornFrom (D.may_leave old) 0 (c.args.gate ∷ [])) _ write c.sync.ensures.time
    (λ image now. c.write_at.ensures.crash image (c.sync.ensures.crash image now))

pub returns-clause-calls : goal.returns-clause-calls
returns-clause-calls g c =
    let D = g.D.Disk in
    then_made (WriteCall 0 (c.args.gate ∷ []) ∷ []) (SyncCall ∷ []) c.sync.result (D.calls c.args.disk.now) (D.calls c.write_at.new.self) (D.calls c.sync.new.self) c.in_ok-write_at.ensures.calls c.sync.ensures.calls

pub returns-in_err-write_at-clause-calls : goal.returns-in_err-write_at-clause-calls
returns-in_err-write_at-clause-calls g c =
    let D = g.D.Disk in
    stopped_before (WriteCall 0 (c.args.gate ∷ []) ∷ []) (SyncCall ∷ []) c.from_residual.result (D.calls c.args.disk.now) (D.calls c.write_at.new.self) c.from_residual.ensures.0 c.in_err-write_at.ensures.calls
