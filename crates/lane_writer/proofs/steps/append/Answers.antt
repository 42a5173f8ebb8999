use Rattle.std.proofs.Common.{◌∷◌, [], ◌+◌, ◌<◌, length, ◌∙◌, inl, ap, arith, refl}
use Rattle.std.specs.Option.{option_map}
use Rattle.disk_core.specs.Device.{written}
use Rattle.disk_core.specs.ChangeCalls.{SyncCall, WriteCall}
use Rattle.disk_core.proofs.Moments.{joined, weaker}
use Rattle.disk_core.proofs.Plans.{stopped_before, then_made}
use Rattle.lane_writer.specs.Writer.{file_of}
use Rattle.lane_writer.specs.Crash.{TornFrom, WithOrWithout}
use Rattle.lane_writer.proofs.Crash.{after_frame, no_shorter, opened_batch, opened_or_old}
use Rattle.lane_writer.proofs.Left.{only_written, some_of}
use Rattle.lane_writer.proofs.steps.append.Goals as goal

pub returns-in_err-put-clause-moments : goal.returns-in_err-put-clause-moments
returns-in_err-put-clause-moments g c = λ generation lane bodies body place spelled fits lanes.
    let D = g.D.Disk in
    let old = file_of c.args.odd c.args.disks.now in
    let frame = c.args.frame.now in
    weaker D old (file_of c.args.odd c.put.new.disks) (TornFrom (D.may_leave old) (c.args.gate + 1) frame) (WithOrWithout generation lane bodies body)
    (λ image torn. inl (after_frame generation lane bodies c.args.gate place (D.may_leave old) frame lanes.each image torn)) c.put.ensures.moments

pub returns-clause-moments : goal.returns-clause-moments
returns-clause-moments g c = λ generation lane bodies body place spelled fits lanes.
    let D = g.D.Disk in
    let old = file_of c.args.odd c.args.disks.now in
    let mid = file_of c.args.odd c.put.new.disks in
    let frame = c.args.frame.now in
    let gate = c.args.gate in
    let P = WithOrWithout generation lane bodies body in
    let first = weaker D old mid (TornFrom (D.may_leave old) (gate + 1) frame) P
    (λ image torn. inl (after_frame generation lane bodies gate place (D.may_leave old) frame lanes.each image torn)) c.put.ensures.moments in
    let bytes = some_of (D.content old) lanes.told in
    let file = written (gate + 1) frame bytes.0 in
    let told = c.in_ok-put.ensures.written ∙ ap (option_map (written (gate + 1) frame)) bytes.1 in
    let only = only_written (gate + 1) frame bytes.0 (D.content old) (D.content mid) (D.may_leave mid) bytes.1 c.in_ok-put.ensures.written c.in_ok-put.ensures.durable in
    let inside : gate < length file = omega (arith, c.requires.inside bytes.0 bytes.1, no_shorter (gate + 1) frame bytes.0) in
    let before = lanes.each bytes.0 (g.met.D.Disk.leaves_as_read old bytes.0 bytes.1) in
    let behind = after_frame generation lane bodies gate place (D.may_leave old) frame lanes.each file (c.put.ensures.crash file (g.met.D.Disk.leaves_as_read mid file told)) in
    let second = weaker D mid (file_of c.args.odd c.put-2.new.disks) (TornFrom (D.may_leave mid) gate (1 ∷ [])) P
    (λ image torn. opened_batch generation lane bodies gate place body frame file bytes.0 image spelled fits refl before behind (opened_or_old gate file (D.may_leave mid) inside only image torn)) c.put-2.ensures.moments in
    joined D old mid (file_of c.args.odd c.put-2.new.disks) P first second

pub returns-clause-calls : goal.returns-clause-calls
returns-clause-calls g c =
    let D = g.D.Disk in
    then_made (WriteCall (c.args.gate + 1) c.args.frame.now ∷ SyncCall ∷ []) (WriteCall c.args.gate (1 ∷ []) ∷ SyncCall ∷ []) c.put-2.result (D.calls (file_of c.args.odd c.args.disks.now)) (D.calls (file_of c.args.odd c.put.new.disks)) (D.calls (file_of c.args.odd c.put-2.new.disks)) c.in_ok-put.ensures.calls c.put-2.ensures.calls

pub returns-in_err-put-clause-calls : goal.returns-in_err-put-clause-calls
returns-in_err-put-clause-calls g c =
    let D = g.D.Disk in
    stopped_before (WriteCall (c.args.gate + 1) c.args.frame.now ∷ SyncCall ∷ []) (WriteCall c.args.gate (1 ∷ []) ∷ SyncCall ∷ []) c.from_residual.result (D.calls (file_of c.args.odd c.args.disks.now)) (D.calls (file_of c.args.odd c.put.new.disks)) c.from_residual.ensures.0 c.in_err-put.ensures.calls
