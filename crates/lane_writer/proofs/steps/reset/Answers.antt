use Rattle.std.proofs.Common.{◌≡◌, ◌∷◌, [], ◌++◌, length, ◌<◌, ◌∙◌, inl, ap, subst, arith, refl}
use Rattle.std.proofs.lemmas.Result.{on_ok_weaker}
use Rattle.std.specs.Option.{option_map}
use Rattle.std.specs.Int.{w16, w64, to_le_bytes}
use Rattle.disk_core.specs.Device.{written}
use Rattle.disk_core.specs.ChangeCalls.{Made, SyncCall, WriteCall}
use Rattle.disk_core.proofs.Moments.{joined, weaker}
use Rattle.disk_core.proofs.Plans.{stopped_before, then_made}
use Rattle.lane_format.specs.Lane.{emptied}
use Rattle.lane_writer.specs.Writer.{file_of}
use Rattle.lane_writer.specs.Crash.{NotOpenOrEmpty, TornFrom}
use Rattle.lane_writer.proofs.Crash.{after_header, no_shorter, opened_empty, opened_or_old}
use Rattle.lane_writer.proofs.Left.{only_written, some_of}
use Rattle.lane_writer.proofs.Told.{changed_twice}
use Rattle.lane_writer.proofs.Writes.{header_then_gate}
use Rattle.lane_writer.proofs.steps.reset.Goals as goal

pub returns-clause-empty : goal.returns-clause-empty
returns-clause-empty g c =
    let content = g.D.Disk.content in
    let start = content (file_of c.args.odd c.args.disks.now) in
    let behind = to_le_bytes w64 c.args.generation ++ to_le_bytes w16 c.args.lane ++ 0 ∷ [] in
    let header : content (file_of c.args.odd c.put.new.disks) ≡ option_map (written 1 behind) start = subst (λ b. content (file_of c.args.odd c.put.new.disks) ≡ option_map (written 1 b) start) c.header.ensures c.in_ok-put.ensures.written in
    let both = changed_twice (written 1 behind) (written 0 (1 ∷ [])) (emptied c.args.generation c.args.lane) start (λ bytes. 0 < length bytes) c.requires.gate (header_then_gate c.args.generation c.args.lane) in
    on_ok_weaker c.put-2.result (λ gate. gate ∙ ap (option_map (written 0 (1 ∷ []))) header ∙ both) c.put-2.ensures.written

pub returns-clause-moments : goal.returns-clause-moments
returns-clause-moments g c = λ closed.
    let D = g.D.Disk in
    let old = file_of c.args.odd c.args.disks.now in
    let mid = file_of c.args.odd c.put.new.disks in
    let header = c.header.result in
    let P = NotOpenOrEmpty c.args.generation c.args.lane in
    let first = weaker D old mid (TornFrom (D.may_leave old) 1 header) P (λ image torn. inl (after_header (D.may_leave old) header closed.each image torn)) c.put.ensures.moments in
    let bytes = some_of (D.content old) closed.told in
    let file = written 1 header bytes.0 in
    let told = c.in_ok-put.ensures.written ∙ ap (option_map (written 1 header)) bytes.1 in
    let only = only_written 1 header bytes.0 (D.content old) (D.content mid) (D.may_leave mid) bytes.1 c.in_ok-put.ensures.written c.in_ok-put.ensures.durable in
    let some : 0 < length bytes.0 = c.requires.gate bytes.0 bytes.1 in
    let inside : 0 < length file = omega (arith, some, no_shorter 1 header bytes.0) in
    let shut = after_header (D.may_leave old) header closed.each file (c.put.ensures.crash file (g.met.D.Disk.leaves_as_read mid file told)) in
    let second = weaker D mid (file_of c.args.odd c.put-2.new.disks) (TornFrom (D.may_leave mid) 0 (1 ∷ [])) P
    (λ image torn. opened_empty c.args.generation c.args.lane header file bytes.0 image c.header.ensures refl some (record { some = c.requires.some; fits = c.ranges.generation.fits; lane_fits = c.ranges.lane.fits }) shut (opened_or_old 0 file (D.may_leave mid) inside only image torn)) c.put-2.ensures.moments in
    joined D old mid (file_of c.args.odd c.put-2.new.disks) P first second

pub returns-clause-calls : goal.returns-clause-calls
returns-clause-calls g c =
    let D = g.D.Disk in
    subst (λ header. Made (WriteCall 1 header ∷ SyncCall ∷ WriteCall 0 (1 ∷ []) ∷ SyncCall ∷ []) c.put-2.result (D.calls (file_of c.args.odd c.args.disks.now)) (D.calls (file_of c.args.odd c.put-2.new.disks))) c.header.ensures
    (then_made (WriteCall 1 c.header.result ∷ SyncCall ∷ []) (WriteCall 0 (1 ∷ []) ∷ SyncCall ∷ []) c.put-2.result (D.calls (file_of c.args.odd c.args.disks.now)) (D.calls (file_of c.args.odd c.put.new.disks)) (D.calls (file_of c.args.odd c.put-2.new.disks)) c.in_ok-put.ensures.calls c.put-2.ensures.calls)

pub returns-in_err-put-clause-calls : goal.returns-in_err-put-clause-calls
returns-in_err-put-clause-calls g c =
    let D = g.D.Disk in
    subst (λ header. Made (WriteCall 1 header ∷ SyncCall ∷ WriteCall 0 (1 ∷ []) ∷ SyncCall ∷ []) c.from_residual.result (D.calls (file_of c.args.odd c.args.disks.now)) (D.calls (file_of c.args.odd c.put.new.disks))) c.header.ensures
    (stopped_before (WriteCall 1 c.header.result ∷ SyncCall ∷ []) (WriteCall 0 (1 ∷ []) ∷ SyncCall ∷ []) c.from_residual.result (D.calls (file_of c.args.odd c.args.disks.now)) (D.calls (file_of c.args.odd c.put.new.disks)) c.from_residual.ensures.0 c.in_err-put.ensures.calls)
