use Rattle.std.proofs.Common.{◌≡◌, drop, sym, ◌∙◌, ap, subst, arith}
use Rattle.lane_format.specs.Batches.{stands}
use Rattle.lane_format.specs.declared.gate.AtGate.TheVariants.{Body}
use Rattle.replay_core.specs.Segments.{IsDamagedBehind, NoBatch}
use Rattle.replay_core.proofs.ReadingLaws.{at_gate_of, opened}
use Rattle.replay_core.proofs.WindowLaws.{gate_stands}
use Rattle.replay_core.proofs.segment_reader.SegmentReader.enter.Goals as goal

pub returns-in-End-clause-end : goal.returns-in-End-clause-end
returns-in-End-clause-end g c = λ same items read bytes known.
    let old = c.args.self.now in
    let here = gate_stands (g.D.Disk.content c.args.disk.now) old.size c.reach.new.self bytes c.bytes.result.now old.place c.min-n.result c.at_gate.result c.reach.ensures.window known (c.requires.over.size bytes known) (omega arith) c.in-Ok.ensures.covers c.bytes.ensures.piece c.at_gate.ensures.stands in
    record {
      gate = old.place;
      all = at_gate_of bytes items old.place old.end c.requires.gate (read bytes known);
      end = subst (stands (drop old.place bytes)) c.in-End.is here;
    }

pub returns-in-Broken-clause-damaged : goal.returns-in-Broken-clause-damaged
returns-in-Broken-clause-damaged g c = λ file at same items read bytes known.
    let old = c.args.self.now in
    let here = gate_stands (g.D.Disk.content c.args.disk.now) old.size c.reach.new.self bytes c.bytes.result.now old.place c.min-n.result c.at_gate.result c.reach.ensures.window known (c.requires.over.size bytes known) (omega arith) c.in-Ok.ensures.covers c.bytes.ensures.piece c.at_gate.ensures.stands in
    let is : old.place ≡ at = cc in
    subst (IsDamagedBehind bytes items) is (NoBatch (at_gate_of bytes items old.place old.end c.requires.gate (read bytes known)) (subst (stands (drop old.place bytes)) c.in-Broken.is here))

pub returns-in-Body-clause-kept : goal.returns-in-Body-clause-kept
returns-in-Body-clause-kept g c = λ items read bytes known.
    let old = c.args.self.now in
    let here = gate_stands (g.D.Disk.content c.args.disk.now) old.size c.reach.new.self bytes c.bytes.result.now old.place c.min-n.result c.at_gate.result c.reach.ensures.window known (c.requires.over.size bytes known) (omega arith) c.in-Ok.ensures.covers c.bytes.ensures.piece c.at_gate.ensures.stands in
    let inside = c.at_gate.ensures.inside c.in-Body.len c.in-Body.is in
    let batch = subst (stands (drop old.place bytes)) (c.in-Body.is ∙ ap Body (sym c.from.ensures)) here in
    opened bytes items old.place c.from.result (at_gate_of bytes items old.place old.end c.requires.gate (read bytes known)) batch (omega (arith, inside.0, c.from.ensures))
