use Rattle.std.proofs.Common.{◌≡◌, Err, sym, ◌∙◌, ap, arith}
use Rattle.lane_format.specs.declared.segment.LaneReadFault.TheVariants.{Damaged}
use Rattle.replay_core.proofs.segment_reader.SegmentReader.advance.Goals as goal

pub returns-in-Err-clause-damaged : goal.returns-in-Err-clause-damaged
returns-in-Err-clause-damaged g c = λ file at same items read bytes known.
    let e : c.in-Err.fault ≡ Damaged file at = cc in
    c.step.ensures.damaged file at (c.in-Err.is ∙ ap Err e) items read bytes known

pub returns-in-Ok-step-clause-found : goal.returns-in-Ok-step-clause-found
returns-in-Ok-step-clause-found g c =
    let step = c.in-Ok-step.ensures.found in
    let same = c.enter.ensures.only_reads.same in
    record {
      covers = step.covers;
      less = omega (arith, step.less, c.enter.ensures.ahead);
      rec = step.rec;
      is = step.is;
      text = step.text;
      read = λ items read bytes known. step.read items (λ b k. c.enter.ensures.kept items read b (sym same ∙ k)) bytes (same ∙ known);
    }

pub returns-in-Err-step-clause-damaged : goal.returns-in-Err-step-clause-damaged
returns-in-Err-step-clause-damaged g c = λ file at wrong items read bytes known.
    let same = c.enter.ensures.only_reads.same in
    let e : c.in-Err-step.fault ≡ Damaged file at = cc in
    c.step-in-Ok-true.ensures.damaged file at (c.in-Err-step.is ∙ ap Err e) items (λ b k. c.enter.ensures.kept items read b (sym same ∙ k)) bytes (same ∙ known)

pub returns-in-Err-enter-clause-damaged : goal.returns-in-Err-enter-clause-damaged
returns-in-Err-enter-clause-damaged g c = λ file at wrong items read bytes known.
    let e : c.in-Err-enter.fault ≡ Damaged file at = cc in
    c.enter.ensures.damaged file at (c.in-Err-enter.is ∙ ap Err e) items read bytes known
