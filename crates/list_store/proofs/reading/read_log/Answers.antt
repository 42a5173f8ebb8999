use Rattle.std.proofs.Common.{◌≡◌, ◌≢◌, ℕ, ◌<◌, ◌≤◌, false, List, length, Option, Some, Result, Ok, Err, IfSome, refl, sym, ◌∙◌, ap, subst, arith}
use Rattle.std.proofs.lemmas.Result.{err_from_is_err_and}
use Rattle.lane_format.specs.LaneRead.{lane_reads, read_as}
use Rattle.lane_format.specs.LaneRead as lane
use Rattle.lane_format.specs.declared.segment.Batch.{Batch}
use Rattle.lane_format.specs.declared.segment.LaneReadFault.{LaneReadFault}
use Rattle.lane_format.specs.declared.segment.LaneReadFault.TheVariants as reads
use Rattle.lane_format.specs.declared.segment.Segment.{Segment}
use Rattle.list_store.specs.Faults.{opening_fault}
use Rattle.list_store.specs.Found.{bodies_in}
use Rattle.list_store.specs.Log.{HasBodies, IsDamagedAt, NoLane, OtherGeneration}
use Rattle.list_store.specs.declared.fault.OpenFault.TheVariants.{Damaged}
use Rattle.list_store.proofs.Faulting.{damaged_as, lane_damage, no_byte}
use Rattle.list_store.proofs.Playing.{damaged_there, has_bodies, is_log, no_gate}
use Rattle.list_store.proofs.reading.read_log.Goals as goal

-- the bodies that were read
read_two : (segment : Segment) (batches : List Batch) (bytes : List ℕ) → segment.generation ≡ 2 → batches ≡ segment.batches → lane_reads false 0 bytes (lane.Holding segment.generation segment.batches) → HasBodies 2 (bodies_in batches) bytes
read_two segment batches bytes generation is reads =
    has_bodies 2 batches bytes (subst (λ (l : List Batch). lane_reads false 0 bytes (lane.Holding 2 l)) (sym is) (subst (λ (n : ℕ). lane_reads false 0 bytes (lane.Holding n segment.batches)) generation reads))

pub returns-in_err-segment-clause-damaged : goal.returns-in_err-segment-clause-damaged
returns-in_err-segment-clause-damaged g c = λ file at e.
    let f = c.in_err-segment.field-0.0 in
    let y = err_from_is_err_and c.from_residual-in_err-segment.result c.from_residual-in_err-segment.ensures.1 in
    let inner : y.0 ≡ Damaged file at = let both = sym y.1 ∙ e in cc in
    let is : f ≡ reads.Damaged file at = lane_damage f file at (sym y.2 ∙ inner) in
    let told = c.in_err-segment.was ∙ ap Err is in
    (c.read_segment.ensures.damaged file at told, λ bytes known. NoLane (subst (λ (r : Result (Option Segment) LaneReadFault). IfSome (read_as r) (lane_reads false 0 bytes)) told (c.read_segment.ensures.segment bytes known)))

pub returns-then-segment-ne-GENERATION-clause-damaged : goal.returns-then-segment-ne-GENERATION-clause-damaged
returns-then-segment-ne-GENERATION-clause-damaged g c = λ file at e.
    let segment = c.in-Some.segment in
    let is = damaged_as c.damaged.result file at 1 c.damaged.ensures e in (
      is.0,
      λ bytes known.
          let reads = subst (λ (o : Option Segment). IfSome (read_as (Ok o)) (lane_reads false 0 bytes)) c.in-Some.is (c.in_ok-segment.ensures.segment bytes known) in
          OtherGeneration segment.generation (bodies_in segment.batches) (has_bodies segment.generation segment.batches bytes reads) (λ two. omega (arith, two, c.if-segment-ne-GENERATION.true)) is.1,
    )

pub returns-in_err-keeper-2-clause-damaged : goal.returns-in_err-keeper-2-clause-damaged
returns-in_err-keeper-2-clause-damaged g c = λ file at e.
    let segment = c.in-Some.segment in
    let batches = c.as_slice.result.now in
    let y = err_from_is_err_and c.from_residual-in_err-keeper-2.result c.from_residual-in_err-keeper-2.ensures.1 in
    let inner : c.in_err-keeper-2.field-0.0 ≡ Damaged file at = let both = sym y.1 ∙ e in let fault : y.0 ≡ Damaged file at = cc in sym y.2 ∙ fault in
    let found = c.play.ensures.damaged file at (c.in_err-keeper-2.was ∙ ap Err inner) in (
      found.0,
      λ bytes known.
          let reads = subst (λ (o : Option Segment). IfSome (read_as (Ok o)) (lane_reads false 0 bytes)) c.in-Some.is (c.in_ok-segment.ensures.segment bytes known) in
          damaged_there c.args.schema.now bytes (bodies_in batches) at (read_two segment batches bytes (omega (arith, c.if-segment-ne-GENERATION.false)) c.as_slice.ensures reads) found.1,
    )

pub returns-then-not-branch-clause-damaged : goal.returns-then-not-branch-clause-damaged
returns-then-not-branch-clause-damaged g c = λ file at e.
    let segment = c.in-Some.segment in
    let batches = c.as_slice.result.now in
    let keeper = c.in_ok-keeper-2.keeper in
    let gate = c.in_ok-keeper-2.gate in
    let is = damaged_as c.damaged-then-not-branch.result file at 11 c.damaged-then-not-branch.ensures e in (
      is.0,
      λ bytes known.
          let reads = subst (λ (o : Option Segment). IfSome (read_as (Ok o)) (lane_reads false 0 bytes)) c.in-Some.is (c.in_ok-segment.ensures.segment bytes known) in
          let has = read_two segment batches bytes (omega (arith, c.if-segment-ne-GENERATION.false)) c.as_slice.ensures reads in
          let short = no_byte c.in_ok-has_byte.field-0 gate (length bytes) (c.in_ok-has_byte.ensures.there bytes (c.read_segment.ensures.only_reads.same ∙ known)) c.if-not-branch.true in
          subst (λ (n : ℕ). IsDamagedAt c.args.schema.now bytes n) (sym is.1) (no_gate c.args.schema.now keeper gate bytes (bodies_in batches) c.in_ok-keeper-2.ensures.read c.in_ok-keeper-2.ensures.bodies has short),
    )

pub returns-clause-found : goal.returns-clause-found
returns-clause-found g c =
    let segment = c.in-Some.segment in
    let batches = c.as_slice.result.now in
    let keeper = c.in_ok-keeper-2.keeper in
    let gate = c.in_ok-keeper-2.gate in (
      c.in_ok-keeper-2.ensures.read,
      λ bytes known.
          let reads = subst (λ (o : Option Segment). IfSome (read_as (Ok o)) (lane_reads false 0 bytes)) c.in-Some.is (c.in_ok-segment.ensures.segment bytes known) in
          let has = read_two segment batches bytes (omega (arith, c.if-segment-ne-GENERATION.false)) c.as_slice.ensures reads in
          let inside = (c.in_ok-has_byte.ensures.there bytes (c.read_segment.ensures.only_reads.same ∙ known)).0 c.if-not-branch.false in
          is_log c.args.schema.now keeper gate bytes (bodies_in batches) c.in_ok-keeper-2.ensures.read c.in_ok-keeper-2.ensures.bodies has inside,
    )
