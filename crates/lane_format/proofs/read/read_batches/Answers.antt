use Rattle.std.proofs.Common.{◌≡◌, ◌+◌, ◌≤◌, ◌++◌, ◌∷◌, [], List, Option, length, sym, ◌∙◌, subst, arith}
use Rattle.std.proofs.lemmas.Grind.{common_steps}
use Rattle.std.specs.Option.{ForSome, IfSome}
use Rattle.disk_core.proofs.Moments.{read_on}
use Rattle.lane_format.specs.Batches.{ReadTo}
use Rattle.lane_format.specs.ReadingSteps.{NextIs}
use Rattle.lane_format.specs.Windows.{IsWindow}
use Rattle.lane_format.specs.declared.segment.Batch.{Batch}
use Rattle.lane_format.proofs.ReadTo.{next_read}
use Rattle.lane_format.proofs.read.read_batches.Goals as goal

pub loop-batches-preserved : goal.loop-batches-preserved
loop-batches-preserved g c =
    let D = g.D.Disk in
    let old = c.args.disk.now in
    let mid = c.loop-batches.disk in
    let new = c.read_batch.new.disk in
    let gate = c.loop-batches.gate in
    let so_far = c.loop-batches.invariant in
    let batch = c.in-Some.batch in
    let before = c.loop-batches.batches.items in
    let next = subst (λ (o : Option Batch). ForSome (D.content mid) (λ bytes. NextIs bytes gate o)) c.in-Some.is c.in_ok-read_batch.ensures.next in
    let place = subst (λ (o : Option Batch). IfSome o (λ batch. (batch.at ≡ gate + 5) × (batch.at + length batch.body ≤ c.args.size))) c.in-Some.is c.in_ok-read_batch.ensures.place in
    let size : c.len.result ≡ length batch.body = c.len.ensures in
    let items : c.push.new.self.items ≡ before ++ batch ∷ [] = grind (arith, common_steps) in
    record {
      only_reads = read_on D old mid new so_far.only_reads c.read_batch.ensures.only_reads;
      still = c.in_ok-read_batch.ensures.cause ∙ so_far.still;
      inside = omega (arith, size, place.1);
      window = subst (λ content. IsWindow content c.read_batch.new.window) (sym c.read_batch.ensures.only_reads.same) c.in_ok-read_batch.ensures.window;
      so_far = λ bytes known.
          let here = next bytes (so_far.only_reads.same ∙ known) in
          let n = length batch.body in
          let more = next_read bytes before gate n (so_far.so_far bytes known) here.0 in
          let with_it = subst (λ (b : Batch). ReadTo bytes (before ++ b ∷ []) (gate + 5 + n)) (sym here.1) more in
          let behind : gate + 5 + n ≡ batch.at + c.len.result = omega (arith, size, place.0) in
          subst (λ (l : List Batch). ReadTo bytes l (batch.at + c.len.result)) (sym items) (subst (λ k. ReadTo bytes (before ++ batch ∷ []) k) behind with_it);
    }
