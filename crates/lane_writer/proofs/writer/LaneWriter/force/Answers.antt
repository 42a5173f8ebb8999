use Rattle.std.proofs.Common.{◌≡◌, ◌+◌, ◌++◌, [], ◌∷◌, List, ℕ, length, Some, ⊎_elim, sym, ◌∙◌, ap, subst, arith, IsOk}
use Rattle.std.specs.Option.{option_map}
use Rattle.disk_core.specs.Moments.{LeavesNow}
use Rattle.lane_format.specs.Lane.{extended, frame_text, body_of, IsLane, lane_text}
use Rattle.lane_format.proofs.Lanes.{body_fits, gate_inside, grown, length-push, length-frame_text}
use Rattle.lane_writer.specs.Crash.{Leaves, WithOrWithout}
use Rattle.lane_writer.specs.Parity.{is_odd}
use Rattle.lane_writer.specs.Writer.{file_of, lane_of}
use Rattle.lane_writer.specs.declared.writer.Stage.TheVariants.{Open}
use Rattle.lane_writer.proofs.Left.{done_so, leaves, some_of, where_ok}
use Rattle.lane_writer.proofs.Told.{at_done, told_after}
use Rattle.lane_writer.proofs.writer.LaneWriter.force.Goals as goal

pub append-done-requires-clause-inside : goal.append-done-requires-clause-inside
append-done-requires-clause-inside g c = λ x told. ⊎_elim
    (λ holds.
    let stage : Open holds.0 holds.2.gate ≡ Open c.in-Open.generation c.in-Open.gate = sym holds.2.stage ∙ c.in-Open.is in
    let same : holds.2.gate ≡ c.in-Open.gate = cc in
    let one : c.in-Open.generation ≡ holds.0 = cc in
    let told' = subst (λ n. g.D.Disk.content (file_of (is_odd n) c.args.self.now.disks) ≡ Some x) one told in
    omega (arith, holds.2.place x told', gate_inside holds.0 c.args.self.now.lane holds.1 x (holds.2.file x told')))
    (λ failed. absurd (let both = sym failed.1 ∙ c.in-Open.is in cc))
    c.requires.open

pub returns-clause-appended : goal.returns-clause-appended
returns-clause-appended g c = at_done _ _ c.append-done.result c.finish.result c.append-done.ensures.extended c.finish.ensures.ok c.finish.ensures.err (λ extended_is ok.
    λ generation bodies holds.
    let content = g.D.Disk.content in
    let frame = c.args.frame.now in
    let body = body_of frame in
    let gate = c.in-Open.gate in
    let lane = c.args.self.now.lane in
    let stage : Open generation holds.gate ≡ Open c.in-Open.generation gate = sym holds.stage ∙ c.in-Open.is in
    let same : holds.gate ≡ gate = cc in
    let same_generation : generation ≡ c.in-Open.generation = cc in
    let old = file_of (is_odd generation) c.args.self.now.disks in
    let new = file_of (is_odd generation) c.finish.new.self.disks in
    let size : length c.fill.new.frame ≡ length frame = ap length c.fill.ensures ∙ length-frame_text frame c.requires.room in
    let step : content (file_of (is_odd generation) c.append-done.new.disks) ≡ option_map (extended gate c.fill.new.frame) (content old) =
    subst (λ n. content (file_of (is_odd n) c.append-done.new.disks) ≡ option_map (extended gate c.fill.new.frame) (content (file_of (is_odd n) c.args.self.now.disks))) (sym same_generation) extended_is in
    let changed : content new ≡ option_map (extended gate (frame_text body)) (content old) =
    ap (λ disks. content (file_of (is_odd generation) disks)) c.finish.ensures.disks ∙ step ∙ ap (λ (f : List ℕ). option_map (extended gate f) (content old)) c.fill.ensures in
    record {
      gate = gate + length frame;
      stage = ok.1 ∙ ap (λ (n : ℕ). Open c.in-Open.generation (gate + n)) size ∙ ap (λ (n : ℕ). Open n (gate + length frame)) (sym same_generation);
      place = told_after (extended gate (frame_text body)) (content old) (content new) (λ x. gate ≡ length (lane_text generation lane bodies)) (λ x. gate + length frame ≡ length (lane_text generation (lane_of c.finish.new.self) (bodies ++ body ∷ []))) changed
          (λ x told. sym same ∙ holds.place x told)
          (λ x is. rw c.finish.ensures.lane (omega (arith, length-push generation lane bodies body, length-frame_text frame c.requires.room, is)));
      file = told_after (extended gate (frame_text body)) (content old) (content new) (λ x. (gate ≡ length (lane_text generation lane bodies)) × IsLane generation lane bodies x) (IsLane generation (lane_of c.finish.new.self) (bodies ++ body ∷ [])) changed
          (λ x told. (sym same ∙ holds.place x told, holds.file x told))
          (λ x is. rw c.finish.ensures.lane (grown generation lane bodies gate body x is.0 (body_fits frame c.requires.room c.requires.short) is.1));
    })

pub returns-clause-leaves : goal.returns-clause-leaves
returns-clause-leaves g c = λ generation bodies settled.
    let D = g.D.Disk in
    let frame = c.args.frame.now in
    let body = body_of frame in
    let gate = c.in-Open.gate in
    let lane = c.args.self.now.lane in
    let holds = settled.holds in
    let stage : Open generation holds.gate ≡ Open c.in-Open.generation gate = sym holds.stage ∙ c.in-Open.is in
    let same_gate : holds.gate ≡ gate = cc in
    let same_generation : c.in-Open.generation ≡ generation = cc in
    let P = WithOrWithout generation lane bodies body in
    let Q = IsLane generation lane (bodies ++ body ∷ []) in
    let result = c.finish.result in
    let step = c.append-done.ensures in
    let pending = λ (is : IsOk result). done_so result is (at_done _ _ c.append-done.result result step.durable c.finish.ensures.ok c.finish.ensures.err (λ pending ok. pending)) in
    let changed = λ (is : IsOk result). done_so result is (at_done _ _ c.append-done.result result step.extended c.finish.ensures.ok c.finish.ensures.err (λ changed ok. changed)) in
    let started = subst (λ n. LeavesNow D (file_of (is_odd n) c.args.self.now.disks) (IsLane generation lane bodies)) (sym same_generation) settled.crash in
    let known_old = file_of (is_odd c.in-Open.generation) c.args.self.now.disks in
    let mid = file_of (is_odd c.in-Open.generation) c.append-done.new.disks in
    let place = some_of (D.content known_old) started.told in
    let is_place : gate ≡ length (lane_text generation lane bodies) = sym same_gate ∙ holds.place place.0 (subst (λ n. D.content (file_of (is_odd n) c.args.self.now.disks) ≡ Some place.0) same_generation place.1) in
    let fits = body_fits frame c.requires.room c.requires.short in
    let all = leaves D g.met.D.Disk.counts_now known_old mid (IsOk result) P Q (step.moments generation lane bodies body is_place c.fill.ensures fits started) step.told pending
    (λ is told. told_after (extended gate c.fill.new.frame) (D.content known_old) (D.content mid) (IsLane generation lane bodies) Q (changed is)
    (λ x known. holds.file x (subst (λ n. D.content (file_of (is_odd n) c.args.self.now.disks) ≡ Some x) same_generation known))
    (λ x is_lane. subst (λ (f : List ℕ). Q (extended gate f x)) (sym c.fill.ensures) (grown generation lane bodies gate body x is_place fits is_lane))) in
    let now = subst (λ x. Leaves D known_old x (IsOk result) P Q) (sym (ap (file_of (is_odd c.in-Open.generation)) c.finish.ensures.disks)) all in
    subst (λ n. Leaves D (file_of (is_odd n) c.args.self.now.disks) (file_of (is_odd n) c.finish.new.self.disks) (IsOk result) P Q) same_generation now

pub returns-clause-settled : goal.returns-clause-settled
returns-clause-settled g c =
    where_ok c.finish.result (returns-clause-appended g c) (λ is appended. λ generation bodies settled.
    let left = returns-clause-leaves g c generation bodies settled in
    let now = left.durable is settled.crash.told in
    record { holds = appended generation bodies settled.holds; crash = record { told = now.told; each = λ image left. subst (λ (n : ℕ). IsLane generation n (bodies ++ body_of c.args.frame.now ∷ []) image) (sym c.finish.ensures.lane) (now.each image left) } })
