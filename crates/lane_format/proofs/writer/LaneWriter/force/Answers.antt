use Rattle.std.proofs.Common.{◌≡◌, ◌+◌, ◌++◌, [], ◌∷◌, List, ℕ, length, ⊎_elim, sym, ◌∙◌, ap, subst, arith, IsSome, OnOk}
use Rattle.std.specs.Option.{option_map}
use Rattle.disk_core.specs.Crash.{NothingPending}
use Rattle.lane_format.specs.Lane.{extended, frame_text, body_of, IsLane, lane_text}
use Rattle.lane_format.specs.Writer.{lane_of}
use Rattle.lane_format.proofs.Left.{both_ok, now_as_told}
use Rattle.lane_format.proofs.Told.{at_done, told_after}
use Rattle.lane_format.proofs.Lanes.{body_fits, gate_inside, grown, length-push, length-frame_text}
use Rattle.lane_format.specs.declared.writer.Stage.TheVariants.{Open}
use Rattle.lane_format.proofs.writer.LaneWriter.force.Goals as goal

pub append-done-requires-clause-inside : goal.append-done-requires-clause-inside
append-done-requires-clause-inside g c = λ x told. ⊎_elim
    (λ holds.
    let stage : Open holds.0 holds.2.gate ≡ Open c.in-Open.generation c.in-Open.gate = sym holds.2.stage ∙ c.in-Open.is in
    let same : holds.2.gate ≡ c.in-Open.gate = cc in
    omega (arith, holds.2.place x told, gate_inside holds.0 c.args.self.now.lane holds.1 x (holds.2.file x told)))
    (λ failed. absurd (let both = sym failed.1 ∙ c.in-Open.is in cc))
    c.requires.open

pub returns-clause-appended : goal.returns-clause-appended
returns-clause-appended g c = at_done _ _ c.append-done.result c.finish.result c.append-done.ensures.extended c.finish.ensures.ok c.finish.ensures.err (λ extended_is ok.
    λ generation bodies holds.
    let content = g.D.Disk.content in
    let frame = c.args.frame.now in
    let body = body_of frame in
    let gate = c.in-Open.gate in
    let lane = c.args.self.now.lane in
    let stage : Open generation holds.gate ≡ Open c.in-Open.generation gate = sym holds.stage ∙ c.in-Open.is in
    let same : holds.gate ≡ gate = cc in
    let same_generation : generation ≡ c.in-Open.generation = cc in
    let size : length c.fill.new.frame ≡ length frame = ap length c.fill.ensures ∙ length-frame_text frame c.requires.room in
    let changed : content c.finish.new.self.disk ≡ option_map (extended gate (frame_text body)) (content c.args.self.now.disk) =
    ap content c.finish.ensures.disk ∙ extended_is ∙ ap (λ (f : List ℕ). option_map (extended gate f) (content c.args.self.now.disk)) c.fill.ensures in
    record {
      even = holds.even;
      gate = gate + length frame;
      stage = ok.1 ∙ ap (λ (n : ℕ). Open c.in-Open.generation (gate + n)) size ∙ ap (λ (n : ℕ). Open n (gate + length frame)) (sym same_generation);
      place = told_after (extended gate (frame_text body)) (content c.args.self.now.disk) (content c.finish.new.self.disk) (λ x. gate ≡ length (lane_text generation lane bodies)) (λ x. gate + length frame ≡ length (lane_text generation (lane_of c.finish.new.self) (bodies ++ body ∷ []))) changed
          (λ x told. sym same ∙ holds.place x told)
          (λ x is. rw c.finish.ensures.lane (omega (arith, length-push generation lane bodies body, length-frame_text frame c.requires.room, is)));
      file = told_after (extended gate (frame_text body)) (content c.args.self.now.disk) (content c.finish.new.self.disk) (λ x. (gate ≡ length (lane_text generation lane bodies)) × IsLane generation lane bodies x) (IsLane generation (lane_of c.finish.new.self) (bodies ++ body ∷ [])) changed
          (λ x told. (sym same ∙ holds.place x told, holds.file x told))
          (λ x is. rw c.finish.ensures.lane (grown generation lane bodies gate body x is.0 (body_fits frame c.requires.room c.requires.short) is.1));
    })

pub returns-clause-durable : goal.returns-clause-durable
returns-clause-durable g c =
    let D = g.D.Disk in
    let new = c.finish.new.self in
    let pending : OnOk c.finish.result (NothingPending (D.content new.disk) (D.may_leave new.disk)) =
    at_done _ _ c.append-done.result c.finish.result c.append-done.ensures.durable c.finish.ensures.ok c.finish.ensures.err
    (λ pending ok. subst (λ d. NothingPending (D.content d) (D.may_leave d)) (sym c.finish.ensures.disk) pending) in
    both_ok c.finish.result pending (returns-clause-appended g c) (λ pending appended. λ generation bodies settled.
    let holds = appended generation bodies settled.holds in
    let told = subst (λ d. IsSome (D.content d)) (sym c.finish.ensures.disk) (c.append-done.ensures.told settled.crash.told) in
    record { holds = holds; crash = now_as_told D new.disk (IsLane generation new.lane (bodies ++ body_of c.args.frame.now ∷ [])) told pending holds.file })
