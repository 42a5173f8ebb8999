use Rattle.std.proofs.Common.{◌≡◌, ℕ, [], length, sym, ◌∙◌, ap, subst, IsSome, OnOk}
use Rattle.std.specs.Option.{option_map}
use Rattle.disk_core.specs.Crash.{NothingPending}
use Rattle.lane_format.specs.Lane.{emptied, IsLane, lane_text}
use Rattle.lane_format.specs.Writer.{lane_of}
use Rattle.lane_format.proofs.Left.{both_ok, now_as_told}
use Rattle.lane_format.proofs.Told.{at_done, told_after}
use Rattle.lane_format.proofs.Lanes.{empty_lane, length-empty}
use Rattle.lane_format.proofs.writer.LaneWriter.reset.Goals as goal

pub returns-clause-empty : goal.returns-clause-empty
returns-clause-empty g c = at_done _ _ c.reset-done.result c.finish.result c.reset-done.ensures.empty c.finish.ensures.ok c.finish.ensures.err (λ empty ok.
    let content = g.D.Disk.content in
    let generation = c.args.generation in
    let lane = c.args.self.now.lane in
    let changed : content c.finish.new.self.disk ≡ option_map (emptied generation lane) (content c.args.self.now.disk) = ap content c.finish.ensures.disk ∙ empty in
    record {
      even = c.requires.even;
      gate = 11;
      stage = ok.1;
      place = λ x told. sym (ap (λ (n : ℕ). length (lane_text generation n [])) c.finish.ensures.lane ∙ length-empty generation lane);
      file = told_after (emptied generation lane) (content c.args.self.now.disk) (content c.finish.new.self.disk) (λ _. Unit {0}) (IsLane generation (lane_of c.finish.new.self) []) changed (λ _ _. tt)
          (λ x _. rw c.finish.ensures.lane (empty_lane generation lane x c.reset-done.ensures.head));
    })

pub returns-clause-durable : goal.returns-clause-durable
returns-clause-durable g c =
    let D = g.D.Disk in
    let new = c.finish.new.self in
    let pending : OnOk c.finish.result (NothingPending (D.content new.disk) (D.may_leave new.disk)) =
    at_done _ _ c.reset-done.result c.finish.result c.reset-done.ensures.durable c.finish.ensures.ok c.finish.ensures.err
    (λ pending ok. subst (λ d. NothingPending (D.content d) (D.may_leave d)) (sym c.finish.ensures.disk) pending) in
    both_ok c.finish.result pending (returns-clause-empty g c) (λ pending holds. λ told.
    let new_told = subst (λ d. IsSome (D.content d)) (sym c.finish.ensures.disk) (c.reset-done.ensures.told told) in
    record { holds = holds; crash = now_as_told D new.disk (IsLane c.args.generation new.lane []) new_told pending holds.file })
