use Rattle.std.proofs.Common.{◌≡◌, ℕ, [], length, sym, ◌∙◌, ap, subst, IsOk, IsSome, OnOk}
use Rattle.std.specs.Option.{option_map}
use Rattle.disk_core.specs.Crash.{NothingPending}
use Rattle.lane_format.specs.Lane.{emptied, IsLane, lane_text}
use Rattle.lane_format.proofs.Lanes.{empty_lane, length-empty}
use Rattle.lane_writer.specs.Crash.{Leaves, NotOpenOrEmpty}
use Rattle.lane_writer.specs.Parity.{is_odd}
use Rattle.lane_writer.specs.Writer.{file_of, lane_of}
use Rattle.lane_writer.proofs.Left.{both_ok, done_so, leaves, now_as_told}
use Rattle.lane_writer.proofs.Told.{at_done, told_after}
use Rattle.lane_writer.proofs.writer.LaneWriter.reset.Goals as goal

pub returns-clause-empty : goal.returns-clause-empty
returns-clause-empty g c = at_done _ _ c.reset-done.result c.finish.result c.reset-done.ensures.empty c.finish.ensures.ok c.finish.ensures.err (λ empty ok.
    let content = g.D.Disk.content in
    let generation = c.args.generation in
    let odd = is_odd generation in
    let lane = c.args.self.now.lane in
    let old = file_of odd c.args.self.now.disks in
    let new = file_of odd c.finish.new.self.disks in
    let changed : content new ≡ option_map (emptied generation lane) (content old) = ap (λ disks. content (file_of odd disks)) c.finish.ensures.disks ∙ empty in
    record {
      gate = 11;
      stage = ok.1;
      place = λ x told. sym (ap (λ (n : ℕ). length (lane_text generation n [])) c.finish.ensures.lane ∙ length-empty generation lane);
      file = told_after (emptied generation lane) (content old) (content new) (λ _. Unit {0}) (IsLane generation (lane_of c.finish.new.self) []) changed (λ _ _. tt)
          (λ x _. rw c.finish.ensures.lane (empty_lane generation lane x c.reset-done.ensures.head));
    })

pub returns-clause-leaves : goal.returns-clause-leaves
returns-clause-leaves g c = λ closed.
    let D = g.D.Disk in
    let generation = c.args.generation in
    let lane = c.args.self.now.lane in
    let odd = is_odd generation in
    let old = file_of odd c.args.self.now.disks in
    let mid = file_of odd c.reset-done.new.disks in
    let step = c.reset-done.ensures in
    let same : file_of odd c.finish.new.self.disks ≡ mid = ap (file_of odd) c.finish.ensures.disks in
    let P = NotOpenOrEmpty generation lane in
    let Q = IsLane generation lane [] in
    let pending = λ (is : IsOk c.finish.result). done_so c.finish.result is (at_done _ _ c.reset-done.result c.finish.result step.durable c.finish.ensures.ok c.finish.ensures.err (λ pending ok. pending)) in
    let changed = λ (is : IsOk c.finish.result). done_so c.finish.result is (at_done _ _ c.reset-done.result c.finish.result step.empty c.finish.ensures.ok c.finish.ensures.err (λ changed ok. changed)) in
    subst (λ x. Leaves D old x (IsOk c.finish.result) P Q) (sym same)
    (leaves D g.met.D.Disk.counts_now old mid (IsOk c.finish.result) P Q (step.moments closed) step.told pending
    (λ is told. told_after (emptied generation lane) (D.content old) (D.content mid) (λ _. Unit {0}) Q (changed is) (λ _ _. tt) (λ x _. empty_lane generation lane x step.head)))

pub returns-clause-settled : goal.returns-clause-settled
returns-clause-settled g c =
    let D = g.D.Disk in
    let odd = is_odd c.args.generation in
    let new = c.finish.new.self in
    let mid = file_of odd c.reset-done.new.disks in
    let same : file_of odd new.disks ≡ mid = ap (file_of odd) c.finish.ensures.disks in
    let pending : OnOk c.finish.result (NothingPending (D.content (file_of odd new.disks)) (D.may_leave (file_of odd new.disks))) =
    at_done _ _ c.reset-done.result c.finish.result c.reset-done.ensures.durable c.finish.ensures.ok c.finish.ensures.err
    (λ pending ok. subst (λ d. NothingPending (D.content d) (D.may_leave d)) (sym same) pending) in
    both_ok c.finish.result pending (returns-clause-empty g c) (λ pending holds. λ told.
    let new_told = subst (λ d. IsSome (D.content d)) (sym same) (c.reset-done.ensures.told told) in
    record { holds = holds; crash = now_as_told D (file_of odd new.disks) (IsLane c.args.generation new.lane []) new_told pending holds.file })
