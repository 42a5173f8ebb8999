use Rattle.std.proofs.Common.{◌≡◌, sym, ◌∙◌, ap, subst, arith, IsSome, OnOk}
use Rattle.std.specs.Option.{option_map}
use Rattle.disk_core.specs.Crash.{NothingPending}
use Rattle.lane_format.specs.Lane.{IsNotOpen, shut}
use Rattle.lane_format.proofs.Left.{both_ok, now_as_told}
use Rattle.lane_format.proofs.Told.{at_done, told_after}
use Rattle.lane_format.proofs.writer.LaneWriter.close.Goals as goal

pub returns-clause-durable : goal.returns-clause-durable
returns-clause-durable g c =
    let D = g.D.Disk in
    let old = c.args.self.now.disk in
    let new = c.finish.new.self.disk in
    let pending : OnOk c.finish.result (NothingPending (D.content new) (D.may_leave new)) =
    at_done _ _ c.close-done.result c.finish.result c.close-done.ensures.durable c.finish.ensures.ok c.finish.ensures.err
    (λ pending ok. subst (λ d. NothingPending (D.content d) (D.may_leave d)) (sym c.finish.ensures.disk) pending) in
    let changed : OnOk c.finish.result (D.content new ≡ option_map shut (D.content old)) =
    at_done _ _ c.close-done.result c.finish.result c.close-done.ensures.shut c.finish.ensures.ok c.finish.ensures.err
    (λ is ok. ap D.content c.finish.ensures.disk ∙ is) in
    both_ok c.finish.result pending changed (λ pending changed. λ told.
    let new_told = subst (λ d. IsSome (D.content d)) (sym c.finish.ensures.disk) (c.close-done.ensures.told told) in
    let not_open = told_after shut (D.content old) (D.content new) (λ _. Unit {0}) IsNotOpen changed (λ _ _. tt) (λ x _ is. let one : 0 ≡ 1 = is in omega (arith, one)) in
    now_as_told D new IsNotOpen new_told pending not_open)
