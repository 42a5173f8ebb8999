use Rattle.std.proofs.Common.{◌<◌, ◌∙◌, arith, length, get_or, length-set}
use Rattle.std.proofs.lemmas.List.{get_or_default, get_or-set_other}
use Rattle.lock_table.proofs.TableKept.{release_more}
use Rattle.lock_table.proofs.orders.release.Goals as goal

pub loop-i-preserved : goal.loop-i-preserved
loop-i-preserved c =
    let done = c.loop-i.orders in
    let before = c.args.orders.now in
    let i = c.loop-i.i in
    let order = c.release.new.self in
    let within : i < length done = omega arith in
    let was = get_or done i c.index-orders-i.result in
    record {
      len = length-set done i order ∙ c.loop-i.invariant.len;
      done = release_more before done c.args.who i was order within (get_or_default done i c.index-orders-i.result was within)
          c.release.ensures.ordered c.release.ensures.capacity c.loop-i.invariant.rest c.loop-i.invariant.done;
      rest = λ k d above. get_or-set_other done i k order d (λ e. absurd (omega arith)) ∙ c.loop-i.invariant.rest k d (omega arith);
    }
