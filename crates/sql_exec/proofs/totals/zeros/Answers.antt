use Rattle.std.proofs.Common.{◌≡◌, ◌++◌, ◌+◌, map, drop, sym, subst, ℤ, List}
use Rattle.sql_exec.proofs.Totalling.{zero_of, zeros_more}
use Rattle.sql_exec.proofs.totals.zeros.Goals as goal

pub loop-preserved : goal.loop-preserved
loop-preserved c =
    let more = zeros_more c.args.totals.now c.loop.sums.items c.loop.index c.loop-test.true c.loop.invariant in
    subst (λ (l : List ℤ). l ++ map zero_of (drop (c.loop.index + 1) c.args.totals.now) ≡ map zero_of c.args.totals.now) (sym c.in_ok-push.ensures.items) more
