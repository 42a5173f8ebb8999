use Rattle.std.proofs.Common.{◌+◌, ◌*◌, arith, sym, subst}
use Rattle.test_index.proofs.Rising.{AreRows, rows_more, rows_none}
use Rattle.test_index.proofs.build.rows.Goals as goal

pub loop-n-init : goal.loop-n-init
loop-n-init c = subst (λ xs. AreRows xs 0 (0 * 3 + 1)) (sym c.new-rows.ensures.items) (rows_none (0 * 3 + 1))

pub loop-n-preserved : goal.loop-n-preserved
loop-n-preserved c = rows_more c.loop-n.rows.items c.push.new.self.items (record { number = c.from.result * 3 + 1 }) c.from-in-loop-n.result c.loop-n.n (c.loop-n.n * 3 + 1) ((c.loop-n.n + 1) * 3 + 1) c.loop-n.invariant (let e = c.from.ensures in omega (arith, e)) (let e = c.from.ensures in omega (arith, e)) c.in_ok-push.ensures.items
