use Rattle.std.proofs.Common.{◌≡◌, ◌<◌, ◌++◌, ◌∙◌, sym, ap, subst, arith, List, length, set, take, drop}
use Rattle.key_space.specs.declared.lock.Held.{Held}
use Rattle.lock_table.specs.declared.order.Order.{Order}
use Rattle.lock_table.specs.Tables.{AreKept, IsTable}
use Rattle.lock_table.specs.Orders.{cleared}
use Rattle.lock_table.proofs.TableKept.{table_cleared, written_whole}
use Rattle.lock_table.proofs.table.LockTable.release_all.Goals as goal

pub invariant_of-self : goal.invariant_of-self
invariant_of-self c =
    let locks = c.self.inside.owned.items in
    let orders = c.self.inside.orders.items in
    let who = c.args.who in
    let now = c.release.new.orders in
    let table = c.self.invariant in
    let within : who < length locks = omega (arith, table.sessions) in
    let kept = c.release.ensures.kept locks table.own within (subst (AreKept locks) (sym c.deref_mut.ensures.value) table.kept) in
    let same : length now ≡ length orders = c.release.ensures.len ∙ ap (λ (x : List Order). length x) c.deref_mut.ensures.value in
    let whole = written_whole c.self.inside.orders.len now orders same (omega (arith, c.self.inside.orders.ok.0)) in
    let after = table_cleared locks orders now who table within kept in
    subst (λ (x : List Held). IsTable (set locks who x) (take c.self.inside.orders.len (now ++ drop (length now) orders))) (sym c.clear.ensures)
    (subst (IsTable (cleared locks who)) (sym whole) after)
