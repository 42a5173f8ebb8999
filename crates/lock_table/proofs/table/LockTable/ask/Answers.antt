use Rattle.std.proofs.Common.{◌≡◌, ◌<◌, ◌%◌, ◌++◌, ◌∙◌, refl, sym, ap, subst, arith, List, [], ◌∷◌, length, set}
use Rattle.std.proofs.lemmas.Bool.{eq-eqb}
use Rattle.std.proofs.lemmas.List.{get_or_read}
use Rattle.key_space.specs.declared.lock.Held.{Held}
use Rattle.lock_table.specs.Locks.{Locks, locks_of, asked}
use Rattle.lock_table.specs.Orders.{IsOrdered, pushed}
use Rattle.lock_table.specs.Tables.{IsKept, IsTable}
use Rattle.lock_table.proofs.TableKept.{has_room, table_pushed}
use Rattle.lock_table.proofs.table.LockTable.ask.Goals as goal

pub add-requires-clause-room : goal.add-requires-clause-room
add-requires-clause-room c =
    let locks = c.self.inside.owned.items in
    let orders = c.self.inside.orders.items in
    let ask = asked c.args.who c.args.age c.args.name c.args.mode in
    let number = c.args.name.table % 16 in
    let order = c.index_mut.result.now in
    let table = c.self.invariant in
    let kept = subst (IsKept locks number) (sym c.index_mut.ensures.value) (table.kept.each number order (omega arith)) in
    let within : c.args.who < length locks = omega (arith, table.sessions) in
    let few = subst (λ (l : Locks). length (locks_of l c.args.who) < 1024) c.deref.ensures.value (c.decide.ensures.room c.in_default.is) in
    has_room locks orders number order ask table kept within few

pub invariant_of-self : goal.invariant_of-self
invariant_of-self c =
    let locks = c.self.inside.owned.items in
    let orders = c.self.inside.orders.items in
    let who = c.args.who in
    let ask = asked who c.args.age c.args.name c.args.mode in
    let number = c.args.name.table % 16 in
    let order = c.index_mut.result.now in
    let added = c.add.new.self in
    let table = c.self.invariant in
    let kept = subst (IsKept locks number) (sym c.index_mut.ensures.value) (table.kept.each number order (omega arith)) in
    let within : who < length locks = omega (arith, table.sessions) in
    let few = subst (λ (l : Locks). length (locks_of l who) < 1024) c.deref.ensures.value (c.decide.ensures.room c.in_default.is) in
    let before = subst (λ (l : Locks). IsOrdered l number order.widest order.places.items) (sym c.deref-2.ensures.value) kept.ordered in
    let after = subst (λ (l : Locks). IsOrdered (pushed l ask) number added.widest added.places.items) c.deref-2.ensures.value
    (c.add.ensures.ordered number before (eq-eqb number number refl)) in
    let now : IsKept (pushed locks ask) number added = record { ordered = after; room = omega (arith, kept.room, c.add.ensures.capacity) } in
    let own = get_or_read locks who c.index_mut-2.result.now within c.index_mut-2.ensures.value [] in
    let pushes : c.push.new.self ≡ locks_of locks who ++ ask ∷ [] = c.push.ensures ∙ ap (λ (x : List Held). x ++ ask ∷ []) own in
    subst (λ (x : List Held). IsTable (set locks who x) (set orders number added)) (sym pushes)
    (table_pushed locks orders ask added table within c.requires.range few now)
