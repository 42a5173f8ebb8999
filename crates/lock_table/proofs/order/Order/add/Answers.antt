use Rattle.std.proofs.Common.{◌≡◌, ◌≤◌, true, false, ap, ◌∙◌, subst, arith, rules, List, [], length}
use Rattle.std.proofs.lemmas.List.{get_or_read}
use Rattle.std.specs.List.Sorted.{IsPartitionPoint}
use Rattle.key_space.specs.declared.lock.Held.{Held}
use Rattle.lock_table.specs.declared.place.Place.{Place}
use Rattle.lock_table.specs.Orders.{is_before}
use Rattle.lock_table.proofs.OrderKept.{added, after_insert, spot_of}
use Rattle.lock_table.proofs.order.Order.add.Goals as goal

pub returns-clause-ordered : goal.returns-clause-ordered
returns-clause-ordered c = λ number ordered is.
    let owned = c.args.owned.now in
    let lock = c.args.lock.now in
    let o = c.args.self.now in
    let at = c.count_before-at.result in
    let place : Place = record { who = lock.who; nth = c.len-nth.result } in
    let inside = subst (λ (x : List Place). at ≤ length x) c.deref.ensures.value c.count_before-at.ensures.within in
    let point = subst (λ (x : List Place). IsPartitionPoint (λ p. is_before owned (spot_of lock) p ≡ true) (λ p. is_before owned (spot_of lock) p ≡ false) x at)
    c.deref.ensures.value c.count_before-at.ensures.point in
    added owned lock number o.widest c.max-self.result at c.len-nth.result o.places.items c.insert.new.self.items c.requires.who ordered is
    (omega arith) (omega arith) inside point
    (c.len-nth.ensures ∙ ap (λ (x : List Held). length x) (get_or_read owned lock.who c.index-owned-lock.result c.requires.who c.index-owned-lock.is []))
    (after_insert c.insert.result c.insert.new.self.items o.places.items at place c.insert.ensures.items (c.insert.ensures.succeeds (search rules)))
