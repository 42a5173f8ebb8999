use Rattle.std.proofs.Common.{◌≡◌, ◌-◌, ◌≤◌, true, false, ap, ◌∙◌, subst, ℕ, List, take, drop, length}
use Rattle.std.proofs.lemmas.List.{take_rest}
use Rattle.std.specs.List.{count_by}
use Rattle.std.specs.List.Sorted.{IsPartitionPoint}
use Rattle.lock_table.specs.declared.place.Place.{Place}
use Rattle.lock_table.specs.declared.place.Spot.{Spot}
use Rattle.lock_table.specs.Orders.{held_at, is_before, is_up_to}
use Rattle.lock_table.proofs.Reach.{window}
use Rattle.lock_table.proofs.order.Order.near.Goals as goal

pub returns : goal.returns
returns c = λ test of.
    let owned = c.args.owned.now in
    let name = c.args.name.now in
    let o = c.args.self.now in
    let from = c.count_before-from.result in
    let len = c.count_up_to-len.result in
    let spot : Spot = record { table = name.table; key = c.saturating_sub-key.result; who = 0 } in
    let first = c.deref.result.now in
    let second = c.deref-2.result.now in
    let rest = take (length second - from) (drop from second) in
    let cut : rest ≡ drop from o.places.items = take_rest second from ∙ ap (λ (x : List Place). drop from x) c.deref-2.ensures.value in
    let inside = subst (λ (x : List Place). from ≤ length x) c.deref.ensures.value c.count_before-from.ensures.within in
    let point = subst (λ (x : List Place). IsPartitionPoint (λ p. is_before owned spot p ≡ true) (λ p. is_before owned spot p ≡ false) x from)
    c.deref.ensures.value c.count_before-from.ensures.point in
    let inside_rest = subst (λ (x : List Place). len ≤ length x) cut c.count_up_to-len.ensures.within in
    let point_rest = subst (λ (x : List Place). IsPartitionPoint (λ p. is_up_to owned name.table name.range.hi.number p ≡ true)
    (λ p. is_up_to owned name.table name.range.hi.number p ≡ false) x len) cut c.count_up_to-len.ensures.point in
    ap (λ (x : List Place). count_by test (held_at owned (take len x))) cut
    ∙ window owned name test of o.widest from len spot o.places.items c.requires.own c.requires.few c.requires.sorted
    (ap (λ (k : ℕ). record { table = name.table; key = k; who = 0 }) c.saturating_sub-key.ensures) inside point inside_rest point_rest
