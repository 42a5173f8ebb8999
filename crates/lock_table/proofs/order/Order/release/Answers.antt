use Rattle.std.proofs.Common.{◌≡◌, sym, ◌∙◌, subst, rules, ap, length, List, []}
use Rattle.std.proofs.lemmas.Bool.{eqb-true}
use Rattle.std.proofs.lemmas.List.{nil_from_length}
use Rattle.std.proofs.lemmas.Fn.{filter_same}
use Rattle.std.specs.List.{filter}
use Rattle.lock_table.specs.declared.place.Place.{Place}
use Rattle.lock_table.specs.Orders.{IsOrdered, cleared}
use Rattle.lock_table.proofs.OrderKept.{is_other_place, ordered_without, sorted_none}
use Rattle.lock_table.proofs.order.Order.release.Goals as goal

pub returns-else-is_empty-clause-ordered : goal.returns-else-is_empty-clause-ordered
returns-else-is_empty-clause-ordered c = λ locks number own within ordered.
    let o = c.args.self.now in
    let kept : c.retain.new.self.items ≡ filter (is_other_place c.args.who) o.places.items = filter_same _ _ _ (λ x b f' k. search rules) _ _ c.retain.ensures.filtered in
    subst (λ (x : List Place). IsOrdered (cleared locks c.args.who) number o.widest x) (sym kept)
    (ordered_without locks c.args.who number o.widest o.places.items own within ordered)

pub returns-then-is_empty-clause-ordered : goal.returns-then-is_empty-clause-ordered
returns-then-is_empty-clause-ordered c = λ locks number own within ordered.
    let o = c.args.self.now in
    let kept : c.retain.new.self.items ≡ filter (is_other_place c.args.who) o.places.items = filter_same _ _ _ (λ x b f' k. search rules) _ _ c.retain.ensures.filtered in
    let none : c.retain.new.self.items ≡ [] = nil_from_length c.retain.new.self.items
    (ap (λ (x : List Place). length x) (sym c.as_slice.ensures.value) ∙ eqb-true (length c.as_slice.result.now) 0 (sym c.is_empty.ensures ∙ c.if-is_empty.true)) in
    let before = subst (λ (x : List Place). IsOrdered (cleared locks c.args.who) number o.widest x) (sym kept)
    (ordered_without locks c.args.who number o.widest o.places.items own within ordered) in
    record { counted = before.counted; sorted = sorted_none (cleared locks c.args.who) 0 c.retain.new.self.items none }
