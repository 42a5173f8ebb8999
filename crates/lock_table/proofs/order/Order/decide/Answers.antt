use Rattle.std.proofs.Common.{true, false, sym, ap, ◌∙◌, arith, List, [], length}
use Rattle.std.proofs.lemmas.List.{get_or_read}
use Rattle.key_space.specs.declared.lock.Held.{Held}
use Rattle.lock_table.specs.Locks.{all_locks}
use Rattle.lock_table.specs.Orders.{held_at}
use Rattle.lock_table.proofs.Reach.{keys_there, near_all, near_cover, near_least, own_number}
use Rattle.lock_table.proofs.Verdicts.{by_cover, by_older, by_other, by_number, by_none}
use Rattle.lock_table.proofs.order.Order.decide.Goals as goal

pub is_covered-requires-clause-ranges : goal.is_covered-requires-clause-ranges
is_covered-requires-clause-ranges c = λ place h there. keys_there c.args.owned.now place h c.requires.own there

pub least_owner-requires-clause-ranges : goal.least_owner-requires-clause-ranges
least_owner-requires-clause-ranges c = λ place h there. keys_there c.args.owned.now place h c.requires.own there

pub least_owner-requires-2-clause-ranges : goal.least_owner-requires-2-clause-ranges
least_owner-requires-2-clause-ranges c = λ place h there. keys_there c.args.owned.now place h c.requires.own there

pub returns-then-is_covered-clause-decides : goal.returns-then-is_covered-clause-decides
returns-then-is_covered-clause-decides c =
    let owned = c.args.owned.now in
    let ask = c.args.ask.now in
    let near = held_at owned c.near-near.result.now in
    let same = near_all owned ask.name c.args.self.now.widest c.args.self.now.places.items c.near-near.result.now c.requires.ordered c.near-near.ensures in
    by_cover (all_locks owned) ask (sym (near_cover ask near (all_locks owned) c.requires.range same) ∙ sym c.is_covered.ensures ∙ c.if-is_covered.true)

pub returns-in-Some-clause-decides : goal.returns-in-Some-clause-decides
returns-in-Some-clause-decides c =
    let owned = c.args.owned.now in
    let ask = c.args.ask.now in
    let near = held_at owned c.near-near.result.now in
    let same = near_all owned ask.name c.args.self.now.widest c.args.self.now.places.items c.near-near.result.now c.requires.ordered c.near-near.ensures in
    by_older (all_locks owned) ask c.in-Some.holder
    (sym (near_cover ask near (all_locks owned) c.requires.range same) ∙ sym c.is_covered.ensures ∙ c.if-is_covered.false)
    (sym (near_least true ask near (all_locks owned) same) ∙ sym c.least_owner.ensures ∙ c.in-Some.is)

pub returns-in-Some-least_owner-clause-decides : goal.returns-in-Some-least_owner-clause-decides
returns-in-Some-least_owner-clause-decides c =
    let owned = c.args.owned.now in
    let ask = c.args.ask.now in
    let near = held_at owned c.near-near.result.now in
    let same = near_all owned ask.name c.args.self.now.widest c.args.self.now.places.items c.near-near.result.now c.requires.ordered c.near-near.ensures in
    let cover = sym (near_cover ask near (all_locks owned) c.requires.range same) ∙ sym c.is_covered.ensures ∙ c.if-is_covered.false in
    by_other (all_locks owned) ask c.in-Some-least_owner.holder cover
    (sym (near_least true ask near (all_locks owned) same) ∙ sym c.least_owner.ensures ∙ c.in_default.is)
    (sym (near_least false ask near (all_locks owned) same) ∙ sym c.least_owner-2.ensures ∙ c.in-Some-least_owner.is)

pub returns-then-held-lt-MAX_LOCKS-clause-decides :
    goal.returns-then-held-lt-MAX_LOCKS-clause-decides
returns-then-held-lt-MAX_LOCKS-clause-decides c =
    let owned = c.args.owned.now in
    let ask = c.args.ask.now in
    let near = held_at owned c.near-near.result.now in
    let same = near_all owned ask.name c.args.self.now.widest c.args.self.now.places.items c.near-near.result.now c.requires.ordered c.near-near.ensures in
    let cover = sym (near_cover ask near (all_locks owned) c.requires.range same) ∙ sym c.is_covered.ensures ∙ c.if-is_covered.false in
    let number = own_number owned ask c.requires.own c.requires.who
    ∙ sym (c.len-held.ensures ∙ ap (λ (x : List Held). length x) (get_or_read owned ask.who c.index-owned-ask.result c.requires.who c.index-owned-ask.is [])) in
    (by_none (all_locks owned) ask c.len-held.result cover
    (sym (near_least true ask near (all_locks owned) same) ∙ sym c.least_owner.ensures ∙ c.in_default.is)
    (sym (near_least false ask near (all_locks owned) same) ∙ sym c.least_owner-2.ensures ∙ c.in_default-least_owner.is)
    number c.if-held-lt-MAX_LOCKS.true).adds

pub overflow_cast-result : goal.overflow_cast-result
overflow_cast-result c =
    let owned = c.args.owned.now in
    let who = c.args.ask.now.who in
    let few = (c.requires.own who c.requires.who).few in
    let own = ap (λ (x : List Held). length x) (get_or_read owned who c.index-owned-ask.result c.requires.who c.index-owned-ask.is []) in
    omega arith

pub returns-clause-decides : goal.returns-clause-decides
returns-clause-decides c =
    let owned = c.args.owned.now in
    let ask = c.args.ask.now in
    let near = held_at owned c.near-near.result.now in
    let same = near_all owned ask.name c.args.self.now.widest c.args.self.now.places.items c.near-near.result.now c.requires.ordered c.near-near.ensures in
    let cover = sym (near_cover ask near (all_locks owned) c.requires.range same) ∙ sym c.is_covered.ensures ∙ c.if-is_covered.false in
    let number = own_number owned ask c.requires.own c.requires.who
    ∙ sym (c.len-held.ensures ∙ ap (λ (x : List Held). length x) (get_or_read owned ask.who c.index-owned-ask.result c.requires.who c.index-owned-ask.is [])) in
    by_number (all_locks owned) ask c.len-held.result cover
    (sym (near_least true ask near (all_locks owned) same) ∙ sym c.least_owner.ensures ∙ c.in_default.is)
    (sym (near_least false ask near (all_locks owned) same) ∙ sym c.least_owner-2.ensures ∙ c.in_default-least_owner.is)
    number c.if-held-lt-MAX_LOCKS.false
