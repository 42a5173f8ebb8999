use Rattle.std.proofs.Common.{◌≡◌, ◌∙◌, ◌∷◌, ◌++◌, [], ℕ, List, Some, arith, refl, sym, ap, subst}
use Rattle.olfit_nodes.specs.Nodes.{Entry, entries_of, entry_at}
use Rattle.olfit_nodes.proofs.Places.{length-entries, get_or-entries}
use Rattle.olfit_rule.specs.declared.view.Change.TheVariants.{Drop}
use Rattle.olfit_rule.specs.declared.view.View.{View}
use Rattle.olfit_rule.specs.Maps.{map_of}
use Rattle.olfit_walk.proofs.Finds.{found_value, absent_value}
use Rattle.olfit_change.specs.Room.{IsPaid, weights}
use Rattle.olfit_change.proofs.Weights.{paid_taken}
use Rattle.olfit_change.specs.States.{IsChangedAt}
use Rattle.olfit_change.proofs.Climbs.{works_changed, works_still}
use Rattle.olfit_change.proofs.Founds.{found_key}
use Rattle.olfit_change.proofs.Ready.{few_at, rises_at}
use Rattle.olfit_change.proofs.keys.take.Goals as goal

pub find-requires-clause-few : goal.find-requires-clause-few
find-requires-clause-few c = few_at _ _ c.args.me.now 0 c.node_at-leaf.result.0 c.node_at-leaf.result.1 c.requires.works.1.ready c.node_at-leaf.ensures.node.0 c.node_at-leaf.ensures.words

pub find-requires-clause-rises : goal.find-requires-clause-rises
find-requires-clause-rises c = rises_at _ _ c.args.me.now 0 c.node_at-leaf.result.0 c.node_at-leaf.result.1 c.requires.works.1.ready c.node_at-leaf.ensures.node.0 c.node_at-leaf.ensures.words

pub take_entry-requires-clause-inside : goal.take_entry-requires-clause-inside
take_entry-requires-clause-inside c =
    let n = length-entries c.node_at-leaf.result.1 in
    let v = found_value (entries_of c.node_at-leaf.result.1) c.args.key c.in-Some.place (0, 0) (sym c.find.ensures ∙ c.in-Some.is) in
    let inside = v.0 in omega (arith, inside, n)

pub take_entry-requires-clause-drops : goal.take_entry-requires-clause-drops
take_entry-requires-clause-drops c = refl

pub returns-in-Some-clause-works : goal.returns-in-Some-clause-works
returns-in-Some-clause-works c used works =
    works_changed _ _ used c.args.me.now c.take_entry.new.me c.node_at-leaf.result.0 (Drop (entry_at c.node_at-leaf.result.1 c.in-Some.place).0) works c.take_entry.ensures.ready c.node_at-leaf.ensures.node.0
    (subst (λ (v : View). IsChangedAt c.node_at-leaf.result.0 (Drop (entry_at c.node_at-leaf.result.1 c.in-Some.place).0 ∷ []) v c.take_entry.new.me.me.0) c.node_at-leaf.ensures.same.1 c.take_entry.ensures.changed)

pub returns-in-Some-clause-value : goal.returns-in-Some-clause-value
returns-in-Some-clause-value c =
    let words = c.node_at-leaf.result.1 in
    let n = length-entries words in
    let v = found_value (entries_of words) c.args.key c.in-Some.place (0, 0) (sym c.find.ensures ∙ c.in-Some.is) in
    let inside = v.0 in
    let at = c.node_at-leaf.ensures.node in
    let law = (c.requires.works.1.ready.good.nodes 0 c.node_at-leaf.result.0 at.0).leaf refl c.args.key at.1 in
    ap Some c.take_entry.ensures.value ∙ (sym (ap (λ (e : Entry). Some e.1) (get_or-entries words c.in-Some.place (0, 0) (omega (arith, inside, n)))) ∙ (sym v.1 ∙ (ap (λ (ws : List ℕ). map_of (entries_of ws) c.args.key) c.node_at-leaf.ensures.words ∙ law)))

pub returns-in-Some-clause-log : goal.returns-in-Some-clause-log
returns-in-Some-clause-log c =
    let words = c.node_at-leaf.result.1 in
    let n = length-entries words in
    let v = found_value (entries_of words) c.args.key c.in-Some.place (0, 0) (sym c.find.ensures ∙ c.in-Some.is) in
    let inside = v.0 in
    let key : (entry_at words c.in-Some.place).0 ≡ c.args.key = sym (ap (λ (e : Entry). e.0) (get_or-entries words c.in-Some.place (0, 0) (omega (arith, inside, n)))) ∙ found_key (entries_of words) c.args.key c.in-Some.place (0, 0) (sym c.find.ensures ∙ c.in-Some.is) in
    c.take_entry.ensures.changed.log ∙ (λ j. (c.node_at-leaf.ensures.same.1 j).seen.log ++ Drop (key j) ∷ [])

pub returns-in-None-clause-value : goal.returns-in-None-clause-value
returns-in-None-clause-value c =
    let at = c.node_at-leaf.ensures.node in
    let law = (c.requires.works.1.ready.good.nodes 0 c.node_at-leaf.result.0 at.0).leaf refl c.args.key at.1 in
    sym (absent_value (entries_of c.node_at-leaf.result.1) c.args.key (0, 0) (sym c.find.ensures ∙ c.in-None.is)) ∙ (ap (λ (ws : List ℕ). map_of (entries_of ws) c.args.key) c.node_at-leaf.ensures.words ∙ law)

pub returns-in-Some-clause-paid : goal.returns-in-Some-clause-paid
returns-in-Some-clause-paid c used keys p =
    let less = c.take_entry.ensures.lighter in let same = ap (λ (v : View). weights v.seen) c.node_at-leaf.ensures.same.1 in
    paid_taken c.args.me.now.me.0 c.take_entry.new.me.me.0 c.node_at-leaf.result.0 used keys (Drop (entry_at c.node_at-leaf.result.1 c.in-Some.place).0 ∷ [])
    (subst (λ (v : View). IsChangedAt c.node_at-leaf.result.0 (Drop (entry_at c.node_at-leaf.result.1 c.in-Some.place).0 ∷ []) v c.take_entry.new.me.me.0) c.node_at-leaf.ensures.same.1 c.take_entry.ensures.changed) (omega (arith, less, same)) p

pub returns-in-None-clause-paid : goal.returns-in-None-clause-paid
returns-in-None-clause-paid c used keys p = subst (λ (v : View). IsPaid used keys v.seen) (sym c.node_at-leaf.ensures.same.1) p

pub returns-in-None-clause-works : goal.returns-in-None-clause-works
returns-in-None-clause-works c used works = works_still _ _ used c.args.me.now c.node_at-leaf.new.me works c.node_at-leaf.ensures.same
