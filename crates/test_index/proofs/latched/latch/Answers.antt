use Rattle.std.proofs.Common.{rules, ◌≡◌, ◌+◌, ◌<◌, ◌∙◌, ℕ, List, length, get_or, sym, ap, subst, arith}
use Rattle.olfit_rule.specs.declared.view.View.{View}
use Rattle.olfit_rule.specs.Tree.{version}
use Rattle.olfit_rule.specs.Rule.{IsAtRest}
use Rattle.test_index.proofs.Latches.{latches}
use Rattle.test_index.proofs.latched.latch.Goals as goal

pub store-requires : goal.store-requires
store-requires c =
    let still : c.own_node.new.me.me.0 ≡ c.args.me.now.me.0 = c.own_node.ensures.same.1 in
    let rest : IsAtRest c.own_node.new.me.me.0 = subst IsAtRest (sym still) c.requires.ready.rest in
    let inside : c.args.node < length c.args.me.now.me.0.seen.image = let n = c.requires.ready.count in let h = c.requires.node in omega arith in
    let there : c.args.node < length c.own_node.new.me.me.0.seen.image = subst (λ (v : View). c.args.node < length v.seen.image) (sym still) inside in
    let found : get_or c.own_node.result 0 0 + 1 ≡ version c.own_node.new.me.me.0.seen.image c.args.node + 1 =
    ap (λ (ws : List ℕ). get_or ws 0 0 + 1) c.own_node.ensures.words ∙ ap (λ (v : View). version v.seen.image c.args.node + 1) (sym still) in
    (search rules, search rules, latches _ _ c.own_node.new.me.me c.args.node (get_or c.own_node.result 0 0 + 1) rest there found)
