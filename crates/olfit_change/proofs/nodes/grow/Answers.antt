use Rattle.std.proofs.Common.{◌∙◌, ◌∷◌, [], ℕ, length, arith, sym, ap, subst}
use Rattle.olfit_rule.specs.declared.view.View.{View}
use Rattle.olfit_rule.specs.Tree.{Good, Lasts}
use Rattle.olfit_rule.specs.Rule.{rewritten, after_root, after_rewrite}
use Rattle.olfit_change.proofs.Grows.{good_grown, lasts_grown, good_topped, lasts_topped, grown_done, over_both}
use Rattle.olfit_change.proofs.Ready.{long_from, ready_grown}
use Rattle.olfit_change.proofs.nodes.grow.Goals as goal

pub rewrite-requires-clause-good : goal.rewrite-requires-clause-good
rewrite-requires-clause-good c =
    let good = good_grown c.args.me.now.me.0 c.args.top c.args.fresh c.args.link c.made-root.result c.requires.ready.good c.requires.free.0 (let room = c.requires.free.1 in let count = c.requires.ready.count in omega (arith, room, count)) c.requires.top
    c.requires.link.0 c.requires.link.1 c.requires.link.2 c.made-root.ensures.low c.made-root.ensures.right c.made-root.ensures.level (c.made-root.ensures.entries ∙ ap (λ (r : ℕ). (0, r) ∷ (c.args.link.key, c.args.link.node) ∷ []) c.own_root-old.ensures.root) in
    subst (λ (w : View). Good w.base (rewritten c.args.fresh c.made-root.result [] w.seen)) (sym c.own_root-old.ensures.same.1) good

pub rewrite-requires-clause-lasts : goal.rewrite-requires-clause-lasts
rewrite-requires-clause-lasts c =
    let lasts = lasts_grown c.args.me.now.me.0 c.args.top c.args.fresh c.args.link c.made-root.result c.requires.ready.good c.requires.free.0 (let room = c.requires.free.1 in let count = c.requires.ready.count in omega (arith, room, count)) c.requires.top
    c.requires.link.0 c.requires.link.1 c.requires.link.2 c.made-root.ensures.low c.made-root.ensures.right c.made-root.ensures.level (c.made-root.ensures.entries ∙ ap (λ (r : ℕ). (0, r) ∷ (c.args.link.key, c.args.link.node) ∷ []) c.own_root-old.ensures.root) in
    subst (λ (w : View). Lasts w.seen (rewritten c.args.fresh c.made-root.result [] w.seen)) (sym c.own_root-old.ensures.same.1) lasts

pub store_root-requires-clause-good : goal.store_root-requires-clause-good
store_root-requires-clause-good c =
    let good = good_topped c.args.me.now.me.0 c.args.top c.args.fresh c.args.link c.made-root.result c.requires.ready.good c.requires.free.0 (let room = c.requires.free.1 in let count = c.requires.ready.count in omega (arith, room, count)) c.requires.top
    c.requires.link.0 c.requires.link.1 c.requires.link.2 c.made-root.ensures.low c.made-root.ensures.right c.made-root.ensures.level (c.made-root.ensures.entries ∙ ap (λ (r : ℕ). (0, r) ∷ (c.args.link.key, c.args.link.node) ∷ []) c.own_root-old.ensures.root) in
    let view = c.rewrite.ensures.view ∙ ap (λ (w : View). after_rewrite c.args.fresh c.made-root.result [] w) c.own_root-old.ensures.same.1 in
    subst (λ (w : View). Good w.base (after_root c.args.fresh w.seen)) (sym view) good

pub store_root-requires-clause-lasts : goal.store_root-requires-clause-lasts
store_root-requires-clause-lasts c =
    let lasts = lasts_topped c.args.me.now.me.0 c.args.top c.args.fresh c.args.link c.made-root.result c.requires.ready.good c.requires.free.0 (let room = c.requires.free.1 in let count = c.requires.ready.count in omega (arith, room, count)) c.requires.top
    c.requires.link.0 c.requires.link.1 c.requires.link.2 c.made-root.ensures.low c.made-root.ensures.right c.made-root.ensures.level (c.made-root.ensures.entries ∙ ap (λ (r : ℕ). (0, r) ∷ (c.args.link.key, c.args.link.node) ∷ []) c.own_root-old.ensures.root) in
    let view = c.rewrite.ensures.view ∙ ap (λ (w : View). after_rewrite c.args.fresh c.made-root.result [] w) c.own_root-old.ensures.same.1 in
    subst (λ (w : View). Lasts w.seen (after_root c.args.fresh w.seen)) (sym view) lasts

pub returns-clause-ready : goal.returns-clause-ready
returns-clause-ready c =
    let good = good_topped c.args.me.now.me.0 c.args.top c.args.fresh c.args.link c.made-root.result c.requires.ready.good c.requires.free.0 (let room = c.requires.free.1 in let count = c.requires.ready.count in omega (arith, room, count)) c.requires.top
    c.requires.link.0 c.requires.link.1 c.requires.link.2 c.made-root.ensures.low c.made-root.ensures.right c.made-root.ensures.level (c.made-root.ensures.entries ∙ ap (λ (r : ℕ). (0, r) ∷ (c.args.link.key, c.args.link.node) ∷ []) c.own_root-old.ensures.root) in
    let view = c.rewrite.ensures.view ∙ ap (λ (w : View). after_rewrite c.args.fresh c.made-root.result [] w) c.own_root-old.ensures.same.1 in
    ready_grown _ _ c.args.me.now c.own_root-old.new.me c.rewrite.new.me c.store_root.new.me c.args.fresh c.requires.ready c.own_root-old.ensures.same.0 c.own_root-old.ensures.same.1 c.rewrite.ensures.same.0 c.rewrite.ensures.same.1 c.rewrite.ensures.size c.store_root.ensures.same c.store_root.ensures.view
    (subst (λ (w : View). Good w.base (after_root c.args.fresh w.seen)) (sym view) good)

pub returns-clause-grown : goal.returns-clause-grown
returns-clause-grown c =
    let view = c.rewrite.ensures.view ∙ ap (λ (w : View). after_rewrite c.args.fresh c.made-root.result [] w) c.own_root-old.ensures.same.1 in
    grown_done c.args.me.now.me.0 c.args.top c.args.fresh c.args.link c.made-root.result c.requires.ready.good c.requires.free.0 (let room = c.requires.free.1 in let count = c.requires.ready.count in omega (arith, room, count)) c.requires.top
    c.requires.link.0 c.requires.link.1 c.requires.link.2 c.made-root.ensures.low c.made-root.ensures.right c.made-root.ensures.level (c.made-root.ensures.entries ∙ ap (λ (r : ℕ). (0, r) ∷ (c.args.link.key, c.args.link.node) ∷ []) c.own_root-old.ensures.root) c.store_root.new.me.me.0 (c.store_root.ensures.view ∙ ap (λ (w : View). record w { seen = after_root c.args.fresh w.seen }) view) (long_from c.own_root-old.new.me.me.0 c.rewrite.new.me.me.0 c.args.fresh c.made-root.result [] (let room = c.requires.free.1 in let count = c.requires.ready.count in let still = ap (λ (w : View). length w.seen.image) c.own_root-old.ensures.same.1 in omega (arith, room, count, still)) c.rewrite.ensures.view c.rewrite.ensures.same.1) c.made-root.ensures.clear

pub returns-clause-over : goal.returns-clause-over
returns-clause-over c =
    let view = c.rewrite.ensures.view ∙ ap (λ (w : View). after_rewrite c.args.fresh c.made-root.result [] w) c.own_root-old.ensures.same.1 in
    over_both c.args.me.now.me.0 c.args.top c.args.fresh c.args.link c.made-root.result c.requires.ready.good c.requires.free.0 (let room = c.requires.free.1 in let count = c.requires.ready.count in omega (arith, room, count)) c.requires.top
    c.requires.link.0 c.requires.link.1 c.requires.link.2 c.made-root.ensures.low c.made-root.ensures.right c.made-root.ensures.level (c.made-root.ensures.entries ∙ ap (λ (r : ℕ). (0, r) ∷ (c.args.link.key, c.args.link.node) ∷ []) c.own_root-old.ensures.root) c.store_root.new.me.me.0 (c.store_root.ensures.view ∙ ap (λ (w : View). record w { seen = after_root c.args.fresh w.seen }) view)
