use Rattle.olfit_nodes.specs.Nodes.{entries_of, Entry}
use Rattle.std.proofs.lemmas.List.Edits.{length-remove}
use Rattle.std.proofs.Common.{length, List}
use Rattle.olfit_nodes.specs.Nodes.{level_of, count_of}
use Rattle.olfit_nodes.proofs.Places.{length-entries}
use Rattle.olfit_rule.specs.Tree.{node_of}
use Rattle.olfit_change.proofs.Weights.{lighter_leaf}
use Rattle.std.proofs.Common.{◌∙◌, arith, ap}
use Rattle.olfit_nodes.specs.Nodes.{Entry}
use Rattle.olfit_nodes.proofs.Places.{get_or-entries}
use Rattle.olfit_change.proofs.Puts.{takes}
use Rattle.olfit_change.proofs.Ready.{few_at, ready_rewritten, changed_by, count_by}
use Rattle.olfit_change.proofs.nodes.take_entry.Goals as goal

pub remove_at-value-requires-clause-few : goal.remove_at-value-requires-clause-few
remove_at-value-requires-clause-few g c = few_at _ _ c.args.me.now 0 c.args.leaf c.args.words c.requires.ready c.requires.leaf c.requires.words

pub rewrite-requires-clause-good : goal.rewrite-requires-clause-good
rewrite-requires-clause-good g c =
    (takes c.args.me.now.me.0 c.args.leaf c.args.place c.args.words c.remove_at-value.new.words g.C.Noted.changes c.requires.ready.good c.requires.leaf c.requires.words c.requires.inside c.remove_at-value.ensures.frame c.remove_at-value.ensures.entries c.requires.drops).good

pub rewrite-requires-clause-lasts : goal.rewrite-requires-clause-lasts
rewrite-requires-clause-lasts g c =
    (takes c.args.me.now.me.0 c.args.leaf c.args.place c.args.words c.remove_at-value.new.words g.C.Noted.changes c.requires.ready.good c.requires.leaf c.requires.words c.requires.inside c.remove_at-value.ensures.frame c.remove_at-value.ensures.entries c.requires.drops).lasts

pub returns-clause-ready : goal.returns-clause-ready
returns-clause-ready g c =
    let r = takes c.args.me.now.me.0 c.args.leaf c.args.place c.args.words c.remove_at-value.new.words g.C.Noted.changes c.requires.ready.good c.requires.leaf c.requires.words c.requires.inside c.remove_at-value.ensures.frame c.remove_at-value.ensures.entries c.requires.drops in
    ready_rewritten _ _ c.args.me.now c.rewrite.new.me c.args.leaf c.remove_at-value.new.words g.C.Noted.changes c.requires.ready c.rewrite.ensures.same.0 c.rewrite.ensures.same.1 c.rewrite.ensures.size c.rewrite.ensures.view r.good

pub returns-clause-changed : goal.returns-clause-changed
returns-clause-changed g c =
    let r = takes c.args.me.now.me.0 c.args.leaf c.args.place c.args.words c.remove_at-value.new.words g.C.Noted.changes c.requires.ready.good c.requires.leaf c.requires.words c.requires.inside c.remove_at-value.ensures.frame c.remove_at-value.ensures.entries c.requires.drops in
    changed_by c.args.me.now.me.0 c.rewrite.new.me.me.0 c.args.leaf c.remove_at-value.new.words g.C.Noted.changes c.requires.leaf.0 (let long = c.remove_at-value.array_long in omega (arith, long)) c.rewrite.ensures.view r.levels r.right r.low r.kept r.clear

pub returns-clause-value : goal.returns-clause-value
returns-clause-value g c = c.remove_at-value.ensures.value ∙ ap (λ (e : Entry). e.1) (get_or-entries c.args.words c.args.place (0, 0) c.requires.inside)

pub returns-clause-lighter : goal.returns-clause-lighter
returns-clause-lighter g c =
    let r = takes c.args.me.now.me.0 c.args.leaf c.args.place c.args.words c.remove_at-value.new.words g.C.Noted.changes c.requires.ready.good c.requires.leaf c.requires.words c.requires.inside c.remove_at-value.ensures.frame c.remove_at-value.ensures.entries c.requires.drops in
    let changed = changed_by c.args.me.now.me.0 c.rewrite.new.me.me.0 c.args.leaf c.remove_at-value.new.words g.C.Noted.changes c.requires.leaf.0 (let long = c.remove_at-value.array_long in omega (arith, long)) c.rewrite.ensures.view r.levels r.right r.low r.kept r.clear in
    let by = count_by c.args.me.now.me.0 c.rewrite.new.me.me.0 c.args.leaf c.remove_at-value.new.words g.C.Noted.changes c.requires.leaf.0 c.rewrite.ensures.view in
    let xs : List Entry = entries_of c.args.words in
    let a = length-entries c.remove_at-value.new.words in let b = length-entries c.args.words in let inside = c.requires.inside in
    let d = length-remove xs c.args.place (omega (arith, b, inside)) in let e = ap length c.remove_at-value.ensures.entries in
    let old = (c.requires.ready.good.nodes 0 c.args.leaf c.requires.leaf).height in
    let level = by.1 ∙ (c.remove_at-value.ensures.frame.level ∙ (ap level_of c.requires.words ∙ old)) in
    let n = by.0 in let words = ap count_of c.requires.words in
    let less = lighter_leaf (node_of c.args.me.now.me.0.seen.image c.args.leaf) (node_of c.rewrite.new.me.me.0.seen.image c.args.leaf) old level (omega (arith, a, b, d, e, n, words)) in
    let cost = changed.cost in omega (arith, cost, less)
