use Rattle.std.proofs.Common.{List, ◌∙◌, ap, sym, subst}
use Rattle.std.specs.List.{Contains}
use Rattle.olfit_rule.specs.declared.view.View.{View}
use Rattle.olfit_rule.specs.Tree.{node_of}
use Rattle.std.proofs.lemmas.List.Edits.{length-insert}
use Rattle.std.proofs.Common.{length}
use Rattle.olfit_nodes.specs.Nodes.{Entry}
use Rattle.std.proofs.Common.{arith}
use Rattle.olfit_nodes.specs.Nodes.{entries_of}
use Rattle.olfit_nodes.proofs.Places.{length-entries}
use Rattle.olfit_change.proofs.Entries.{contains_new, place_most}
use Rattle.olfit_change.proofs.Puts.{puts}
use Rattle.olfit_change.proofs.Rewrites.{entries_here}
use Rattle.olfit_change.proofs.Ready.{ready_rewritten, changed_by, count_by}
use Rattle.olfit_change.proofs.nodes.put_entry.Goals as goal

pub insert_at-requires-clause-inside : goal.insert_at-requires-clause-inside
insert_at-requires-clause-inside g c =
    let most = place_most c.args.key (entries_of c.args.words) in let long = length-entries c.args.words in let is = c.place_of-place.ensures in omega (arith, most, long, is)

pub rewrite-requires-clause-good : goal.rewrite-requires-clause-good
rewrite-requires-clause-good g c =
    (puts c.args.me.now.me.0 g.C.Noted.changes c.args.node c.args.key c.args.value c.args.words c.insert_at.new.words c.place_of-place.result c.requires.ready.good c.requires.may c.requires.words c.place_of-place.ensures c.insert_at.ensures.frame c.insert_at.ensures.entries c.requires.room).good

pub rewrite-requires-clause-lasts : goal.rewrite-requires-clause-lasts
rewrite-requires-clause-lasts g c =
    (puts c.args.me.now.me.0 g.C.Noted.changes c.args.node c.args.key c.args.value c.args.words c.insert_at.new.words c.place_of-place.result c.requires.ready.good c.requires.may c.requires.words c.place_of-place.ensures c.insert_at.ensures.frame c.insert_at.ensures.entries c.requires.room).lasts

pub returns-clause-ready : goal.returns-clause-ready
returns-clause-ready g c =
    let r = puts c.args.me.now.me.0 g.C.Noted.changes c.args.node c.args.key c.args.value c.args.words c.insert_at.new.words c.place_of-place.result c.requires.ready.good c.requires.may c.requires.words c.place_of-place.ensures c.insert_at.ensures.frame c.insert_at.ensures.entries c.requires.room in
    ready_rewritten _ _ c.args.me.now c.rewrite.new.me c.args.node c.insert_at.new.words g.C.Noted.changes c.requires.ready c.rewrite.ensures.same.0 c.rewrite.ensures.same.1 c.rewrite.ensures.size c.rewrite.ensures.view r.good

pub returns-clause-changed : goal.returns-clause-changed
returns-clause-changed g c =
    let r = puts c.args.me.now.me.0 g.C.Noted.changes c.args.node c.args.key c.args.value c.args.words c.insert_at.new.words c.place_of-place.result c.requires.ready.good c.requires.may c.requires.words c.place_of-place.ensures c.insert_at.ensures.frame c.insert_at.ensures.entries c.requires.room in
    changed_by c.args.me.now.me.0 c.rewrite.new.me.me.0 c.args.node c.insert_at.new.words g.C.Noted.changes c.requires.may.at.1.0 (let long = c.insert_at.array_long in omega (arith, long)) c.rewrite.ensures.view r.levels r.right r.low r.kept r.clear

pub returns-clause-count : goal.returns-clause-count
returns-clause-count g c =
    let xs : List Entry = entries_of c.args.words in
    let a = length-entries c.insert_at.new.words in let b = length-entries c.args.words in
    let d = length-insert xs c.place_of-place.result (c.args.key, c.args.value) (let most = place_most c.args.key xs in let is = c.place_of-place.ensures in omega (arith, most, is)) in
    let e = ap length c.insert_at.ensures.entries in
    let n = (count_by c.args.me.now.me.0 c.rewrite.new.me.me.0 c.args.node c.insert_at.new.words g.C.Noted.changes c.requires.may.at.1.0 c.rewrite.ensures.view).0 in omega (arith, a, b, d, e, n)

pub returns-clause-level : goal.returns-clause-level
returns-clause-level g c = (count_by c.args.me.now.me.0 c.rewrite.new.me.me.0 c.args.node c.insert_at.new.words g.C.Noted.changes c.requires.may.at.1.0 c.rewrite.ensures.view).1 ∙ c.insert_at.ensures.frame.level

pub returns-clause-entry : goal.returns-clause-entry
returns-clause-entry g c =
    let is = ap (λ (w : View). entries_of (node_of w.seen.image c.args.node)) c.rewrite.ensures.view in
    let here = entries_here c.args.me.now.me.0.seen c.args.node c.insert_at.new.words g.C.Noted.changes c.requires.may.at.1.0 in
    subst (λ (xs : List Entry). Contains xs (c.args.key, c.args.value)) (sym (is ∙ (here ∙ c.insert_at.ensures.entries))) (contains_new (entries_of c.args.words) c.place_of-place.result (c.args.key, c.args.value))
