use Rattle.std.proofs.Common.{◌∙◌, [], ℕ, List, length, get_or, arith, sym, ap, subst}
use Rattle.std.specs.List.{Contains}
use Rattle.olfit_nodes.specs.declared.head.Link.{Link}
use Rattle.olfit_nodes.specs.Nodes.{Entry, count_of, level_of, right_of}
use Rattle.olfit_nodes.proofs.Frames.{same_right}
use Rattle.olfit_rule.specs.declared.view.View.{View}
use Rattle.olfit_rule.specs.Tree.{node_of, Good, Lasts, version}
use Rattle.olfit_rule.specs.Rule.{rewritten, after_rewrite}
use Rattle.olfit_change.specs.States.{IsSplitAt, both_entries}
use Rattle.olfit_change.proofs.Fills.{good_filled, lasts_filled, words_filled}
use Rattle.olfit_change.proofs.Splits.{halves_are, upper_some, right_linked, good_second, lasts_second, split_done, split_entry}
use Rattle.olfit_change.proofs.Ready.{level_at, long_from, ready_twice}
use Rattle.olfit_change.proofs.nodes.split_node.Goals as goal

pub bounds-deref-0 : goal.bounds-deref-0
bounds-deref-0 g c =
    let n = upper_some c.args.words c.split-upper.result.items c.place_of-place.result c.args.key c.args.value c.place_of-place.ensures c.split-upper.ensures.upper c.requires.full in
    let is = ap length c.deref.ensures.0 in omega (arith, n, is)

pub made-filled-requires-clause-level : goal.made-filled-requires-clause-level
made-filled-requires-clause-level g c =
    let may = c.requires.may in
    let e = c.level.ensures ∙ (c.split-upper.ensures.frame.level ∙ level_at _ _ c.args.me.now may.at.0 c.args.node c.args.words c.requires.ready may.at.1 c.requires.words) in
    let top = c.requires.free.0.top may.at.0 c.args.node may.at.1 in let tall = c.requires.free.0.tall in let room = c.requires.free.1 in let few = c.requires.ready.sized.1 in omega (arith, e, top, tall, room, few)

pub made-filled-requires-clause-right : goal.made-filled-requires-clause-right
made-filled-requires-clause-right g c link is =
    let rights = c.right.ensures ∙ (same_right c.args.words c.split-upper.new.words c.split-upper.ensures.frame ∙ ap right_of c.requires.words) in
    let r = (c.requires.ready.good.nodes c.requires.may.at.0 c.args.node c.requires.may.at.1).right link (sym rights ∙ is) in
    let inside = r.0.0 in let count = c.requires.ready.count in let few = c.requires.ready.sized.1 in omega (arith, inside, count, few)

pub rewrite-requires-clause-good : goal.rewrite-requires-clause-good
rewrite-requires-clause-good g c =
    let rights = c.made-filled.ensures.right ∙ (c.right.ensures ∙ (same_right c.args.words c.split-upper.new.words c.split-upper.ensures.frame ∙ ap right_of c.requires.words)) in
    let levels = c.made-filled.ensures.level ∙ (c.level.ensures ∙ (c.split-upper.ensures.frame.level ∙ ap level_of c.requires.words)) in
    let may = c.requires.may in
    good_filled c.args.me.now.me.0.base c.args.me.now.me.0.seen c.args.fresh c.made-filled.result c.requires.ready.good (let room = c.requires.free.1 in let count = c.requires.ready.count in omega (arith, room, count)) (λ l h. let x = c.requires.free.0.linked l c.args.fresh h in omega (arith, x))
    (right_linked c.args.me.now.me.0 may.at.0 c.args.node c.made-filled.result c.requires.ready.good may.at.1 rights levels)

pub rewrite-requires-clause-lasts : goal.rewrite-requires-clause-lasts
rewrite-requires-clause-lasts g c =
    let rights = c.made-filled.ensures.right ∙ (c.right.ensures ∙ (same_right c.args.words c.split-upper.new.words c.split-upper.ensures.frame ∙ ap right_of c.requires.words)) in
    let levels = c.made-filled.ensures.level ∙ (c.level.ensures ∙ (c.split-upper.ensures.frame.level ∙ ap level_of c.requires.words)) in
    let may = c.requires.may in
    lasts_filled c.args.me.now.me.0.base c.args.me.now.me.0.seen c.args.fresh c.made-filled.result c.requires.ready.good (let room = c.requires.free.1 in let count = c.requires.ready.count in omega (arith, room, count)) (λ l h. let x = c.requires.free.0.linked l c.args.fresh h in omega (arith, x))
    (right_linked c.args.me.now.me.0 may.at.0 c.args.node c.made-filled.result c.requires.ready.good may.at.1 rights levels)

pub rewrite-requires-2-clause-version : goal.rewrite-requires-2-clause-version
rewrite-requires-2-clause-version g c =
    let words =
    let rights = c.made-filled.ensures.right ∙ (c.right.ensures ∙ (same_right c.args.words c.split-upper.new.words c.split-upper.ensures.frame ∙ ap right_of c.requires.words)) in
    let levels = c.made-filled.ensures.level ∙ (c.level.ensures ∙ (c.split-upper.ensures.frame.level ∙ ap level_of c.requires.words)) in
    let may = c.requires.may in
    words_filled c.args.me.now.me.0.base c.args.me.now.me.0.seen c.args.fresh c.made-filled.result c.requires.ready.good (let room = c.requires.free.1 in let count = c.requires.ready.count in omega (arith, room, count)) (λ l h. let x = c.requires.free.0.linked l c.args.fresh h in omega (arith, x))
    (right_linked c.args.me.now.me.0 may.at.0 c.args.node c.made-filled.result c.requires.ready.good may.at.1 rights levels) c.requires.may.at.0 c.args.node c.requires.may.at.1 in
    let view = ap (λ (w : View). version w.seen.image c.args.node) c.rewrite.ensures.view in
    let is = ap (λ (ws : List ℕ). get_or ws 0 0) words in
    let small = c.requires.version in omega (arith, view, is, small)

pub rewrite-requires-2-clause-good : goal.rewrite-requires-2-clause-good
rewrite-requires-2-clause-good g c =
    let link : Link = record { key = (get_or c.deref.result.now 0 (0, 0)).0; node = c.args.fresh } in
    let halves = halves_are (node_of c.args.me.now.me.0.seen.image c.args.node) c.args.words c.split-upper.new.words c.made-filled.result c.set_right.new.words c.split-upper.result.items c.place_of-place.result c.args.key c.args.value link
    c.requires.words c.place_of-place.ensures c.split-upper.ensures.frame c.split-upper.ensures.lower c.split-upper.ensures.upper c.requires.full (ap (λ (xs : List Entry). (get_or xs 0 (0, 0)).0) c.deref.ensures.0)
    c.made-filled.ensures.low (c.made-filled.ensures.right ∙ c.right.ensures) (c.made-filled.ensures.level ∙ c.level.ensures) (c.made-filled.ensures.entries ∙ c.as_slice.ensures.value)
    c.set_right.ensures.right c.set_right.ensures.low c.set_right.ensures.level c.set_right.ensures.entries c.made-filled.ensures.clear c.set_right.ensures.clear in
    let full = sym (ap count_of c.requires.words) ∙ c.requires.full in
    let second = good_second c.args.me.now.me.0 g.C.Noted.changes c.args.node c.args.key c.args.value link c.made-filled.result c.set_right.new.words c.requires.ready.good c.requires.may (let room = c.requires.free.1 in let count = c.requires.ready.count in omega (arith, room, count)) (λ l h. let x = c.requires.free.0.linked l c.args.fresh h in omega (arith, x)) full halves in
    subst (λ (w : View). Good w.base (rewritten c.args.node c.set_right.new.words g.C.Noted.changes w.seen)) (sym c.rewrite.ensures.view) second

pub rewrite-requires-2-clause-lasts : goal.rewrite-requires-2-clause-lasts
rewrite-requires-2-clause-lasts g c =
    let link : Link = record { key = (get_or c.deref.result.now 0 (0, 0)).0; node = c.args.fresh } in
    let halves = halves_are (node_of c.args.me.now.me.0.seen.image c.args.node) c.args.words c.split-upper.new.words c.made-filled.result c.set_right.new.words c.split-upper.result.items c.place_of-place.result c.args.key c.args.value link
    c.requires.words c.place_of-place.ensures c.split-upper.ensures.frame c.split-upper.ensures.lower c.split-upper.ensures.upper c.requires.full (ap (λ (xs : List Entry). (get_or xs 0 (0, 0)).0) c.deref.ensures.0)
    c.made-filled.ensures.low (c.made-filled.ensures.right ∙ c.right.ensures) (c.made-filled.ensures.level ∙ c.level.ensures) (c.made-filled.ensures.entries ∙ c.as_slice.ensures.value)
    c.set_right.ensures.right c.set_right.ensures.low c.set_right.ensures.level c.set_right.ensures.entries c.made-filled.ensures.clear c.set_right.ensures.clear in
    let full = sym (ap count_of c.requires.words) ∙ c.requires.full in
    let second = lasts_second c.args.me.now.me.0 g.C.Noted.changes c.args.node c.args.key c.args.value link c.made-filled.result c.set_right.new.words c.requires.ready.good c.requires.may (let room = c.requires.free.1 in let count = c.requires.ready.count in omega (arith, room, count)) (λ l h. let x = c.requires.free.0.linked l c.args.fresh h in omega (arith, x)) full halves in
    subst (λ (w : View). Lasts w.seen (rewritten c.args.node c.set_right.new.words g.C.Noted.changes w.seen)) (sym c.rewrite.ensures.view) second

pub returns-clause-ready : goal.returns-clause-ready
returns-clause-ready g c =
    let link : Link = record { key = (get_or c.deref.result.now 0 (0, 0)).0; node = c.args.fresh } in
    let halves = halves_are (node_of c.args.me.now.me.0.seen.image c.args.node) c.args.words c.split-upper.new.words c.made-filled.result c.set_right.new.words c.split-upper.result.items c.place_of-place.result c.args.key c.args.value link
    c.requires.words c.place_of-place.ensures c.split-upper.ensures.frame c.split-upper.ensures.lower c.split-upper.ensures.upper c.requires.full (ap (λ (xs : List Entry). (get_or xs 0 (0, 0)).0) c.deref.ensures.0)
    c.made-filled.ensures.low (c.made-filled.ensures.right ∙ c.right.ensures) (c.made-filled.ensures.level ∙ c.level.ensures) (c.made-filled.ensures.entries ∙ c.as_slice.ensures.value)
    c.set_right.ensures.right c.set_right.ensures.low c.set_right.ensures.level c.set_right.ensures.entries c.made-filled.ensures.clear c.set_right.ensures.clear in
    let full = sym (ap count_of c.requires.words) ∙ c.requires.full in
    let second = good_second c.args.me.now.me.0 g.C.Noted.changes c.args.node c.args.key c.args.value link c.made-filled.result c.set_right.new.words c.requires.ready.good c.requires.may (let room = c.requires.free.1 in let count = c.requires.ready.count in omega (arith, room, count)) (λ l h. let x = c.requires.free.0.linked l c.args.fresh h in omega (arith, x)) full halves in
    let view = c.rewrite-2.ensures.view ∙ ap (λ (w : View). after_rewrite c.args.node c.set_right.new.words g.C.Noted.changes w) c.rewrite.ensures.view in
    ready_twice _ _ c.args.me.now c.rewrite.new.me c.rewrite-2.new.me c.requires.ready c.rewrite.ensures.same.0 c.rewrite-2.ensures.same.0 c.rewrite-2.ensures.same.1 c.rewrite.ensures.size c.rewrite-2.ensures.size
    (subst (λ (w : View). Good w.base w.seen) (sym view) second)

pub returns-clause-split : goal.returns-clause-split
returns-clause-split g c =
    let link : Link = record { key = (get_or c.deref.result.now 0 (0, 0)).0; node = c.args.fresh } in
    let halves = halves_are (node_of c.args.me.now.me.0.seen.image c.args.node) c.args.words c.split-upper.new.words c.made-filled.result c.set_right.new.words c.split-upper.result.items c.place_of-place.result c.args.key c.args.value link
    c.requires.words c.place_of-place.ensures c.split-upper.ensures.frame c.split-upper.ensures.lower c.split-upper.ensures.upper c.requires.full (ap (λ (xs : List Entry). (get_or xs 0 (0, 0)).0) c.deref.ensures.0)
    c.made-filled.ensures.low (c.made-filled.ensures.right ∙ c.right.ensures) (c.made-filled.ensures.level ∙ c.level.ensures) (c.made-filled.ensures.entries ∙ c.as_slice.ensures.value)
    c.set_right.ensures.right c.set_right.ensures.low c.set_right.ensures.level c.set_right.ensures.entries c.made-filled.ensures.clear c.set_right.ensures.clear in
    let full = sym (ap count_of c.requires.words) ∙ c.requires.full in
    let long = c.set_right.array_long in
    let view = c.rewrite-2.ensures.view ∙ ap (λ (w : View). after_rewrite c.args.node c.set_right.new.words g.C.Noted.changes w) c.rewrite.ensures.view in
    subst (IsSplitAt c.args.node link g.C.Noted.changes c.args.me.now.me.0) (sym view) (split_done c.args.me.now.me.0 g.C.Noted.changes c.args.node c.args.key c.args.value link c.made-filled.result c.set_right.new.words c.requires.ready.good c.requires.may (let room = c.requires.free.1 in let count = c.requires.ready.count in omega (arith, room, count)) (λ l h. let x = c.requires.free.0.linked l c.args.fresh h in omega (arith, x)) full halves (long_from c.args.me.now.me.0 c.rewrite.new.me.me.0 c.args.fresh c.made-filled.result [] (let room = c.requires.free.1 in let count = c.requires.ready.count in omega (arith, room, count)) c.rewrite.ensures.view c.rewrite.ensures.same.1) (omega (arith, long)))

pub returns-clause-entry : goal.returns-clause-entry
returns-clause-entry g c =
    let link : Link = record { key = (get_or c.deref.result.now 0 (0, 0)).0; node = c.args.fresh } in
    let halves = halves_are (node_of c.args.me.now.me.0.seen.image c.args.node) c.args.words c.split-upper.new.words c.made-filled.result c.set_right.new.words c.split-upper.result.items c.place_of-place.result c.args.key c.args.value link
    c.requires.words c.place_of-place.ensures c.split-upper.ensures.frame c.split-upper.ensures.lower c.split-upper.ensures.upper c.requires.full (ap (λ (xs : List Entry). (get_or xs 0 (0, 0)).0) c.deref.ensures.0)
    c.made-filled.ensures.low (c.made-filled.ensures.right ∙ c.right.ensures) (c.made-filled.ensures.level ∙ c.level.ensures) (c.made-filled.ensures.entries ∙ c.as_slice.ensures.value)
    c.set_right.ensures.right c.set_right.ensures.low c.set_right.ensures.level c.set_right.ensures.entries c.made-filled.ensures.clear c.set_right.ensures.clear in
    let full = sym (ap count_of c.requires.words) ∙ c.requires.full in
    let view = c.rewrite-2.ensures.view ∙ ap (λ (w : View). after_rewrite c.args.node c.set_right.new.words g.C.Noted.changes w) c.rewrite.ensures.view in
    subst (λ (w : View). Contains (both_entries w.seen c.args.node link) (c.args.key, c.args.value)) (sym view) (split_entry c.args.me.now.me.0 g.C.Noted.changes c.args.node c.args.key c.args.value link c.made-filled.result c.set_right.new.words c.requires.ready.good c.requires.may (let room = c.requires.free.1 in let count = c.requires.ready.count in omega (arith, room, count)) (λ l h. let x = c.requires.free.0.linked l c.args.fresh h in omega (arith, x)) full halves)
