use Rattle.std.proofs.Common.{rules, ◌≡◌, ℕ, List, ◌+◌, ◌<◌, ◌≤◌, ◌%◌, ◌∙◌, ap, refl, sym, subst, arith, length, length-set}
use Rattle.olfit_rule.specs.declared.view.View.{View}
use Rattle.olfit_rule.specs.declared.view.Moment.{Moment}
use Rattle.olfit_rule.specs.Tree.{Nodes, version, Good, Lasts}
use Rattle.olfit_rule.specs.Rule.{Partly, put, after_end, after_rewrite}
use Rattle.olfit_nodes.specs.Nodes.{Entry}
use Rattle.olfit_rule.proofs.Rewrites.{partly_latched, partly_more, partly_end, inside_still, still_latched, at_rest_again, version_renewed}
use Rattle.olfit_rule.proofs.writer.rewrite.Goals as goal

pub loop-i-init : goal.loop-i-init
loop-i-init g c =
    let rest = c.requires.own.1 in
    let found : c.own_word-version.result ≡ version c.args.me.now.me.0.seen.image c.args.node = c.own_word-version.ensures.word ∙ ap (λ (a : Nodes). version a c.args.node) rest.same in
    let view = c.write_word.ensures.view ∙ ((λ y. record (c.own_word-version.ensures.same.1 y) { words = put (c.own_word-version.ensures.same.1 y).words c.args.node 0 (found y + 1) })) in
    ((search rules, search rules, search rules), partly_latched c.args.node c.args.words.now c.args.me.now.me.0 c.write_word.new.me.me.0 rest c.requires.inside.2 view)

pub write_word-requires-in-loop-i-clause-own : goal.write_word-requires-in-loop-i-clause-own
write_word-requires-in-loop-i-clause-own g c = (search rules, ap (λ (u : View). u.writes) c.loop-i.invariant.1.same ∙ c.requires.own.1.writes)

pub write_word-requires-in-loop-i-clause-inside : goal.write_word-requires-in-loop-i-clause-inside
write_word-requires-in-loop-i-clause-inside g c =
    let rest = c.requires.own.1 in
    let h : c.args.node < length c.args.me.now.me.0.words = subst (λ (a : Nodes). c.args.node < length a) (sym rest.same) c.requires.inside.2 in
    (c.requires.inside.0, c.requires.inside.1, c.loop-i-test.true, inside_still c.args.node c.loop-i.i c.args.words.now _ _ c.loop-i.invariant.1 h)

pub write_word-requires-in-loop-i-clause-latched : goal.write_word-requires-in-loop-i-clause-latched
write_word-requires-in-loop-i-clause-latched g c =
    let rest = c.requires.own.1 in
    let h : c.args.node < length c.args.me.now.me.0.words = subst (λ (a : Nodes). c.args.node < length a) (sym rest.same) c.requires.inside.2 in
    let even = rest.even c.args.node c.requires.inside.2 in
    still_latched c.args.node c.loop-i.i _ c.loop-i.i c.args.words.now _ _ c.loop-i.invariant.1 (inside_still c.args.node c.loop-i.i c.args.words.now _ _ c.loop-i.invariant.1 h) (omega arith)
    (subst (λ (a : Nodes). version a c.args.node % 2 ≡ 0) (sym rest.same) even)

pub loop-i-preserved : goal.loop-i-preserved
loop-i-preserved g c =
    let rest = c.requires.own.1 in
    let h : c.args.node < length c.args.me.now.me.0.words = subst (λ (a : Nodes). c.args.node < length a) (sym rest.same) c.requires.inside.2 in
    ((search rules, search rules, search rules), partly_more c.args.node c.loop-i.i _ c.args.words.now _ _ _ c.loop-i.invariant.1 (inside_still c.args.node c.loop-i.i c.args.words.now _ _ c.loop-i.invariant.1 h) (omega arith) (omega arith) refl c.write_word-in-loop-i.ensures.view)

pub end_change-requires-clause-own : goal.end_change-requires-clause-own
end_change-requires-clause-own g c = (search rules, ap (λ (u : View). u.writes) c.loop-i.invariant.1.same ∙ c.requires.own.1.writes)

pub end_change-requires-clause-inside : goal.end_change-requires-clause-inside
end_change-requires-clause-inside g c =
    let rest = c.requires.own.1 in
    let h : c.args.node < length c.args.me.now.me.0.words = subst (λ (a : Nodes). c.args.node < length a) (sym rest.same) c.requires.inside.2 in
    (c.requires.inside.0, c.requires.inside.1, inside_still c.args.node c.loop-i.i c.args.words.now _ _ c.loop-i.invariant.1 h)

pub end_change-requires-clause-version : goal.end_change-requires-clause-version
end_change-requires-clause-version g c =
    let odd = c.loop-i.invariant.1.odd in let found = c.own_word-version.ensures.word in omega arith

pub end_change-requires-clause-good : goal.end_change-requires-clause-good
end_change-requires-clause-good g c =
    let rest = c.requires.own.1 in
    let found : c.own_word-version.result ≡ version c.args.me.now.me.0.seen.image c.args.node = c.own_word-version.ensures.word ∙ ap (λ (a : Nodes). version a c.args.node) rest.same in
    let eight : c.loop-i.i ≡ 64 = omega arith in
    let e = partly_end c.args.node c.args.words.now g.C.Noted.changes c.args.me.now.me.0 c.loop-i.me.me.0 rest (subst (λ (z : ℕ). Partly c.args.node z c.args.words.now c.args.me.now.me.0 c.loop-i.me.me.0) eight c.loop-i.invariant.1) c.told-words in
    let f : after_end c.args.node (c.own_word-version.result + 2) g.C.Noted.changes c.loop-i.me.me.0 ≡ after_rewrite c.args.node c.args.words.now g.C.Noted.changes c.args.me.now.me.0 =
    ap (λ (z : ℕ). after_end c.args.node (z + 2) g.C.Noted.changes c.loop-i.me.me.0) found ∙ e in
    let base : c.loop-i.me.me.0.base ≡ c.args.me.now.me.0.base = ap (λ (u : View). u.base) c.loop-i.invariant.1.same in
    subst (λ (z : List Entry × Moment). Good z.0 z.1) (λ y. (sym base y, (sym f y).seen)) c.requires.good

pub end_change-requires-clause-lasts : goal.end_change-requires-clause-lasts
end_change-requires-clause-lasts g c =
    let rest = c.requires.own.1 in
    let found : c.own_word-version.result ≡ version c.args.me.now.me.0.seen.image c.args.node = c.own_word-version.ensures.word ∙ ap (λ (a : Nodes). version a c.args.node) rest.same in
    let eight : c.loop-i.i ≡ 64 = omega arith in
    let p = subst (λ (z : ℕ). Partly c.args.node z c.args.words.now c.args.me.now.me.0 c.loop-i.me.me.0) eight c.loop-i.invariant.1 in
    let e = partly_end c.args.node c.args.words.now g.C.Noted.changes c.args.me.now.me.0 c.loop-i.me.me.0 rest p c.told-words in
    let f : after_end c.args.node (c.own_word-version.result + 2) g.C.Noted.changes c.loop-i.me.me.0 ≡ after_rewrite c.args.node c.args.words.now g.C.Noted.changes c.args.me.now.me.0 =
    ap (λ (z : ℕ). after_end c.args.node (z + 2) g.C.Noted.changes c.loop-i.me.me.0) found ∙ e in
    let seen : c.loop-i.me.me.0.seen ≡ c.args.me.now.me.0.seen = ap (λ (u : View). u.seen) p.same in
    subst (λ (z : Moment × Moment). Lasts z.0 z.1) (λ y. (sym seen y, (sym f y).seen)) c.requires.lasts

pub returns-clause-view : goal.returns-clause-view
returns-clause-view g c =
    let rest = c.requires.own.1 in
    let found : c.own_word-version.result ≡ version c.args.me.now.me.0.seen.image c.args.node = c.own_word-version.ensures.word ∙ ap (λ (a : Nodes). version a c.args.node) rest.same in
    let eight : c.loop-i.i ≡ 64 = omega arith in
    let e = partly_end c.args.node c.args.words.now g.C.Noted.changes c.args.me.now.me.0 c.loop-i.me.me.0 rest (subst (λ (z : ℕ). Partly c.args.node z c.args.words.now c.args.me.now.me.0 c.loop-i.me.me.0) eight c.loop-i.invariant.1) c.told-words in
    c.end_change.ensures.view ∙ (ap (λ (z : ℕ). after_end c.args.node (z + 2) g.C.Noted.changes c.loop-i.me.me.0) found ∙ e)

pub returns-clause-same : goal.returns-clause-same
returns-clause-same g c =
    let rest = c.requires.own.1 in
    let found : c.own_word-version.result ≡ version c.args.me.now.me.0.seen.image c.args.node = c.own_word-version.ensures.word ∙ ap (λ (a : Nodes). version a c.args.node) rest.same in
    let eight : c.loop-i.i ≡ 64 = omega arith in
    let e = partly_end c.args.node c.args.words.now g.C.Noted.changes c.args.me.now.me.0 c.loop-i.me.me.0 rest (subst (λ (z : ℕ). Partly c.args.node z c.args.words.now c.args.me.now.me.0 c.loop-i.me.me.0) eight c.loop-i.invariant.1) c.told-words in
    let view = c.end_change.ensures.view ∙ (ap (λ (z : ℕ). after_end c.args.node (z + 2) g.C.Noted.changes c.loop-i.me.me.0) found ∙ e) in
    ((search rules, search rules, search rules), at_rest_again c.args.node c.args.words.now g.C.Noted.changes c.args.me.now.me.0 _ rest c.told-words c.requires.inside.2 view)

pub returns-clause-versions : goal.returns-clause-versions
returns-clause-versions g c i =
    let rest = c.requires.own.1 in
    let found : c.own_word-version.result ≡ version c.args.me.now.me.0.seen.image c.args.node = c.own_word-version.ensures.word ∙ ap (λ (a : Nodes). version a c.args.node) rest.same in
    let eight : c.loop-i.i ≡ 64 = omega arith in
    let e = partly_end c.args.node c.args.words.now g.C.Noted.changes c.args.me.now.me.0 c.loop-i.me.me.0 rest (subst (λ (z : ℕ). Partly c.args.node z c.args.words.now c.args.me.now.me.0 c.loop-i.me.me.0) eight c.loop-i.invariant.1) c.told-words in
    let view = c.end_change.ensures.view ∙ (ap (λ (z : ℕ). after_end c.args.node (z + 2) g.C.Noted.changes c.loop-i.me.me.0) found ∙ e) in
    let long = c.told-words in
    subst (λ (u : View). version u.seen.image i ≤ version c.args.me.now.me.0.seen.image i + 2) (sym view) (version_renewed c.args.me.now.me.0.seen.image c.args.node c.args.words.now i c.requires.inside.2 (omega arith))

pub returns-clause-size : goal.returns-clause-size
returns-clause-size g c =
    let rest = c.requires.own.1 in
    let found : c.own_word-version.result ≡ version c.args.me.now.me.0.seen.image c.args.node = c.own_word-version.ensures.word ∙ ap (λ (a : Nodes). version a c.args.node) rest.same in
    let eight : c.loop-i.i ≡ 64 = omega arith in
    let e = partly_end c.args.node c.args.words.now g.C.Noted.changes c.args.me.now.me.0 c.loop-i.me.me.0 rest (subst (λ (z : ℕ). Partly c.args.node z c.args.words.now c.args.me.now.me.0 c.loop-i.me.me.0) eight c.loop-i.invariant.1) c.told-words in
    let view = c.end_change.ensures.view ∙ (ap (λ (z : ℕ). after_end c.args.node (z + 2) g.C.Noted.changes c.loop-i.me.me.0) found ∙ e) in
    ap (λ (u : View). length u.seen.image) view ∙ length-set _ _ _
