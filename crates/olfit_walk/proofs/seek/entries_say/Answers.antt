use Rattle.std.proofs.Common.{rules, ◌≡◌, ◌≢◌, ◌∙◌, ◌≤◌, ◌<◌, ◌+◌, ◌-◌, ◌*◌, ◌/◌, ℕ, sym, ap, arith, inl}
use Rattle.olfit_rule.specs.declared.view.Moment.{Moment}
use Rattle.olfit_nodes.specs.Nodes.{entry_at, level_of, number_of}
use Rattle.olfit_rule.specs.Tree.{node_of, word_of}
use Rattle.olfit_rule.proofs.Peeking.{peeks_on, seen_still, still_before}
use Rattle.olfit_walk.proofs.Seeks.{upto_found, said_none, said_child, said_value, said_other}
use Rattle.olfit_walk.proofs.seek.entries_say.Goals as goal

pub returns-then-below-eq0-clause-said : goal.returns-then-below-eq0-clause-said
returns-then-below-eq0-clause-said c = λ still.
    let r0 = c.requires.reading.1 in let r1 = c.peek-head.ensures.reading c.requires.reading.0 r0 in let r2 = c.upto-below.ensures.reading c.requires.reading.0 r1 in
    let f = upto_found _ c.args.node _ c.args.key c.peek-head.result c.min-count.result c.upto-below.result _ _ _ r0 c.peek-head.ensures.peeks c.upto-below.ensures.peeks c.peek-head.ensures.word c.requires.few c.min-count.ensures c.upto-below.ensures.upto still in
    said_none _ c.args.key c.upto-below.result c.requires.few c.requires.rises f.1 c.if-below-eq0.true

pub returns-then-head-ne0-clause-said : goal.returns-then-head-ne0-clause-said
returns-then-head-ne0-clause-said c = λ still.
    let r0 = c.requires.reading.1 in let r1 = c.peek-head.ensures.reading c.requires.reading.0 r0 in let r2 = c.upto-below.ensures.reading c.requires.reading.0 r1 in
    let s2 = still_before _ _ _ _ _ r2 c.peek-value.ensures.peeks still in
    let f = upto_found _ c.args.node _ c.args.key c.peek-head.result c.min-count.result c.upto-below.result _ _ _ r0 c.peek-head.ensures.peeks c.upto-below.ensures.peeks c.peek-head.ensures.word c.requires.few c.min-count.ensures c.upto-below.ensures.upto s2 in
    let some : 0 < c.upto-below.result = omega arith in
    let seen2 = seen_still _ _ (peeks_on _ _ _ c.peek-head.ensures.peeks c.upto-below.ensures.peeks) in
    let value : c.peek-value.result ≡ (entry_at (node_of c.args.me.now.me.0.seen.image c.args.node) (c.upto-below.result - 1)).1 = c.peek-value.ensures.word still ∙ ap (λ (t : Moment). word_of t.image c.args.node (9 + 3 * (c.upto-below.result - 1))) seen2 in
    let level = ap (λ (z : ℕ). z / 65536) f.0 in
    ((λ e. c.if-head-ne0.true (level ∙ e)), said_child _ c.args.key c.upto-below.result c.requires.few c.requires.rises f.1 c.peek-value.result some value)

pub returns-then-number_at-key-clause-said : goal.returns-then-number_at-key-clause-said
returns-then-number_at-key-clause-said c = λ still.
    let r0 = c.requires.reading.1 in let r1 = c.peek-head.ensures.reading c.requires.reading.0 r0 in let r2 = c.upto-below.ensures.reading c.requires.reading.0 r1 in
    let r3 = c.peek-value.ensures.reading c.requires.reading.0 r2 in
    let s3 = still_before _ _ _ _ _ r3 c.number_at.ensures.peeks still in
    let s2 = still_before _ _ _ _ _ r2 c.peek-value.ensures.peeks s3 in
    let f = upto_found _ c.args.node _ c.args.key c.peek-head.result c.min-count.result c.upto-below.result _ _ _ r0 c.peek-head.ensures.peeks c.upto-below.ensures.peeks c.peek-head.ensures.word c.requires.few c.min-count.ensures c.upto-below.ensures.upto s2 in
    let some : 0 < c.upto-below.result = omega arith in
    let seen2 = seen_still _ _ (peeks_on _ _ _ c.peek-head.ensures.peeks c.upto-below.ensures.peeks) in
    let value : c.peek-value.result ≡ (entry_at (node_of c.args.me.now.me.0.seen.image c.args.node) (c.upto-below.result - 1)).1 = c.peek-value.ensures.word s3 ∙ ap (λ (t : Moment). word_of t.image c.args.node (9 + 3 * (c.upto-below.result - 1))) seen2 in
    let seen3 = seen_still _ _ (peeks_on _ _ _ (peeks_on _ _ _ c.peek-head.ensures.peeks c.upto-below.ensures.peeks) c.peek-value.ensures.peeks) in
    let number : c.number_at.result ≡ (entry_at (node_of c.args.me.now.me.0.seen.image c.args.node) (c.upto-below.result - 1)).0 = c.number_at.ensures.number still
    ∙ ap (λ (t : Moment). number_of (word_of t.image c.args.node (7 + 3 * (c.upto-below.result - 1))) (word_of t.image c.args.node (8 + 3 * (c.upto-below.result - 1)))) seen3 in
    let level : level_of (node_of c.args.me.now.me.0.seen.image c.args.node) ≡ 0 = sym (ap (λ (z : ℕ). z / 65536) f.0) ∙ search rules in
    (inl level, said_other _ c.args.key c.upto-below.result c.requires.few c.requires.rises f.1 some (λ e. c.if-number_at-key.true (number ∙ e)))

pub returns-clause-said : goal.returns-clause-said
returns-clause-said c = λ still.
    let r0 = c.requires.reading.1 in let r1 = c.peek-head.ensures.reading c.requires.reading.0 r0 in let r2 = c.upto-below.ensures.reading c.requires.reading.0 r1 in
    let r3 = c.peek-value.ensures.reading c.requires.reading.0 r2 in
    let s3 = still_before _ _ _ _ _ r3 c.number_at.ensures.peeks still in
    let s2 = still_before _ _ _ _ _ r2 c.peek-value.ensures.peeks s3 in
    let f = upto_found _ c.args.node _ c.args.key c.peek-head.result c.min-count.result c.upto-below.result _ _ _ r0 c.peek-head.ensures.peeks c.upto-below.ensures.peeks c.peek-head.ensures.word c.requires.few c.min-count.ensures c.upto-below.ensures.upto s2 in
    let some : 0 < c.upto-below.result = omega arith in
    let seen2 = seen_still _ _ (peeks_on _ _ _ c.peek-head.ensures.peeks c.upto-below.ensures.peeks) in
    let value : c.peek-value.result ≡ (entry_at (node_of c.args.me.now.me.0.seen.image c.args.node) (c.upto-below.result - 1)).1 = c.peek-value.ensures.word s3 ∙ ap (λ (t : Moment). word_of t.image c.args.node (9 + 3 * (c.upto-below.result - 1))) seen2 in
    let seen3 = seen_still _ _ (peeks_on _ _ _ (peeks_on _ _ _ c.peek-head.ensures.peeks c.upto-below.ensures.peeks) c.peek-value.ensures.peeks) in
    let number : c.number_at.result ≡ (entry_at (node_of c.args.me.now.me.0.seen.image c.args.node) (c.upto-below.result - 1)).0 = c.number_at.ensures.number still
    ∙ ap (λ (t : Moment). number_of (word_of t.image c.args.node (7 + 3 * (c.upto-below.result - 1))) (word_of t.image c.args.node (8 + 3 * (c.upto-below.result - 1)))) seen3 in
    let level : level_of (node_of c.args.me.now.me.0.seen.image c.args.node) ≡ 0 = sym (ap (λ (z : ℕ). z / 65536) f.0) ∙ search rules in
    (inl level, said_value _ c.args.key c.upto-below.result c.requires.few c.requires.rises f.1 c.peek-value.result some (sym number ∙ search rules) value)
