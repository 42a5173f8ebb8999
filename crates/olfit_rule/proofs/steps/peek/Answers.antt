use Rattle.std.proofs.Common.{rules, ◌≡◌, ◌∙◌, ℕ, ◌+◌, ◌*◌, ◌%◌, ◌<◌, refl, sym, ap, subst, arith, length}
use Rattle.olfit_rule.specs.declared.view.View.{View}
use Rattle.olfit_rule.specs.Tree.{version, word_of}
use Rattle.olfit_rule.specs.Rule.{Peeks}
use Rattle.olfit_rule.proofs.Keeps.{peeks}
use Rattle.olfit_rule.proofs.Peeking.{reading_on}
use Rattle.olfit_rule.proofs.steps.peek.Goals as goal

pub load-requires : goal.load-requires
load-requires c =
    let r = c.requires.reading.1 in
    (r.table_is, search rules, peeks _ _ _ c.args.node c.args.word r.at.0 r.at.1 c.requires.inside r.reads)

pub returns-clause-peeks : goal.returns-clause-peeks
returns-clause-peeks c =
    let r = c.requires.reading.1 in
    let p = c.load.ensures.2.1 c.args.word (ap (λ (n : ℕ). n * 64 + c.args.word) (sym r.at.0)) c.requires.inside in
    record { same = (c.load.ensures.0, c.load.ensures.1, c.load.ensures.2.0); view = p.same; later = p.later }

pub returns-clause-reading : goal.returns-clause-reading
returns-clause-reading c =
    let r = c.requires.reading.1 in
    let p = c.load.ensures.2.1 c.args.word (ap (λ (n : ℕ). n * 64 + c.args.word) (sym r.at.0)) c.requires.inside in
    λ first reading. reading_on _ _ first _ _ reading (record { same = (c.load.ensures.0, c.load.ensures.1, c.load.ensures.2.0); view = p.same; later = p.later })

pub returns-clause-word : goal.returns-clause-word
returns-clause-word c =
    let r = c.requires.reading.1 in
    let p = c.load.ensures.2.1 c.args.word (ap (λ (n : ℕ). n * 64 + c.args.word) (sym r.at.0)) c.requires.inside in
    λ still. subst (λ (n : ℕ). c.load.result ≡ word_of c.args.me.now.me.0.seen.image n c.args.word) r.at.0
    (p.found (subst (λ (n : ℕ). version c.args.me.now.me.0.seen.image n % 2 ≡ 0) (sym r.at.0) (ap (λ (z : ℕ). z % 2) r.even.1 ∙ r.even.0)) (still ∙ ap (λ (u : View). version u.seen.image u.node) p.same))

pub returns-clause-version : goal.returns-clause-version
returns-clause-version c =
    let r = c.requires.reading.1 in
    let p = c.load.ensures.2.1 c.args.word (ap (λ (n : ℕ). n * 64 + c.args.word) (sym r.at.0)) c.requires.inside in p.check
