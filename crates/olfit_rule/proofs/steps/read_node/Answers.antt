use Rattle.std.proofs.Common.{rules, ◌≡◌, ℕ, ◌+◌, ◌∙◌, ap, refl, sym, arith, inl, inr}
use Rattle.olfit_rule.specs.declared.view.View.{View}
use Rattle.olfit_rule.specs.Tree.{node_of, version}
use Rattle.olfit_rule.proofs.Peeking.{peeks_on, follows_peeks, good_still, still_as_first, still_before}
use Rattle.olfit_rule.proofs.steps.read_node.Goals as goal

pub returns-then-first-eq1-clause-loads : goal.returns-then-first-eq1-clause-loads
returns-then-first-eq1-clause-loads c = c.begin-first.ensures.begun.loads

pub returns-then-first-eq1-clause-read : goal.returns-then-first-eq1-clause-read
returns-then-first-eq1-clause-read c = let b = c.begin-first.ensures.begun in (b.at.0, b.at.1, inl (search rules, refl))

pub gather-requires : goal.gather-requires
gather-requires c = record { reading = (c.begin-first.result, c.begin-first.ensures.reading (search rules)) }

pub peek-second-requires-clause-reading : goal.peek-second-requires-clause-reading
peek-second-requires-clause-reading c = (c.begin-first.result, c.gather.ensures.reading c.begin-first.result (c.begin-first.ensures.reading (search rules)))

pub returns-clause-seat : goal.returns-clause-seat
returns-clause-seat c = follows_peeks _ _ _ c.begin-first.ensures.seat (peeks_on _ _ _ c.gather.ensures.peeks c.peek-second.ensures.peeks)

pub returns-clause-good : goal.returns-clause-good
returns-clause-good c = good_still _ _ (peeks_on _ _ _ c.gather.ensures.peeks c.peek-second.ensures.peeks) c.begin-first.ensures.good

pub returns-clause-loads : goal.returns-clause-loads
returns-clause-loads c = ap (λ (u : View). u.loads) (peeks_on _ _ _ c.gather.ensures.peeks c.peek-second.ensures.peeks).view ∙ c.begin-first.ensures.begun.loads

pub returns-clause-read : goal.returns-clause-read
returns-clause-read c =
    let before = c.begin-first.ensures.reading (search rules) in
    let after = c.peek-second.ensures.reading c.begin-first.result (c.gather.ensures.reading c.begin-first.result before) in
    let equal : c.peek-second.result ≡ c.begin-first.result = search rules in
    let still = still_as_first _ _ _ _ after (sym (c.peek-second.ensures.version refl) ∙ equal) in
    c.gather.ensures.words (still_before _ _ _ _ _ (c.gather.ensures.reading c.begin-first.result before) c.peek-second.ensures.peeks still)
    ∙ ap (λ (u : View). node_of u.seen.image c.args.node) (sym (peeks_on _ _ _ c.gather.ensures.peeks c.peek-second.ensures.peeks).view)

pub returns-then-second-first-clause-seat : goal.returns-then-second-first-clause-seat
returns-then-second-first-clause-seat c = follows_peeks _ _ _ c.begin-first.ensures.seat (peeks_on _ _ _ c.gather.ensures.peeks c.peek-second.ensures.peeks)

pub returns-then-second-first-clause-good : goal.returns-then-second-first-clause-good
returns-then-second-first-clause-good c = good_still _ _ (peeks_on _ _ _ c.gather.ensures.peeks c.peek-second.ensures.peeks) c.begin-first.ensures.good

pub returns-then-second-first-clause-loads : goal.returns-then-second-first-clause-loads
returns-then-second-first-clause-loads c = ap (λ (u : View). u.loads) (peeks_on _ _ _ c.gather.ensures.peeks c.peek-second.ensures.peeks).view ∙ c.begin-first.ensures.begun.loads

pub returns-then-second-first-clause-read : goal.returns-then-second-first-clause-read
returns-then-second-first-clause-read c =
    let a = peeks_on _ _ _ c.gather.ensures.peeks c.peek-second.ensures.peeks in
    let b = c.begin-first.ensures.begun in (
      ap (λ (u : View). u.node) a.view ∙ b.at.0,
      sym (c.peek-second.ensures.version refl),
      inr ((λ e. c.if-second-first.true (sym e)), ap (λ (u : View). version u.seen.image c.args.node) a.view ∙ b.even (search rules)),
    )
