use Rattle.std.proofs.Common.{◌≡◌, ◌∙◌, ◌+◌, ℕ, arith, subst, sym}
use Rattle.olfit_change.specs.Room.{IsOwed, IsPaid}
use Rattle.olfit_change.proofs.keys.put.Goals as goal

pub returns-in-Some-clause-used : goal.returns-in-Some-clause-used
returns-in-Some-clause-used c =
    let n = c.link_above.ensures.used in let e = n.2 in let one = c.in-Some.ensures.left.0 in
    (n.0 + 1, c.in-Some.ensures.left.1.needs n.0 n.1, omega (arith, e, one))

pub returns-in-Some-clause-paid : goal.returns-in-Some-clause-paid
returns-in-Some-clause-paid c keys paid =
    c.link_above.ensures.paid (keys + 1) (subst (λ (u : ℕ). IsOwed u (keys + 1) c.put_leaf.new.me.me.0.seen) (sym c.in-Some.ensures.left.0) (c.in-Some.ensures.left.1.owed keys paid))

pub returns-in_default-clause-paid : goal.returns-in_default-clause-paid
returns-in_default-clause-paid c keys paid =
    subst (λ (u : ℕ). IsPaid u (keys + 1) c.put_leaf.new.me.me.0.seen) (sym c.in_default.ensures.whole.0) (c.in_default.ensures.whole.1.paid keys paid)
