use Rattle.std.proofs.Common.{◌≡◌, ◌++◌, ◌∷◌, sym, ap, ◌∙◌, subst, refl}
use Rattle.std.specs.Prelude.{Some}
use Rattle.turnstile.specs.History.{of_pass, tagged}
use Rattle.turnstile.specs.Steps.{IsOne, number_of, first_mine}
use Rattle.turnstile.proofs.Histories.{of_mine}
use Rattle.turnstile.proofs.Values.{at_hand_is}
use Rattle.turnstile.proofs.turnstile.Turnstile.stop.Goals as goal

pub serve-requires-clause-seat : goal.serve-requires-clause-seat
serve-requires-clause-seat g c = let p = c.requires.pass in (p.table_is, c.args.self.now.sized.0, p.stage_is)

pub serve-requires-clause-pass : goal.serve-requires-clause-pass
serve-requires-clause-pass g c = let p = c.requires.pass in (p.one, λ k e m at own. sym p.number_is ∙ c.requires.may k e m at own)

pub serve-requires-clause-value : goal.serve-requires-clause-value
serve-requires-clause-value g c = let p = c.requires.pass in let v = c.requires.value in
    (v.0, at_hand_is c.args.pass.now.seat.me.1 v.0 v.1 ∙ ap (λ l. (0, Some v.0) ∷ l) p.holds, v.2)

pub returns-clause-pass : goal.returns-clause-pass
returns-clause-pass g c = let x = c.serve.ensures in let p = c.requires.pass in let v = c.args.pass.now.seat.me.0 in let es = g.W.Adds.added in let e = ap (λ m. m.0) x.1 in (
  record {
    table_is = x.0 ∙ p.table_is;
    started = ap (λ w. w.start) e ∙ p.started;
    stage_is = ap (λ w. w.stage) e;
    holds = ap (λ m. m.1) x.1;
    one = subst (λ w. IsOne w.parts) (sym e) refl;
    number_is = p.number_is ∙ sym (ap (λ w. number_of w.parts) e);
    left_is = p.left_is ∙ sym (ap (λ w. w.left) e);
    made_is = p.made_is ∙ sym (ap (λ w. w.made) e);
    knows = subst (λ w. of_pass c.args.pass.now.number w.seen ≡ first_mine w.parts) (sym e)
        (subst (λ n. of_pass c.args.pass.now.number (v.seen ++ tagged n es) ≡ first_mine v.parts ++ es) p.number_is (of_mine c.args.pass.now.number v.seen es ∙ ap (λ t. t ++ es) p.knows));
  },
  (refl, refl, refl),
)
