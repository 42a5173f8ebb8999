use Rattle.std.proofs.Common.{sym, ◌∙◌, subst, refl}
use mathlib.Core.Option.{some-injective}
use Rattle.std.specs.Option.{IsSome}
use Rattle.turnstile.specs.Whole.{Whole}
use Rattle.turnstile.proofs.Finishing.{ends}
use Rattle.turnstile.proofs.Values.{some_same}
use Rattle.turnstile.proofs.turnstile.Turnstile.end.Goals as goal

pub unwrap-requires : goal.unwrap-requires
unwrap-requires g c = let q = c.requires.seat in let a = c.requires.all in
    let e = ends g.M.Told.leads g.M.Told.owner c.args.self.table.shared.key c.args.seat.id c.args.seat.me.0 _ _ q.1 a.0 a.1 c.close_with-closed.ensures.values.2 in
    subst IsSome (some-injective _ _ (sym e.1 ∙ c.take-value.ensures.value)) refl

pub returns : goal.returns
returns g c = let q = c.requires.seat in let a = c.requires.all in let u = c.unwrap.ensures in
    let e = ends g.M.Told.leads g.M.Told.owner c.args.self.table.shared.key c.args.seat.id c.args.seat.me.0 _ _ q.1 a.0 a.1 c.close_with-closed.ensures.values.2 in
    let is = some-injective _ _ (sym e.1 ∙ c.take-value.ensures.value) in
    (e.2.0, subst (λ m. Whole g.M.Told.leads g.M.Told.owner c.args.self.table.shared.key c.args.seat.me.0 e.2.0 m) (some_same _ _ (is ∙ u)) e.2.1)
