use Rattle.std.proofs.Common.{◌++◌, sym, ap, ◌∙◌, subst, arith, [], ◌∷◌, append_assoc}
use Rattle.turnstile.specs.Steps.{joined}
use Rattle.turnstile.proofs.Passing.{view_joins}
use Rattle.turnstile.proofs.Gathering.{Gathers, all_front, last_is, one_more}
use Rattle.turnstile.proofs.turnstile.Turnstile.join_all.Goals as goal

pub join_seat-requires : goal.join_seat-requires
join_seat-requires g c = let i = c.loop-pass.invariant in let p = c.in-Some.pass in let is = last_is _ _ _ p c.in-Some.ensures.items i.3 in let s = c.args.self.now.sized.0 in let z = c.into_seat.ensures in (
  i.0 ∙ c.requires.table,
  ap (λ t. t.table_id) z ∙ is.table_is,
  ap (λ t. t.me.1) z ∙ is.holds,
  omega arith,
  view_joins g.M.Told.leads g.M.Told.owner c.args.self.now.table.shared.key c.loop-pass.seat.id c.loop-pass.seat.me.0 c.into_seat.result.id c.into_seat.result.me.0 i.1 (ap (λ t. t.me.0.stage) z ∙ is.stage_is),
)

pub loop-pass-preserved : goal.loop-pass-preserved
loop-pass-preserved g c = let i = c.loop-pass.invariant in let p = c.in-Some.pass in let e = c.in-Some.ensures.items in let is = last_is _ _ _ p e i.3 in let x = c.join_seat.ensures in let t = i.4 in
    let v = ap (λ m. m.0) x.2 ∙ ap (λ s. joined c.loop-pass.seat.me.0 s.me.0) c.into_seat.ensures in (
      x.0 ∙ i.0,
      ap (λ w. w.stage) v ∙ i.1,
      ap (λ m. m.1) x.2 ∙ i.2,
      all_front _ _ _ _ e i.3,
      (p ∷ t.0, t.1 ∙ ap (λ l. l ++ t.0) e ∙ append_assoc c.pop.new.self.items (p ∷ []) t.0, subst (λ w. Gathers c.args.seat.me.0 (p ∷ t.0) w) (sym v) (one_more c.args.seat.me.0 c.loop-pass.seat.me.0 t.0 _ p is t.2)),
    )
