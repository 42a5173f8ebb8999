-- What lasts holds from moment to moment.
use Rattle.std.proofs.Common.{List, [], ◌≡◌, ◌∙◌, ◌<◌, ◌++◌, length, refl, sym, ap, arith, le_refl, append_assoc, append-nil}
use Rattle.olfit_rule.specs.declared.view.Change.{Change}
use Rattle.olfit_rule.specs.declared.view.Moment.{Moment}
use Rattle.olfit_rule.specs.Maps.{StartsWith}
use Rattle.olfit_rule.specs.Tree.{version, Lasts}
use Rattle.olfit_rule.specs.Rule.{Later, no_moment}

pub starts_same : (l : List Change) → StartsWith l l
starts_same l = ([], sym (append-nil l))

pub starts_on : (l m n : List Change) → StartsWith m l → StartsWith n m → StartsWith n l
starts_on l m n p q = (p.0 ++ q.0, q.1 ∙ (ap (λ x. x ++ q.0) p.1 ∙ append_assoc l p.0 q.0))

pub lasts_same : (a : Moment) → Lasts a a
lasts_same a = record { at = λ level i h. h; low = λ level i h. refl }

pub lasts_on : (a b c : Moment) → Lasts a b → Lasts b c → Lasts a c
lasts_on a b c p q = record { at = λ level i h. q.at level i (p.at level i h); low = λ level i h. q.low level i (p.at level i h) ∙ p.low level i h }

pub lasts_none : (b : Moment) → Lasts no_moment b
lasts_none b = record { at = λ level i h. let x = h.0 in absurd (omega arith); low = λ level i h. let x = h.0 in absurd (omega arith) }

pub later_same : (a : Moment) → Later a a
later_same a = record { count = λ _. refl; begins = starts_same a.log; older = λ i _. le_refl _; same = λ i _ _. refl; lasts = lasts_same a }

pub later_none : (b : Moment) → Later no_moment b
later_none b = record { count = λ h. absurd (omega arith); begins = (b.log, refl); older = λ i h. absurd (omega arith); same = λ i h _. absurd (omega arith); lasts = lasts_none b }

pub later_on : (a b c : Moment) → Later a b → Later b c → Later a c
later_on a b c p q = record {
  count = λ h. let x = p.count h in let y = q.count (omega arith) in omega arith;
  begins = starts_on a.log b.log c.log p.begins q.begins;
  older = λ i h. let k = p.count (omega arith) in let x = p.older i h in let y = q.older i (omega arith) in omega arith;
  same = λ i h e. let k = p.count (omega arith) in let h' : i < length b.image = omega arith in let x = p.older i h in let y = q.older i h' in
      let f : version a.image i ≡ version b.image i = omega arith in let g : version b.image i ≡ version c.image i = omega arith in p.same i h f ∙ q.same i h' g;
  lasts = lasts_on a b c p.lasts q.lasts;
}
