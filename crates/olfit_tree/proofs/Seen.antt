-- A reader keeps what it has seen through several tries.
use Rattle.std.proofs.Common.{◌≡◌, ◌∙◌, ◌≤◌, List, subst, refl, arith, le_refl}
use Rattle.olfit_rule.specs.declared.view.Change.{Change}
use Rattle.olfit_rule.specs.Maps.{StartsWith}
use Rattle.olfit_rule.proofs.Lasting.{starts_on, starts_same}
use Rattle.olfit_walk.specs.Looks.{Reading, HasSeen}

-- the same reader, which has seen no less
pub record Goes (a b : Reading) : Type 0 where
  pub same : (b.table ≡ a.table) × (b.base ≡ a.base) × (b.told ≡ a.told)
  pub later : StartsWith b.seen.log a.seen.log
  pub loads : a.loads ≤ b.loads

pub goes_none : (a : Reading) → Goes a a
goes_none a = record { same = (refl, refl, refl); later = starts_same a.seen.log; loads = le_refl _ }

pub goes_on : (a b c : Reading) → Goes a b → HasSeen b c → Goes a c
goes_on a b c g s = record {
  same = (s.same.0 ∙ g.same.0, s.same.1 ∙ g.same.1, s.same.2 ∙ g.same.2);
  later = starts_on a.seen.log b.seen.log c.seen.log g.later s.later;
  loads = let x = g.loads in let y = s.loaded in omega (arith, x, y);
}

pub seen_on : (a b c : Reading) → Goes a b → HasSeen b c → HasSeen a c
seen_on a b c g s = record {
  same = (s.same.0 ∙ g.same.0, s.same.1 ∙ g.same.1, s.same.2 ∙ g.same.2);
  later = starts_on a.seen.log b.seen.log c.seen.log g.later s.later;
  told = subst (λ (l : List Change). StartsWith c.seen.log l) g.same.2 s.told;
  loaded = let x = g.loads in let y = s.loaded in omega (arith, x, y);
}
