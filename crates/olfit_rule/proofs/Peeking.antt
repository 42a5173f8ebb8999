-- Loads of the words of a node that is being read.
use Rattle.std.proofs.Common.{◌≡◌, ℕ, ◌+◌, ◌%◌, ◌≤◌, ◌<◌, ◌^◌, ◌*◌, List, length, get_or, refl, sym, ap, ◌∙◌, subst, arith, le_refl, false}
use Rattle.atomic_table.specs.Seated.{TableId}
use Rattle.atomic_table.specs.declared.shared.Seat.{Seat}
use Rattle.olfit_rule.specs.declared.view.Moment.{Moment}
use Rattle.olfit_rule.specs.declared.view.View.{View}
use Rattle.olfit_rule.specs.Maps.{StartsWith}
use Rattle.olfit_rule.specs.Tree.{node_of, version, Good}
use Rattle.olfit_rule.specs.Rule.{Later, IsSame, Follows, IsReading, Peeks, IsStill}

pub peeks_none : (p : Seat ℕ View) → Peeks p p
peeks_none p = record { same = (refl, refl, refl); view = refl; later = le_refl _ }

pub peeks_on : (p q r : Seat ℕ View) → Peeks p q → Peeks q r → Peeks p r
peeks_on p q r a b = let x = a.later in let y = b.later in record {
  same = (b.same.0 ∙ a.same.0, b.same.1 ∙ a.same.1, b.same.2 ∙ a.same.2);
  view = b.view ∙ ap (λ (u : View). record u { last = r.me.0.last }) a.view;
  later = omega (arith, x, y);
}

pub seen_still : (p q : Seat ℕ View) → Peeks p q → q.me.0.seen ≡ p.me.0.seen
seen_still p q a = ap (λ (u : View). u.seen) a.view

pub reading_on : (table : TableId) (node first : ℕ) (p q : Seat ℕ View) → IsReading table node first p → Peeks p q → IsReading table node first q
reading_on table node first p q r a =
    let seen : p.me.0.seen ≡ q.me.0.seen = sym (seen_still p q a) in let x = r.since in let y = a.later in record {
      table_is = a.same.0 ∙ r.table_is;
      inside = r.inside;
      reads = ap (λ (u : View). u.writes) a.view ∙ r.reads;
      at = (ap (λ (u : View). u.node) a.view ∙ r.at.0, subst (λ (t : Moment). node < length t.image) seen r.at.1);
      even = (r.even.0, subst (λ (t : Moment). version t.image node ≡ first) seen r.even.1);
      wide = subst (λ (t : Moment). length (node_of t.image node) ≡ 64) seen r.wide;
      since = omega (arith, x, y);
    }

-- what still stands at a load stood before it
pub still_before : (table : TableId) (node first : ℕ) (p q : Seat ℕ View) → IsReading table node first p → Peeks p q → IsStill q.me.0 → IsStill p.me.0
still_before table node first p q r a still =
    let same : version q.me.0.seen.image q.me.0.node ≡ version p.me.0.seen.image p.me.0.node = ap (λ (u : View). version u.seen.image u.node) a.view in
    let here : version p.me.0.seen.image p.me.0.node ≡ first = ap (λ (n : ℕ). version p.me.0.seen.image n) r.at.0 ∙ r.even.1 in
    let x = r.since in let y = a.later in omega (arith, same, here, x, y, still)

-- the version found last is the first one: all still stands
pub still_as_first : (table : TableId) (node first : ℕ) (p : Seat ℕ View) → IsReading table node first p → p.me.0.last ≡ first → IsStill p.me.0
still_as_first table node first p r is = is ∙ sym (ap (λ (n : ℕ). version p.me.0.seen.image n) r.at.0 ∙ r.even.1)

pub follows_peeks : (p q r : Seat ℕ View) → Follows p q → Peeks q r → Follows p r
follows_peeks p q r f a =
    let seen : q.me.0.seen ≡ r.me.0.seen = sym (seen_still q r a) in let x = f.loads in let y = ap (λ (u : View). u.loads) a.view in record {
      table = a.same.0 ∙ f.table;
      id = a.same.1 ∙ f.id;
      slots = a.same.2 ∙ f.slots;
      writes = ap (λ (u : View). u.writes) a.view ∙ f.writes;
      base = ap (λ (u : View). u.base) a.view ∙ f.base;
      later = subst (λ (t : Moment). Later p.me.0.seen t) seen f.later;
      told = subst (λ (t : Moment). StartsWith t.log p.me.0.told) seen f.told;
      kept = ap (λ (u : View). u.told) a.view ∙ f.kept;
      loads = omega (arith, x, y);
    }

pub good_still : (q r : Seat ℕ View) → Peeks q r → Good q.me.0.base q.me.0.seen → Good r.me.0.base r.me.0.seen
good_still q r a good = subst (λ (u : View). Good u.base u.seen) (sym a.view) good
