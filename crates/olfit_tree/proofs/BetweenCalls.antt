-- What the writer keeps after a change.
use Rattle.std.proofs.Common.{◌≡◌, ◌∙◌, ◌<◌, ◌≤◌, ◌%◌, ◌+◌, ◌∷◌, ◌++◌, [], ℕ, true, false, List, length, Option, Some, None, refl, subst, sym, ap, length-append}
use Rattle.std.specs.Option.{is_some}
use Rattle.std.proofs.lemmas.Bool.{true≢false}
use Rattle.atomic_table.specs.Seated.{TableId}
use Rattle.atomic_table.specs.declared.shared.Seat.{Seat}
use Rattle.olfit_rule.specs.declared.view.Change.{Change}
use Rattle.olfit_rule.specs.declared.view.Change.TheVariants.{Drop}
use Rattle.olfit_rule.specs.declared.view.Moment.{Moment}
use Rattle.olfit_rule.specs.declared.view.View.{View}
use Rattle.olfit_rule.specs.Tree.{node_of, version, Good}
use Rattle.olfit_nodes.specs.Nodes.{Entry}
use Rattle.olfit_change.specs.Room.{IsPaid}
use Rattle.olfit_change.specs.States.{TakesFromLog, IsBetweenCalls, IsFreeFrom, IsTold, IsClean, HasLowVersions, Stays}

pub works_own : (table : TableId) (nodes used : ℕ) (q : Seat ℕ View) → IsBetweenCalls table nodes used q → IsBetweenCalls q.table_id nodes used q
works_own table nodes used q w = subst (λ (t : TableId). IsBetweenCalls t nodes used q) (sym w.ready.table_is) w

pub one_longer : (old new : List Change) (c : Change) → new ≡ old ++ c ∷ [] → length new ≡ length old + 1
one_longer old new c is = ap (λ (l : List Change). length l) is ∙ length-append old (c ∷ [])

pub one_dropped : (key : ℕ) (value : Option ℕ) (old new : List Change) → TakesFromLog key value old new → is_some value ≡ true → length new ≡ length old + 1
one_dropped key None old new takes there = absurd (true≢false (sym there))
one_dropped key (Some v) old new takes there = one_longer old new (Drop key) takes

pub is_none : (o : Option ℕ) → is_some o ≡ false → o ≡ None
is_none None is = refl
is_none (Some x) is = absurd (true≢false is)

-- a hand that knows the same of the nodes and of the map
pub record SameMap (p q : Seat ℕ View) : Type 0 where
  pub table : q.table_id ≡ p.table_id
  pub writes : q.me.0.writes ≡ p.me.0.writes
  pub words : q.me.0.words ≡ p.me.0.words
  pub base : q.me.0.base ≡ p.me.0.base
  pub seen : q.me.0.seen ≡ p.me.0.seen

pub same_by : (p q : Seat ℕ View) (v : View) → q.table_id ≡ p.table_id → q.me.0 ≡ v → v.writes ≡ p.me.0.writes → v.words ≡ p.me.0.words → v.base ≡ p.me.0.base → v.seen ≡ p.me.0.seen → SameMap p q
same_by p q v table is writes words base seen = record {
  table = table;
  writes = ap (λ (w : View). w.writes) is ∙ writes;
  words = ap (λ (w : View). w.words) is ∙ words;
  base = ap (λ (w : View). w.base) is ∙ base;
  seen = ap (λ (w : View). w.seen) is ∙ seen;
}

-- a call that only looks
pub same_looked : (p q : Seat ℕ View) → Stays p q → SameMap p q
same_looked p q s = same_by p q p.me.0 s.0.0 s.1 refl refl refl refl

pub same_twice : (p q r : Seat ℕ View) → SameMap p q → SameMap q r → SameMap p r
same_twice p q r a b = record {
  table = b.table ∙ a.table;
  writes = b.writes ∙ a.writes;
  words = b.words ∙ a.words;
  base = b.base ∙ a.base;
  seen = b.seen ∙ a.seen;
}

-- what the writer keeps, of its hand and of its own counts
pub record Stands (nodes used built inserts changes : ℕ) (q : Seat ℕ View) : Type 0 where
  pub works : IsBetweenCalls q.table_id nodes used q
  pub counted : changes ≡ length q.me.0.seen.log
  pub rows : built ≡ length q.me.0.base
  pub added : inserts ≤ length q.me.0.seen.log
  pub paid : IsPaid used (built + inserts) q.me.0.seen

pub stands : (nodes used built inserts changes : ℕ) (p q : Seat ℕ View) → IsBetweenCalls p.table_id nodes used p → changes ≡ length p.me.0.seen.log → built ≡ length p.me.0.base → inserts ≤ length p.me.0.seen.log → IsPaid used (built + inserts) p.me.0.seen
    → SameMap p q → Stands nodes used built inserts changes q
stands nodes used built inserts changes p q works counted rows added paid k = record {
  works = record {
    ready = record {
      table_is = refl;
      rest = record {
        writes = k.writes ∙ works.ready.rest.writes;
        same = k.words ∙ (works.ready.rest.same ∙ ap (λ (t : Moment). t.image) (sym k.seen));
        wide = subst (λ (t : Moment). (i : ℕ) → i < length t.image → length (node_of t.image i) ≡ 64) (sym k.seen) works.ready.rest.wide;
        even = subst (λ (t : Moment). (i : ℕ) → i < length t.image → version t.image i % 2 ≡ 0) (sym k.seen) works.ready.rest.even;
      };
      good = subst (λ (b : List Entry). Good b q.me.0.seen) (sym k.base) (subst (Good p.me.0.base) (sym k.seen) works.ready.good);
      count = subst (λ (t : Moment). length t.image ≡ nodes) (sym k.seen) works.ready.count;
      sized = (works.ready.sized.0, works.ready.sized.1, ap (λ (t : TableId). t.words) k.table ∙ works.ready.sized.2);
    };
    free = subst (IsFreeFrom used) (sym k.seen) works.free;
    told = subst IsTold (sym k.seen) works.told;
    clean = subst IsClean (sym k.seen) works.clean;
    versions = subst HasLowVersions (sym k.seen) works.versions;
  };
  counted = subst (λ (t : Moment). changes ≡ length t.log) (sym k.seen) counted;
  rows = subst (λ (b : List Entry). built ≡ length b) (sym k.base) rows;
  added = subst (λ (t : Moment). inserts ≤ length t.log) (sym k.seen) added;
  paid = subst (IsPaid used (built + inserts)) (sym k.seen) paid;
}
