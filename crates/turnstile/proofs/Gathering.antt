-- All passes, put together one after the other.
use Rattle.std.proofs.Common.{◌≡◌, ⊎_elim, ℕ, zero, suc, ◌+◌, ◌<◌, ◌≤◌, eqb, eq-eqb, cond, List, [], ◌∷◌, ◌++◌, length, sym, refl, ap, ◌∙◌, subst, arith}
use Rattle.std.specs.Prelude.{Option, Bool, true, false}
use mathlib.Core.Option.{some, some-injective, some-ne-none}
use lib.ListN.{get_elem?}
use Rattle.atomic_table.proofs.Lists.{at_longer, at_snoc, at_last}
use Rattle.turnstile.specs.declared.view.View.{View}
use Rattle.turnstile.specs.declared.pass.PassWith.{PassWith}
use Rattle.turnstile.specs.History.{times, mine_of}
use Rattle.turnstile.specs.Steps.{joined}
use Rattle.turnstile.specs.Whole.{Hears, Whole}
use Rattle.turnstile.specs.Passes.{Name, IsPass, ArePasses, parts_of, made_by, AllTold, IsWhole, number, mine, seen, made, view}
use Rattle.turnstile.proofs.Finishing.{hears_more, hears_new}

module _ {E : Type 0} where
  skip : (b : Bool) (es r : List E) (t : ℕ) → cond {A = ℕ} b 1 0 + t ≡ 1 → 0 < t → cond b es r ≡ r
  skip true es r t e h = absurd (omega arith)
  skip false es r t e h = refl

module _ {M E : Type 0} where
  pub all_front : (t : Name M) (ps qs all : List (PassWith M E)) → all ≡ ps ++ qs → ArePasses t all → ArePasses t ps
  all_front t ps qs all e are k p at = are k p (subst (λ l. get_elem? l k ≡ some p) (sym e) (at_longer ps qs k p at))

  pub last_is : (t : Name M) (ps all : List (PassWith M E)) (q : PassWith M E) → all ≡ ps ++ q ∷ [] → ArePasses t all → IsPass t q
  last_is t ps all q e are = are (length ps) q (subst (λ l. get_elem? l (length ps) ≡ some q) (sym e) (at_last ps q (length ps) refl))

  pub one_part : (t : Name M) (p : PassWith M E) → IsPass t p → (view p).parts ≡ (number p, mine p) ∷ []
  one_part t p is = is.one ∙ ap (λ n. (n, mine p) ∷ []) (sym is.number_is)

  -- what a seat knows that has taken in the passes ps, beginning with the view v
  pub record Gathers (v : View M E) (ps : List (PassWith M E)) (w : View M E) : Type 0 where
    pub parts : w.parts ≡ parts_of ps ++ v.parts
    pub made : w.made ≡ made_by ps + v.made
    pub told : AllTold ps w
    pub kept : (h : List (ℕ × E)) → Hears v h → Hears w h

  pub gathers_none : (v : View M E) → Gathers v [] v
  gathers_none v = record { parts = refl; made = omega arith; told = λ k p e. absurd (some-ne-none p (sym e)); kept = λ h x. x }

  told_more : (w : View M E) (p : PassWith M E) (ps : List (PassWith M E)) → AllTold ps w → (k : ℕ) (q : PassWith M E) → get_elem? (p ∷ ps) k ≡ some q → Hears (joined w (view p)) (seen q)
  told_more w p ps told zero q e = subst (λ x. Hears (joined w (view p)) (seen x)) (some-injective p q e) (hears_new w (view p))
  told_more w p ps told (suc k) q e = hears_more w (view p) (seen q) (told k q e)

  pub one_more : (v w : View M E) (ps : List (PassWith M E)) (t : Name M) (p : PassWith M E) → IsPass t p → Gathers v ps w → Gathers v (p ∷ ps) (joined w (view p))
  one_more v w ps t p is g = record {
    parts = ap (λ x. x ++ w.parts) (one_part t p is) ∙ ap (λ x. (number p, mine p) ∷ x) g.parts;
    made = let a = g.made in let b = is.made_is in omega arith;
    told = told_more w p ps g.told;
    kept = λ h x. hears_more w (view p) h (g.kept h x);
  }

  pub parts_append : (ps qs : List (PassWith M E)) → parts_of (ps ++ qs) ≡ parts_of ps ++ parts_of qs
  parts_append [] qs = refl
  parts_append (p ∷ ps) qs = ap (λ x. (number p, mine p) ∷ x) (parts_append ps qs)

  pub made_append : (ps qs : List (PassWith M E)) → made_by (ps ++ qs) ≡ made_by ps + made_by qs
  made_append [] qs = omega arith
  made_append (p ∷ ps) qs = let e = made_append ps qs in let a : ℕ = made_by (ps ++ qs) in let b : ℕ = made_by ps in let c : ℕ = made_by qs in let e' : a ≡ b + c = e in let d : ℕ = p.made in let goal : d + a ≡ (d + b) + c = omega arith in goal

  pub parts_length : (ps : List (PassWith M E)) → length (parts_of ps) ≡ length ps
  parts_length [] = refl
  parts_length (p ∷ ps) = ap suc (parts_length ps)

  pub none_left : (ps : List (PassWith M E)) → length ps ≡ 0 → ps ≡ []
  none_left [] e = refl
  none_left (p ∷ ps) e = absurd (omega arith)

  pub sums : (ps all : List (PassWith M E)) (q : PassWith M E) (v : View M E) (t : Name M) → all ≡ ps ++ q ∷ [] → IsPass t q → v.parts ≡ parts_of ps ++ (view q).parts → v.made ≡ made_by ps + (view q).made
      → (v.parts ≡ parts_of all) × (v.made ≡ made_by all)
  sums ps all q v t e is parts made = (
    parts ∙ ap (λ x. parts_of ps ++ x) (one_part t q is) ∙ sym (parts_append ps (q ∷ [])) ∙ ap parts_of (sym e),
    (let a = made_append ps (q ∷ []) in let b = is.made_is in let c : v.made ≡ made_by (ps ++ q ∷ []) = omega arith in c ∙ ap made_by (sym e)),
  )

  some_times : (ps : List (PassWith M E)) (k : ℕ) (p : PassWith M E) → get_elem? ps k ≡ some p → 0 < times (number p) (parts_of ps)
  some_times [] k p e = absurd (some-ne-none p (sym e))
  some_times (q ∷ qs) zero p e = subst (λ x. 0 < times (number x) (parts_of (q ∷ qs))) (some-injective q p e) (let b = eq-eqb (number q) (number q) refl in let t : ℕ = times (number q) (parts_of qs) in subst (λ c. 0 < cond {A = ℕ} c 1 0 + t) (sym b) (omega arith))
  some_times (q ∷ qs) (suc k) p e = let h = some_times qs k p e in let a : ℕ = cond (eqb (number q) (number p)) 1 0 in let t : ℕ = times (number p) (parts_of qs) in let h' : 0 < t = h in let goal : 0 < a + t = omega arith in goal

  mine_at : (ps : List (PassWith M E)) (k : ℕ) (p : PassWith M E) → get_elem? ps k ≡ some p → times (number p) (parts_of ps) ≡ 1 → mine_of (number p) (parts_of ps) ≡ mine p
  mine_at [] k p e one = absurd (some-ne-none p (sym e))
  mine_at (q ∷ qs) zero p e one = let same = some-injective q p e in subst (λ x. mine_of (number x) (parts_of (q ∷ qs)) ≡ mine x) same (ap (λ c. cond c (mine q) (mine_of (number q) (parts_of qs))) (eq-eqb (number q) (number q) refl))
  mine_at (q ∷ qs) (suc k) p e one = let some_more = some_times qs k p e in let t : ℕ = times (number p) (parts_of qs) in let a : ℕ = cond (eqb (number q) (number p)) 1 0 in let more : 0 < t = some_more in let all : a + t ≡ 1 = one in
      let rest : t ≡ 1 = omega arith in skip (eqb (number q) (number p)) (mine q) (mine_of (number p) (parts_of qs)) t all more ∙ mine_at qs k p e rest

  module _ (leads : M → List E → M → Type 0) (owner : E → Option ℕ) (start : M) where
    pub whole : (ps all : List (PassWith M E)) (q : PassWith M E) (v : View M E) (h : List (ℕ × E)) (m : M) (t : Name M) → all ≡ ps ++ q ∷ [] → IsPass t q → v.parts ≡ parts_of all → v.made ≡ length all → AllTold ps v
        → ((t : List (ℕ × E)) → Hears (view q) t → Hears v t) → Whole leads owner start v h m → IsWhole leads owner start all h m
    whole ps all q v h m t e is parts made told kept w = record {
      stands = w.stands;
      owned = w.owned;
      each_once = λ n l. subst (λ x. times n x ≡ 1) parts (w.each_once n (subst (λ x. n < x) (sym made) l));
      of_each = λ k p at. let pos : 0 < times (number p) v.parts = subst (λ x. 0 < times (number p) x) (sym parts) (some_times all k p at) in let below = w.below (number p) pos in
          let one = subst (λ x. times (number p) x ≡ 1) parts (w.each_once (number p) below) in (
            subst (λ x. number p < x) made below,
            w.mine (number p) pos ∙ ap (mine_of (number p)) parts ∙ mine_at all k p at one,
            w.begins (seen p) (⊎_elim (λ (x : get_elem? ps k ≡ some p). told k p x) (λ (x : q ≡ p). kept (seen p) (0, ap (λ y. some (seen y)) x)) (at_snoc ps q p k (subst (λ l. get_elem? l k ≡ some p) e at))),
          );
      of_others = λ n l. w.others n (subst (λ x. x ≤ n) (sym made) l);
    }
