-- What is known once all passes were put together.
use Rattle.std.proofs.Common.{◌≡◌, ◌≢◌, ℕ, zero, suc, ◌+◌, ◌<◌, ◌≤◌, eqb, eq-eqb, ne_eqb, cond, List, [], ◌∷◌, ◌++◌, length, sym, refl, ap, ◌∙◌, subst, arith}
use Rattle.std.specs.Prelude.{Option, Some}
use mathlib.Core.Option.{some, some-injective}
use mathlib.Core.Logic.{dite}
use native.Mathlib.Decide.{ℕ_discrete}
use lib.ListN.{get_elem?}
use Rattle.atomic_table.specs.Table.{Final, Seen}
use Rattle.atomic_table.proofs.Lists.{at_longer}
use Rattle.turnstile.specs.declared.view.View.{View}
use Rattle.turnstile.specs.declared.view.Stage.{Stage}
use Rattle.turnstile.specs.declared.view.Stage.TheVariants.{Idle, Waiting, Inside, Filling}
use Rattle.turnstile.specs.History.{Begins, times}
use Rattle.turnstile.specs.Turns.{Room, Queued, Fits, Busy, Slot, Kept, Stands}
use Rattle.turnstile.specs.Steps.{joined}
use Rattle.turnstile.specs.Whole.{Hears, Whole}
use Rattle.turnstile.proofs.Keeps.{same_at, apart}

-- f of each number below n, added up
abbrev sum_below : (ℕ → ℕ) → ℕ → ℕ
sum_below f zero = 0
sum_below f (suc n) = f n + sum_below f n

sum_add : (f g : ℕ → ℕ) (n : ℕ) → sum_below (λ m. f m + g m) n ≡ sum_below f n + sum_below g n
sum_add f g zero = omega arith
sum_add f g (suc n) = let h = sum_add f g n in let a : ℕ = f n in let b : ℕ = g n in let x : ℕ = sum_below f n in let y : ℕ = sum_below g n in let z : ℕ = sum_below (λ m. f m + g m) n in
    let h' : z ≡ x + y = h in let goal : (a + b) + z ≡ (a + x) + (b + y) = omega arith in goal

sum_none : (a n : ℕ) → n ≤ a → sum_below (λ m. cond (eqb a m) 1 0) n ≡ 0
sum_none a zero le = refl
sum_none a (suc n) le = let h = sum_none a n (omega arith) in let far : a ≢ n = λ e. omega arith in let e = ap (λ b. cond {A = ℕ} b 1 0) (ne_eqb a n far) in
    let x : ℕ = cond (eqb a n) 1 0 in let y : ℕ = sum_below (λ m. cond (eqb a m) 1 0) n in let h' : y ≡ 0 = h in let e' : x ≡ 0 = e in let goal : x + y ≡ 0 = omega arith in goal

sum_one : (a n : ℕ) → a < n → sum_below (λ m. cond (eqb a m) 1 0) n ≡ 1
sum_one a zero le = absurd (omega arith)
sum_one a (suc n) le = let x : ℕ = cond (eqb a n) 1 0 in let y : ℕ = sum_below (λ m. cond (eqb a m) 1 0) n in
    dite (ℕ_discrete a n)
    (λ e. let h : y ≡ 0 = sum_none a n (omega arith) in let f : x ≡ 1 = ap (λ b. cond b 1 0) (eq-eqb a n e) in let goal : x + y ≡ 1 = omega arith in goal)
    (λ ne. let h : y ≡ 1 = sum_one a n (grind (arith, ne)) in let f : x ≡ 0 = ap (λ b. cond b 1 0) (ne_eqb a n ne) in let goal : x + y ≡ 1 = omega arith in goal)

sum_most : (f : ℕ → ℕ) (n : ℕ) → ((m : ℕ) → f m ≤ 1) → sum_below f n ≤ n
sum_most f zero h = omega arith
sum_most f (suc n) h = let a = h n in let b = sum_most f n h in let x : ℕ = f n in let y : ℕ = sum_below f n in let a' : x ≤ 1 = a in let b' : y ≤ n = b in let goal : x + y ≤ suc n = omega arith in goal

all_ones : (f : ℕ → ℕ) (n : ℕ) → ((m : ℕ) → f m ≤ 1) → sum_below f n ≡ n → (m : ℕ) → m < n → f m ≡ 1
all_ones f zero h e m l = absurd (omega arith)
all_ones f (suc n) h e m l = let x : ℕ = f n in let y : ℕ = sum_below f n in let a : x ≤ 1 = h n in let b : y ≤ n = sum_most f n h in let e' : x + y ≡ suc n = e in
    dite (ℕ_discrete m n) (λ same. subst (λ k. f k ≡ 1) (sym same) (let goal : x ≡ 1 = omega arith in goal)) (λ ne. all_ones f n h (let goal : y ≡ n = omega arith in goal) m (grind (arith, ne)))

module _ {E : Type 0} where
  -- each part counts once
  sum_times : (l : List (ℕ × List E)) (n : ℕ) → ((m : ℕ) → 0 < times m l → m < n) → sum_below (λ m. times m l) n ≡ length l
  sum_times [] n h = sum_zeros n where
    sum_zeros : (n : ℕ) → sum_below (λ m. 0) n ≡ 0
    sum_zeros zero = refl
    sum_zeros (suc n) = let e = sum_zeros n in let y : ℕ = sum_below (λ m. 0) n in let e' : y ≡ 0 = e in let goal : 0 + y ≡ 0 = omega arith in goal
  sum_times (x ∷ xs) n h = let here : x.0 < n = h x.0 (first x xs) in let one = sum_one x.0 n here in let rest = sum_times xs n (λ m p. h m (later x xs m p)) in
      let a : ℕ = sum_below (λ m. cond (eqb x.0 m) 1 0) n in let b : ℕ = sum_below (λ m. times m xs) n in let c : ℕ = length xs in
      let s : sum_below (λ m. times m (x ∷ xs)) n ≡ a + b = sum_add (λ m. cond (eqb x.0 m) 1 0) (λ m. times m xs) n in
      let one' : a ≡ 1 = one in let rest' : b ≡ c = rest in let goal : a + b ≡ suc c = omega arith in s ∙ goal where
        first : (x : ℕ × List E) (xs : List (ℕ × List E)) → 0 < times x.0 (x ∷ xs)
        first x xs = let a : ℕ = cond (eqb x.0 x.0) 1 0 in let e = ap (λ b. cond {A = ℕ} b 1 0) (eq-eqb x.0 x.0 refl) in let b : ℕ = times x.0 xs in let e' : a ≡ 1 = e in let goal : 0 < a + b = omega arith in goal

        later : (x : ℕ × List E) (xs : List (ℕ × List E)) (m : ℕ) → 0 < times m xs → 0 < times m (x ∷ xs)
        later x xs m p = let a : ℕ = cond (eqb x.0 m) 1 0 in let b : ℕ = times m xs in let p' : 0 < b = p in let goal : 0 < a + b = omega arith in goal

module _ {E : Type 0} where
  at_mid : (l : List (List (ℕ × E))) (x : List (ℕ × E)) (m : List (List (ℕ × E))) → get_elem? (l ++ x ∷ m) (length l) ≡ some x
  at_mid [] x m = refl
  at_mid (y ∷ ys) x m = at_mid ys x m

  heard_begins : (hist : List (ℕ × E)) (x : List (ℕ × E)) (l : List (List (ℕ × E))) (t : List (ℕ × E)) (j : ℕ) → get_elem? (x ∷ l) j ≡ some t → Begins hist x → ((k : ℕ) (h : List (ℕ × E)) → get_elem? l k ≡ some h → Begins hist h) → Begins hist t
  heard_begins hist x l t zero e b g = subst (Begins hist) (some-injective x t e) b
  heard_begins hist x l t (suc j) e b g = g j t e

module _ {M E : Type 0} where
  pub hears_more : (v w : View M E) (h : List (ℕ × E)) → Hears v h → Hears (joined v w) h
  hears_more v w h e = (e.0, at_longer (v.seen ∷ v.heard) (w.seen ∷ w.heard) e.0 h e.1)

  pub hears_new : (v w : View M E) → Hears (joined v w) w.seen
  hears_new v w = (suc (length v.heard), at_mid v.heard w.seen w.heard)

  module _ (leads : M → List E → M → Type 0) (owner : E → Option ℕ) (start : M) where
    -- a seat that has a ticket isn't the one with all passes
    other : (id : ℕ) (v : View M E) (views : List (View M E)) (r : Room M E) (u : View M E) → get_elem? views id ≡ some v → v.stage ≡ Idle → ((n : ℕ) → n < r.made → r.seat_of n ≡ id)
        → Fits start r (r.holder r.served) u → get_elem? views (r.holder r.served) ≡ some u → Queued r (r.holder r.served) u → (u.stage ≡ Idle → ⊥) → ⊥
    other id v views r u at idle all f at' q ne = let n = q.3 in let x = f.parts n.0 n.1 in
        ne (ap (λ z. z.stage) (same_at views id u v (subst (λ j. get_elem? views j ≡ some u) (sym x.0 ∙ all n.0 x.1) at') at) ∙ idle)

    -- The seat with all passes is idle, so no turn was called
    none_called : (id : ℕ) (v : View M E) (views : List (View M E)) (r : Room M E) (k : Stage) → get_elem? views id ≡ some v → v.stage ≡ Idle → ((n : ℕ) → n < r.made → r.seat_of n ≡ id)
        → ((i : ℕ) (u : View M E) → get_elem? views i ≡ some u → Fits start r i u) → Busy views r k → k ≡ Idle
    none_called id v views r Idle at idle all fit busy = refl
    none_called id v views r Waiting at idle all fit busy = absurd busy
    none_called id v views r Inside at idle all fit busy = let u = busy.1.0 in let f = fit (r.holder r.served) u busy.1.1 in let q = subst (Stands r (r.holder r.served) u) busy.1.2 f.stands in
        absurd (other id v views r u at idle all f busy.1.1 q.0 (λ e. apart Idle Inside u.stage e busy.1.2 (λ z. omega arith)))
    none_called id v views r Filling at idle all fit busy = let u = busy.1.0 in let f = fit (r.holder r.served) u busy.1.1 in let q = subst (Stands r (r.holder r.served) u) busy.1.2 f.stands in
        absurd (other id v views r u at idle all f busy.1.1 q.0 (λ e. apart Idle Filling u.stage e busy.1.2 (λ z. omega arith)))

    pub ends : (id : ℕ) (v : View M E) (words : List ℕ) (slots : List (Option M)) → v.stage ≡ Idle → 0 < v.made → v.made ≡ length v.parts → Final (Seen (Kept leads owner start) id v) words slots
        → (m : M) × (get_elem? slots 0 ≡ some (Some m)) × ((h : List (ℕ × E)) × Whole leads owner start v h m)
    ends id v words slots idle some_made all final = let s = final.0 in let k = final.1.0 in let at = final.1.1 in let r = k.room in let f = k.each id v at in
        let is_made = (f.first some_made).1 in
        let below : (n : ℕ) → 0 < times n v.parts → n < v.made = λ n h. subst (λ t. n < t) (sym is_made) (f.parts n h).1 in
        let ones : (n : ℕ) → n < v.made → times n v.parts ≡ 1 = all_ones (λ n. times n v.parts) v.made f.once (sum_times v.parts v.made below ∙ sym all) in
        let here : (n : ℕ) → n < r.made → r.seat_of n ≡ id = λ n l. let one = ones n (subst (λ t. n < t) (sym is_made) l) in (f.parts n (omega arith)).0 in
        let still = none_called id v s.views r r.turn at idle here k.each k.busy in
        let home = subst (Slot leads owner start r) still k.slot in (
          home.0,
          final.4 0 (Some home.0) (ap (λ l. get_elem? l 0) k.homes ∙ ap some home.1),
          (
            r.hist,
            record {
              stands = home.2;
              owned = k.owned;
              each_once = ones;
              below = below;
              mine = λ n h. (f.parts n h).2;
              others = λ n h. k.fresh n (subst (λ t. t ≤ n) is_made h);
              begins = λ t e. heard_begins r.hist v.seen v.heard t e.0 e.1 f.seen f.heard;
            },
          ),
        )
