-- Each step of one seat keeps the rule.
use Rattle.std.proofs.Common.{◌≡◌, ◌≢◌, ⊎_elim, ℕ, zero, suc, ◌+◌, ◌-◌, ◌*◌, ◌%◌, ◌^◌, ◌<◌, ◌≤◌, eqb, eq-eqb, ne_eqb, cond, List, [], ◌∷◌, ◌++◌, get_or, set, sym, refl, ap, ◌∙◌, subst, arith, mod-eq_of_lt}
use Rattle.std.specs.Prelude.{Option, Some, None}
use mathlib.Core.Option.{some, none, some-injective, some-ne-none}
use mathlib.Core.Option as maybe
use mathlib.Core.Logic.{dite}
use native.Mathlib.Decide.{ℕ_discrete}
use lib.ListN.{get_elem?}
use Rattle.atomic_table.specs.Table.{State, Me, Act, keeps, takes, gives, homes_after, carried_after, Valid, Allows}
use Rattle.atomic_table.proofs.Lists.{at_set, set_else, set_again}
use Rattle.turnstile.specs.declared.view.View.{View}
use Rattle.turnstile.specs.declared.view.Stage.{Stage}
use Rattle.turnstile.specs.declared.view.Stage.TheVariants.{Idle, Waiting, Inside, Filling}
use Rattle.turnstile.specs.History.{Begins, of_pass, entries, tagged, MayAdd, times, mine_of}
use Rattle.turnstile.specs.Turns.{Room, Queued, Stands, Fits, Busy, Slot, Kept, rights, total, words_of}
use Rattle.turnstile.specs.Steps.{with_ticket, seeing, entered, draws, looks, learns, opens, serves, number_of, first_mine, IsOne, with_entries}
use Rattle.turnstile.proofs.Histories.{begins_same, begins_more, of_others, of_mine, owned_more, times_one, mine_one, one_only, one_at_most, entries_more}

spend : (d t t' l x : ℕ) → 0 < l → t' + (l + x) ≡ t + ((l - 1) + x) → d + t ≡ 4611686018427387905 → (d + 1) + t' ≡ 4611686018427387905
spend d t t' l x left e b = omega arith

pub same_total : (d t t' a b : ℕ) → t' + a ≡ t + b → a ≡ b → d + t ≡ 4611686018427387905 → d + t' ≡ 4611686018427387905
same_total d t t' a b e same h = omega arith

-- one more value of a function
abbrev pub put : (ℕ → ℕ) → ℕ → ℕ → ℕ → ℕ
put f k y x = cond (eqb x k) y (f x)

pub put_here : (f : ℕ → ℕ) (k y : ℕ) → put f k y k ≡ y
put_here f k y = ap (λ b. cond b y (f k)) (eq-eqb k k refl)

pub put_else : (f : ℕ → ℕ) (k y x : ℕ) → x ≢ k → put f k y x ≡ f x
put_else f k y x ne = ap (λ b. cond b y (f x)) (ne_eqb x k ne)

-- the stages are four
abbrev rank : Stage → ℕ
rank Idle = 0
rank Waiting = 1
rank Inside = 2
rank Filling = 3

pub apart : (a b : Stage) (k : Stage) → k ≡ a → k ≡ b → rank a ≢ rank b → ⊥
apart a b k e f ne = ne (ap rank (sym e ∙ f))

module _ {A : Type 0} where
  pub same_at : (l : List A) (i : ℕ) (a b : A) → get_elem? l i ≡ some a → get_elem? l i ≡ some b → a ≡ b
  same_at l i a b p q = some-injective a b (sym p ∙ q)

  pub each_set : (F : ℕ → A → Type 0) (l : List A) (i : ℕ) (w : A) → ((j : ℕ) (u : A) → j ≢ i → get_elem? l j ≡ some u → F j u) → F i w
      → (j : ℕ) (u : A) → get_elem? (set l i w) j ≡ some u → F j u
  each_set F l i w others own j u e = ⊎_elim (λ (x : (j ≡ i) × (w ≡ u)). subst (λ (y : ℕ × A). F y.0 y.1) (λ k. (sym x.0 k, x.1 k)) own)
      (λ (x : (j ≢ i) × (get_elem? l j ≡ some u)). others j u x.0 x.1) (at_set l i j w u e)

  pub set_at : (l : List A) (i : ℕ) (v w : A) → get_elem? l i ≡ some v → get_elem? (set l i w) i ≡ some w
  set_at [] i v w e = absurd (some-ne-none v (sym e))
  set_at (x ∷ xs) zero v w e = refl
  set_at (x ∷ xs) (suc i) v w e = set_at xs i v w e

module _ {E : Type 0} where
  pub one_named : (ps : List (ℕ × List E)) → IsOne ps → (n : ℕ) × (0 < times n ps)
  one_named ps one = (number_of ps, subst (λ qs. 0 < times (number_of ps) qs) (sym one) (let o = times_one (number_of ps) (first_mine ps) in omega arith))

module _ {M E : Type 0} where
  pub total_set : (l : List (View M E)) (i : ℕ) (v w : View M E) → get_elem? l i ≡ some v → total (set l i w) + rights v ≡ total l + rights w
  total_set [] i v w e = absurd (some-ne-none v (sym e))
  total_set (x ∷ xs) zero v w e = let same : rights x ≡ rights v = ap rights (some-injective x v e) in let a : ℕ = rights w in let b : ℕ = total xs in let c : ℕ = rights v in let d : ℕ = rights x in
      let same' : d ≡ c = same in let goal : (a + b) + c ≡ (d + b) + a = omega arith in goal
  total_set (x ∷ xs) (suc i) v w e = let h = total_set xs i v w e in let a : ℕ = rights w in let b : ℕ = total xs in let c : ℕ = rights v in let d : ℕ = rights x in let t : ℕ = total (set xs i w) in
      let h' : t + c ≡ b + a = h in let goal : (d + t) + c ≡ (d + b) + a = omega arith in goal

  pub not_here : (l : List (View M E)) (i j : ℕ) (v u : View M E) → get_elem? l i ≡ some v → get_elem? l j ≡ some u → (v.stage ≡ u.stage → ⊥) → j ≢ i
  not_here l i j v u at at' ne same = ne (ap (λ z. z.stage) (same_at l i v u at (subst (λ k. get_elem? l k ≡ some u) same at')))

  -- the seat whose turn it is stays where another seat changes, and keeps its ticket
  pub still_busy : (views : List (View M E)) (r : Room M E) (id : ℕ) (v w : View M E) (d : ℕ) (holder : ℕ → ℕ) (k : Stage) → get_elem? views id ≡ some v → (v.stage ≡ Inside → ⊥) → (v.stage ≡ Filling → ⊥)
      → r.drawn ≤ d → (r.served < r.drawn → holder r.served ≡ r.holder r.served) → Busy views r k → Busy (set views id w) (record r { drawn = d; holder = holder }) k
  still_busy views r id v w d holder Idle at a b le same busy = tt
  still_busy views r id v w d holder Waiting at a b le same busy = busy
  still_busy views r id v w d holder Inside at a b le same busy = let l = busy.0 in let u = busy.1.0 in (
    omega arith,
    (u, ap (get_elem? (set views id w)) (same l) ∙ set_else views id (r.holder r.served) w (not_here views id (r.holder r.served) v u at busy.1.1 (λ q. a (q ∙ busy.1.2))) ∙ busy.1.1, busy.1.2),
  )
  still_busy views r id v w d holder Filling at a b le same busy = let l = busy.0 in let u = busy.1.0 in (
    omega arith,
    (u, ap (get_elem? (set views id w)) (same l) ∙ set_else views id (r.holder r.served) w (not_here views id (r.holder r.served) v u at busy.1.1 (λ q. b (q ∙ busy.1.2))) ∙ busy.1.1, busy.1.2),
  )

  -- a turn was called only where its ticket was drawn
  idle_at_end : (views : List (View M E)) (r : Room M E) (k : Stage) → Busy views r k → r.drawn ≡ r.served → k ≡ Idle
  idle_at_end views r Idle busy e = refl
  idle_at_end views r Waiting busy e = absurd busy
  idle_at_end views r Inside busy e = let l = busy.0 in absurd (omega arith)
  idle_at_end views r Filling busy e = let l = busy.0 in absurd (omega arith)

  -- two seats don't have one ticket
  two_tickets : (r : Room M E) (id j : ℕ) (v u : View M E) → Queued r id v → Queued r j u → j ≢ id → v.ticket ≡ u.ticket → ⊥
  two_tickets r id j v u a b ne same = ne (sym b.0 ∙ ap r.holder (sym same) ∙ a.0)

  module _ (leads : M → List E → M → Type 0) (owner : E → Option ℕ) (start : M) where
    -- A step may be taken where it keeps the rule at lists that are written out
    abbrev pub Step : ℕ → Me (Option M) (View M E) → ℕ → (ℕ → ℕ) → (ℕ → Me (Option M) (View M E) → Type 0) → List (View M E) → List ℕ → List (maybe.Option (Option M)) → Type 0
    Step id me i f then views ws hs = (w : View M E) × (a : Act (Option M)) × Valid hs me.1 a
        × Kept leads owner start record { words = set ws i (f (get_or ws i 0)); homes = homes_after hs me.1 a; views = set views id w }
        × then (get_or ws i 0) (w, carried_after me.1 a)

    pub lifts : (slots id : ℕ) (me : Me (Option M) (View M E)) (i : ℕ) (f : ℕ → ℕ) (then : ℕ → Me (Option M) (View M E) → Type 0)
        → ((s : State (Option M) (View M E)) (k : Kept leads owner start s) → get_elem? s.views id ≡ some me.0
        → Step id me i f then s.views (words_of k.room.drawn k.room.served k.room.sleepers) (k.room.home ∷ []))
        → Allows (Kept leads owner start) slots id me i f then
    lifts slots id me i f then inner s k wide at near = subst (λ (p : List ℕ × List (maybe.Option (Option M))). Step id me i f then s.views p.0 p.1) (λ t. (sym k.words t, sym k.homes t)) (inner s k at)

    -- the rule at words that are written out, with another count of sleepers
    rested : (s : State (Option M) (View M E)) (k : Kept leads owner start s) (n : ℕ) → Kept leads owner start record { words = words_of k.room.drawn k.room.served n; homes = k.room.home ∷ []; views = s.views }
    rested s k n = record {
      room = record k.room { sleepers = n };
      words = refl;
      homes = refl;
      slot = slot_rests k.room n k.room.turn k.slot;
      busy = busy_rests s.views k.room n k.room.turn k.busy;
      upto = k.upto;
      budget = k.budget;
      most = k.most;
      fresh = k.fresh;
      owned = k.owned;
      each = λ i v e. fits_rests k.room n i v (k.each i v e);
    } where
      slot_rests : (r : Room M E) (n : ℕ) (k : Stage) → Slot leads owner start r k → Slot leads owner start (record r { sleepers = n }) k
      slot_rests r n Idle h = h
      slot_rests r n Waiting h = h
      slot_rests r n Inside h = h
      slot_rests r n Filling h = h

      busy_rests : (views : List (View M E)) (r : Room M E) (n : ℕ) (k : Stage) → Busy views r k → Busy views (record r { sleepers = n }) k
      busy_rests views r n Idle h = h
      busy_rests views r n Waiting h = h
      busy_rests views r n Inside h = h
      busy_rests views r n Filling h = h

      stands_rests : (r : Room M E) (n i : ℕ) (v : View M E) (k : Stage) → Stands r i v k → Stands (record r { sleepers = n }) i v k
      stands_rests r n i v Idle h = h
      stands_rests r n i v Waiting h = h
      stands_rests r n i v Inside h = h
      stands_rests r n i v Filling h = h

      fits_rests : (r : Room M E) (n i : ℕ) (v : View M E) → Fits start r i v → Fits start (record r { sleepers = n }) i v
      fits_rests r n i v f = record {
        start_is = f.start_is;
        first = f.first;
        later = f.later;
        seen = f.seen;
        heard = f.heard;
        stands = stands_rests r n i v v.stage f.stands;
        once = f.once;
        parts = f.parts;
      }

    pub rests_keep : (slots id : ℕ) (me : Me (Option M) (View M E)) (f : ℕ → ℕ) → Allows (Kept leads owner start) slots id me 10 f (λ n w. w ≡ me)
    rests_keep slots id me f = lifts slots id me 10 f (λ n w. w ≡ me) (λ s k at. let r = k.room in (
      me.0,
      keeps,
      tt,
      subst (λ vs. Kept leads owner start record { words = words_of r.drawn r.served (f r.sleepers); homes = r.home ∷ []; views = vs }) (sym (set_again s.views id me.0 at)) (rested s k (f r.sleepers)),
      refl,
    ))

    draw_queued : (r : Room M E) (id j : ℕ) (u : View M E) → Queued r j u → Queued (record r { drawn = r.drawn + 1; holder = put r.holder r.drawn id }) j u
    draw_queued r id j u q = let l = q.2 in (put_else r.holder r.drawn id u.ticket (λ e. omega arith) ∙ q.0, q.1, omega arith, q.3)

    draw_stands : (r : Room M E) (id j : ℕ) (u : View M E) (k : Stage) → Stands r j u k → Stands (record r { drawn = r.drawn + 1; holder = put r.holder r.drawn id }) j u k
    draw_stands r id j u Idle h = tt
    draw_stands r id j u Waiting h = (draw_queued r id j u h.0, h.1)
    draw_stands r id j u Inside h = (draw_queued r id j u h.0, h.1)
    draw_stands r id j u Filling h = (draw_queued r id j u h.0, h.1)

    draw_slot : (r : Room M E) (id : ℕ) (k : Stage) → Slot leads owner start r k → Slot leads owner start (record r { drawn = r.drawn + 1; holder = put r.holder r.drawn id }) k
    draw_slot r id Idle h = h
    draw_slot r id Waiting h = h
    draw_slot r id Inside h = h
    draw_slot r id Filling h = h

    pub draws_keep : (slots id : ℕ) (me : Me (Option M) (View M E)) → me.0.stage ≡ Idle → 0 < me.0.left → IsOne me.0.parts → Allows (Kept leads owner start) slots id me 8 (λ n. (n + 1) % 2 ^ 64) (draws me)
    draws_keep slots id me idle some_left one = lifts slots id me 8 (λ n. (n + 1) % 2 ^ 64) (draws me) (λ s k at.
        let r = k.room in let f = k.each id me.0 at in let v = me.0 in let w = with_ticket v r.drawn in let u = k.upto in
        let b = k.budget in let t = total_set s.views id v w at in
        let fits : r.drawn + 1 < 2 ^ 64 = omega arith in
        let wrap : (r.drawn + 1) % 2 ^ 64 ≡ r.drawn + 1 = mod-eq_of_lt fits in
        let r' : Room M E = record r { drawn = r.drawn + 1; holder = put r.holder r.drawn id } in (
          w,
          keeps,
          tt,
          record {
            room = r';
            words = ap (λ n. words_of n r.served r.sleepers) wrap;
            homes = refl;
            slot = draw_slot r id r.turn k.slot;
            busy = still_busy s.views r id v w (r.drawn + 1) (put r.holder r.drawn id) r.turn at (λ e. apart Idle Inside v.stage idle e (λ z. omega arith)) (λ e. apart Idle Filling v.stage idle e (λ z. omega arith)) (omega arith)
                (λ l. put_else r.holder r.drawn id r.served (λ e. omega arith)) k.busy;
            upto = omega arith;
            budget = spend r.drawn (total s.views) (total (set s.views id w)) v.left (v.spare * 72057594037927936) some_left t b;
            most = k.most;
            fresh = k.fresh;
            owned = k.owned;
            each = each_set (Fits start r') s.views id w
                (λ j u ne e. let g = k.each j u e in record { start_is = g.start_is; first = g.first; later = g.later; seen = g.seen; heard = g.heard; stands = draw_stands r id j u u.stage g.stands; once = g.once; parts = g.parts })
                record {
                  start_is = f.start_is;
                  first = f.first;
                  later = f.later;
                  seen = f.seen;
                  heard = f.heard;
                  stands = ((put_here r.holder r.drawn id, k.upto, omega arith, one_named v.parts one), (λ e. idle_at_end s.views r r.turn k.busy e));
                  once = f.once;
                  parts = f.parts;
                };
          },
          refl,
        ))

    -- the other seats, where the turn of the seat id comes to another stage
    turn_stands : (r : Room M E) (id j : ℕ) (v u : View M E) (turn : Stage) (home : maybe.Option (Option M)) (k : Stage) → Queued r id v → v.ticket ≡ r.served → j ≢ id → Stands r j u k → Stands (record r { turn = turn; home = home }) j u k
    turn_stands r id j v u turn home Idle q here ne h = tt
    turn_stands r id j v u turn home Waiting q here ne h = (h.0, (λ same. absurd (two_tickets r id j v u q h.0 ne (here ∙ sym same))))
    turn_stands r id j v u turn home Inside q here ne h = absurd (two_tickets r id j v u q h.0 ne (here ∙ sym h.1.0))
    turn_stands r id j v u turn home Filling q here ne h = absurd (two_tickets r id j v u q h.0 ne (here ∙ sym h.1.0))

    -- The seat id, whose ticket is called, is inside now, and the slot is out with it
    turn_kept : (s : State (Option M) (View M E)) (k : Kept leads owner start s) (id : ℕ) (v : View M E) → get_elem? s.views id ≡ some v → Queued k.room id v → v.ticket ≡ k.room.served
        → Kept leads owner start record { words = words_of k.room.drawn k.room.served k.room.sleepers; homes = none ∷ []; views = set s.views id (entered v k.room.hist) }
    turn_kept s k id v at q here = let r = k.room in let f = k.each id v at in let w = entered v r.hist in let r' : Room M E = record r { turn = Inside; home = none } in let l = q.2 in record {
      room = r';
      words = refl;
      homes = refl;
      slot = tt;
      busy = (omega arith, (w, ap (get_elem? (set s.views id w)) (ap r.holder (sym here) ∙ q.0) ∙ set_at s.views id v w at, refl));
      upto = k.upto;
      budget = same_total r.drawn (total s.views) (total (set s.views id w)) (rights v) (rights w) (total_set s.views id v w at) refl k.budget;
      most = k.most;
      fresh = k.fresh;
      owned = k.owned;
      each = each_set (Fits start r') s.views id w
          (λ j u ne e. let g = k.each j u e in record { start_is = g.start_is; first = g.first; later = g.later; seen = g.seen; heard = g.heard; stands = turn_stands r id j v u Inside none u.stage q here ne g.stands; once = g.once; parts = g.parts })
          record { start_is = f.start_is; first = f.first; later = f.later; seen = begins_same r.hist; heard = f.heard; stands = (q, (here, refl, refl)); once = f.once; parts = f.parts };
    }

    -- the slot has its value where no turn was called
    at_home : (r : Room M E) (k : Stage) → k ≡ Idle → Slot leads owner start r k → Slot leads owner start r Idle
    at_home r k e h = subst (Slot leads owner start r) e h

    pub looks_keep : (slots id : ℕ) (me : Me (Option M) (View M E)) → me.0.stage ≡ Waiting → me.1 ≡ [] → Allows (Kept leads owner start) slots id me 9 (λ n. n) (looks leads owner me)
    looks_keep slots id me waits none_held = lifts slots id me 9 (λ n. n) (looks leads owner me) (λ s k at. let r = k.room in let f = k.each id me.0 at in let v = me.0 in
        let q = subst (Stands r id v) waits f.stands in
        dite (ℕ_discrete r.served v.ticket)
        (λ here. let home = at_home r r.turn (q.1 (sym here)) k.slot in (
          entered v r.hist,
          takes 0 (Some home.0),
          ap some home.1,
          turn_kept s k id v at q.0 (sym here),
          (
            (λ _. (
              r.hist,
              home.0,
              ap (λ l. (entered v r.hist, (0, Some home.0) ∷ l)) none_held,
              (f.seen, f.heard),
              (λ n h. (f.parts n h).2),
              k.owned,
              (λ m is. subst (λ y. leads y (entries r.hist) home.0) (sym (f.start_is m is)) home.2),
            )),
            (λ ne. absurd (ne here)),
          ),
        ))
        (λ ne. (
          v,
          keeps,
          tt,
          subst (λ vs. Kept leads owner start record { words = words_of r.drawn r.served r.sleepers; homes = r.home ∷ []; views = vs }) (sym (set_again s.views id v at)) (rested s k r.sleepers),
          ((λ e. absurd (ne e)), (λ _. refl)),
        )))

    filling_slot : (r : Room M E) (k : Stage) → k ≡ Filling → Slot leads owner start r k → r.home ≡ some None
    filling_slot r k e h = subst (Slot leads owner start r) e h

    pub opens_keep : (slots id : ℕ) (me : Me (Option M) (View M E)) → me.0.stage ≡ Filling → me.1 ≡ [] → Allows (Kept leads owner start) slots id me 9 (λ n. n) (λ n. opens me)
    opens_keep slots id me fills none_held = lifts slots id me 9 (λ n. n) (λ n. opens me) (λ s k at. let r = k.room in let f = k.each id me.0 at in let v = me.0 in
        let q = subst (Stands r id v) fills f.stands in let home = filling_slot r r.turn q.1.1 k.slot in (
          entered v r.hist,
          takes 0 None,
          ap some home,
          turn_kept s k id v at q.0 q.1.0,
          (λ i. (entered v (sym q.1.2 i), (0, None) ∷ none_held i)),
        ))

    -- the other seats, where the turn of the seat id ends
    serve_stands : (r : Room M E) (id j : ℕ) (v u : View M E) (h : List (ℕ × E)) (home : maybe.Option (Option M)) (k : Stage) → Queued r id v → v.ticket ≡ r.served → j ≢ id → Stands r j u k
        → Stands (record r { hist = h; served = r.served + 1; turn = Idle; home = home }) j u k
    serve_stands r id j v u h home Idle q here ne g = tt
    serve_stands r id j v u h home Waiting q here ne g = let l = g.0.1 in ((g.0.0, further r.served u.ticket l (λ same. two_tickets r id j v u q g.0 ne (here ∙ sym same)), g.0.2, g.0.3), (λ _. refl)) where
      further : (a b : ℕ) → a ≤ b → (b ≡ a → ⊥) → a + 1 ≤ b
      further a b le ne = dite (ℕ_discrete b a) (λ e. absurd (ne e)) (λ n. grind (arith, n))
    serve_stands r id j v u h home Inside q here ne g = absurd (two_tickets r id j v u q g.0 ne (here ∙ sym g.1.0))
    serve_stands r id j v u h home Filling q here ne g = absurd (two_tickets r id j v u q g.0 ne (here ∙ sym g.1.0))

    serve_others : (r : Room M E) (id j : ℕ) (v u : View M E) (p : ℕ) (es : List E) (home : maybe.Option (Option M)) → Queued r id v → v.ticket ≡ r.served → r.seat_of p ≡ id → j ≢ id → Fits start r j u
        → Fits start (record r { hist = r.hist ++ tagged p es; served = r.served + 1; turn = Idle; home = home }) j u
    serve_others r id j v u p es home q here mine ne f = record {
      start_is = f.start_is;
      first = f.first;
      later = f.later;
      seen = begins_more r.hist u.seen (tagged p es) f.seen;
      heard = λ k h e. begins_more r.hist h (tagged p es) (f.heard k h e);
      stands = serve_stands r id j v u (r.hist ++ tagged p es) home u.stage q here ne f.stands;
      once = f.once;
      parts = λ m h. let x = f.parts m h in (x.0, x.1, of_others m p r.hist es (λ e. ne (sym x.0 ∙ ap r.seat_of (sym e) ∙ mine)) ∙ x.2);
    }

    serve_own : (r : Room M E) (id : ℕ) (v : View M E) (es : List E) (home : maybe.Option (Option M)) → Fits start r id v → v.seen ≡ r.hist → IsOne v.parts
        → Fits start (record r { hist = r.hist ++ tagged (number_of v.parts) es; served = r.served + 1; turn = Idle; home = home }) id (with_entries v es)
    serve_own r id v es home f seen one = let p : ℕ = number_of v.parts in let mine : List E = first_mine v.parts in
        let old = f.parts p (subst (λ ps. 0 < times p ps) (sym one) (let o = times_one p mine in omega arith)) in
        let same : of_pass p r.hist ≡ mine = old.2 ∙ ap (mine_of p) one ∙ mine_one p mine in record {
          start_is = f.start_is;
          first = f.first;
          later = f.later;
          seen = subst (λ x. Begins (r.hist ++ tagged p es) (x ++ tagged p es)) (sym seen) (begins_same (r.hist ++ tagged p es));
          heard = λ k h e. begins_more r.hist h (tagged p es) (f.heard k h e);
          stands = tt;
          once = λ n. one_at_most n p (mine ++ es);
          parts = λ n h. let e = one_only n p (mine ++ es) h in
              subst (λ m. (r.seat_of m ≡ id) × (m < r.made) × (of_pass m (r.hist ++ tagged p es) ≡ mine_of m ((p, mine ++ es) ∷ []))) e
              (old.0, old.1, of_mine p r.hist es ∙ ap (λ x. x ++ es) same ∙ sym (mine_one p (mine ++ es)));
        }

    pub serves_keep : (slots id : ℕ) (me : Me (Option M) (View M E)) (es : List E) (m : M) → me.0.stage ≡ Inside → IsOne me.0.parts → MayAdd owner (number_of me.0.parts) es → me.1 ≡ (0, Some m) ∷ [] → leads start (entries me.0.seen ++ es) m
        → Allows (Kept leads owner start) slots id me 9 (λ n. (n + 1) % 2 ^ 64) (λ n. serves es me)
    serves_keep slots id me es m inside one may held lead = lifts slots id me 9 (λ n. (n + 1) % 2 ^ 64) (λ n. serves es me) (λ s k at. let r = k.room in let f = k.each id me.0 at in let v = me.0 in let w = with_entries v es in
        let p : ℕ = number_of v.parts in let mine : List E = first_mine v.parts in
        let q = subst (Stands r id v) inside f.stands in let b = k.budget in let below = q.0.2 in let here = q.1.0 in
        let fits : r.served + 1 < 2 ^ 64 = omega arith in
        let wrap : (r.served + 1) % 2 ^ 64 ≡ r.served + 1 = mod-eq_of_lt fits in
        let old = f.parts p (subst (λ ps. 0 < times p ps) (sym one) (let o = times_one p mine in omega arith)) in let low = old.1 in
        let r' : Room M E = record r { hist = r.hist ++ tagged p es; served = r.served + 1; turn = Idle; home = some (Some m) } in
        subst (λ cs. Step id (v, cs) 9 (λ n. (n + 1) % 2 ^ 64) (λ n. serves es (v, cs)) s.views (words_of r.drawn r.served r.sleepers) (r.home ∷ [])) (sym held) (
          w,
          gives,
          tt,
          record {
            room = r';
            words = ap (λ n. words_of r.drawn n r.sleepers) wrap;
            homes = refl;
            slot = (m, refl, subst (λ y. leads start y m) (sym (entries_more p r.hist es)) (subst (λ y. leads start (entries y ++ es) m) q.1.2 lead));
            busy = tt;
            upto = omega arith;
            budget = same_total r.drawn (total s.views) (total (set s.views id w)) (rights v) (rights w) (total_set s.views id v w at) refl k.budget;
            most = k.most;
            fresh = λ n h. of_others n p r.hist es (λ e. omega arith) ∙ k.fresh n h;
            owned = owned_more owner p r.hist es k.owned may;
            each = each_set (Fits start r') s.views id w (λ j u ne e. serve_others r id j v u p es (some (Some m)) q.0 here old.0 ne (k.each j u e)) (serve_own r id v es (some (Some m)) f q.1.2 one);
          },
          refl,
        ))

    pub learns_keep : (slots id : ℕ) (me : Me (Option M) (View M E)) → me.0.stage ≡ Idle → Allows (Kept leads owner start) slots id me 9 (λ n. n) (λ n. learns owner me)
    learns_keep slots id me idle = lifts slots id me 9 (λ n. n) (λ n. learns owner me) (λ s k at. let r = k.room in let f = k.each id me.0 at in let v = me.0 in let w = seeing v r.hist in (
      w,
      keeps,
      tt,
      record {
        room = r;
        words = refl;
        homes = refl;
        slot = k.slot;
        busy = still_busy s.views r id v w r.drawn r.holder r.turn at (λ e. apart Idle Inside v.stage idle e (λ z. omega arith)) (λ e. apart Idle Filling v.stage idle e (λ z. omega arith)) (omega arith) (λ _. refl) k.busy;
        upto = k.upto;
        budget = same_total r.drawn (total s.views) (total (set s.views id w)) (rights v) (rights w) (total_set s.views id v w at) refl k.budget;
        most = k.most;
        fresh = k.fresh;
        owned = k.owned;
        each = each_set (Fits start r) s.views id w (λ j u ne e. k.each j u e) record {
          start_is = f.start_is;
          first = f.first;
          later = f.later;
          seen = begins_same r.hist;
          heard = f.heard;
          stands = subst (Stands r id w) (sym idle) tt;
          once = f.once;
          parts = f.parts;
        };
      },
      (r.hist, refl, (f.seen, f.heard), (λ n h. (f.parts n h).2), k.owned),
    ))
