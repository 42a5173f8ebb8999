-- How passes are made, meet and are put together.
use Rattle.std.proofs.Common.{◌≡◌, ◌≢◌, ◌⊎◌, inl, inr, ⊎_elim, ℕ, zero, suc, ◌+◌, ◌-◌, ◌*◌, ◌<◌, ◌≤◌, eqb, eq-eqb, ne_eqb, cond, List, [], ◌∷◌, ◌++◌, length, set, sym, refl, ap, ◌∙◌, subst, arith, eq-zero-or-pos, append-nil}
use Rattle.std.specs.Prelude.{Option, None}
use mathlib.Core.Option.{some, some-injective, some-ne-none}
use lib.ListN.{get_elem?}
use Rattle.atomic_table.specs.Table.{Splits, Joins, opening}
use Rattle.atomic_table.proofs.Lists.{at_set, set_else, at_longer}
use Rattle.turnstile.specs.declared.view.View.{View}
use Rattle.turnstile.specs.declared.view.Stage.{Stage}
use Rattle.turnstile.specs.declared.view.Stage.TheVariants.{Idle, Waiting, Inside, Filling}
use Rattle.turnstile.specs.History.{Begins, of_pass, times, mine_of}
use Rattle.turnstile.specs.Turns.{Room, Stands, Fits, Busy, Slot, Kept, rights, total, words_of}
use Rattle.turnstile.specs.Steps.{first_view, spent_view, after_pass, new_pass, note, joined}
use Rattle.turnstile.proofs.Histories.{times_append, mine_first, mine_later, one_only, one_at_most}
use Rattle.turnstile.proofs.Keeps.{put, put_here, put_else, apart, each_set, total_set, still_busy}
use Rattle.turnstile.proofs.Values.{none_is, some_same}

at_end : {A : Type 0} (l : List A) (a b : A) (j : ℕ) → get_elem? (l ++ a ∷ []) j ≡ some b → (get_elem? l j ≡ some b) ⊎ ((j ≡ length l) × (a ≡ b))
at_end [] a b zero e = inr (refl, some-injective a b e)
at_end [] a b (suc j) e = absurd (some-ne-none b (sym e))
at_end (x ∷ xs) a b zero e = inl e
at_end (x ∷ xs) a b (suc j) e = ⊎_elim inl (λ t. inr (ap suc t.0, t.1)) (at_end xs a b j e)

module _ {A : Type 0} where
  each_end : (F : ℕ → A → Type 0) (l : List A) (w : A) → ((j : ℕ) (u : A) → get_elem? l j ≡ some u → F j u) → F (length l) w → (j : ℕ) (u : A) → get_elem? (l ++ w ∷ []) j ≡ some u → F j u
  each_end F l w old new j u e = ⊎_elim (λ (x : get_elem? l j ≡ some u). old j u x) (λ (x : (j ≡ length l) × (w ≡ u)). subst (λ (y : ℕ × A). F y.0 y.1) (λ k. (sym x.0 k, x.1 k)) new) (at_end l w u j e)

made_budget : (d t t' t'' l s a : ℕ) → 0 < s → t' + (l + s * 72057594037927936) ≡ t + (l + (s - 1) * 72057594037927936) → t'' ≡ t' + (72057594037927936 + 0 * 72057594037927936) → d + t ≡ 4611686018427387905 → d + t'' ≡ 4611686018427387905
made_budget d t t' t'' l s a some_left e f b = omega arith

join_budget : (d t t' t'' v w l m s p : ℕ) → t' + (l + s * 72057594037927936) ≡ t + ((l + m) + (s + p) * 72057594037927936) → t'' + (m + p * 72057594037927936) ≡ t' + (0 + 0 * 72057594037927936) → d + t ≡ 4611686018427387905 → d + t'' ≡ 4611686018427387905
join_budget d t t' t'' v w l m s p e f b = omega arith

either_one : (a b : ℕ) → 0 < a + b → (0 < a) ⊎ ((a ≡ 0) × (0 < b))
either_one a b h = ⊎_elim (λ (z : a ≡ 0). inr (z, omega arith)) (λ (p : 0 < a). inl p) (eq-zero-or-pos a)

-- what the first holds where n is 0, and else the second
abbrev chosen : ℕ → ℕ → ℕ → ℕ
chosen n a b = cond (eqb n 0) a b

chosen_zero : (n a b : ℕ) → n ≡ 0 → chosen n a b ≡ a
chosen_zero n a b e = ap (λ t. cond t a b) (eq-eqb n 0 e)

chosen_more : (n a b : ℕ) → 0 < n → chosen n a b ≡ b
chosen_more n a b h = ap (λ t. cond t a b) (ne_eqb n 0 (λ e. omega arith))

module _ {M E : Type 0} where
  total_end : (l : List (View M E)) (w : View M E) → total (l ++ w ∷ []) ≡ total l + rights w
  total_end [] w = let a : ℕ = rights w in let g : a + 0 ≡ 0 + a = omega arith in g
  total_end (x ∷ xs) w = let h = total_end xs w in let a : ℕ = rights w in let b : ℕ = rights x in let c : ℕ = total xs in let d : ℕ = total (xs ++ w ∷ []) in let h' : d ≡ c + a = h in let g : b + d ≡ (b + c) + a = omega arith in g

  -- a seat's stage, the turn that was called and the slot know nothing of the passes
  stands_with : (r : Room M E) (b m : ℕ) (f : ℕ → ℕ) (i : ℕ) (v : View M E) (k : Stage) → Stands r i v k → Stands (record r { base = b; made = m; seat_of = f }) i v k
  stands_with r b m f i v Idle h = h
  stands_with r b m f i v Waiting h = h
  stands_with r b m f i v Inside h = h
  stands_with r b m f i v Filling h = h

  busy_with : (views more : List (View M E)) (r : Room M E) (b m : ℕ) (f : ℕ → ℕ) (k : Stage) → Busy views r k → Busy (views ++ more) (record r { base = b; made = m; seat_of = f }) k
  busy_with views more r b m f Idle h = h
  busy_with views more r b m f Waiting h = h
  busy_with views more r b m f Inside h = (h.0, (h.1.0, at_longer views more (r.holder r.served) h.1.0 h.1.1, h.1.2))
  busy_with views more r b m f Filling h = (h.0, (h.1.0, at_longer views more (r.holder r.served) h.1.0 h.1.1, h.1.2))

  not_inside : (v : View M E) → v.stage ≡ Idle → v.stage ≡ Inside → ⊥
  not_inside v idle e = apart Idle Inside v.stage idle e (λ z. omega arith)

  not_filling : (v : View M E) → v.stage ≡ Idle → v.stage ≡ Filling → ⊥
  not_filling v idle e = apart Idle Filling v.stage idle e (λ z. omega arith)

  -- an idle seat changes, and stays idle
  idle_busy : (views : List (View M E)) (r : Room M E) (id : ℕ) (v w : View M E) → get_elem? views id ≡ some v → v.stage ≡ Idle → Busy views r r.turn → Busy (set views id w) r r.turn
  idle_busy views r id v w at idle busy = still_busy views r id v w r.drawn r.holder r.turn at (not_inside v idle) (not_filling v idle) (omega arith) (λ _. refl) busy

  module _ (leads : M → List E → M → Type 0) (owner : E → Option ℕ) (start : M) where
    slot_with : (r : Room M E) (b m : ℕ) (f : ℕ → ℕ) (k : Stage) → Slot leads owner start r k → Slot leads owner start (record r { base = b; made = m; seat_of = f }) k
    slot_with r b m f Idle h = h
    slot_with r b m f Waiting h = h
    slot_with r b m f Inside h = h
    slot_with r b m f Filling h = h

    pass_others : (r : Room M E) (id j at : ℕ) (v u : View M E) → Fits start r id v → Fits start r j u → j ≢ id → 0 < v.made → Fits start (record r { made = r.made + 1; seat_of = put r.seat_of r.made at }) j u
    pass_others r id j at v u fv fu ne some_made = record {
      start_is = fu.start_is;
      first = λ h. absurd (ne ((fu.first h).0 ∙ sym (fv.first some_made).0));
      later = fu.later;
      seen = fu.seen;
      heard = fu.heard;
      stands = stands_with r r.base (r.made + 1) (put r.seat_of r.made at) j u u.stage fu.stands;
      once = fu.once;
      parts = λ n h. let x = fu.parts n h in let l = x.1 in (put_else r.seat_of r.made at n (λ e. omega arith) ∙ x.0, omega arith, x.2);
    }

    pass_left : (r : Room M E) (id at : ℕ) (v : View M E) → v.stage ≡ Idle → Fits start r id v → 0 < v.made → 0 < v.spare → Fits start (record r { made = r.made + 1; seat_of = put r.seat_of r.made at }) id (after_pass v)
    pass_left r id at v idle f some_made some_spare = let y = f.first some_made in let y1 = y.1 in let y2 = y.2 in record {
      start_is = f.start_is;
      first = λ _. (y.0, ap (λ n. n + 1) y1, omega arith);
      later = λ e. absurd (omega arith);
      seen = f.seen;
      heard = f.heard;
      stands = subst (Stands (record r { made = r.made + 1; seat_of = put r.seat_of r.made at }) id (after_pass v)) (sym idle) tt;
      once = f.once;
      parts = λ n h. let x = f.parts n h in let l = x.1 in (put_else r.seat_of r.made at n (λ e. omega arith) ∙ x.0, omega arith, x.2);
    }

    pass_new : (r : Room M E) (id at : ℕ) (v : View M E) → Fits start r id v → 0 < v.made → ((n : ℕ) → r.made ≤ n → of_pass n r.hist ≡ []) → Fits start (record r { made = r.made + 1; seat_of = put r.seat_of r.made at }) at (new_pass v)
    pass_new r id at v f some_made fresh = let y = f.first some_made in let y1 = y.1 in record {
      start_is = f.start_is;
      first = λ h. absurd (omega arith);
      later = λ _. refl;
      seen = f.seen;
      heard = λ k h e. absurd (some-ne-none h (sym e));
      stands = tt;
      once = λ n. one_at_most {E = E} n v.made [];
      parts = λ n h. let e = one_only {E = E} n v.made [] h in let F : ℕ → Type 0 = λ m. (put r.seat_of r.made at m ≡ at) × (m < r.made + 1) × (of_pass m r.hist ≡ mine_of m ((v.made, []) ∷ [])) in
          subst F e (subst (λ m. put r.seat_of r.made at m ≡ at) (sym y1) (put_here r.seat_of r.made at), omega arith, fresh v.made (omega arith) ∙ sym (nothing v.made));
    } where
      nothing : (n : ℕ) → mine_of {E = E} n ((n, []) ∷ []) ≡ []
      nothing n = ap (λ b. cond b [] []) (eq-eqb n n refl)

    pub pass_splits : (id : ℕ) (v : View M E) → v.stage ≡ Idle → 0 < v.made → v.made < 64 → Splits (Kept leads owner start) id v (after_pass v) (new_pass v)
    pass_splits id v idle some_made few s k at = let r = k.room in let f = k.each id v at in let y = f.first some_made in let y1 = y.1 in let y2 = y.2 in let some_spare : 0 < v.spare = omega arith in
        let vs : List (View M E) = set s.views id (after_pass v) in let r' : Room M E = record r { made = r.made + 1; seat_of = put r.seat_of r.made (length vs) } in record {
          room = r';
          words = k.words;
          homes = k.homes;
          slot = slot_with r r.base (r.made + 1) (put r.seat_of r.made (length vs)) r.turn k.slot;
          upto = k.upto;
          busy = busy_with vs (new_pass v ∷ []) r r.base (r.made + 1) (put r.seat_of r.made (length vs)) r.turn (idle_busy s.views r id v (after_pass v) at idle k.busy);
          budget = made_budget r.drawn (total s.views) (total vs) (total (vs ++ new_pass v ∷ [])) v.left v.spare 0 some_spare (total_set s.views id v (after_pass v) at) (total_end vs (new_pass v)) k.budget;
          most = omega arith;
          fresh = λ n h. k.fresh n (omega arith);
          owned = k.owned;
          each = each_end (Fits start r') vs (new_pass v)
              (each_set (Fits start r') s.views id (after_pass v) (λ j u ne e. pass_others r id j (length vs) v u f (k.each j u e) ne some_made) (pass_left r id (length vs) v idle f some_made some_spare))
              (pass_new r id (length vs) v f some_made k.fresh);
        }

    pub note_splits : (id : ℕ) (v : View M E) → v.stage ≡ Idle → Splits (Kept leads owner start) id v v (note v)
    note_splits id v idle s k at = let r = k.room in let f = k.each id v at in let vs : List (View M E) = set s.views id v in record {
      room = r;
      words = k.words;
      homes = k.homes;
      slot = k.slot;
      upto = k.upto;
      busy = busy_with vs (note v ∷ []) r r.base r.made r.seat_of r.turn (idle_busy s.views r id v v at idle k.busy);
      budget = note_budget r.drawn (total s.views) (total vs) (total (vs ++ note v ∷ [])) (rights v) (total_set s.views id v v at) (total_end vs (note v)) k.budget;
      most = k.most;
      fresh = k.fresh;
      owned = k.owned;
      each = each_end (Fits start r) vs (note v) (each_set (Fits start r) s.views id v (λ j u ne e. k.each j u e) f) record {
        start_is = f.start_is;
        first = λ h. absurd (omega arith);
        later = λ _. refl;
        seen = f.seen;
        heard = λ j h e. absurd (some-ne-none h (sym e));
        stands = tt;
        once = λ n. omega arith;
        parts = λ n h. absurd (omega arith);
      };
    } where
      note_budget : (d t t' t'' a : ℕ) → t' + a ≡ t + a → t'' ≡ t' + (0 + 0 * 72057594037927936) → d + t ≡ 4611686018427387905 → d + t'' ≡ 4611686018427387905
      note_budget d t t' t'' a e f b = omega arith

    abbrev joined_room : Room M E → ℕ → View M E → Room M E
    joined_room r id w = record r { base = chosen w.made r.base id; seat_of = λ n. chosen (times n w.parts) (r.seat_of n) id }

    join_others : (r : Room M E) (id other j : ℕ) (w u : View M E) → Fits start r other w → Fits start r j u → j ≢ id → j ≢ other → Fits start (joined_room r id w) j u
    join_others r id other j w u fw fu ne ne' = record {
      start_is = fu.start_is;
      first = λ h. let x = fu.first h in (x.0 ∙ sym (chosen_zero w.made r.base id (zero_unless w.made (λ p. ne' (x.0 ∙ sym (fw.first p).0)))), x.1, x.2);
      later = fu.later;
      seen = fu.seen;
      heard = fu.heard;
      stands = stands_with r (chosen w.made r.base id) r.made (λ n. chosen (times n w.parts) (r.seat_of n) id) j u u.stage fu.stands;
      once = fu.once;
      parts = λ n h. let x = fu.parts n h in (chosen_zero (times n w.parts) (r.seat_of n) id (zero_unless (times n w.parts) (λ p. ne' (sym x.0 ∙ (fw.parts n p).0))) ∙ x.0, x.1, x.2);
    } where
      zero_unless : (n : ℕ) → (0 < n → ⊥) → n ≡ 0
      zero_unless n h = ⊎_elim (λ (z : n ≡ 0). z) (λ (p : 0 < n). absurd (h p)) (eq-zero-or-pos n)

    zero_unless : (n : ℕ) → (0 < n → ⊥) → n ≡ 0
    zero_unless n h = ⊎_elim (λ (z : n ≡ 0). z) (λ (p : 0 < n). absurd (h p)) (eq-zero-or-pos n)

    heard_more : (hist : List (ℕ × E)) (l : List (List (ℕ × E))) (x : List (ℕ × E)) (m : List (List (ℕ × E))) → ((k : ℕ) (h : List (ℕ × E)) → get_elem? l k ≡ some h → Begins hist h) → Begins hist x
        → ((k : ℕ) (h : List (ℕ × E)) → get_elem? m k ≡ some h → Begins hist h) → (k : ℕ) (h : List (ℕ × E)) → get_elem? (l ++ x ∷ m) k ≡ some h → Begins hist h
    heard_more hist [] x m f b g zero h e = subst (Begins hist) (some-injective x h e) b
    heard_more hist [] x m f b g (suc k) h e = g k h e
    heard_more hist (y ∷ ys) x m f b g zero h e = f zero h e
    heard_more hist (y ∷ ys) x m f b g (suc k) h e = heard_more hist ys x m (λ j. f (suc j)) b g k h e

    join_own : (r : Room M E) (id other : ℕ) (v w : View M E) → Fits start r id v → Fits start r other w → ¬ (other ≡ id) → v.stage ≡ Idle → Fits start (joined_room r id w) id (joined v w)
    join_own r id other v w fv fw apart idle = record {
      start_is = fv.start_is;
      first = λ h. ⊎_elim
          (λ (p : 0 < w.made). let x = fw.first p in let x1 = x.1 in let x2 = x.2 in let z = zero_unless v.made (λ q. apart (x.0 ∙ sym (fv.first q).0)) in let l = fv.later z in
          (sym (chosen_more w.made r.base id p), omega arith, omega arith))
          (λ (p : (w.made ≡ 0) × (0 < v.made)). let p0 = p.0 in let x = fv.first p.1 in let x1 = x.1 in let x2 = x.2 in let l = fw.later p.0 in
          (x.0 ∙ sym (chosen_zero w.made r.base id p.0), omega arith, omega arith))
          (either_one w.made v.made (omega arith));
      later = λ e. let a = fv.later (omega arith) in let b = fw.later (omega arith) in omega arith;
      seen = fv.seen;
      heard = heard_more r.hist v.heard w.seen w.heard fv.heard fw.seen fw.heard;
      stands = subst (Stands (joined_room r id w) id (joined v w)) (sym idle) tt;
      once = λ n. let e = times_append n w.parts v.parts in let a = fv.once n in let b = fw.once n in
          ⊎_elim (λ (z : times n w.parts ≡ 0). omega arith) (λ (p : 0 < times n w.parts). let z = zero_unless (times n v.parts) (λ q. apart (sym (fw.parts n p).0 ∙ (fv.parts n q).0)) in omega arith) (eq-zero-or-pos (times n w.parts));
      parts = λ n h. let e = times_append n w.parts v.parts in ⊎_elim
          (λ (p : 0 < times n w.parts). let x = fw.parts n p in (chosen_more (times n w.parts) (r.seat_of n) id p, x.1, x.2 ∙ sym (mine_first n w.parts v.parts p)))
          (λ (p : (times n w.parts ≡ 0) × (0 < times n v.parts)). let x = fv.parts n p.1 in (chosen_zero (times n w.parts) (r.seat_of n) id p.0 ∙ x.0, x.1, x.2 ∙ sym (mine_later n w.parts v.parts p.0)))
          (either_one (times n w.parts) (times n v.parts) (omega arith));
    }

    pub view_joins : (id : ℕ) (v : View M E) (other : ℕ) (w : View M E) → v.stage ≡ Idle → w.stage ≡ Idle → Joins (Kept leads owner start) id v other w (joined v w) spent_view
    view_joins id v other w idle idle' s k at apart at' = let r = k.room in let fv = k.each id v at in
        let there : get_elem? s.views other ≡ some w = sym (set_else s.views id other (joined v w) apart) ∙ at' in
        let fw = k.each other w there in let vs : List (View M E) = set s.views id (joined v w) in let r' : Room M E = joined_room r id w in record {
          room = r';
          words = k.words;
          homes = k.homes;
          slot = slot_with r (chosen w.made r.base id) r.made (λ n. chosen (times n w.parts) (r.seat_of n) id) r.turn k.slot;
          upto = k.upto;
          busy = let now = busy_with vs [] r (chosen w.made r.base id) r.made (λ n. chosen (times n w.parts) (r.seat_of n) id) r.turn (idle_busy s.views r id v (joined v w) at idle k.busy) in
              idle_busy vs r' other w spent_view at' idle' (subst (λ l. Busy l r' r.turn) (append-nil vs) now);
          budget = join_budget r.drawn (total s.views) (total vs) (total (set vs other spent_view)) 0 0 v.left w.left v.spare w.spare (total_set s.views id v (joined v w) at) (total_set vs other w spent_view at') k.budget;
          most = k.most;
          fresh = k.fresh;
          owned = k.owned;
          each = each_set (Fits start r') vs other spent_view
              (λ j u ne e. ⊎_elim (λ (x : (j ≡ id) × (joined v w ≡ u)). subst (λ (y : ℕ × View M E). Fits start r' y.0 y.1) (λ t. (sym x.0 t, x.1 t)) (join_own r id other v w fv fw apart idle))
              (λ (x : (j ≢ id) × (get_elem? s.views j ≡ some u)). join_others r id other j w u fw (k.each j u x.1) x.0 ne) (at_set s.views id j (joined v w) u e))
              record {
                start_is = λ m e. absurd (none_is m e);
                first = λ h. absurd (omega arith);
                later = λ _. refl;
                seen = (r.hist, refl);
                heard = λ j h e. absurd (some-ne-none h (sym e));
                stands = tt;
                once = λ n. omega arith;
                parts = λ n h. absurd (omega arith);
              };
        }

    pub opening_kept : Kept leads owner start (opening (words_of 1 0 0) (None ∷ []) (first_view start))
    opening_kept = let r : Room M E = record { hist = []; holder = λ _. 0; seat_of = λ _. 0; base = 0; made = 1; drawn = 1; served = 0; sleepers = 0; turn = Filling; home = some None } in record {
      room = r;
      words = refl;
      homes = refl;
      slot = refl;
      busy = (omega arith, (first_view start, refl, refl));
      upto = omega arith;
      budget = refl;
      most = omega arith;
      fresh = λ n h. refl;
      owned = λ k x n e o. absurd (some-ne-none x (sym e));
      each = each_end (Fits start r) [] (first_view start) (λ j u e. absurd (some-ne-none u (sym e))) record {
        start_is = λ m e. sym (some_same start m e);
        first = λ h. (refl, refl, refl);
        later = λ e. absurd (omega arith);
        seen = ([], refl);
        heard = λ j h e. absurd (some-ne-none h (sym e));
        stands = ((refl, omega arith, omega arith, (0, omega arith)), (refl, refl, refl));
        once = λ n. one_at_most {E = E} n 0 [];
        parts = λ n h. let e = one_only {E = E} n 0 [] h in subst (λ m. (◌≡◌ {A = ℕ} 0 0) × (m < 1) × ([] ≡ mine_of {E = E} m ((0, []) ∷ []))) e (refl, omega arith, refl);
      };
    }
