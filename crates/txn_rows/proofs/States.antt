-- States of lists, and steps that are taken back.
use Rattle.std.proofs.Common.{◌≡◌, ℕ, ◌<◌, ◌≤◌, Bool, true, false, cond, ◌&&◌, eqb, List, [], ◌∷◌, ◌++◌, length, Option, None, Some, refl, sym, ◌∙◌, ap, subst, arith}
use Rattle.std.specs.Prelude.{◌==◌, ◌-◌, suc, IsSome, slice_get, slice_index_or}
use Rattle.std.specs.Borrow.{Bor}
use Rattle.std.specs.List.{AllByRecursion, slice_set}
use Rattle.std.specs.Option.{option_copied, option_flatten}
use Rattle.std.proofs.Math.ListN.{length-set}
use Rattle.std.proofs.lemmas.Bool.{eqb-true, eqb-false}
use Rattle.std.proofs.lemmas.List.{get_or-set_same, get_or-set_other, append-nil, append_assoc}
use Rattle.row_types.specs.declared.row.Value.{Value}
use Rattle.row_lists.specs.Held.{Entries, at_key, stood}
use Rattle.txn_rows.specs.declared.undo.Step.{Step}
use Rattle.txn_rows.specs.Steps.{State, stands, IsSame, with_at, back, back_all, AreThere, IsBefore, IsSince, IsOnTable, EndsBefore, first_len, IsTakenBack, KeepsRows}

-- ---- states

pub same_self : (a : State) → IsSame a a
same_self a t k = refl

pub same_turned : (a b : State) → IsSame a b → IsSame b a
same_turned a b same t k = sym (same t k)

pub same_joined : (a b c : State) → IsSame a b → IsSame b c → IsSame a c
same_joined a b c first second t k = first t k ∙ second t k

pub with_same : (a b : State) (table key : ℕ) (what : Option (Option (List Value))) → IsSame a b → IsSame (with_at a table key what) (with_at b table key what)
with_same a b table key what same t k = ap (λ (o : Option (Option (List Value))). cond ((table == t) && (key == k)) what o) (same t k)

pub back_same : (a b : State) (step : Step) → IsSame a b → IsSame (back a step) (back b step)
back_same a b step same = with_same a b step.table step.key.number (stood step.before) same

pub back_all_same : (a b : State) (steps : List Step) → IsSame a b → IsSame (back_all a steps) (back_all b steps)
back_all_same a b [] same = same
back_all_same a b (step ∷ steps) same = back_same (back_all a steps) (back_all b steps) step (back_all_same a b steps same)

pub back_all_more : (state : State) (xs ys : List Step) → back_all state (xs ++ ys) ≡ back_all (back_all state ys) xs
back_all_more state [] ys = refl
back_all_more state (x ∷ xs) ys = ap (λ (s : State). back s x) (back_all_more state xs ys)

-- what was put somewhere is taken back by putting there what stood there
pub put_back : (state : State) (table key : ℕ) (what : Option (Option (List Value))) → IsSame (with_at (with_at state table key what) table key (state table key)) state
put_back state table key what t k = one (table == t) (key == k) refl refl
  where
    one : (a b : Bool) → (table == t) ≡ a → (key == k) ≡ b → cond (a && b) (state table key) (cond (a && b) what (state t k)) ≡ state t k
    one true true e f = let same : table ≡ t = eqb-true table t e in let also : key ≡ k = eqb-true key k f in rw (same, also) refl
    one true false e f = refl
    one false true e f = refl
    one false false e f = refl

-- ---- keys that are there

pub there_same : (a b : State) (steps : List Step) → IsSame a b → AreThere a steps → AreThere b steps
there_same a b [] same there = tt
there_same a b (s ∷ steps) same there = (subst (λ (o : Option (Option (List Value))). IsSome o) (back_all_same a b steps same s.table s.key.number) there.0, there_same a b steps same there.1)

pub there_front : (state : State) (xs ys : List Step) → AreThere state (xs ++ ys) → AreThere (back_all state ys) xs
there_front state [] ys there = tt
there_front state (x ∷ xs) ys there = (subst (λ (st : State). IsSome (st x.table x.key.number)) (back_all_more state xs ys) there.0, there_front state xs ys there.1)

pub there_last : (state : State) (xs : List Step) (s : Step) → AreThere state (xs ++ s ∷ []) → IsSome (state s.table s.key.number)
there_last state [] s there = there.0
there_last state (x ∷ xs) s there = there_last state xs s there.1

pub there_pushed : (state : State) (xs : List Step) (s : Step) → AreThere (back state s) xs → IsSome (state s.table s.key.number) → AreThere state (xs ++ s ∷ [])
there_pushed state [] s there last = (last, tt)
there_pushed state (x ∷ xs) s there last = (subst (λ (st : State). IsSome (st x.table x.key.number)) (sym (back_all_more state xs (s ∷ []))) there.0, there_pushed state xs s there.1 last)

-- ---- facts of all steps

pub all_front : {A : Type 0} (P : A → Type 0) (xs ys : List A) → AllByRecursion P (xs ++ ys) → AllByRecursion P xs
all_front P [] ys all = tt
all_front P (x ∷ xs) ys all = (all.0, all_front P xs ys all.1)

pub all_end : {A : Type 0} (P : A → Type 0) (xs ys : List A) → AllByRecursion P (xs ++ ys) → AllByRecursion P ys
all_end P [] ys all = all
all_end P (x ∷ xs) ys all = all_end P xs ys all.1

pub all_both : {A : Type 0} (P : A → Type 0) (xs ys : List A) → AllByRecursion P xs → AllByRecursion P ys → AllByRecursion P (xs ++ ys)
all_both P [] ys front end = end
all_both P (x ∷ xs) ys front end = (front.0, all_both P xs ys front.1 end)

pub all_more : {A : Type 0} (P Q : A → Type 0) → ((x : A) → P x → Q x) → (xs : List A) → AllByRecursion P xs → AllByRecursion Q xs
all_more P Q f [] all = tt
all_more P Q f (x ∷ xs) all = (f x all.0, all_more P Q f xs all.1)

-- ---- lists

pub stands_set : (lists : List Entries) (n : ℕ) (new : Entries) → n < length lists → (t k : ℕ) → stands (slice_set lists n new) t k ≡ cond (eqb n t) (at_key new k) (stands lists t k)
stands_set lists n new inside t k = one (eqb n t) refl
  where
    one : (b : Bool) → eqb n t ≡ b → at_key (slice_index_or (slice_set lists n new) t []) k ≡ cond b (at_key new k) (at_key (slice_index_or lists t []) k)
    one true e =
        let same : n ≡ t = eqb-true n t e in
        ap (λ (es : Entries). at_key es k) (subst (λ m. slice_index_or (slice_set lists n new) m [] ≡ new) same (get_or-set_same lists n new [] inside))
    one false e = ap (λ (es : Entries). at_key es k) (get_or-set_other lists n t new [] (λ same. eqb-false n t e (sym same)))

-- another list in the place of one, in which one key has something else
pub with_set : (lists : List Entries) (n key : ℕ) (what : Option (Option (List Value))) (new : Entries) → n < length lists → ((k : ℕ) → at_key new k ≡ cond (eqb key k) what (stands lists n k))
    → IsSame (stands (slice_set lists n new)) (with_at (stands lists) n key what)
with_set lists n key what new inside says t k = stands_set lists n new inside t k ∙ one (eqb n t) refl
  where
    one : (b : Bool) → eqb n t ≡ b → cond b (at_key new k) (stands lists t k) ≡ cond (b && eqb key k) what (stands lists t k)
    one true e = says k ∙ ap (λ m. cond (eqb key k) what (stands lists m k)) (eqb-true n t e)
    one false e = refl

-- the same where its rows stay
pub rows_set : (lists : List Entries) (n : ℕ) (new : Entries) → n < length lists → ((k : ℕ) → option_flatten (at_key new k) ≡ option_flatten (stands lists n k)) → KeepsRows lists (slice_set lists n new)
rows_set lists n new inside says = record { lists_len = length-set lists n new; rows = λ t k. ap option_flatten (stands_set lists n new inside t k) ∙ one t k (eqb n t) refl }
  where
    one : (t k : ℕ) (b : Bool) → eqb n t ≡ b → option_flatten (cond b (at_key new k) (stands lists t k)) ≡ option_flatten (stands lists t k)
    one t k true e = says k ∙ ap (λ m. option_flatten (stands lists m k)) (eqb-true n t e)
    one t k false e = refl

pub rows_kept_self : (lists : List Entries) → KeepsRows lists lists
rows_kept_self lists = record { lists_len = refl; rows = λ t k. refl }

pub rows_kept_on : (a b c : List Entries) → KeepsRows a b → KeepsRows b c → KeepsRows a c
rows_kept_on a b c first second = record { lists_len = second.lists_len ∙ first.lists_len; rows = λ t k. second.rows t k ∙ first.rows t k }

-- ---- taking back

-- some steps were taken back
pub record Undoing (old_lists lists : List Entries) (old steps : List Step) (count : ℕ) (len : Option ℕ) : Type 0 where
  pub undone : List Step
  pub split : old ≡ steps ++ undone
  pub since : AllByRecursion (IsSince count) undone
  pub len_is : len ≡ first_len undone
  pub back_is : IsTakenBack old_lists lists undone
  pub there : AreThere (stands lists) steps
  pub on_tables : AllByRecursion (IsOnTable (length lists)) steps

pub undoing_start : (lists : List Entries) (old : List Step) (count : ℕ) → AreThere (stands lists) old → AllByRecursion (IsOnTable (length lists)) old → Undoing lists lists old old count None
undoing_start lists old count there on = record {
  undone = [];
  split = sym (append-nil old);
  since = tt;
  len_is = refl;
  back_is = record { lists_len = refl; now = same_self (stands lists) };
  there = there;
  on_tables = on;
}

pub undoing_step : (old_lists lists new_lists : List Entries) (old steps rest : List Step) (count : ℕ) (len : Option ℕ) (s : Step) → Undoing old_lists lists old steps count len → steps ≡ rest ++ s ∷ [] → IsSince count s → length new_lists ≡ length lists
    → IsSame (stands new_lists) (back (stands lists) s) → Undoing old_lists new_lists old rest count (Some s.len)
undoing_step old_lists lists new_lists old steps rest count len s so_far last since len_same now =
    let there : AreThere (stands lists) (rest ++ s ∷ []) = subst (λ (ss : List Step). AreThere (stands lists) ss) last so_far.there in
    let on : AllByRecursion (IsOnTable (length lists)) (rest ++ s ∷ []) = subst (λ (ss : List Step). AllByRecursion (IsOnTable (length lists)) ss) last so_far.on_tables in
    record {
      undone = s ∷ so_far.undone;
      split = so_far.split ∙ ap (λ (ss : List Step). ss ++ so_far.undone) last ∙ append_assoc rest (s ∷ []) so_far.undone;
      since = (since, so_far.since);
      len_is = refl;
      back_is = record {
        lists_len = len_same ∙ so_far.back_is.lists_len;
        now = same_joined (stands new_lists) (back (stands lists) s) (back_all (stands old_lists) (s ∷ so_far.undone)) now (back_same (stands lists) (back_all (stands old_lists) so_far.undone) s so_far.back_is.now);
      };
      there = there_same (back (stands lists) s) (stands new_lists) rest (same_turned (stands new_lists) (back (stands lists) s) now) (there_front (stands lists) rest (s ∷ []) there);
      on_tables = subst (λ n. AllByRecursion (IsOnTable n) rest) (sym len_same) (all_front (IsOnTable (length lists)) rest (s ∷ []) on);
    }

-- the last step's place
pub last_on_table : (n : ℕ) (rest : List Step) (s : Step) → AllByRecursion (IsOnTable n) (rest ++ s ∷ []) → s.table < n
last_on_table n rest s all = (all_end (IsOnTable n) rest (s ∷ []) all).0

head_same : {A : Type 0} (x y : A) (xs ys : List A) → x ∷ xs ≡ y ∷ ys → (x ≡ y) × (xs ≡ ys)
head_same x y xs ys e = (cc, cc)

nil_cons : {A : Type 0} (x : A) (xs : List A) → [] ≡ x ∷ xs → ⊥
nil_cons x xs e = cc

not_both : (count n : ℕ) → n < count → count ≤ n → ⊥
not_both count n less more = omega arith

last_since : (count : ℕ) (x : Step) (xs : List Step) → EndsBefore count (x ∷ xs) → AllByRecursion (IsSince count) (x ∷ xs) → ⊥
last_since count x [] ends all = not_both count x.count ends all.0
last_since count x (y ∷ xs) ends all = last_since count y xs ends all.1

ends_tail : (count : ℕ) (x : Step) (xs : List Step) → EndsBefore count (x ∷ xs) → EndsBefore count xs
ends_tail count x [] ends = tt
ends_tail count x (y ∷ xs) ends = ends

-- steps part in one way into those before an operation and those since
pub one_split : (count : ℕ) (xs ys kept undone : List Step) → xs ++ ys ≡ kept ++ undone → EndsBefore count xs → AllByRecursion (IsSince count) ys → AllByRecursion (IsBefore count) kept → AllByRecursion (IsSince count) undone → (xs ≡ kept) × (ys ≡ undone)
one_split count [] ys [] undone e ends since before later = (refl, e)
one_split count (x ∷ xs) ys [] undone e ends since before later =
    absurd (last_since count x xs ends (all_front (IsSince count) (x ∷ xs) ys (subst (λ (ss : List Step). AllByRecursion (IsSince count) ss) (sym e) later)))
one_split count [] ys (k ∷ kept) undone e ends since before later =
    absurd (not_both count k.count before.0 (subst (λ (ss : List Step). AllByRecursion (IsSince count) ss) e since).0)
one_split count (x ∷ xs) ys (k ∷ kept) undone e ends since before later =
    let parts = head_same x k (xs ++ ys) (kept ++ undone) e in
    let rest = one_split count xs ys kept undone parts.1 (ends_tail count x xs ends) since before.1 later in
    (rw (parts.0, rest.0) refl, rest.1)

pub undoing_end : (old_lists lists : List Entries) (old steps : List Step) (count : ℕ) (len : Option ℕ) → Undoing old_lists lists old steps count len → EndsBefore count steps
    → (kept undone : List Step) → old ≡ kept ++ undone → AllByRecursion (IsBefore count) kept → AllByRecursion (IsSince count) undone → (steps ≡ kept) × (len ≡ first_len undone) × IsTakenBack old_lists lists undone
undoing_end old_lists lists old steps count len so_far ends kept undone split before since =
    let parts = one_split count steps so_far.undone kept undone (sym so_far.split ∙ split) ends so_far.since before since in
    (parts.0, so_far.len_is ∙ ap first_len parts.1, subst (λ (ss : List Step). IsTakenBack old_lists lists ss) parts.1 so_far.back_is)

-- the last step is read
last_read : (count : ℕ) (xs : List Step) (s : Step) → slice_get xs (length xs - 1) ≡ Some s → s.count < count → EndsBefore count xs
last_read count [] s e less = tt
last_read count (x ∷ []) s e less = let same : x ≡ s = cc in subst (λ (z : Step). z.count < count) (sym same) less
last_read count (x ∷ y ∷ xs) s e less =
    let place : length (x ∷ y ∷ xs) - 1 ≡ suc (length (y ∷ xs) - 1) = omega arith in
    last_read count (y ∷ xs) s (subst (λ n. slice_get (x ∷ y ∷ xs) n ≡ Some s) place e) less

pub ends_read : (count : ℕ) (xs : List Step) (b : Bor Step) (o : Option (Bor Step)) → o ≡ Some b → option_copied o ≡ slice_get xs (length xs - 1) → b.now.count < count → EndsBefore count xs
ends_read count xs b o is value less = last_read count xs b.now (sym value ∙ ap option_copied is) less

pub ends_none : (count : ℕ) (xs : List Step) → length xs ≡ 0 → EndsBefore count xs
ends_none count [] e = tt
ends_none count (x ∷ xs) e = absurd (omega arith)
