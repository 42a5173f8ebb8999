-- A transaction that runs, after one operation more.
use Rattle.std.proofs.Common.{◌≡◌, inl, inr, ℕ, suc, ◌+◌, ◌<◌, ◌≤◌, true, List, [], ◌∷◌, ◌++◌, length, take, drop, Option, None, Some, refl, sym, ◌∙◌, ap, subst, arith}
use Rattle.std.specs.Prelude.{◌==◌, IsSome}
use Rattle.std.specs.List.{AllByRecursion}
use Rattle.std.proofs.lemmas.List.{append-nil, append_assoc, take-append-drop, take-append-le, take-take, take_all, take_at, drop-append-le, drop-take, length-append, length-take-le}
use Rattle.std.proofs.lemmas.Grind.{flat_map-append}
use Rattle.row_types.specs.declared.definition.TableDef.{TableDef}
use Rattle.row_types.specs.declared.row.Value.{Value}
use Rattle.row_types.specs.Tables.{Tables}
use Rattle.row_lists.specs.Held.{Entries}
use Rattle.key_space.specs.Plays.{RowOp, UndoTo, AnswersAt}
use Rattle.plain_model.specs.Calls.{IsMark}
use Rattle.plain_model.specs.CallPlays.{at_moment, latest, moments_of, tables_behind}
use Rattle.op_log.specs.Changes.{IsChange, body_text, change_text}
use Rattle.op_log.specs.declared.change.RowChange.{RowChange}
use Rattle.call_log.specs.Standing.{changes_at, change_moments, standing}
use Rattle.call_log.specs.History.{txn_limit}
use Rattle.txn_rows.specs.declared.undo.Step.{Step}
use Rattle.txn_rows.specs.Steps.{State, stands, IsSame, with_at, back, back_all, Holds, AreThere, AreOf, IsBefore, IsSince, IsOnTable, GoesBack, first_len, IsStepped, IsTakenBack}
use Rattle.txn_rows.specs.Rows.{RunsOn, IsIdleOn}
use Rattle.txn_rows.proofs.States.{same_turned, same_joined, with_same, back_all_same, back_all_more, put_back, there_same, there_front, there_pushed, all_front, all_both, all_more}
use Rattle.txn_rows.proofs.Tables.{holds_same}
use Rattle.txn_rows.proofs.Moments.{mark_most, mark_earlier, changes_mark_earlier, mark_last, changes_mark_last, first_moment, first_changes}

-- ---- steps and the changes that they are of

pub of_len : (defs : List TableDef) (at : ℕ) (steps : List Step) (changes : List RowChange) → AreOf defs at steps changes → length steps ≡ length changes
of_len defs at [] [] of = refl
of_len defs at [] (change ∷ changes) of = absurd of
of_len defs at (s ∷ steps) [] of = absurd of
of_len defs at (s ∷ steps) (change ∷ changes) of = let rest = of_len defs (at + length (change_text defs change)) steps changes of.1 in omega arith

pub body_more : (defs : List TableDef) (change : RowChange) (changes : List RowChange) → length (body_text defs (change ∷ changes)) ≡ length (change_text defs change) + length (body_text defs changes)
body_more defs change changes = length-append (change_text defs change) (body_text defs changes)

pub body_pushed : (defs : List TableDef) (changes : List RowChange) (change : RowChange) → body_text defs (changes ++ change ∷ []) ≡ body_text defs changes ++ change_text defs change
body_pushed defs changes change =
    flat_map-append (change_text defs) changes (change ∷ []) ∙ ap (λ (bytes : List ℕ). body_text defs changes ++ bytes) (append-nil (change_text defs change))

of_pushed : (defs : List TableDef) (at : ℕ) (steps : List Step) (changes : List RowChange) (s : Step) (change : RowChange) → AreOf defs at steps changes → s.len ≡ at + length (body_text defs changes)
    → AreOf defs at (steps ++ s ∷ []) (changes ++ change ∷ [])
of_pushed defs at [] [] s change of len = (omega (arith, len), tt)
of_pushed defs at [] (c ∷ changes) s change of len = absurd of
of_pushed defs at (x ∷ steps) [] s change of len = absurd of
of_pushed defs at (x ∷ steps) (c ∷ changes) s change of len =
    let more = body_more defs c changes in
    (of.0, of_pushed defs (at + length (change_text defs c)) steps changes s change of.1 (omega arith))

of_front : (defs : List TableDef) (at : ℕ) (kept undone : List Step) (changes : List RowChange) → AreOf defs at (kept ++ undone) changes → AreOf defs at kept (take (length kept) changes)
of_front defs at [] undone changes of = tt
of_front defs at (s ∷ kept) undone [] of = absurd of
of_front defs at (s ∷ kept) undone (c ∷ changes) of = (of.0, of_front defs (at + length (change_text defs c)) kept undone changes of.1)

of_next : (defs : List TableDef) (at : ℕ) (kept : List Step) (s : Step) (undone : List Step) (changes : List RowChange) → AreOf defs at (kept ++ s ∷ undone) changes → s.len ≡ at + length (body_text defs (take (length kept) changes))
of_next defs at [] s undone [] of = absurd of
of_next defs at [] s undone (c ∷ changes) of = omega (arith, of.0)
of_next defs at (k ∷ kept) s undone [] of = absurd of
of_next defs at (k ∷ kept) s undone (c ∷ changes) of =
    let rest = of_next defs (at + length (change_text defs c)) kept s undone changes of.1 in
    let more = body_more defs c (take (length kept) changes) in
    omega arith

-- ---- parts of lists

all_take : {A : Type 0} (P : A → Type 0) (n : ℕ) (xs : List A) → AllByRecursion P xs → AllByRecursion P (take n xs)
all_take P n xs all = all_front P (take n xs) (drop n xs) (subst (λ l. AllByRecursion P l) (sym (take-append-drop n xs)) all)

body_front : (defs : List TableDef) (n : ℕ) (changes : List RowChange) → body_text defs changes ≡ body_text defs (take n changes) ++ body_text defs (drop n changes)
body_front defs n changes = ap (λ (cs : List RowChange). body_text defs cs) (sym (take-append-drop n changes)) ∙ flat_map-append (change_text defs) (take n changes) (drop n changes)

body_front_len : (defs : List TableDef) (n : ℕ) (changes : List RowChange) → length (body_text defs (take n changes)) ≤ length (body_text defs changes)
body_front_len defs n changes =
    let parts = ap (λ (bytes : List ℕ). length bytes) (body_front defs n changes) in
    let both = length-append (body_text defs (take n changes)) (body_text defs (drop n changes)) in
    omega arith

cons_parts : {A : Type 0} (x y : A) (xs ys : List A) → x ∷ xs ≡ y ∷ ys → (x ≡ y) × (xs ≡ ys)
cons_parts x y xs ys e = (cc, cc)

not_three : (a k m : ℕ) → a < k → k ≤ m → m ≤ a → ⊥
not_three a k m less le most = omega arith

-- of two splits of the same steps, that at the earlier operation is inside the other
inner_split : (k m : ℕ) (kept_k undone_k kept_m undone_m : List Step) → kept_m ++ undone_m ≡ kept_k ++ undone_k → k ≤ m → AllByRecursion (IsBefore k) kept_k → AllByRecursion (IsSince m) undone_m
    → (between : List Step) × (kept_m ≡ kept_k ++ between) × (undone_k ≡ between ++ undone_m)
inner_split k m [] undone_k kept_m undone_m e le before since = (kept_m, refl, sym e)
inner_split k m (x ∷ kept_k) undone_k [] undone_m e le before since = absurd (not_three x.count k m before.0 le (subst (λ (ss : List Step). AllByRecursion (IsSince m) ss) e since).0)
inner_split k m (x ∷ kept_k) undone_k (y ∷ kept_m) undone_m e le before since =
    let parts = cons_parts y x (kept_m ++ undone_m) (kept_k ++ undone_k) e in
    let rest = inner_split k m kept_k undone_k kept_m undone_m parts.1 le before.1 since in
    (rest.0, ap (λ (z : Step). z ∷ kept_m) parts.0 ∙ ap (λ (ss : List Step). x ∷ ss) rest.1, rest.2)

-- ---- the last moment

-- nothing has to be taken back to stay
stays : (defs : List TableDef) (state : State) (steps : List Step) (op : RowOp) (ops : List RowOp) (first : Tables) (mark : ℕ) → mark ≡ length (op ∷ ops) → Holds defs state (tables_behind (moments_of first ops) op)
    → AreOf defs 4 steps (standing (op ∷ ops)) → AllByRecursion (IsBefore (length (op ∷ ops))) steps
    → GoesBack defs state steps (standing (op ∷ ops)) mark (at_moment mark (moments_of first (op ∷ ops))) (changes_at mark (change_moments (op ∷ ops)))
stays defs state steps op ops first mark e holds of before =
    let len = of_len defs 4 steps (standing (op ∷ ops)) of in
    record {
      kept = steps;
      undone = [];
      split = sym (append-nil steps);
      before = subst (λ n. AllByRecursion (IsBefore n) steps) (sym e) before;
      since = tt;
      holds = subst (λ (ts : Tables). Holds defs state ts) (sym (mark_last first op ops mark e)) holds;
      left_is = changes_mark_last op ops mark e ∙ sym (take_all (length steps) (standing (op ∷ ops)) (omega arith));
    }

-- ---- frames that are cut

-- a frame with its first bytes alone, or whole
abbrev pub cut : Option ℕ → List ℕ → List ℕ
cut None frame = frame
cut (Some len) frame = take len frame

-- a frame that has the bytes of changes
pub record HasBody (defs : List TableDef) (changes : List RowChange) (frame : List ℕ) : Type 0 where
  pub len : length frame ≡ 4 + length (body_text defs changes)
  pub body : drop 4 frame ≡ body_text defs changes

cut_frame : (defs : List TableDef) (kept undone : List Step) (changes : List RowChange) (frame : List ℕ) → AreOf defs 4 (kept ++ undone) changes → HasBody defs changes frame → HasBody defs (take (length kept) changes) (cut (first_len undone) frame)
cut_frame defs kept [] changes frame of has =
    let len = of_len defs 4 (kept ++ []) changes of in
    let same = ap (λ (ss : List Step). length ss) (append-nil kept) in
    subst (λ (cs : List RowChange). HasBody defs cs frame) (sym (take_all (length kept) changes (omega arith))) has
cut_frame defs kept (s ∷ undone) changes frame of has =
    let len : s.len ≡ 4 + length (body_text defs (take (length kept) changes)) = of_next defs 4 kept s undone changes of in
    let whole = has.len in
    let most = body_front_len defs (length kept) changes in
    let parts = body_front defs (length kept) changes in
    let front = body_text defs (take (length kept) changes) in
    record {
      len = length-take-le s.len frame (omega arith) ∙ len;
      body = ap (λ n. drop 4 (take n frame)) len ∙ drop-take 4 (length front) frame ∙ ap (λ (bs : List ℕ). take (length front) bs) (has.body ∙ parts) ∙ take_at front (body_text defs (drop (length kept) changes)) (length front) refl;
    }

before_more : (n : ℕ) (steps : List Step) → AllByRecursion (IsBefore n) steps → AllByRecursion (IsBefore (suc n)) steps
before_more n steps all = all_more (IsBefore n) (IsBefore (suc n)) (λ s less. omega (arith, less)) steps all

module _ (defs : List TableDef) (lists : List Entries) (steps : List Step) (frame : List ℕ) (count : ℕ) (first : Tables) (ops : List RowOp) (runs : RunsOn defs lists steps frame count first ops) where
  -- ---- an operation that changes nothing

  pub read_more : (op : RowOp) → tables_behind (moments_of first ops) op ≡ latest (moments_of first ops) → standing (op ∷ ops) ≡ standing ops → AnswersAt (latest (moments_of first ops)) (length ops) op
      → RunsOn defs lists steps frame (count + 1) first (op ∷ ops)
  read_more op tables_same changes_same says =
      let counted = runs.count_is in
      let holds = subst (λ (ts : Tables). Holds defs (stands lists) ts) (sym tables_same) runs.holds in
      let of = subst (λ (cs : List RowChange). AreOf defs 4 steps cs) (sym changes_same) runs.steps_are in
      let before = before_more (length ops) steps runs.steps_before in
      record {
        lists_len = runs.lists_len;
        first_are = runs.first_are;
        first_schema = runs.first_schema;
        play = (says, runs.play);
        holds = holds;
        fit = subst (λ (cs : List RowChange). AllByRecursion (IsChange defs) cs) (sym changes_same) runs.fit;
        short = subst (λ (cs : List RowChange). length (body_text defs cs) ≤ txn_limit) (sym changes_same) runs.short;
        count_is = omega arith;
        frame_len = subst (λ (cs : List RowChange). length frame ≡ 4 + length (body_text defs cs)) (sym changes_same) runs.frame_len;
        frame_is = subst (λ (cs : List RowChange). drop 4 frame ≡ body_text defs cs) (sym changes_same) runs.frame_is;
        there = runs.there;
        steps_are = of;
        steps_before = before;
        on_tables = runs.on_tables;
        marks = λ mark is. one mark is;
      }
    where
      one : (mark : ℕ) → IsMark (op ∷ ops) mark → GoesBack defs (stands lists) steps (standing (op ∷ ops)) mark (at_moment mark (moments_of first (op ∷ ops))) (changes_at mark (change_moments (op ∷ ops)))
      one mark (inl e) =
          stays defs (stands lists) steps op ops first mark e (subst (λ (ts : Tables). Holds defs (stands lists) ts) (sym tables_same) runs.holds)
          (subst (λ (cs : List RowChange). AreOf defs 4 steps cs) (sym changes_same) runs.steps_are) (before_more (length ops) steps runs.steps_before)
      one mark (inr m) =
          let old = runs.marks mark m.1 in
          record {
            kept = old.kept;
            undone = old.undone;
            split = old.split;
            before = old.before;
            since = old.since;
            holds = subst (λ (ts : Tables). Holds defs (back_all (stands lists) old.undone) ts) (sym (mark_earlier first op ops mark m.1)) old.holds;
            left_is = changes_mark_earlier op ops mark m.1 ∙ old.left_is ∙ ap (λ (cs : List RowChange). take (length old.kept) cs) (sym changes_same);
          }

  -- ---- an operation that is one step

  module _ (new_lists : List Entries) (new_steps : List Step) (new_frame : List ℕ) (op : RowOp) (change : RowChange) (table key : ℕ) (what : Option (List Value))
      (stepped : IsStepped lists new_lists steps new_steps count (length frame) table key (Some what))
      (changes_now : standing (op ∷ ops) ≡ standing ops ++ change ∷ [])
      (holds_now : Holds defs (stands new_lists) (tables_behind (moments_of first ops) op)) where
    back_is : IsSame (back (stands new_lists) stepped.step) (stands lists)
    back_is =
        subst (λ (b : Option (Option (List Value))). IsSame (with_at (stands new_lists) stepped.step.table stepped.step.key.number b) (stands lists)) (sym stepped.before)
        (subst (λ t. IsSame (with_at (stands new_lists) t stepped.step.key.number (stands lists table key)) (stands lists)) (sym stepped.table_is)
        (subst (λ k. IsSame (with_at (stands new_lists) table k (stands lists table key)) (stands lists)) (sym stepped.key_is)
        (same_joined (with_at (stands new_lists) table key (stands lists table key)) (with_at (with_at (stands lists) table key (Some what)) table key (stands lists table key)) (stands lists)
        (with_same (stands new_lists) (with_at (stands lists) table key (Some what)) table key (stands lists table key) stepped.now) (put_back (stands lists) table key (Some what)))))

    is_there : IsSome (stands new_lists stepped.step.table stepped.step.key.number)
    is_there =
        subst (λ t. IsSome (stands new_lists t stepped.step.key.number)) (sym stepped.table_is)
        (subst (λ k. IsSome (stands new_lists table k)) (sym stepped.key_is) (subst (λ (o : Option (Option (List Value))). IsSome o) (sym (stepped.now table key)) put_there))
      where
        own : (n : ℕ) → (n == n) ≡ true
        own n = grind arith

        put_there : IsSome (with_at (stands lists) table key (Some what) table key)
        put_there = rw (own table, own key) refl

    pub step_more : AnswersAt (latest (moments_of first ops)) (length ops) op → IsChange defs change → table < length defs → length (body_text defs (standing ops)) + length (change_text defs change) ≤ txn_limit
        → new_frame ≡ frame ++ change_text defs change → RunsOn defs new_lists new_steps new_frame (count + 1) first (op ∷ ops)
    step_more says fits on_table room bytes =
        let counted = runs.count_is in
        let body : body_text defs (standing (op ∷ ops)) ≡ body_text defs (standing ops) ++ change_text defs change = ap (λ (cs : List RowChange). body_text defs cs) changes_now ∙ body_pushed defs (standing ops) change in
        let body_len : length (body_text defs (standing (op ∷ ops))) ≡ length (body_text defs (standing ops)) + length (change_text defs change) = ap (λ (bs : List ℕ). length bs) body ∙ length-append (body_text defs (standing ops)) (change_text defs change) in
        let frame_len = runs.frame_len in
        let new_len : length new_frame ≡ length frame + length (change_text defs change) = ap (λ (bs : List ℕ). length bs) bytes ∙ length-append frame (change_text defs change) in
        let s = stepped.step in
        let of : AreOf defs 4 new_steps (standing (op ∷ ops)) =
        subst (λ (ss : List Step). AreOf defs 4 ss (standing (op ∷ ops))) (sym stepped.added)
        (subst (λ (cs : List RowChange). AreOf defs 4 (steps ++ s ∷ []) cs) (sym changes_now) (of_pushed defs 4 steps (standing ops) s change runs.steps_are (stepped.len_is ∙ frame_len))) in
        let before : AllByRecursion (IsBefore (length (op ∷ ops))) new_steps =
        subst (λ (ss : List Step). AllByRecursion (IsBefore (length (op ∷ ops))) ss) (sym stepped.added)
        (all_both (IsBefore (length (op ∷ ops))) steps (s ∷ []) (before_more (length ops) steps runs.steps_before) (omega (arith, stepped.count_is), tt)) in
        record {
          lists_len = stepped.lists_len ∙ runs.lists_len;
          first_are = runs.first_are;
          first_schema = runs.first_schema;
          play = (says, runs.play);
          holds = holds_now;
          fit = subst (λ (cs : List RowChange). AllByRecursion (IsChange defs) cs) (sym changes_now) (all_both (IsChange defs) (standing ops) (change ∷ []) runs.fit (fits, tt));
          short = omega arith;
          count_is = omega arith;
          frame_len = omega arith;
          frame_is = ap (λ (bs : List ℕ). drop 4 bs) bytes ∙ drop-append-le 4 frame (change_text defs change) (omega arith) ∙ ap (λ (bs : List ℕ). bs ++ change_text defs change) runs.frame_is ∙ sym body;
          there = subst (λ (ss : List Step). AreThere (stands new_lists) ss) (sym stepped.added)
              (there_pushed (stands new_lists) steps s (there_same (stands lists) (back (stands new_lists) s) steps (same_turned (back (stands new_lists) s) (stands lists) back_is) runs.there) is_there);
          steps_are = of;
          steps_before = before;
          on_tables = subst (λ (ss : List Step). AllByRecursion (IsOnTable (length defs)) ss) (sym stepped.added)
              (all_both (IsOnTable (length defs)) steps (s ∷ []) runs.on_tables (subst (λ t. t < length defs) (sym stepped.table_is) on_table, tt));
          marks = λ mark is. one of before mark is;
        }
      where
        one : AreOf defs 4 new_steps (standing (op ∷ ops)) → AllByRecursion (IsBefore (length (op ∷ ops))) new_steps → (mark : ℕ) → IsMark (op ∷ ops) mark
            → GoesBack defs (stands new_lists) new_steps (standing (op ∷ ops)) mark (at_moment mark (moments_of first (op ∷ ops))) (changes_at mark (change_moments (op ∷ ops)))
        one of before mark (inl e) = stays defs (stands new_lists) new_steps op ops first mark e holds_now of before
        one of before mark (inr m) =
            let old = runs.marks mark m.1 in
            let s = stepped.step in
            let most = mark_most ops mark m.1 in
            let counted = runs.count_is in
            let steps_len = of_len defs 4 steps (standing ops) runs.steps_are in
            let split_len = ap (λ (ss : List Step). length ss) old.split ∙ length-append old.kept old.undone in
            record {
              kept = old.kept;
              undone = old.undone ++ s ∷ [];
              split = stepped.added ∙ ap (λ (ss : List Step). ss ++ s ∷ []) old.split ∙ append_assoc old.kept old.undone (s ∷ []);
              before = old.before;
              since = all_both (IsSince mark) old.undone (s ∷ []) old.since (omega (arith, stepped.count_is), tt);
              holds = subst (λ (ts : Tables). Holds defs (back_all (stands new_lists) (old.undone ++ s ∷ [])) ts) (sym (mark_earlier first op ops mark m.1))
                  (subst (λ (st : State). Holds defs st (at_moment mark (moments_of first ops))) (sym (back_all_more (stands new_lists) old.undone (s ∷ [])))
                  (holds_same defs (back_all (stands lists) old.undone) (back_all (back (stands new_lists) s) old.undone) (at_moment mark (moments_of first ops))
                  (back_all_same (stands lists) (back (stands new_lists) s) old.undone (same_turned (back (stands new_lists) s) (stands lists) back_is)) old.holds));
              left_is = changes_mark_earlier op ops mark m.1 ∙ old.left_is ∙ sym (take-append-le (length old.kept) (standing ops) (change ∷ []) (omega arith)) ∙ ap (λ (cs : List RowChange). take (length old.kept) cs) (sym changes_now);
            }

  -- ---- an operation that goes back

  module _ (mark : ℕ) (is_mark : IsMark ops mark) (old : GoesBack defs (stands lists) steps (standing ops) mark (at_moment mark (moments_of first ops)) (changes_at mark (change_moments ops)))
      (new_lists : List Entries) (taken : IsTakenBack lists new_lists old.undone) where
    holds_back : Holds defs (stands new_lists) (at_moment mark (moments_of first ops))
    holds_back = holds_same defs (back_all (stands lists) old.undone) (stands new_lists) (at_moment mark (moments_of first ops)) (same_turned (stands new_lists) (back_all (stands lists) old.undone) taken.now) old.holds

    of_back : AreOf defs 4 old.kept (changes_at mark (change_moments ops))
    of_back =
        subst (λ (cs : List RowChange). AreOf defs 4 old.kept cs) (sym old.left_is)
        (of_front defs 4 old.kept old.undone (standing ops) (subst (λ (ss : List Step). AreOf defs 4 ss (standing ops)) old.split runs.steps_are))

    before_back : AllByRecursion (IsBefore (suc (length ops))) old.kept
    before_back =
        before_more (length ops) old.kept (all_front (IsBefore (length ops)) old.kept old.undone (subst (λ (ss : List Step). AllByRecursion (IsBefore (length ops)) ss) old.split runs.steps_before))

    earlier : (k : ℕ) → IsMark ops k → k ≤ mark → GoesBack defs (stands new_lists) old.kept (changes_at mark (change_moments ops)) k (at_moment k (moments_of first (UndoTo mark ∷ ops))) (changes_at k (change_moments (UndoTo mark ∷ ops)))
    earlier k is le =
        let far = runs.marks k is in
        let inner = inner_split k mark far.kept far.undone old.kept old.undone (sym old.split ∙ far.split) le far.before old.since in
        let state : IsSame (back_all (stands lists) far.undone) (back_all (stands new_lists) inner.0) =
        subst (λ (st : State). IsSame st (back_all (stands new_lists) inner.0)) (sym (ap (λ (ss : List Step). back_all (stands lists) ss) inner.2 ∙ back_all_more (stands lists) inner.0 old.undone))
        (back_all_same (back_all (stands lists) old.undone) (stands new_lists) inner.0 (same_turned (stands new_lists) (back_all (stands lists) old.undone) taken.now)) in
        let kept_len : length old.kept ≡ length far.kept + length inner.0 = ap (λ (ss : List Step). length ss) inner.1 ∙ length-append far.kept inner.0 in
        record {
          kept = far.kept;
          undone = inner.0;
          split = inner.1;
          before = far.before;
          since = all_front (IsSince k) inner.0 old.undone (subst (λ (ss : List Step). AllByRecursion (IsSince k) ss) inner.2 far.since);
          holds = subst (λ (ts : Tables). Holds defs (back_all (stands new_lists) inner.0) ts) (sym (mark_earlier first (UndoTo mark) ops k is))
              (holds_same defs (back_all (stands lists) far.undone) (back_all (stands new_lists) inner.0) (at_moment k (moments_of first ops)) state far.holds);
          left_is = changes_mark_earlier (UndoTo mark) ops k is ∙ far.left_is ∙ sym (take-take (length far.kept) (length old.kept) (standing ops) (omega arith)) ∙ ap (λ (cs : List RowChange). take (length far.kept) cs) (sym old.left_is);
        }

    pub back_more : RunsOn defs new_lists old.kept (cut (first_len old.undone) frame) (count + 1) first (UndoTo mark ∷ ops)
    back_more =
        let counted = runs.count_is in
        let short = runs.short in
        let left : HasBody defs (changes_at mark (change_moments ops)) (cut (first_len old.undone) frame) =
        subst (λ (cs : List RowChange). HasBody defs cs (cut (first_len old.undone) frame)) (sym old.left_is)
        (cut_frame defs old.kept old.undone (standing ops) frame (subst (λ (ss : List Step). AreOf defs 4 ss (standing ops)) old.split runs.steps_are) (record { len = runs.frame_len; body = runs.frame_is })) in
        let less : length (body_text defs (changes_at mark (change_moments ops))) ≤ length (body_text defs (standing ops)) =
        subst (λ (cs : List RowChange). length (body_text defs cs) ≤ length (body_text defs (standing ops))) (sym old.left_is) (body_front_len defs (length old.kept) (standing ops)) in
        record {
          lists_len = taken.lists_len ∙ runs.lists_len;
          first_are = runs.first_are;
          first_schema = runs.first_schema;
          play = (mark_most ops mark is_mark, runs.play);
          holds = holds_back;
          fit = subst (λ (cs : List RowChange). AllByRecursion (IsChange defs) cs) (sym old.left_is) (all_take (IsChange defs) (length old.kept) (standing ops) runs.fit);
          short = omega arith;
          count_is = omega arith;
          frame_len = left.len;
          frame_is = left.body;
          there = there_same (back_all (stands lists) old.undone) (stands new_lists) old.kept (same_turned (stands new_lists) (back_all (stands lists) old.undone) taken.now)
              (there_front (stands lists) old.kept old.undone (subst (λ (ss : List Step). AreThere (stands lists) ss) old.split runs.there));
          steps_are = of_back;
          steps_before = before_back;
          on_tables = all_front (IsOnTable (length defs)) old.kept old.undone (subst (λ (ss : List Step). AllByRecursion (IsOnTable (length defs)) ss) old.split runs.on_tables);
          marks = λ k is. one k is;
        }
      where
        one : (k : ℕ) → IsMark (UndoTo mark ∷ ops) k → GoesBack defs (stands new_lists) old.kept (changes_at mark (change_moments ops)) k (at_moment k (moments_of first (UndoTo mark ∷ ops))) (changes_at k (change_moments (UndoTo mark ∷ ops)))
        one k (inl e) = stays defs (stands new_lists) old.kept (UndoTo mark) ops first k e holds_back of_back before_back
        one k (inr m) = earlier k m.1 m.0

-- ---- the end of a transaction

-- a transaction that went back to its beginning is over
pub all_undone : (defs : List TableDef) (lists : List Entries) (steps : List Step) (frame : List ℕ) (count : ℕ) (first : Tables) (ops : List RowOp) → RunsOn defs lists steps frame count first (UndoTo 0 ∷ ops) → IsIdleOn defs lists steps frame first []
all_undone defs lists steps frame count first ops runs =
    let none = first_changes ops in
    let len : length steps ≡ length (changes_at 0 (change_moments ops)) = of_len defs 4 steps (changes_at 0 (change_moments ops)) runs.steps_are in
    let no_len = ap (λ (cs : List RowChange). length cs) none in
    let bytes = ap (λ (cs : List RowChange). length (body_text defs cs)) none in
    let frame_len = runs.frame_len in
    record {
      lists_len = runs.lists_len;
      holds = subst (λ (ts : Tables). Holds defs (stands lists) ts) (first_moment first ops) runs.holds;
      no_steps = no_elements steps (omega arith);
      fit = tt;
      short = omega arith;
      frame_is = omega arith;
    }
  where
    no_elements : (ss : List Step) → length ss ≡ 0 → ss ≡ []
    no_elements [] e = refl
    no_elements (s ∷ ss) e = absurd (omega arith)

-- the same rows
pub runs_same : (defs : List TableDef) (lists new_lists : List Entries) (steps new_steps : List Step) (frame new_frame : List ℕ) (count : ℕ) (first : Tables) (ops : List RowOp) → RunsOn defs lists steps frame count first ops → new_lists ≡ lists → new_steps ≡ steps
    → new_frame ≡ frame → RunsOn defs new_lists new_steps new_frame count first ops
runs_same defs lists new_lists steps new_steps frame new_frame count first ops runs a b c =
    subst (λ (ls : List Entries). RunsOn defs ls new_steps new_frame count first ops) (sym a)
    (subst (λ (ss : List Step). RunsOn defs lists ss new_frame count first ops) (sym b) (subst (λ (bs : List ℕ). RunsOn defs lists steps bs count first ops) (sym c) runs))

-- lists that were lent come back
pub lent_back : (len : ℕ) (new old : List Entries) → length new ≡ length old → length old ≡ len → take len (new ++ drop (length new) old) ≡ new
lent_back len new old same is =
    let whole : len ≡ length new = sym is ∙ sym same in
    ap (λ n. take n (new ++ drop (length new) old)) whole ∙ take_at new (drop (length new) old) (length new) refl

-- what going back leaves, by the state alone
pub went_back : (defs : List TableDef) (lists new_lists : List Entries) (steps new_steps : List Step) (frame new_frame : List ℕ) (count : ℕ) (first : Tables) (ops : List RowOp) (mark : ℕ) (len : Option ℕ)
    → RunsOn defs lists steps frame count first ops → IsMark ops mark
    → ((kept undone : List Step) → steps ≡ kept ++ undone → AllByRecursion (IsBefore mark) kept → AllByRecursion (IsSince mark) undone → (new_steps ≡ kept) × (len ≡ first_len undone) × IsTakenBack lists new_lists undone)
    → new_frame ≡ cut len frame → RunsOn defs new_lists new_steps new_frame (count + 1) first (UndoTo mark ∷ ops)
went_back defs lists new_lists steps new_steps frame new_frame count first ops mark len runs is back bytes =
    let old = runs.marks mark is in
    let done = back old.kept old.undone old.split old.before old.since in
    let all = back_more defs lists steps frame count first ops runs mark is old new_lists done.2 in
    runs_same defs new_lists new_lists old.kept new_steps (cut (first_len old.undone) frame) new_frame (count + 1) first (UndoTo mark ∷ ops) all refl done.0 (bytes ∙ ap (λ (o : Option ℕ). cut o frame) done.1)
