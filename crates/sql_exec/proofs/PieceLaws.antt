-- Parts of a range: what is done with one after the other is done with the whole.
use Rattle.std.proofs.Common.{◌≡◌, inl, inr, ℕ, ◌+◌, ◌-◌, ◌^◌, ◌<◌, ◌≤◌, min, Bool, true, false, cond, ◌||◌, List, [], ◌∷◌, ◌++◌, length, None, Some, refl, sym, ap, subst, ◌∙◌, arith}
use Rattle.std.specs.Prelude.{◌&&◌, nat_le, nat_lt}
use Rattle.key_space.specs.declared.range.Range.{Range}
use Rattle.key_space.specs.Ranges.{behind}
use Rattle.std.specs.List.{AllByRecursion, filter, flat_map, list_any}
use Rattle.std.proofs.lemmas.Bool.{cases_lt, lt-ltb, le-ltb, le-leb, lt-leb, leb-false}
use Rattle.std.proofs.lemmas.List.{append-nil, length-append}
use Rattle.std.proofs.lemmas.List.Elements.{filter-append}
use Rattle.std.proofs.lemmas.List.Folds.{list_any-append}
use Rattle.std.proofs.lemmas.Grind.{flat_map-append}
use Rattle.row_types.specs.declared.row.Value.{Value}
use Rattle.row_types.specs.Keys.{row_key}
use Rattle.key_space.specs.Plays.{Rows, rows_between}
use Rattle.sql_exec.specs.declared.act.Act.{Act}
use Rattle.sql_exec.specs.declared.act.Act.TheVariants.{Keep, Set, Take, Refuse}
use Rattle.sql_exec.specs.Acts.{acted_in, done_count, is_done, is_in, is_refused, left_of, put_by, rows_in, some_refused, taken_by}
use Rattle.plain_model.specs.Calls.{Call}
use Rattle.sql_exec.specs.Bodies.{ActedSoFar}
use Rattle.sql_exec.specs.Pieces.{SendsAll}
use Rattle.sql_exec.proofs.InPlaces.{Above, Rise}

pub less_more : (a b : ℕ) → a ≤ b → (a ≡ b → ⊥) → a + 1 ≤ b
less_more a b le other = omega (arith, le, other)

and_false : (b : Bool) → (b && false) ≡ false
and_false true = refl
and_false false = refl

-- what lies behind a key of a range
behind_by : (range rest : Range) (key : ℕ) (b : Bool) → nat_le range.hi.number key ≡ b → cond b None (Some (record range { lo = record range.lo { number = key + 1 } })) ≡ Some rest
    → (rest.lo.number ≡ key + 1) × (rest.hi.number ≡ range.hi.number) × (key + 1 ≤ range.hi.number)
behind_by range rest key true e is = absurd cc
behind_by range rest key false e is =
    let same : record range { lo = record range.lo { number = key + 1 } } ≡ rest = cc in
    (ap (λ (r : Range). r.lo.number) (sym same), ap (λ (r : Range). r.hi.number) (sym same), omega (arith, leb-false range.hi.number key e))

pub behind_is : (range rest : Range) (key : ℕ) → behind range key ≡ Some rest → (rest.lo.number ≡ key + 1) × (rest.hi.number ≡ range.hi.number) × (key + 1 ≤ range.hi.number)
behind_is range rest key is = behind_by range rest key (nat_le range.hi.number key) refl is

module _ (marks : List ℕ) where
  in_yes : (lo end : ℕ) (row : List Value) → lo ≤ row_key marks row → row_key marks row < end → is_in marks lo end row ≡ true
  in_yes lo end row low high = rw (le-leb lo (row_key marks row) low, lt-ltb (row_key marks row) end high) refl

  in_low : (lo end : ℕ) (row : List Value) → row_key marks row < lo → is_in marks lo end row ≡ false
  in_low lo end row low = rw (lt-leb lo (row_key marks row) low) refl

  in_high : (lo end : ℕ) (row : List Value) → end ≤ row_key marks row → is_in marks lo end row ≡ false
  in_high lo end row high = rw (le-ltb (row_key marks row) end high) (and_false (nat_le lo (row_key marks row)))

  -- where a row lies, seen from three places
  data Place (lo mid end : ℕ) (row : List Value) : Type 0 where
    outside : is_in marks lo end row ≡ false → is_in marks lo mid row ≡ false → is_in marks mid end row ≡ false → Place lo mid end row
    early : is_in marks lo end row ≡ true → is_in marks lo mid row ≡ true → is_in marks mid end row ≡ false → row_key marks row < mid → Place lo mid end row
    late : is_in marks lo end row ≡ true → is_in marks lo mid row ≡ false → is_in marks mid end row ≡ true → mid ≤ row_key marks row → Place lo mid end row

  place : (lo mid end : ℕ) (row : List Value) → lo ≤ mid → mid ≤ end → Place lo mid end row
  place lo mid end row low high =
      elim (cases_lt (row_key marks row) lo) [
        | inl a ↦ outside (in_low lo end row a) (in_low lo mid row a) (in_low mid end row (omega (arith, a, low)))
        | inr b ↦
            elim (cases_lt (row_key marks row) mid) [
              | inl c ↦ early (in_yes lo end row b (omega (arith, c, high))) (in_yes lo mid row b c) (in_low mid end row c) c
              | inr d ↦
                  elim (cases_lt (row_key marks row) end) [
                    | inl e ↦ late (in_yes lo end row b e) (in_high lo mid row d) (in_yes mid end row d e) d
                    | inr f ↦ outside (in_high lo end row f) (in_high lo mid row (omega (arith, f, high))) (in_high mid end row f)
                  ]
            ]
      ]

  -- rows behind a key aren't before it
  none_before : (lo mid k : ℕ) (rows : Rows) → mid ≤ k → Above marks k rows → rows_in marks lo mid rows ≡ []
  none_before lo mid k [] le all = refl
  none_before lo mid k (row ∷ rows) le all = rw (in_high lo mid row (omega (arith, le, all.0))) (none_before lo mid k rows le all.1)

  split_step : (lo mid end : ℕ) (row : List Value) (rows : Rows) → Place lo mid end row → Above marks (row_key marks row) rows → rows_in marks lo end rows ≡ rows_in marks lo mid rows ++ rows_in marks mid end rows
      → rows_in marks lo end (row ∷ rows) ≡ rows_in marks lo mid (row ∷ rows) ++ rows_in marks mid end (row ∷ rows)
  split_step lo mid end row rows (outside a b c) above rest = rw (a, b, c) rest
  split_step lo mid end row rows (early a b c k) above rest = rw (a, b, c) (ap (λ (l : Rows). row ∷ l) rest)
  split_step lo mid end row rows (late a b c k) above rest =
      let none = none_before lo mid (row_key marks row) rows k above in
      rw (a, b, c) (ap (λ (l : Rows). row ∷ l) (rest ∙ ap (λ (l : Rows). l ++ rows_in marks mid end rows) none) ∙ ap (λ (l : Rows). l ++ row ∷ rows_in marks mid end rows) (sym none))

  -- the rows of a range are those of its first part and those of the rest
  pub rows_split : (lo mid end : ℕ) (rows : Rows) → lo ≤ mid → mid ≤ end → Rise marks rows → rows_in marks lo end rows ≡ rows_in marks lo mid rows ++ rows_in marks mid end rows
  rows_split lo mid end [] low high rise = refl
  rows_split lo mid end (row ∷ rows) low high rise = split_step lo mid end row rows (place lo mid end row low high) rise.0 (rows_split lo mid end rows low high rise.1)

  in_between : (lo upto : ℕ) (row : List Value) → (nat_le lo (row_key marks row) && nat_le (row_key marks row) upto) ≡ is_in marks lo (upto + 1) row
  in_between lo upto row = ap (λ b. nat_le lo (row_key marks row) && b) (same (row_key marks row)) where
    same : (k : ℕ) → nat_le k upto ≡ nat_lt k (upto + 1)
    same k =
        elim (cases_lt upto k) [
          | inl a ↦ lt-leb k upto a ∙ sym (le-ltb k (upto + 1) (omega (arith, a)))
          | inr b ↦ le-leb k upto b ∙ sym (lt-ltb k (upto + 1) (omega (arith, b)))
        ]

  -- the rows between two keys, both among them
  pub between : (lo upto : ℕ) (rows : Rows) → rows_between marks rows lo upto ≡ rows_in marks lo (upto + 1) rows
  between lo upto [] = refl
  between lo upto (row ∷ rows) = rw (in_between lo upto row, between lo upto rows) refl

  pub none_from : (lo : ℕ) (rows : Rows) → rows_in marks lo lo rows ≡ []
  none_from lo [] = refl
  none_from lo (row ∷ rows) =
      elim (cases_lt (row_key marks row) lo) [
        | inl a ↦ rw (in_low lo lo row a) (none_from lo rows)
        | inr b ↦ rw (in_high lo lo row b) (none_from lo rows)
      ]

  module _ (act : List Value → Act) where
    abbrev one_acted : ℕ → ℕ → List Value → Rows
    one_acted lo end row = cond (is_in marks lo end row) (left_of (act row) row) (row ∷ [])

    pub acted_none : (lo : ℕ) (rows : Rows) → acted_in marks lo lo act rows ≡ rows
    acted_none lo [] = refl
    acted_none lo (row ∷ rows) =
        elim (cases_lt (row_key marks row) lo) [
          | inl a ↦ rw (in_low lo lo row a) (ap (λ (l : Rows). row ∷ l) (acted_none lo rows))
          | inr b ↦ rw (in_high lo lo row b) (ap (λ (l : Rows). row ∷ l) (acted_none lo rows))
        ]

    module _ (Fits : List Value → Type 0) (keeps : (row new : List Value) → Fits row → act row ≡ Set new → row_key marks new ≡ row_key marks row) (lo mid end : ℕ) (low : lo ≤ mid) (high : mid ≤ end) where
      -- what is left of an early row lies before the middle
      left_early : (a : Act) (row : List Value) → Fits row → act row ≡ a → row_key marks row < mid → (acted_in marks mid end act (left_of a row) ≡ left_of a row) × (rows_in marks mid end (left_of a row) ≡ [])
      left_early Keep row fits is k = (rw (in_low mid end row k) refl, rw (in_low mid end row k) refl)
      left_early Refuse row fits is k = (rw (in_low mid end row k) refl, rw (in_low mid end row k) refl)
      left_early Take row fits is k = (refl, refl)
      left_early (Set new) row fits is k =
          let before = in_low mid end new (omega (arith, k, keeps row new fits is)) in
          (rw before refl, rw before refl)

      act_step : (row : List Value) → Fits row → Place lo mid end row → acted_in marks mid end act (one_acted lo mid row) ≡ one_acted lo end row
      act_step row fits (outside a b c) = rw (a, b) (rw c refl)
      act_step row fits (early a b c k) = rw (a, b) (left_early (act row) row fits refl k).0
      act_step row fits (late a b c k) = rw (a, b) (rw c (append-nil (left_of (act row) row)))

      after_step : (row : List Value) → Fits row → Place lo mid end row → rows_in marks mid end (one_acted lo mid row) ≡ rows_in marks mid end (row ∷ [])
      after_step row fits (outside a b c) = rw b refl
      after_step row fits (early a b c k) = rw b ((left_early (act row) row fits refl k).1 ∙ rw c refl)
      after_step row fits (late a b c k) = rw b refl

      pub acted_split : (rows : Rows) → AllByRecursion Fits rows → acted_in marks mid end act (acted_in marks lo mid act rows) ≡ acted_in marks lo end act rows
      acted_split [] all = refl
      acted_split (row ∷ rows) all =
          flat_map-append (one_acted mid end) (one_acted lo mid row) (acted_in marks lo mid act rows)
          ∙ ap (λ (l : Rows). l ++ acted_in marks mid end act (acted_in marks lo mid act rows)) (act_step row all.0 (place lo mid end row low high))
          ∙ ap (λ (l : Rows). one_acted lo end row ++ l) (acted_split rows all.1)

      row_alone : (row : List Value) (rows : Rows) → rows_in marks mid end (row ∷ []) ++ rows_in marks mid end rows ≡ rows_in marks mid end (row ∷ rows)
      row_alone row rows = sym (filter-append (is_in marks mid end) (row ∷ []) rows)

      pub rows_after : (rows : Rows) → AllByRecursion Fits rows → rows_in marks mid end (acted_in marks lo mid act rows) ≡ rows_in marks mid end rows
      rows_after [] all = refl
      rows_after (row ∷ rows) all =
          filter-append (is_in marks mid end) (one_acted lo mid row) (acted_in marks lo mid act rows)
          ∙ ap (λ (l : Rows). l ++ rows_in marks mid end (acted_in marks lo mid act rows)) (after_step row all.0 (place lo mid end row low high))
          ∙ ap (λ (l : Rows). rows_in marks mid end (row ∷ []) ++ l) (rows_after rows all.1) ∙ row_alone row rows

      or_none : (a b : Bool) → a ≡ false → b ≡ false → (a || b) ≡ false
      or_none true b e f = absurd cc
      or_none false b e f = f

      or_some : (a b : Bool) → b ≡ true → (a || b) ≡ true
      or_some true b e = refl
      or_some false b e = e

      module _ (count : ℕ) (old now : Rows) (all : AllByRecursion Fits old) (rise : Rise marks old) (so_far : ActedSoFar marks lo mid act count old now) where
        pub rest_now : rows_in marks mid end now ≡ rows_in marks mid end old
        rest_now = ap (rows_in marks mid end) so_far.rows ∙ rows_after old all

        pub refused_later : some_refused act (rows_in marks mid end now) ≡ true → some_refused act (rows_in marks lo end old) ≡ true
        refused_later some =
            ap (some_refused act) (rows_split lo mid end old low high rise) ∙ list_any-append (λ r. is_refused (act r)) (rows_in marks lo mid old) (rows_in marks mid end old)
            ∙ or_some (some_refused act (rows_in marks lo mid old)) (some_refused act (rows_in marks mid end old)) (subst (λ (l : Rows). some_refused act l ≡ true) rest_now some)

        count_split : done_count act (rows_in marks lo end old) ≡ done_count act (rows_in marks lo mid old) + done_count act (rows_in marks mid end old)
        count_split =
            ap (done_count act) (rows_split lo mid end old low high rise) ∙ ap length (filter-append (λ r. is_done (act r)) (rows_in marks lo mid old) (rows_in marks mid end old))
            ∙ length-append (filter (λ r. is_done (act r)) (rows_in marks lo mid old)) (filter (λ r. is_done (act r)) (rows_in marks mid end old))

        pub more_so_far : (passed total : ℕ) (new : Rows) → new ≡ acted_in marks mid end act now → some_refused act (rows_in marks mid end now) ≡ false → passed ≡ done_count act (rows_in marks mid end now)
            → total ≡ min (count + passed) (2 ^ 64 - 1) → ActedSoFar marks lo end act total old new
        more_so_far passed total new is good counted sum = record {
          rows = is ∙ ap (acted_in marks mid end act) so_far.rows ∙ acted_split old all;
          none_refused = ap (some_refused act) (rows_split lo mid end old low high rise) ∙ list_any-append (λ r. is_refused (act r)) (rows_in marks lo mid old) (rows_in marks mid end old)
              ∙ or_none (some_refused act (rows_in marks lo mid old)) (some_refused act (rows_in marks mid end old)) so_far.none_refused (subst (λ (l : Rows). some_refused act l ≡ false) rest_now good);
          count_is =
              let here : passed ≡ done_count act (rows_in marks mid end old) = counted ∙ ap (done_count act) rest_now in
              omega (arith, sum, so_far.count_is, here, count_split);
        }

    pub none_sent : (lo : ℕ) (rows : Rows) (calls : List Call) → SendsAll (flat_map (λ row. put_by (act row)) (rows_in marks lo lo rows)) (flat_map (λ row. taken_by marks (act row) row) (rows_in marks lo lo rows)) calls calls
    none_sent lo rows calls = subst (λ (l : Rows). SendsAll (flat_map (λ row. put_by (act row)) l) (flat_map (λ row. taken_by marks (act row) row) l) calls calls) (sym (none_from lo rows)) (record { put = refl; taken = refl })

    pub none_so_far : (lo : ℕ) (rows : Rows) → ActedSoFar marks lo lo act 0 rows rows
    none_so_far lo rows = record {
      rows = sym (acted_none lo rows);
      none_refused = ap (some_refused act) (none_from lo rows);
      count_is = sym (ap (λ (l : Rows). min (done_count act l) (2 ^ 64 - 1)) (none_from lo rows));
    }

    -- ---- rows outside of the range, with which nothing is done

    abbrev pub KeepsOutside : ℕ → ℕ → List Value → Type 0
    KeepsOutside lo end row = is_in marks lo end row ≡ false → act row ≡ Keep

    left_one : (row : List Value) (b : Bool) → (b ≡ false → act row ≡ Keep) → cond b (left_of (act row) row) (row ∷ []) ≡ left_of (act row) row
    left_one row true e = refl
    left_one row false e = sym (ap (λ a. left_of a row) (e refl))

    pub acted_all : (lo end : ℕ) (rows : Rows) → AllByRecursion (KeepsOutside lo end) rows → acted_in marks lo end act rows ≡ flat_map (λ row. left_of (act row) row) rows
    acted_all lo end [] all = refl
    acted_all lo end (row ∷ rows) all = ap (λ (l : Rows). l ++ acted_in marks lo end act rows) (left_one row (is_in marks lo end row) all.0) ∙ ap (λ (l : Rows). left_of (act row) row ++ l) (acted_all lo end rows all.1)

    map_one : {B : Type 0} (f : Act → List Value → List B) → ((row : List Value) → f Keep row ≡ []) → (row : List Value) (rows kept : Rows) (b : Bool) → (b ≡ false → act row ≡ Keep)
        → flat_map (λ r. f (act r) r) kept ≡ flat_map (λ r. f (act r) r) rows → flat_map (λ r. f (act r) r) (cond b (row ∷ kept) kept) ≡ f (act row) row ++ flat_map (λ r. f (act r) r) rows
    map_one f none row rows kept true e rest = ap (λ l. f (act row) row ++ l) rest
    map_one f none row rows kept false e rest = rest ∙ ap (λ l. l ++ flat_map (λ r. f (act r) r) rows) (sym (ap (λ a. f a row) (e refl) ∙ none row))

    pub map_all : {B : Type 0} (f : Act → List Value → List B) → ((row : List Value) → f Keep row ≡ []) → (lo end : ℕ) (rows : Rows) → AllByRecursion (KeepsOutside lo end) rows
        → flat_map (λ row. f (act row) row) (rows_in marks lo end rows) ≡ flat_map (λ row. f (act row) row) rows
    map_all f none lo end [] all = refl
    map_all f none lo end (row ∷ rows) all = map_one f none row rows (rows_in marks lo end rows) (is_in marks lo end row) all.0 (map_all f none lo end rows all.1)

    test_one : (test : Act → Bool) → test Keep ≡ false → (row : List Value) (rows kept : Rows) (b : Bool) → (b ≡ false → act row ≡ Keep)
        → filter (λ r. test (act r)) kept ≡ filter (λ r. test (act r)) rows → filter (λ r. test (act r)) (cond b (row ∷ kept) kept) ≡ filter (λ r. test (act r)) (row ∷ rows)
    test_one test none row rows kept true e rest = ap (λ (l : Rows). cond (test (act row)) (row ∷ l) l) rest
    test_one test none row rows kept false e rest = rest ∙ sym (ap (λ b. cond b (row ∷ filter (λ r. test (act r)) rows) (filter (λ r. test (act r)) rows)) (ap test (e refl) ∙ none))

    pub tests_all : (test : Act → Bool) → test Keep ≡ false → (lo end : ℕ) (rows : Rows) → AllByRecursion (KeepsOutside lo end) rows → filter (λ row. test (act row)) (rows_in marks lo end rows) ≡ filter (λ row. test (act row)) rows
    tests_all test none lo end [] all = refl
    tests_all test none lo end (row ∷ rows) all = test_one test none row rows (rows_in marks lo end rows) (is_in marks lo end row) all.0 (tests_all test none lo end rows all.1)

    some_one : (test : Act → Bool) → test Keep ≡ false → (row : List Value) (rows kept : Rows) (b : Bool) → (b ≡ false → act row ≡ Keep)
        → list_any (λ r. test (act r)) kept ≡ list_any (λ r. test (act r)) rows → list_any (λ r. test (act r)) (cond b (row ∷ kept) kept) ≡ list_any (λ r. test (act r)) (row ∷ rows)
    some_one test none row rows kept true e rest = ap (λ b. test (act row) || b) rest
    some_one test none row rows kept false e rest = rest ∙ sym (ap (λ b. b || list_any (λ r. test (act r)) rows) (ap test (e refl) ∙ none))

    pub some_all : (test : Act → Bool) → test Keep ≡ false → (lo end : ℕ) (rows : Rows) → AllByRecursion (KeepsOutside lo end) rows → list_any (λ row. test (act row)) (rows_in marks lo end rows) ≡ list_any (λ row. test (act row)) rows
    some_all test none lo end [] all = refl
    some_all test none lo end (row ∷ rows) all = some_one test none row rows (rows_in marks lo end rows) (is_in marks lo end row) all.0 (some_all test none lo end rows all.1)
