-- What the run over the pieces of a range comes to, and what the whole comes to.
use Rattle.std.proofs.Common.{◌≡◌, ℕ, ◌+◌, ◌-◌, ◌^◌, ◌≤◌, min, Bool, true, false, ◌||◌, List, [], ◌∷◌, ◌++◌, None, Some, Ok, Err, sym, ap, subst, ◌∙◌, arith, append_assoc}
use Rattle.std.specs.Prelude.{⊤}
use Rattle.std.specs.List.{AllByRecursion, flat_map}
use Rattle.std.proofs.lemmas.Grind.{flat_map-append}
use Rattle.std.proofs.lemmas.List.Folds.{list_any-append}
use Rattle.row_types.specs.declared.definition.TableDef.{TableDef}
use Rattle.row_types.specs.declared.row.Value.{Value}
use Rattle.row_types.specs.Keys.{row_key}
use Rattle.row_types.specs.Schema.{columns_at, keys_at}
use Rattle.row_types.specs.Slot.{IsRowOf}
use Rattle.row_types.specs.Tables.{Tables}
use Rattle.key_space.specs.declared.range.Range.{Range}
use Rattle.key_space.specs.Plays.{Rows}
use Rattle.plain_model.specs.declared.stop.Stop.{Stop}
use Rattle.plain_model.specs.declared.stop.Stop.TheVariants as stops
use Rattle.plain_model.specs.declared.stop.Resource.TheVariants.{Pages, Nodes, Txn, Locks, LogFull, Busy}
use Rattle.plain_model.specs.Calls.{Call}
use Rattle.plain_model.specs.CallPlays.{tables_of}
use Rattle.plain_model.specs.Meaning.{table_at}
use Rattle.plain_model.specs.Runs.{InOrder, Since, keys_taken, pushed, rows_put}
use Rattle.sql_exec.specs.declared.act.Act.{Act}
use Rattle.sql_exec.specs.declared.act.Act.TheVariants.{Set}
use Rattle.sql_exec.specs.declared.act.Passed.{Passed}
use Rattle.sql_exec.specs.declared.act.ChangePlan.{ChangePlan}
use Rattle.sql_exec.specs.Acts.{act_of, acted_in, done_count, is_refused, rows_in, some_refused}
use Rattle.sql_exec.specs.Bodies.{ActedSoFar}
use Rattle.sql_exec.specs.Pieces.{ComesTo, IsOfTable, PieceEnds, PieceSends, SendsAll}
use Rattle.sql_exec.specs.Plays.{OnTable, PlaysFrom}
use Rattle.sql_exec.specs.Sends.{SendsOnly}
use Rattle.sql_exec.proofs.Acting.{puts, pushed_on, takes, sends_on}
use Rattle.sql_exec.proofs.Calling.{fits_now, rising_now}
use Rattle.sql_exec.proofs.InPlaces.{Rise}
use Rattle.sql_exec.proofs.OneTable.{turns_on}
use Rattle.sql_exec.proofs.PieceLaws.{more_so_far, refused_later, rest_now, rows_split}
use Rattle.sql_exec.proofs.Piecing.{keeps_key}
use Rattle.sql_exec.proofs.Playing.{plays_since}

-- ---- what is known of the rows of a table

module _ (defs : List TableDef) (n : ℕ) where
  -- the rows fit, and rise
  pub record Ordered (rows : Rows) : Type 0 where
    pub fits : AllByRecursion (IsRowOf (columns_at defs n)) rows
    pub rise : Rise (keys_at defs n) rows

  pub ordered_at : (first : Tables) (calls : List Call) → PlaysFrom defs first calls → Ordered (table_at (tables_of first calls) n).rows
  ordered_at first calls plays = record { fits = fits_now defs n first calls plays; rise = rising_now defs n first calls plays }

  pub ordered_after : (First Next All : Rows → Rows → Type 0) (a b c : List Call) → Since a b → Since b c → ((r s t : Rows) → Ordered r → First r s → Next s t → All r t) → OnTable defs n First a b → OnTable defs n Next b c → OnTable defs n All a c
  ordered_after First Next All a b c earlier since joined start next first plays =
      let was = plays_since defs first b c since plays in
      let order = ordered_at first a (plays_since defs first a b earlier was) in
      let turns = start first was in
      turns_on n (λ r s. Ordered r × First r s) Next All (tables_of first a) (tables_of first b) (tables_of first c) (λ r s t f g. joined r s t f.0 f.1 g)
      (record { others = turns.others; rows = (order, turns.rows) }) (next first plays)

  pub ordered_weaker : (First All : Rows → Rows → Type 0) (a b : List Call) → Since a b → ((r s : Rows) → Ordered r → First r s → All r s) → OnTable defs n First a b → OnTable defs n All a b
  ordered_weaker First All a b since more start first plays =
      let turns = start first plays in
      let order = ordered_at first a (plays_since defs first a b since plays) in
      record { others = turns.others; rows = more _ _ order turns.rows }

-- ---- the pieces so far

-- a row of the range is come to
abbrev pub ComesIn : List ℕ → (List Value → Act) → ℕ → ℕ → Rows → Type 0
ComesIn marks act lo hi rows = (front : Rows) × (row : List Value) × ComesTo act (rows_in marks lo (hi + 1) rows) front row

-- how a stop ended the run
abbrev pub StopEnds : List ℕ → (List Value → Act) → ℕ → ℕ → Stop → Rows → Rows → Type 0
StopEnds marks act lo hi (stops.Refused (Txn used limit)) r s = ComesIn marks act lo hi r
StopEnds marks act lo hi (stops.Refused resource) r s = ⊥
StopEnds marks act lo hi stop r s = ⊤

module _ (defs : List TableDef) (n : ℕ) (plan : ChangePlan) (of : IsOfTable defs n plan) (lo mid hi count : ℕ) (start old new : List Call) (low : lo ≤ mid) (earlier : Since start old) (since : Since old new) where
  abbrev marks : List ℕ
  marks = keys_at defs n

  abbrev act : List Value → Act
  act = act_of plan

  abbrev pub SoFar : Rows → Rows → Type 0
  SoFar = ActedSoFar marks lo mid act count

  keeps : (row other : List Value) → IsRowOf (columns_at defs n) row → act row ≡ Set other → row_key marks other ≡ row_key marks row
  keeps = keeps_key defs n plan of

  pub run_more : (range : Range) (passed : Passed) (total : ℕ) → range.lo.number ≡ mid → mid ≤ passed.upto.number → total ≡ min (count + passed.count) (2 ^ 64 - 1) → OnTable defs n SoFar start old
      → OnTable defs n (PieceEnds marks act range (Ok (Some passed))) old new → OnTable defs n (ActedSoFar marks lo (passed.upto.number + 1) act total) start new
  run_more range passed total from up sum so_far piece =
      ordered_after defs n SoFar (PieceEnds marks act range (Ok (Some passed))) (ActedSoFar marks lo (passed.upto.number + 1) act total) start old new earlier since
      (λ r s t order f ends.
      let e = subst (λ k. (t ≡ acted_in marks k (passed.upto.number + 1) act s) × (some_refused act (rows_in marks k (passed.upto.number + 1) s) ≡ false) × (passed.count ≡ done_count act (rows_in marks k (passed.upto.number + 1) s))) from ends in
      more_so_far marks act (IsRowOf (columns_at defs n)) keeps lo mid (passed.upto.number + 1) low (omega (arith, up)) count r s order.fits order.rise f passed.count total t e.0 e.1 e.2 sum) so_far piece

  pub run_refused : (range : Range) → range.lo.number ≡ mid → mid ≤ hi → range.hi.number ≡ hi → OnTable defs n SoFar start old → OnTable defs n (PieceEnds marks act range (Ok None)) old new
      → OnTable defs n (λ r s. some_refused act (rows_in marks lo (hi + 1) r) ≡ true) start new
  run_refused range from up to so_far piece =
      ordered_after defs n SoFar (PieceEnds marks act range (Ok None)) (λ r s. some_refused act (rows_in marks lo (hi + 1) r) ≡ true) start old new earlier since
      (λ r s t order f ends. refused_later marks act (IsRowOf (columns_at defs n)) keeps lo mid (hi + 1) low (omega (arith, up)) count r s order.fits order.rise f
      (subst (λ k. some_refused act (rows_in marks k (hi + 1) s) ≡ true) from (subst (λ k. some_refused act (rows_in marks range.lo.number (k + 1) s) ≡ true) to ends))) so_far piece

  or_none : (a b : Bool) → a ≡ false → b ≡ false → (a || b) ≡ false
  or_none true b e f = absurd cc
  or_none false b e f = f

  comes_later : (range : Range) → range.lo.number ≡ mid → mid ≤ hi → range.hi.number ≡ hi → (r s : Rows) → Ordered defs n r → SoFar r s → (front : Rows) (row : List Value) → ComesTo act (rows_in marks range.lo.number (range.hi.number + 1) s) front row → ComesIn marks act lo hi r
  comes_later range from up to r s order f front row comes =
      let early = rows_in marks lo mid r in
      let rest : rows_in marks mid (hi + 1) s ≡ rows_in marks mid (hi + 1) r = rest_now marks act (IsRowOf (columns_at defs n)) keeps lo mid (hi + 1) low (omega (arith, up)) count r s order.fits order.rise f in
      let here : rows_in marks mid (hi + 1) r ≡ front ++ row ∷ comes.rest =
      sym rest ∙ ap (λ k. rows_in marks k (hi + 1) s) (sym from) ∙ ap (λ k. rows_in marks range.lo.number (k + 1) s) (sym to) ∙ comes.split in (
        early ++ front,
        row,
        record {
          rest = comes.rest;
          split = rows_split marks lo mid (hi + 1) r low (omega (arith, up)) order.rise ∙ ap (λ (l : Rows). early ++ l) here ∙ sym (append_assoc early front (row ∷ comes.rest));
          good = ap (some_refused act) (append_assoc early front (row ∷ [])) ∙ list_any-append (λ x. is_refused (act x)) early (front ++ row ∷ []) ∙ or_none (some_refused act early) (some_refused act (front ++ row ∷ [])) f.none_refused comes.good;
          done = comes.done;
        },
      )

  stop_ends : (range : Range) → range.lo.number ≡ mid → mid ≤ hi → range.hi.number ≡ hi → (stop : Stop) (r s t : Rows) → Ordered defs n r → SoFar r s → PieceEnds marks act range (Err stop) s t → StopEnds marks act lo hi stop r t
  stop_ends range from up to (stops.Refused (Txn used limit)) r s t order f ends = comes_later range from up to r s order f ends.0 ends.1 ends.2
  stop_ends range from up to (stops.Refused (Pages used limit)) r s t order f ends = ends
  stop_ends range from up to (stops.Refused (Nodes used limit)) r s t order f ends = ends
  stop_ends range from up to (stops.Refused (Locks held limit)) r s t order f ends = ends
  stop_ends range from up to (stops.Refused (LogFull bytes limit)) r s t order f ends = ends
  stop_ends range from up to (stops.Refused (Busy oldest)) r s t order f ends = ends
  stop_ends range from up to (stops.Die holder) r s t order f ends = tt
  stop_ends range from up to (stops.Fault file) r s t order f ends = tt
  stop_ends range from up to (stops.Spent limit) r s t order f ends = tt
  stop_ends range from up to stops.OutOfMemory r s t order f ends = tt

  pub run_stops : (range : Range) → range.lo.number ≡ mid → mid ≤ hi → range.hi.number ≡ hi → (stop : Stop) → OnTable defs n SoFar start old → OnTable defs n (PieceEnds marks act range (Err stop)) old new → OnTable defs n (StopEnds marks act lo hi stop) start new
  run_stops range from up to stop so_far piece =
      ordered_after defs n SoFar (PieceEnds marks act range (Err stop)) (StopEnds marks act lo hi stop) start old new earlier since (λ r s t order f ends. stop_ends range from up to stop r s t order f ends) so_far piece

  -- ---- what is sent

  abbrev pub sets : Rows → Rows
  sets rows = flat_map (puts marks act) rows

  abbrev pub clears : Rows → List ℕ
  clears rows = flat_map (takes marks act) rows

  abbrev pub SentSoFar : ℕ → ℕ → List Call → List Call → Type 0
  SentSoFar from end a b = (first : Tables) → PlaysFrom defs first b → SendsAll (sets (rows_in marks from end (table_at (tables_of first a) n).rows)) (clears (rows_in marks from end (table_at (tables_of first a) n).rows)) a b

  -- the rest of the range is at the piece's start what it was at the beginning
  rest_same : (end : ℕ) → mid ≤ end → OnTable defs n SoFar start old → (first : Tables) → PlaysFrom defs first new → rows_in marks mid end (table_at (tables_of first old) n).rows ≡ rows_in marks mid end (table_at (tables_of first start) n).rows
  rest_same end up so_far first plays =
      let was = plays_since defs first old new since plays in
      let order = ordered_at defs n first start (plays_since defs first start old earlier was) in
      rest_now marks act (IsRowOf (columns_at defs n)) keeps lo mid end low up count (table_at (tables_of first start) n).rows (table_at (tables_of first old) n).rows order.fits order.rise (so_far first was).rows

  split_now : (end : ℕ) → mid ≤ end → (first : Tables) → PlaysFrom defs first new → rows_in marks lo end (table_at (tables_of first start) n).rows ≡ rows_in marks lo mid (table_at (tables_of first start) n).rows ++ rows_in marks mid end (table_at (tables_of first start) n).rows
  split_now end up first plays =
      let was = plays_since defs first start old earlier (plays_since defs first old new since plays) in
      rows_split marks lo mid end (table_at (tables_of first start) n).rows low up (ordered_at defs n first start was).rise

  pub run_sent : (range : Range) (passed : Passed) → range.lo.number ≡ mid → mid ≤ passed.upto.number → OnTable defs n SoFar start old → SentSoFar lo mid start old
      → ((first : Tables) → PlaysFrom defs first new → PieceSends marks act range (Ok (Some passed)) (table_at (tables_of first old) n).rows old new) → SentSoFar lo (passed.upto.number + 1) start new
  run_sent range passed from up so_far sent piece first plays =
      let end = passed.upto.number + 1 in
      let was = plays_since defs first old new since plays in
      let at_start = (table_at (tables_of first start) n).rows in
      let at_old = (table_at (tables_of first old) n).rows in
      let same = ap (λ k. rows_in marks k end at_old) from ∙ rest_same end (omega (arith, up)) so_far first plays in
      let split = split_now end (omega (arith, up)) first plays in
      let part = subst (λ (l : Rows). SendsAll (sets l) (clears l) old new) same (piece first plays) in
      let whole = sends_on (sets (rows_in marks lo mid at_start)) (sets (rows_in marks mid end at_start)) (clears (rows_in marks lo mid at_start)) (clears (rows_in marks mid end at_start)) start old new (sent first was) part in
      subst (λ (l : Rows). SendsAll (sets l) (clears l) start new) (sym split)
      (subst (λ (ks : List ℕ). SendsAll (sets (rows_in marks lo mid at_start ++ rows_in marks mid end at_start)) ks start new) (sym (flat_map-append (takes marks act) (rows_in marks lo mid at_start) (rows_in marks mid end at_start)))
      (subst (λ (rs : Rows). SendsAll rs (clears (rows_in marks lo mid at_start) ++ clears (rows_in marks mid end at_start)) start new) (sym (flat_map-append (puts marks act) (rows_in marks lo mid at_start) (rows_in marks mid end at_start))) whole))

  sent_on : {A : Type 0} (all done rest : List A) (a b c : List A) → all ≡ done ++ rest → b ≡ pushed done a → InOrder rest b c → InOrder all a c
  sent_on all done rest a b c split first next = record {
    sent = done ++ next.sent;
    rest = next.rest;
    front = split ∙ ap (λ l. done ++ l) next.front ∙ sym (append_assoc done next.sent next.rest);
    added = next.added ∙ ap (pushed next.sent) first ∙ sym (pushed_on done next.sent a);
  }

  pub run_part_sent : (range : Range) → range.lo.number ≡ mid → mid ≤ hi → range.hi.number ≡ hi → OnTable defs n SoFar start old → SentSoFar lo mid start old
      → ((first : Tables) → PlaysFrom defs first new → SendsOnly (sets (rows_in marks range.lo.number (range.hi.number + 1) (table_at (tables_of first old) n).rows)) (clears (rows_in marks range.lo.number (range.hi.number + 1) (table_at (tables_of first old) n).rows)) old new)
      → (first : Tables) → PlaysFrom defs first new → SendsOnly (sets (rows_in marks lo (hi + 1) (table_at (tables_of first start) n).rows)) (clears (rows_in marks lo (hi + 1) (table_at (tables_of first start) n).rows)) start new
  run_part_sent range from up to so_far sent piece first plays =
      let was = plays_since defs first old new since plays in
      let at_start = (table_at (tables_of first start) n).rows in
      let at_old = (table_at (tables_of first old) n).rows in
      let same = ap (λ k. rows_in marks k (range.hi.number + 1) at_old) from ∙ ap (λ k. rows_in marks mid (k + 1) at_old) to ∙ rest_same (hi + 1) (omega (arith, up)) so_far first plays in
      let split = split_now (hi + 1) (omega (arith, up)) first plays in
      let early = rows_in marks lo mid at_start in
      let later = rows_in marks mid (hi + 1) at_start in
      let part = subst (λ (l : Rows). SendsOnly (sets l) (clears l) old new) same (piece first plays) in
      let done = sent first was in
      record {
        put = sent_on (sets (rows_in marks lo (hi + 1) at_start)) (sets early) (sets later) (rows_put start) (rows_put old) (rows_put new) (ap sets split ∙ flat_map-append (puts marks act) early later) done.put part.put;
        taken = sent_on (clears (rows_in marks lo (hi + 1) at_start)) (clears early) (clears later) (keys_taken start) (keys_taken old) (keys_taken new) (ap clears split ∙ flat_map-append (takes marks act) early later) done.taken part.taken;
      }
