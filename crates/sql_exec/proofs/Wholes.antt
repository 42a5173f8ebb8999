-- What the run over all pieces of a range means for a plan whose rows lie in it.
use Rattle.std.proofs.Common.{◌≡◌, ℕ, zero, suc, ◌+◌, ◌-◌, ◌^◌, ◌<◌, min, Bool, true, false, cond, not, ◌||◌, List, [], ◌∷◌, ◌++◌, length, map, slice_get, Option, None, Some, Ok, Err, refl, sym, ap, subst, ◌∙◌, arith}
use Rattle.std.specs.Prelude.{is_none, unwrap_or}
use Rattle.std.specs.List.{AllByRecursion, filter, flat_map, list_any}
use Rattle.std.proofs.lemmas.List.{append-nil}
use Rattle.std.proofs.lemmas.List.Elements.{filter-append}
use Rattle.std.proofs.lemmas.Bool.{le-leb, lt-ltb}
use Rattle.row_types.specs.declared.definition.TableDef.{TableDef}
use Rattle.row_types.specs.declared.row.Value.{Value}
use Rattle.row_types.specs.Keys.{row_key}
use Rattle.row_types.specs.Schema.{IsSchema, columns_at, columns_of, keys_at, keys_of, has_int_key}
use Rattle.row_types.specs.Slot.{IsRowOf}
use Rattle.row_types.specs.Tables.{Tables}
use Rattle.row_types.proofs.SchemaLaws.{table_of_schema}
use Rattle.key_space.specs.declared.range.Range.{Range}
use Rattle.key_space.specs.Plays.{Rows}
use Rattle.sql_check.specs.Columns.{def_at}
use Rattle.sql_check.specs.declared.plan.Plan.TheVariants as plans
use Rattle.sql_check.specs.declared.plan.Test.{Test}
use Rattle.sql_check.specs.declared.plan.UpdatePlan.{UpdatePlan}
use Rattle.sql_check.specs.declared.plan.DeletePlan.{DeletePlan}
use Rattle.plain_model.specs.declared.stop.Stop.{Stop}
use Rattle.plain_model.specs.declared.stop.Stop.TheVariants as stops
use Rattle.plain_model.specs.declared.stop.Resource.TheVariants.{Pages, Nodes, Txn, Locks, LogFull, Busy}
use Rattle.plain_model.specs.Calls.{Call}
use Rattle.plain_model.specs.CallPlays.{tables_of}
use Rattle.plain_model.specs.Lacks.{IsReached}
use Rattle.plain_model.specs.Meaning.{count_of, table_at}
use Rattle.plain_model.specs.PlanMeaning.{passes_all, planned_row, planned_update}
use Rattle.plain_model.specs.Runs.{Since}
use Rattle.sql_exec.specs.declared.act.Act.{Act}
use Rattle.sql_exec.specs.declared.act.Act.TheVariants.{Keep, Take}
use Rattle.sql_exec.specs.declared.act.Changes.TheVariants.{Made, OutOfRange}
use Rattle.sql_exec.specs.declared.act.ChangePlan.{ChangePlan}
use Rattle.sql_exec.specs.declared.act.ChangePlan.TheVariants as changes
use Rattle.sql_exec.specs.Acts.{act_of, as_plan, delete_act, done_count, is_done, is_in, is_refused, left_of, put_by, rows_in, set_or_refuse, some_refused, taken_by, update_act}
use Rattle.sql_exec.specs.Bodies.{ActedSoFar, ChangesEnd, ChangesRow}
use Rattle.sql_exec.specs.Fits.{NamesKept, tests_of}
use Rattle.sql_exec.specs.Pieces.{ComesTo, IsOfTable, SendsAll}
use Rattle.sql_exec.specs.Plays.{OnTable, PlaysFrom}
use Rattle.sql_exec.specs.Sends.{ChangeSends, SendsOnly}
use Rattle.sql_exec.proofs.Acting.{puts, sends_front, takes}
use Rattle.sql_exec.proofs.Calling.{keys_now, schema_now, tables_now}
use Rattle.sql_exec.proofs.PieceLaws.{KeepsOutside, acted_all, map_all, some_all, tests_all}
use Rattle.sql_exec.proofs.Playing.{plays_since}
use Rattle.sql_exec.proofs.Ranging.{ComesIn, StopEnds, ordered_at}

-- ---- the key of a table of a schema

no_table : (defs : List TableDef) (n : ℕ) → n < length defs → slice_get defs n ≡ None → ⊥
no_table [] n less e = absurd (omega (arith, less))
no_table (def ∷ defs) zero less e = absurd cc
no_table (def ∷ defs) (suc n) less e = no_table defs n (omega (arith, less)) e

int_key_at : (defs : List TableDef) (n : ℕ) → IsSchema defs → n < length defs → (found : Option TableDef) → slice_get defs n ≡ found → has_int_key (columns_of found) (keys_of found) ≡ true
int_key_at defs n schema less None e = absurd (no_table defs n less e)
int_key_at defs n schema less (Some def) e = (table_of_schema defs n def schema e).key

pub int_key : (defs : List TableDef) (n : ℕ) → n < length defs → (first : Tables) (calls : List Call) → PlaysFrom defs first calls → has_int_key (columns_at defs n) (keys_at defs n) ≡ true
int_key defs n less first calls plays = int_key_at defs n (subst IsSchema (schema_now defs n first calls plays) (tables_now defs n first calls plays).schema) less (slice_get defs n) refl

-- ---- rows outside of the range don't pass

module _ (marks : List ℕ) (tests : List Test) (lo end : ℕ) where
  abbrev pub FailsOutside : List Value → Type 0
  FailsOutside row = is_in marks lo end row ≡ false → passes_all tests row ≡ false

  kept_one : (row : List Value) (rows kept : Rows) (b : Bool) → (b ≡ false → passes_all tests row ≡ false) → filter (passes_all tests) kept ≡ filter (passes_all tests) rows → filter (passes_all tests) (cond b (row ∷ kept) kept) ≡ filter (passes_all tests) (row ∷ rows)
  kept_one row rows kept true fails rest = ap (λ (l : Rows). cond (passes_all tests row) (row ∷ l) l) rest
  kept_one row rows kept false fails rest = rest ∙ sym (ap (λ b. cond b (row ∷ filter (passes_all tests) rows) (filter (passes_all tests) rows)) (fails refl))

  -- the rows that pass are those of the range that pass
  pub kept_all : (rows : Rows) → AllByRecursion FailsOutside rows → filter (passes_all tests) (rows_in marks lo end rows) ≡ filter (passes_all tests) rows
  kept_all [] all = refl
  kept_all (row ∷ rows) all = kept_one row rows (rows_in marks lo end rows) (is_in marks lo end row) all.0 (kept_all rows all.1)

module _ (defs : List TableDef) (n : ℕ) (range : Range) (tests : List Test) (kept : NamesKept defs n (Some range) tests) (key : has_int_key (columns_at defs n) (keys_at defs n) ≡ true) where
  in_range : (row : List Value) → IsRowOf (columns_at defs n) row → passes_all tests row ≡ true → is_in (keys_at defs n) range.lo.number (range.hi.number + 1) row ≡ true
  in_range row fits passes =
      let inside = kept row key fits passes in
      rw (le-leb range.lo.number (row_key (keys_at defs n) row) inside.0, lt-ltb (row_key (keys_at defs n) row) (range.hi.number + 1) (omega (arith, inside.1))) refl

  fails_outside : (row : List Value) → IsRowOf (columns_at defs n) row → (b : Bool) → passes_all tests row ≡ b → is_in (keys_at defs n) range.lo.number (range.hi.number + 1) row ≡ false → passes_all tests row ≡ false
  fails_outside row fits true passes out = let inside = in_range row fits passes in absurd (let clash : true ≡ false = sym inside ∙ out in cc)
  fails_outside row fits false passes out = passes

  pub all_outside : (rows : Rows) → AllByRecursion (IsRowOf (columns_at defs n)) rows → AllByRecursion (FailsOutside (keys_at defs n) tests range.lo.number (range.hi.number + 1)) rows
  all_outside [] all = tt
  all_outside (row ∷ rows) all = (fails_outside row all.0 (passes_all tests row) refl, all_outside rows all.1)

-- ---- what a plan does with rows

pub act_outside : (plan : ChangePlan) (row : List Value) → passes_all (tests_of (as_plan plan)) row ≡ false → act_of plan row ≡ Keep
act_outside (changes.Update p) row e = rw e refl
act_outside (changes.Delete p) row e = rw e refl

pub keeps_outside : (marks : List ℕ) (plan : ChangePlan) (lo end : ℕ) (rows : Rows) → AllByRecursion (FailsOutside marks (tests_of (as_plan plan)) lo end) rows → AllByRecursion (KeepsOutside marks (act_of plan) lo end) rows
keeps_outside marks plan lo end [] all = tt
keeps_outside marks plan lo end (row ∷ rows) all = (λ out. act_outside plan row (all.0 out), keeps_outside marks plan lo end rows all.1)

or_parts : (a b : Bool) → (a || b) ≡ false → (a ≡ false) × (b ≡ false)
or_parts true b e = absurd cc
or_parts false b e = (refl, e)

module _ (p : UpdatePlan) where
  abbrev act : List Value → Act
  act = update_act p

  abbrev passes : List Value → Bool
  passes = passes_all p.conditions

  abbrev unmade : List Value → Bool
  unmade row = is_none (planned_row p.changes row)

  refused_one : (row : List Value) (rows : Rows) (b : Bool) (made : Option (List Value)) → (is_refused (cond b (set_or_refuse made) Keep) || some_refused act rows) ≡ cond b (is_none made || some_refused act rows) (some_refused act rows)
  refused_one row rows true None = refl
  refused_one row rows true (Some new) = refl
  refused_one row rows false made = refl

  any_kept : (row : List Value) (kept : Rows) (b : Bool) → cond b (unmade row || list_any unmade kept) (list_any unmade kept) ≡ list_any unmade (cond b (row ∷ kept) kept)
  any_kept row kept true = refl
  any_kept row kept false = refl

  pub update_refused : (rows : Rows) → some_refused act rows ≡ list_any unmade (filter passes rows)
  update_refused [] = refl
  update_refused (row ∷ rows) =
      refused_one row rows (passes row) (planned_row p.changes row)
      ∙ ap (λ rest. cond (passes row) (unmade row || rest) rest) (update_refused rows) ∙ any_kept row (filter passes rows) (passes row)

  done_one : (row : List Value) (done kept : Rows) (b : Bool) (made : Option (List Value)) → is_refused (cond b (set_or_refuse made) Keep) ≡ false → done ≡ kept
      → cond (is_done (cond b (set_or_refuse made) Keep)) (row ∷ done) done ≡ cond b (row ∷ kept) kept
  done_one row done kept true None fine rest = absurd cc
  done_one row done kept true (Some new) fine rest = ap (λ (l : Rows). row ∷ l) rest
  done_one row done kept false made fine rest = rest

  update_done : (rows : Rows) → some_refused act rows ≡ false → filter (λ row. is_done (act row)) rows ≡ filter passes rows
  update_done [] none = refl
  update_done (row ∷ rows) none =
      let parts = or_parts (is_refused (act row)) (some_refused act rows) none in
      done_one row (filter (λ r. is_done (act r)) rows) (filter passes rows) (passes row) (planned_row p.changes row) parts.0 (update_done rows parts.1)

  left_one : (row : List Value) (b : Bool) (made : Option (List Value)) → left_of (cond b (set_or_refuse made) Keep) row ≡ cond b (unwrap_or made row) row ∷ []
  left_one row true None = refl
  left_one row true (Some new) = refl
  left_one row false made = refl

  update_left : (rows : Rows) → flat_map (λ row. left_of (act row) row) rows ≡ map (planned_update p.changes p.conditions) rows
  update_left [] = refl
  update_left (row ∷ rows) = ap (λ (l : Rows). l ++ flat_map (λ r. left_of (act r) r) rows) (left_one row (passes row) (planned_row p.changes row)) ∙ ap (λ (l : Rows). planned_update p.changes p.conditions row ∷ l) (update_left rows)

  pub update_made : (def : TableDef) (rows new : Rows) (count : ℕ) → new ≡ flat_map (λ row. left_of (act row) row) rows → some_refused act rows ≡ false → count ≡ min (done_count act rows) (2 ^ 64 - 1)
      → ChangesEnd def (plans.Update p) (Ok (Made count)) rows new
  update_made def rows new count is none counted =
      let fine : list_any unmade (filter passes rows) ≡ false = sym (update_refused rows) ∙ none in
      let number : count_of (filter passes rows) ≡ count = ap (λ (l : Rows). min (length l) (2 ^ 64 - 1)) (sym (update_done rows none)) ∙ sym counted in
      rw (fine, number, ← update_left rows, ← is) refl

  pub update_out : (def : TableDef) (rows new : Rows) → some_refused act rows ≡ true → ChangesEnd def (plans.Update p) (Ok OutOfRange) rows new
  update_out def rows new some = let out : list_any unmade (filter passes rows) ≡ true = sym (update_refused rows) ∙ some in rw out refl

  done_passes : (b : Bool) (made : Option (List Value)) → is_done (cond b (set_or_refuse made) Keep) ≡ true → b ≡ true
  done_passes true made e = refl
  done_passes false made e = absurd cc

  pub update_reached : (whole rows front : Rows) (row : List Value) → filter passes whole ≡ filter passes rows → ComesTo act whole front row → IsReached (λ reached. not (list_any unmade reached)) (filter passes rows)
  update_reached whole rows front row same comes =
      let passed = done_passes (passes row) (planned_row p.changes row) comes.done in
      let one : filter passes (front ++ row ∷ []) ≡ filter passes front ++ row ∷ [] = filter-append passes front (row ∷ []) ∙ rw passed refl in
      record {
        front = filter passes front;
        row = row;
        rest = filter passes comes.rest;
        split = sym same ∙ ap (filter passes) comes.split ∙ filter-append passes front (row ∷ comes.rest) ∙ rw passed refl;
        good = ap not (ap (list_any unmade) (sym one) ∙ sym (update_refused (front ++ row ∷ [])) ∙ comes.good);
      }

module _ (p : DeletePlan) where
  abbrev act_del : List Value → Act
  act_del = delete_act p

  abbrev passes_del : List Value → Bool
  passes_del = passes_all p.conditions

  fine_one : (b : Bool) (rest : Bool) → rest ≡ false → (is_refused (cond b Take Keep) || rest) ≡ false
  fine_one true rest e = e
  fine_one false rest e = e

  delete_fine : (rows : Rows) → some_refused act_del rows ≡ false
  delete_fine [] = refl
  delete_fine (row ∷ rows) = fine_one (passes_del row) (some_refused act_del rows) (delete_fine rows)

  gone_one : (row : List Value) (done kept : Rows) (b : Bool) → done ≡ kept → cond (is_done (cond b Take Keep)) (row ∷ done) done ≡ cond b (row ∷ kept) kept
  gone_one row done kept true rest = ap (λ (l : Rows). row ∷ l) rest
  gone_one row done kept false rest = rest

  delete_done : (rows : Rows) → filter (λ row. is_done (act_del row)) rows ≡ filter passes_del rows
  delete_done [] = refl
  delete_done (row ∷ rows) = gone_one row (filter (λ r. is_done (act_del r)) rows) (filter passes_del rows) (passes_del row) (delete_done rows)

  stays_one : (row : List Value) (left kept : Rows) (b : Bool) → left ≡ kept → left_of (cond b Take Keep) row ++ left ≡ cond (not b) (row ∷ kept) kept
  stays_one row left kept true rest = rest
  stays_one row left kept false rest = ap (λ (l : Rows). row ∷ l) rest

  delete_left : (rows : Rows) → flat_map (λ row. left_of (act_del row) row) rows ≡ filter (λ row. not (passes_del row)) rows
  delete_left [] = refl
  delete_left (row ∷ rows) = stays_one row (flat_map (λ r. left_of (act_del r) r) rows) (filter (λ r. not (passes_del r)) rows) (passes_del row) (delete_left rows)

  pub delete_made : (def : TableDef) (rows new : Rows) (count : ℕ) → new ≡ flat_map (λ row. left_of (act_del row) row) rows → count ≡ min (done_count act_del rows) (2 ^ 64 - 1) → ChangesEnd def (plans.Delete p) (Ok (Made count)) rows new
  delete_made def rows new count is counted =
      let number : count_of (filter passes_del rows) ≡ count = ap (λ (l : Rows). min (length l) (2 ^ 64 - 1)) (sym (delete_done rows)) ∙ sym counted in
      rw (number, ← delete_left rows, ← is) refl

  pub delete_out : (def : TableDef) (rows new : Rows) → some_refused act_del rows ≡ true → ChangesEnd def (plans.Delete p) (Ok OutOfRange) rows new
  delete_out def rows new some = absurd (let clash : true ≡ false = sym some ∙ delete_fine rows in cc)

  taken_passes : (b : Bool) → is_done (cond b Take Keep) ≡ true → b ≡ true
  taken_passes true e = refl
  taken_passes false e = absurd cc

  pub delete_reached : (whole rows front : Rows) (row : List Value) → filter passes_del whole ≡ filter passes_del rows → ComesTo act_del whole front row → IsReached (λ reached. true) (filter passes_del rows)
  delete_reached whole rows front row same comes =
      let passed = taken_passes (passes_del row) comes.done in
      record {
        front = filter passes_del front;
        row = row;
        rest = filter passes_del comes.rest;
        split = sym same ∙ ap (filter passes_del) comes.split ∙ filter-append passes_del front (row ∷ comes.rest) ∙ rw passed refl;
        good = refl;
      }

-- ---- the whole range

pub of_there : (defs : List TableDef) (n : ℕ) (plan : ChangePlan) → IsOfTable defs n plan → n < length defs
of_there defs n (changes.Update p) of = of.0
of_there defs n (changes.Delete p) of = of.0

module _ (defs : List TableDef) (n lo hi : ℕ) (rows new : Rows) where
  abbrev ks : List ℕ
  ks = keys_at defs n

  abbrev pub Fails : ChangePlan → Type 0
  Fails plan = AllByRecursion (FailsOutside ks (tests_of (as_plan plan)) lo (hi + 1)) rows

  pub made_rows : (plan : ChangePlan) → IsOfTable defs n plan → Fails plan → (count : ℕ) → ActedSoFar ks lo (hi + 1) (act_of plan) count rows new → ChangesEnd (def_at defs n) (as_plan plan) (Ok (Made count)) rows new
  made_rows (changes.Update p) of fails count f =
      let out = keeps_outside ks (changes.Update p) lo (hi + 1) rows fails in
      update_made p.now (def_at defs n) rows new count (f.rows ∙ acted_all ks (update_act p.now) lo (hi + 1) rows out) (sym (some_all ks (update_act p.now) is_refused refl lo (hi + 1) rows out) ∙ f.none_refused)
      (f.count_is ∙ ap (λ (l : Rows). min (length l) (2 ^ 64 - 1)) (tests_all ks (update_act p.now) is_done refl lo (hi + 1) rows out))
  made_rows (changes.Delete p) of fails count f =
      let out = keeps_outside ks (changes.Delete p) lo (hi + 1) rows fails in
      delete_made p.now (def_at defs n) rows new count (f.rows ∙ acted_all ks (delete_act p.now) lo (hi + 1) rows out)
      (f.count_is ∙ ap (λ (l : Rows). min (length l) (2 ^ 64 - 1)) (tests_all ks (delete_act p.now) is_done refl lo (hi + 1) rows out))

  pub out_rows : (plan : ChangePlan) → IsOfTable defs n plan → Fails plan → some_refused (act_of plan) (rows_in ks lo (hi + 1) rows) ≡ true → ChangesEnd (def_at defs n) (as_plan plan) (Ok OutOfRange) rows new
  out_rows (changes.Update p) of fails some =
      update_out p.now (def_at defs n) rows new (sym (some_all ks (update_act p.now) is_refused refl lo (hi + 1) rows (keeps_outside ks (changes.Update p) lo (hi + 1) rows fails)) ∙ some)
  out_rows (changes.Delete p) of fails some =
      delete_out p.now (def_at defs n) rows new (sym (some_all ks (delete_act p.now) is_refused refl lo (hi + 1) rows (keeps_outside ks (changes.Delete p) lo (hi + 1) rows fails)) ∙ some)

  reached_rows : (plan : ChangePlan) → IsOfTable defs n plan → Fails plan → ComesIn ks (act_of plan) lo hi rows → ChangesRow (def_at defs n).keys (as_plan plan) rows
  reached_rows (changes.Update p) of fails comes = update_reached p.now (rows_in ks lo (hi + 1) rows) rows comes.0 comes.1 (kept_all ks p.now.conditions lo (hi + 1) rows fails) comes.2
  reached_rows (changes.Delete p) of fails comes = delete_reached p.now (rows_in ks lo (hi + 1) rows) rows comes.0 comes.1 (kept_all ks p.now.conditions lo (hi + 1) rows fails) comes.2

  pub stop_rows : (plan : ChangePlan) → IsOfTable defs n plan → Fails plan → (stop : Stop) → StopEnds ks (act_of plan) lo hi stop rows new → ChangesEnd (def_at defs n) (as_plan plan) (Err stop) rows new
  stop_rows plan of fails (stops.Refused (Txn used limit)) ends = reached_rows plan of fails ends
  stop_rows plan of fails (stops.Refused (Pages used limit)) ends = absurd ends
  stop_rows plan of fails (stops.Refused (Nodes used limit)) ends = absurd ends
  stop_rows plan of fails (stops.Refused (Locks held limit)) ends = absurd ends
  stop_rows plan of fails (stops.Refused (LogFull bytes limit)) ends = absurd ends
  stop_rows plan of fails (stops.Refused (Busy oldest)) ends = absurd ends
  stop_rows plan of fails (stops.Die holder) ends = tt
  stop_rows plan of fails (stops.Fault file) ends = tt
  stop_rows plan of fails (stops.Spent limit) ends = tt
  stop_rows plan of fails stops.OutOfMemory ends = tt

  pub sent_rows : (plan : ChangePlan) (old now : List Call) → IsOfTable defs n plan → Fails plan → SendsOnly (flat_map (puts ks (act_of plan)) (rows_in ks lo (hi + 1) rows)) (flat_map (takes ks (act_of plan)) (rows_in ks lo (hi + 1) rows)) old now
      → SendsOnly (flat_map (puts ks (act_of plan)) rows) (flat_map (takes ks (act_of plan)) rows) old now
  sent_rows plan old now of fails sends =
      let out = keeps_outside ks plan lo (hi + 1) rows fails in
      subst (λ (rs : Rows). SendsOnly rs (flat_map (takes ks (act_of plan)) rows) old now) (map_all ks (act_of plan) (λ a r. put_by a) (λ r. refl) lo (hi + 1) rows out)
      (subst (λ (keys : List ℕ). SendsOnly (flat_map (puts ks (act_of plan)) (rows_in ks lo (hi + 1) rows)) keys old now) (map_all ks (act_of plan) (λ a r. taken_by ks a r) (λ r. refl) lo (hi + 1) rows out) sends)

-- ---- in the words of the calls

module _ (defs : List TableDef) (n : ℕ) (plan : ChangePlan) (of : IsOfTable defs n plan) (range : Range) (kept : NamesKept defs n (Some range) (tests_of (as_plan plan))) (start new : List Call) (since : Since start new) where
  fails_at : (first : Tables) → PlaysFrom defs first new → Fails defs n range.lo.number range.hi.number (table_at (tables_of first start) n).rows (table_at (tables_of first new) n).rows plan
  fails_at first plays =
      let was = plays_since defs first start new since plays in
      all_outside defs n range (tests_of (as_plan plan)) kept (int_key defs n (of_there defs n plan of) first start was) (table_at (tables_of first start) n).rows (ordered_at defs n first start was).fits

  pub all_made : (count : ℕ) → OnTable defs n (ActedSoFar (keys_at defs n) range.lo.number (range.hi.number + 1) (act_of plan) count) start new → OnTable defs n (ChangesEnd (def_at defs n) (as_plan plan) (Ok (Made count))) start new
  all_made count body first plays =
      let turns = body first plays in
      record { others = turns.others; rows = made_rows defs n range.lo.number range.hi.number _ _ plan of (fails_at first plays) count turns.rows }

  pub all_out : OnTable defs n (λ r s. some_refused (act_of plan) (rows_in (keys_at defs n) range.lo.number (range.hi.number + 1) r) ≡ true) start new → OnTable defs n (ChangesEnd (def_at defs n) (as_plan plan) (Ok OutOfRange)) start new
  all_out body first plays =
      let turns = body first plays in
      record { others = turns.others; rows = out_rows defs n range.lo.number range.hi.number (table_at (tables_of first start) n).rows (table_at (tables_of first new) n).rows plan of (fails_at first plays) turns.rows }

  pub all_stops : (stop : Stop) → OnTable defs n (StopEnds (keys_at defs n) (act_of plan) range.lo.number range.hi.number stop) start new → OnTable defs n (ChangesEnd (def_at defs n) (as_plan plan) (Err stop)) start new
  all_stops stop body first plays =
      let turns = body first plays in
      record { others = turns.others; rows = stop_rows defs n range.lo.number range.hi.number _ _ plan of (fails_at first plays) stop turns.rows }

  pub all_sent : ((first : Tables) → PlaysFrom defs first new → SendsOnly (flat_map (puts (keys_at defs n) (act_of plan)) (rows_in (keys_at defs n) range.lo.number (range.hi.number + 1) (table_at (tables_of first start) n).rows))
      (flat_map (takes (keys_at defs n) (act_of plan)) (rows_in (keys_at defs n) range.lo.number (range.hi.number + 1) (table_at (tables_of first start) n).rows)) start new) → ChangeSends defs n (act_of plan) start new
  all_sent sends first plays =
      let rows = (table_at (tables_of first start) n).rows in
      let was = plays_since defs first start new since plays in
      let all = sent_rows defs n range.lo.number range.hi.number rows (table_at (tables_of first new) n).rows plan start new of (fails_at first plays) (sends first plays) in
      subst (λ (marks : List ℕ). SendsOnly (flat_map (puts marks (act_of plan)) rows) (flat_map (takes marks (act_of plan)) rows) start new) (sym (keys_now defs n first start was)) all

-- all rows of a range were sent
pub whole_sent : (rows : Rows) (keys : List ℕ) (old new : List Call) → SendsAll rows keys old new → SendsOnly rows keys old new
whole_sent rows keys old new sends = sends_front rows [] keys [] rows keys old new (sym (append-nil rows)) (sym (append-nil keys)) sends
