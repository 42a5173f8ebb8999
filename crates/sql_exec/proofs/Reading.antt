-- What is read of a range, piece by piece.
use Rattle.std.proofs.Common.{◌≡◌, inl, inr, ℕ, ℤ, zero, suc, ◌+◌, ◌^◌, ◌≤◌, map, reverse, true, false, List, [], ◌∷◌, ◌++◌, length, Option, None, Some, IsTrue, Result, Err, refl, sym, ap, subst, ◌∙◌, arith}
use Rattle.row_types.specs.declared.definition.TableDef.{TableDef}
use Rattle.row_types.specs.declared.row.Value.{Value}
use Rattle.row_types.specs.Schema.{columns_at, keys_at}
use Rattle.std.specs.List.{AllByRecursion, filter}
use Rattle.std.proofs.lemmas.Bool.{cases_lt}
use Rattle.std.proofs.lemmas.List.{length-map, map-append}
use Rattle.std.proofs.lemmas.Grind.{reverse_onto}
use Rattle.row_types.specs.Tables.{TableRows, Tables}
use Rattle.sql_check.specs.Columns.{def_at}
use Rattle.sql_check.specs.declared.plan.Plan.{Plan}
use Rattle.sql_check.specs.declared.plan.Test.{Test}
use Rattle.plain_model.specs.declared.reply.Reply.{Reply}
use Rattle.sql_check.specs.declared.plan.Plan.TheVariants.{Select, Totals}
use Rattle.plain_model.specs.declared.reply.Reply.TheVariants as replies
use Rattle.plain_model.specs.PlanMeaning.{passes_all, planned_total, put_in_order}
use Rattle.sql_exec.specs.Fits.{NamesKept}
use Rattle.sql_check.specs.declared.plan.TotalsPlan.{TotalsPlan}
use Rattle.row_types.specs.Slot.{IsRowOf}
use Rattle.key_space.proofs.PlaysLaws.{all_filter}
use Rattle.sql_exec.proofs.Summing.{few_rows, never_over}
use Rattle.key_space.specs.declared.range.Range.{Range}
use Rattle.key_space.specs.Plays.{RowOp, Rows, Get, Part, Put, Del, UndoTo}
use Rattle.sql_check.specs.declared.plan.SelectPlan.{SelectPlan}
use Rattle.plain_model.specs.declared.stop.Stop.{Stop}
use Rattle.plain_model.specs.declared.stop.Stop.TheVariants as stops
use Rattle.plain_model.specs.declared.stop.Resource.TheVariants.{Pages, Nodes, Txn, Locks, LogFull, Busy}
use Rattle.plain_model.specs.Calls.{Asked, AskBegin, AskCheckpoint, AskChunk, AskCommit, AskDel, AskGet, AskLock, AskMark, AskPut, AskUndo, AskUndoTo, Call, Did, MayGive, Stopped, is_running}
use Rattle.plain_model.specs.CallPlays.{tables_of}
use Rattle.plain_model.specs.Meaning.{limited, table_at, totals_reply}
use Rattle.plain_model.specs.Runs.{Since, keys_taken, rows_put}
use Rattle.plain_model.specs.Runs as runs
use Rattle.sql_exec.specs.Acts.{is_in, rows_in}
use Rattle.sql_exec.specs.Bodies.{CanRead, PlanEnds, OnlyForward, goes_back, here, did, stopped}
use Rattle.sql_exec.specs.Means.{IsNoLack, Stops}
use Rattle.sql_exec.specs.Parts.{PlanReplies}
use Rattle.sql_exec.specs.Plays.{OnTable, PlaysFrom, Turns}
use Rattle.sql_exec.specs.Selects.{Found, FoundInOrder, GoesOver, in_columns, shown_of, sums_of}
use Rattle.sql_exec.specs.Sends.{SendsNothing}
use Rattle.sql_exec.proofs.Calling.{part_says, schema_now}
use Rattle.sql_exec.proofs.OneTable.{stays}
use Rattle.sql_exec.proofs.PieceLaws.{between, rows_split}
use Rattle.sql_exec.proofs.Playing.{plays_since, read_since}
use Rattle.sql_exec.proofs.Ranging.{Ordered, ordered_at}
use Rattle.sql_exec.proofs.Showing.{enough, shown_enough}
use Rattle.sql_exec.proofs.Wholes.{FailsOutside, all_outside, int_key, kept_all}

-- a piece that isn't given stops the statement
chunk_kind : (n : ℕ) (range : Range) (stop : Stop) → MayGive (AskChunk n range) stop → IsNoLack stop
chunk_kind n range (stops.Refused (Pages used limit)) may = may
chunk_kind n range (stops.Refused (Nodes used limit)) may = may
chunk_kind n range (stops.Refused (Txn used limit)) may = may
chunk_kind n range (stops.Refused (Locks held limit)) may = may
chunk_kind n range (stops.Refused (LogFull bytes limit)) may = may
chunk_kind n range (stops.Refused (Busy oldest)) may = may
chunk_kind n range (stops.Die holder) may = tt
chunk_kind n range (stops.Fault file) may = tt
chunk_kind n range (stops.Spent limit) may = tt
chunk_kind n range stops.OutOfMemory may = tt

pub chunk_stops : (n : ℕ) (range : Range) (stop : Stop) (old new : List Call) → IsTrue (is_running old) → new ≡ Stopped (AskChunk n range) stop ∷ old → MayGive (AskChunk n range) stop → Stops new stop
chunk_stops n range stop old new runs told may = record { cause = inr (record { asked = AskChunk n range; before = old; last = told; running = runs }); kind = chunk_kind n range stop may }

pub stopped_forward : (n : ℕ) (range : Range) (stop : Stop) (start old new : List Call) → OnlyForward start old → new ≡ Stopped (AskChunk n range) stop ∷ old → OnlyForward start new
stopped_forward n range stop start old new forward told = subst (OnlyForward start) (sym told) (stopped _ _ _ refl forward)

pub stopped_nothing : (n : ℕ) (range : Range) (stop : Stop) (start old new : List Call) → SendsNothing start old → new ≡ Stopped (AskChunk n range) stop ∷ old → SendsNothing start new
stopped_nothing n range stop start old new sent told = record { put = ap rows_put told ∙ sent.put; taken = ap keys_taken told ∙ sent.taken }

module _ (n mid upto : ℕ) (list : Rows) (start old new : List Call) (told : new ≡ Did (Part n mid upto list) ∷ old) where
  pub read_forward : OnlyForward start old → OnlyForward start new
  read_forward forward = subst (OnlyForward start) (sym told) (did _ _ refl forward)

  pub read_nothing : SendsNothing start old → SendsNothing start new
  read_nothing sent = record { put = ap rows_put told ∙ sent.put; taken = ap keys_taken told ∙ sent.taken }

  pub read_runs : IsTrue (is_running old) → IsTrue (is_running new)
  read_runs runs = subst (λ (calls : List Call). IsTrue (is_running calls)) (sym told) runs

  pub read_can : (lo hi from to : ℕ) → lo ≤ from → to ≤ hi → CanRead old n lo hi → CanRead new n from to
  read_can lo hi from to up down can =
      let since = subst (Since old) (sym told) (runs.did _ _ runs.here) in
      let may = read_since old new n lo hi since can.1 in
      (read_runs can.0, record { table_is = may.table_is; locked = λ key low high. may.locked key (omega (arith, up, low)) (omega (arith, down, high)) })

  module _ (defs : List TableDef) (lo : ℕ) (low : lo ≤ mid) (up : mid ≤ upto) (earlier : Since start old) where
    abbrev marks : List ℕ
    marks = keys_at defs n

    pub read_on : (P Q : Rows → Type 0) → ((r : Rows) → Ordered defs n r → rows_in marks lo (upto + 1) r ≡ rows_in marks lo mid r ++ list → P r → Q r) → OnTable defs n (λ r s. P r × (s ≡ r)) start old → OnTable defs n (λ r s. Q r × (s ≡ r)) start new
    read_on P Q more so_far first plays =
        let got = subst (PlaysFrom defs first) told plays in
        let was = plays_since defs first old (Did (Part n mid upto list) ∷ old) (runs.did _ _ runs.here) got in
        let before = so_far first was in
        let at_start = (table_at (tables_of first start) n).rows in
        let at_old = (table_at (tables_of first old) n).rows in
        let order = ordered_at defs n first start (plays_since defs first start old earlier was) in
        let part : list ≡ rows_in marks mid (upto + 1) at_start = part_says defs n first old mid upto list got ∙ between marks mid upto at_old ∙ ap (rows_in marks mid (upto + 1)) before.rows.1 in
        let split : rows_in marks lo (upto + 1) at_start ≡ rows_in marks lo mid at_start ++ list = rows_split marks lo mid (upto + 1) at_start low (omega (arith, up)) order.rise ∙ ap (λ (l : Rows). rows_in marks lo mid at_start ++ l) (sym part) in
        subst (λ (calls : List Call). Turns n (λ r s. Q r × (s ≡ r)) (tables_of first start) (tables_of first calls)) (sym told)
        (record { others = before.others; rows = (more at_start order split before.rows.0, before.rows.1) })

-- what was found is all that is wanted of the range
pub enough_found : (defs : List TableDef) (n lo upto hi : ℕ) (p : SelectPlan) (wanted : Option ℕ) (found r : Rows) → lo ≤ upto → upto ≤ hi → Ordered defs n r → found ≡ shown_of p wanted (rows_in (keys_at defs n) lo (upto + 1) r) → enough wanted (length found) ≡ true
    → found ≡ shown_of p wanted (rows_in (keys_at defs n) lo (hi + 1) r)
enough_found defs n lo upto hi p wanted found r low up order is many =
    let front = rows_in (keys_at defs n) lo (upto + 1) r in
    let rest = rows_in (keys_at defs n) (upto + 1) (hi + 1) r in
    is ∙ sym (ap (shown_of p wanted) (rows_split (keys_at defs n) lo (upto + 1) (hi + 1) r (omega (arith, low)) (omega (arith, up)) order.rise) ∙ shown_enough p wanted front rest (subst (λ (l : Rows). enough wanted (length l) ≡ true) is many))

pub on_ordered : (defs : List TableDef) (n : ℕ) (P Q : Rows → Type 0) (start new : List Call) → Since start new → ((r : Rows) → Ordered defs n r → P r → Q r) → OnTable defs n (λ r s. P r × (s ≡ r)) start new → OnTable defs n (λ r s. Q r × (s ≡ r)) start new
on_ordered defs n P Q start new since more body first plays =
    let turns = body first plays in
    let order = ordered_at defs n first start (plays_since defs first start new since plays) in
    record { others = turns.others; rows = (more (table_at (tables_of first start) n).rows order turns.rows.0, turns.rows.1) }

-- ---- what only reads leaves the tables

stop_puts : (asked : Asked) (stop : Stop) (calls : List Call) → length (rows_put calls) ≤ length (rows_put (Stopped asked stop ∷ calls))
stop_puts (AskLock name mode) stop calls = omega arith
stop_puts (AskGet table key) stop calls = omega arith
stop_puts (AskChunk table range) stop calls = omega arith
stop_puts (AskPut table row) stop calls = omega arith
stop_puts (AskDel table key) stop calls = omega arith
stop_puts AskMark stop calls = omega arith
stop_puts (AskUndoTo mark) stop calls = omega arith
stop_puts (AskBegin age) stop calls = omega arith
stop_puts AskCommit stop calls = omega arith
stop_puts AskUndo stop calls = omega arith
stop_puts AskCheckpoint stop calls = omega arith

stop_takes : (asked : Asked) (stop : Stop) (calls : List Call) → length (keys_taken calls) ≤ length (keys_taken (Stopped asked stop ∷ calls))
stop_takes (AskLock name mode) stop calls = omega arith
stop_takes (AskGet table key) stop calls = omega arith
stop_takes (AskChunk table range) stop calls = omega arith
stop_takes (AskPut table row) stop calls = omega arith
stop_takes (AskDel table key) stop calls = omega arith
stop_takes AskMark stop calls = omega arith
stop_takes (AskUndoTo mark) stop calls = omega arith
stop_takes (AskBegin age) stop calls = omega arith
stop_takes AskCommit stop calls = omega arith
stop_takes AskUndo stop calls = omega arith
stop_takes AskCheckpoint stop calls = omega arith

did_puts : (op : RowOp) (calls : List Call) → length (rows_put calls) ≤ length (rows_put (Did op ∷ calls))
did_puts (Get table key answer) calls = omega arith
did_puts (Part table from upto answer) calls = omega arith
did_puts (Put table row) calls = omega arith
did_puts (Del table key answer) calls = omega arith
did_puts (UndoTo count) calls = omega arith

did_takes : (op : RowOp) (calls : List Call) → length (keys_taken calls) ≤ length (keys_taken (Did op ∷ calls))
did_takes (Get table key answer) calls = omega arith
did_takes (Part table from upto answer) calls = omega arith
did_takes (Put table row) calls = omega arith
did_takes (Del table key answer) calls = omega arith
did_takes (UndoTo count) calls = omega arith

puts_grow : (old new : List Call) → OnlyForward old new → length (rows_put old) ≤ length (rows_put new)
puts_grow old _ here = omega arith
puts_grow old _ (did op calls no_undo more) = omega (arith, did_puts op calls, puts_grow old calls more)
puts_grow old _ (stopped asked stop calls row_call more) = omega (arith, stop_puts asked stop calls, puts_grow old calls more)

takes_grow : (old new : List Call) → OnlyForward old new → length (keys_taken old) ≤ length (keys_taken new)
takes_grow old _ here = omega arith
takes_grow old _ (did op calls no_undo more) = omega (arith, did_takes op calls, takes_grow old calls more)
takes_grow old _ (stopped asked stop calls row_call more) = omega (arith, stop_takes asked stop calls, takes_grow old calls more)

op_same : (first : Tables) (old calls : List Call) (op : RowOp) → goes_back op ≡ false → OnlyForward old calls → length (rows_put (Did op ∷ calls)) ≤ length (rows_put old) → length (keys_taken (Did op ∷ calls)) ≤ length (keys_taken old) → tables_of first (Did op ∷ calls) ≡ tables_of first calls
op_same first old calls (Get table key answer) no_undo forward puts takes = refl
op_same first old calls (Part table from upto answer) no_undo forward puts takes = refl
op_same first old calls (Put table row) no_undo forward puts takes = absurd (omega (arith, puts, puts_grow old calls forward))
op_same first old calls (Del table key answer) no_undo forward puts takes = absurd (omega (arith, takes, takes_grow old calls forward))
op_same first old calls (UndoTo count) no_undo forward puts takes = absurd cc

read_same : (first : Tables) (old new : List Call) → OnlyForward old new → length (rows_put new) ≤ length (rows_put old) → length (keys_taken new) ≤ length (keys_taken old) → tables_of first new ≡ tables_of first old
read_same first old _ here puts takes = refl
read_same first old _ (did op calls no_undo more) puts takes =
    op_same first old calls op no_undo more puts takes ∙ read_same first old calls more (omega (arith, puts, did_puts op calls)) (omega (arith, takes, did_takes op calls))
read_same first old _ (stopped asked stop calls row_call more) puts takes = read_same first old calls more (omega (arith, puts, stop_puts asked stop calls)) (omega (arith, takes, stop_takes asked stop calls))

-- a stop in the middle of what only reads
pub reads_stop : (defs : List TableDef) (n : ℕ) (Ends : Rows → Rows → Type 0) (old new : List Call) → OnlyForward old new → SendsNothing old new → ((r : Rows) → Ends r r) → OnTable defs n Ends old new
reads_stop defs n Ends old new forward sent any first plays =
    let same = read_same first old new forward (omega (arith, ap length sent.put)) (omega (arith, ap length sent.taken)) in
    stays n Ends (tables_of first old) (tables_of first new) same (any (table_at (tables_of first old) n).rows)

pub err_ends : (def : TableDef) (plan : Plan) (stop : Stop) (result : Result Reply Stop) (r : Rows) → result ≡ Err stop → PlanEnds def plan result r r
err_ends def plan stop result r is = subst (λ (x : Result Reply Stop). PlanEnds def plan x r r) (sym is) tt

map_reverse : {A B : Type 0} (f : A → B) (xs : List A) → map f (reverse xs) ≡ reverse (map f xs)
map_reverse f [] = refl
map_reverse f (x ∷ xs) = ap (map f) (reverse_onto xs x []) ∙ map-append f (reverse xs) (x ∷ []) ∙ ap (λ l. l ++ f x ∷ []) (map_reverse f xs) ∙ sym (reverse_onto (map f xs) (f x) [])

-- ---- the rows of a range that pass are all that pass

empty_at : (tables : Tables) (n : ℕ) → length tables ≤ n → (table_at tables n).rows ≡ []
empty_at [] n out = refl
empty_at (t ∷ tables) zero out = absurd (omega (arith, out))
empty_at (t ∷ tables) (suc n) out = empty_at tables n (omega (arith, out))

module _ (defs : List TableDef) (n : ℕ) (range : Range) (tests : List Test) (kept : NamesKept defs n (Some range) tests) (start new : List Call) (since : Since start new) where
  fails_at : (first : Tables) (calls : List Call) → PlaysFrom defs first calls → AllByRecursion (FailsOutside (keys_at defs n) tests range.lo.number (range.hi.number + 1)) (table_at (tables_of first calls) n).rows
  fails_at first calls plays =
      elim (cases_lt n (length defs)) [
        | inl less ↦ all_outside defs n range tests kept (int_key defs n less first calls plays) (table_at (tables_of first calls) n).rows (ordered_at defs n first calls plays).fits
        | inr out ↦
            let count : length (tables_of first calls) ≡ length defs = sym (length-map (tables_of first calls) (λ (t : TableRows). t.def)) ∙ ap (λ (ds : List TableDef). length ds) (schema_now defs n first calls plays) in
            subst (AllByRecursion (FailsOutside (keys_at defs n) tests range.lo.number (range.hi.number + 1))) (sym (empty_at (tables_of first calls) n (omega (arith, count, out)))) tt
      ]

  pub passing_all : (first : Tables) → PlaysFrom defs first new → filter (passes_all tests) (rows_in (keys_at defs n) range.lo.number (range.hi.number + 1) (table_at (tables_of first start) n).rows) ≡ filter (passes_all tests) (table_at (tables_of first start) n).rows
  passing_all first plays = kept_all (keys_at defs n) tests range.lo.number (range.hi.number + 1) (table_at (tables_of first start) n).rows (fails_at first start (plays_since defs first start new since plays))

module _ (defs : List TableDef) (p : SelectPlan) (range : Range) where
  abbrev shown_row : List Value → List Value
  shown_row = in_columns p.columns

  abbrev keys : List ℕ
  keys = keys_at defs p.table

  abbrev kept_of : Rows → Rows
  kept_of r = filter (passes_all p.conditions) (rows_in keys range.lo.number (range.hi.number + 1) r)

  pub rising_order : (found rows : Rows) → p.is_falling ≡ false → Found keys range p p.limit found rows → FoundInOrder keys range p found rows
  rising_order found rows rising is = is ∙ ap (λ b. map shown_row (limited p.limit (put_in_order b (kept_of rows)))) (sym rising)

  pub falling_order : (found said rows : Rows) → p.is_falling ≡ true → p.limit ≡ None → said ≡ reverse found → Found keys range p None found rows → FoundInOrder keys range p said rows
  falling_order found said rows falling none turned is =
      turned ∙ ap reverse is ∙ sym (map_reverse shown_row (kept_of rows)) ∙ ap (λ b. map shown_row (put_in_order b (kept_of rows))) (sym falling) ∙ ap (λ o. map shown_row (limited o (put_in_order p.is_falling (kept_of rows)))) (sym none)

  -- what was found is what the plan shows
  pub select_ends : (start new : List Call) → NamesKept defs p.table (Some range) p.conditions → Since start new → (found : Rows) → OnTable defs p.table (λ r s. FoundInOrder keys range p found r × (s ≡ r)) start new → OnTable defs p.table (λ r s. PlanReplies (def_at defs p.table) (Select p) (replies.Rows found) r × (s ≡ r)) start new
  select_ends start new kept since found body first plays =
      let turns = body first plays in
      let rows = (table_at (tables_of first start) p.table).rows in
      let all = passing_all defs p.table range p.conditions kept start new since first plays in
      let shown : found ≡ map shown_row (limited p.limit (put_in_order p.is_falling (filter (passes_all p.conditions) rows))) = turns.rows.0 ∙ ap (λ (l : Rows). map shown_row (limited p.limit (put_in_order p.is_falling l))) all in
      record { others = turns.others; rows = (ap (λ (l : Rows). (replies.Rows l, rows)) (sym shown), turns.rows.1) }

-- ---- totals

pub totals_end : (defs : List TableDef) (p : TotalsPlan) (range : Range) → NamesKept defs p.table (Some range) p.conditions → (start new : List Call) → Since start new → (totals : List ℤ) (reply : Reply) → reply ≡ totals_reply totals
    → OnTable defs p.table (λ r s. (totals ≡ sums_of p (rows_in (keys_at defs p.table) range.lo.number (range.hi.number + 1) r)) × (s ≡ r)) start new → OnTable defs p.table (λ r s. PlanReplies (def_at defs p.table) (Totals p) reply r × (s ≡ r)) start new
totals_end defs p range kept start new since totals reply said body first plays =
    let turns = body first plays in
    let rows = (table_at (tables_of first start) p.table).rows in
    let all = passing_all defs p.table range p.conditions kept start new since first plays in
    let same : totals ≡ map (planned_total (filter (passes_all p.conditions) rows)) p.totals = turns.rows.0 ∙ ap (λ (l : Rows). map (planned_total l) p.totals) all in
    record { others = turns.others; rows = (ap (λ (l : List ℤ). (totals_reply l, rows)) (sym same) ∙ ap (λ (r : Reply). (r, rows)) (sym said), turns.rows.1) }

-- no sum leaves 128 bits
pub never_goes_over : (defs : List TableDef) (n lo mid upto : ℕ) (list : Rows) (start old new : List Call) → new ≡ Did (Part n mid upto list) ∷ old → lo ≤ mid → mid ≤ upto → Since start old → (p : TotalsPlan) (totals : List ℤ) → upto + 1 ≤ 2 ^ 64
    → ((before : Rows) → totals ≡ sums_of p before → GoesOver p (before ++ list)) → OnTable defs n (λ r s. (totals ≡ sums_of p (rows_in (keys_at defs n) lo mid r)) × (s ≡ r)) start old → (Ends : Rows → Rows → Type 0) → OnTable defs n Ends start new
never_goes_over defs n lo mid upto list start old new told low up earlier p totals few over so_far Ends first plays =
    let marks = keys_at defs n in
    let P : Rows → Type 0 = λ r. totals ≡ sums_of p (rows_in marks lo mid r) in
    let read = read_on n mid upto list start old new told defs lo low up earlier P (λ r. ⊥)
    (λ r order split e. never_over (columns_at defs n) p (rows_in marks lo (upto + 1) r) (all_filter (IsRowOf (columns_at defs n)) (is_in marks lo (upto + 1)) r order.fits) (few_rows marks (2 ^ 64) lo (upto + 1) r few order.rise) (subst (GoesOver p) (sym split) (over (rows_in marks lo mid r) e))) so_far first plays in
    absurd read.rows.0
