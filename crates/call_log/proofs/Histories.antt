-- What a keeper's calls have done: the tables and batches that they lead to.
use Rattle.std.proofs.Common.{◌≡◌, ℕ, suc, ◌+◌, ◌<◌, Bool, true, false, List, [], ◌∷◌, ◌++◌, length, None, Some, refl, sym, ◌∙◌, ap, subst, arith}
use Rattle.std.specs.Prelude.{◌≢◌, is_some, IsTrue}
use Rattle.std.specs.List.{AllByRecursion}
use Rattle.row_types.specs.declared.definition.TableDef.{TableDef}
use Rattle.row_types.specs.Keys.{key_of_int}
use Rattle.row_types.specs.Schema.{IsSchema}
use Rattle.row_types.specs.Tables.{AreTables, IsTableRows, Tables, schema_of}
use Rattle.key_space.specs.Plays.{RowOp, OfTable, AnswersAt, row_at}
use Rattle.plain_model.specs.declared.stop.Stop.{Stop}
use Rattle.plain_model.specs.declared.stop.Stop.TheVariants as stops
use Rattle.plain_model.specs.Calls.{Call, Began, Committed, Undone, Locked, Did, Opened, Stopped, is_running, runs_behind, ops_of, locked_table}
use Rattle.plain_model.specs.CallPlays.{tables_of, CallsPlay}
use Rattle.op_log.specs.Changes.{IsChange, body_text}
use Rattle.op_log.specs.declared.change.RowChange.{RowChange}
use Rattle.op_log.specs.declared.change.RowChange.TheVariants as change
use Rattle.call_log.specs.History.{begun_at, settled, HasPlayed, with_batch, batches_of, gate_behind, IsOrdered, IsHistory, with_changes, with_forced, with_loaded}
use Rattle.call_log.specs.Played.{IsPlayed, ArePlayed, tables_behind_change, played, played_batches, BatchesPlayed, empty_tables}
use Rattle.call_log.specs.Standing.{op_of, standing}
use Rattle.call_log.proofs.Standings.{tables_are_played, changes_are_played}
use Rattle.call_log.proofs.Fitting.{changes_fit, moments_are_tables, number_again}

-- ---- one batch more

played_behind : (tables : Tables) (batches : List (List RowChange)) (batch : List RowChange) → played_batches tables (batches ++ batch ∷ []) ≡ played (played_batches tables batches) batch
played_behind tables [] batch = refl
played_behind tables (b ∷ batches) batch = played_behind (played tables b) batches batch

pub played_batches_more : (tables : Tables) (batches : List (List RowChange)) (batch : List RowChange) → played_batches tables (with_batch batches batch) ≡ played (played_batches tables batches) batch
played_batches_more tables batches [] = refl
played_batches_more tables batches (c ∷ changes) = played_behind tables batches (c ∷ changes)

are_played_behind : (tables : Tables) (batches : List (List RowChange)) (batch : List RowChange) → BatchesPlayed tables batches → ArePlayed (played_batches tables batches) batch → BatchesPlayed tables (batches ++ batch ∷ [])
are_played_behind tables [] batch all one = (one, tt)
are_played_behind tables (b ∷ batches) batch all one = (all.0, are_played_behind (played tables b) batches batch all.1 one)

pub batches_played_more : (tables : Tables) (batches : List (List RowChange)) (batch : List RowChange) → BatchesPlayed tables batches → ArePlayed (played_batches tables batches) batch
    → BatchesPlayed tables (with_batch batches batch)
batches_played_more tables batches [] all one = all
batches_played_more tables batches (c ∷ changes) all one = are_played_behind tables batches (c ∷ changes) all one

gate_by : (defs : List TableDef) (batches : List (List RowChange)) (batch : List RowChange) → gate_behind defs (batches ++ batch ∷ []) ≡ gate_behind defs batches + (5 + length (body_text defs batch))
gate_by defs [] batch = omega arith
gate_by defs (b ∷ batches) batch = let rest = gate_by defs batches batch in omega arith

pub gate_more : (defs : List TableDef) (batches : List (List RowChange)) (batch : List RowChange) → batch ≢ [] → gate_behind defs (with_batch batches batch) ≡ gate_behind defs batches + (5 + length (body_text defs batch))
gate_more defs batches [] some = absurd (some refl)
gate_more defs batches (c ∷ changes) some = gate_by defs batches (c ∷ changes)

-- ---- what plays

pub calls_play : (first : Tables) (calls : List Call) → HasPlayed first calls → CallsPlay (begun_at first calls) calls
calls_play first [] plays = tt
calls_play first (Began age number ∷ calls) plays = tt
calls_play first (Committed ∷ calls) plays = calls_play first calls plays
calls_play first (Undone ∷ calls) plays = calls_play first calls plays
calls_play first (Locked name mode ∷ calls) plays = calls_play first calls plays
calls_play first (Did op ∷ calls) plays = (plays.0, calls_play first calls plays.1)
calls_play first (Opened generation ∷ calls) plays = calls_play first calls plays
calls_play first (Stopped asked stop ∷ calls) plays = calls_play first calls plays

runs_before : (stop : Stop) (runs : Bool) → IsTrue (runs_behind stop runs) → IsTrue runs
runs_before (stops.Refused resource) runs is = is
runs_before (stops.Die holder) runs is = is
runs_before (stops.Fault file) runs is = is
runs_before (stops.Spent limit) runs is = absurd (let e = is in cc)
runs_before stops.OutOfMemory runs is = is

-- where a transaction runs it began with the tables after all that are committed
pub begun_is_settled : (first : Tables) (calls : List Call) → IsTrue (is_running calls) → begun_at first calls ≡ settled first calls
begun_is_settled first [] runs = refl
begun_is_settled first (Began age number ∷ calls) runs = refl
begun_is_settled first (Committed ∷ calls) runs = absurd (let e = runs in cc)
begun_is_settled first (Undone ∷ calls) runs = absurd (let e = runs in cc)
begun_is_settled first (Locked name mode ∷ calls) runs = begun_is_settled first calls runs
begun_is_settled first (Did op ∷ calls) runs = begun_is_settled first calls runs
begun_is_settled first (Opened generation ∷ calls) runs = begun_is_settled first calls runs
begun_is_settled first (Stopped asked stop ∷ calls) runs = begun_is_settled first calls (runs_before stop (is_running calls) runs)

-- the calls in order but for the last
pub ordered_before : (defs : List TableDef) (call : Call) (calls : List Call) → IsOrdered defs (call ∷ calls) → IsOrdered defs calls
ordered_before defs (Began age number) calls ordered = ordered.1
ordered_before defs Committed calls ordered = ordered.1
ordered_before defs Undone calls ordered = ordered.1
ordered_before defs (Locked name mode) calls ordered = ordered.2
ordered_before defs (Did op) calls ordered = ordered.1
ordered_before defs (Opened generation) calls ordered = absurd ordered
ordered_before defs (Stopped asked stop) calls ordered = ordered.2

pub plays_before : (first : Tables) (call : Call) (calls : List Call) → HasPlayed first (call ∷ calls) → HasPlayed first calls
plays_before first (Began age number) calls plays = plays
plays_before first Committed calls plays = plays
plays_before first Undone calls plays = plays
plays_before first (Locked name mode) calls plays = plays
plays_before first (Did op) calls plays = plays.1
plays_before first (Opened generation) calls plays = plays
plays_before first (Stopped asked stop) calls plays = plays

pub history_before : (defs : List TableDef) (call : Call) (calls : List Call) → IsHistory defs (call ∷ calls) → IsHistory defs calls
history_before defs call calls is = record { schema = is.schema; ordered = ordered_before defs call calls is.ordered; plays = plays_before (empty_tables defs) call calls is.plays }

-- ---- the tables are the batches played

-- the tables after all that are committed are those that the batches make
record Batched (first : Tables) (calls : List Call) : Type 0 where
  tables_are : settled first calls ≡ played_batches first (batches_of calls)
  all : BatchesPlayed first (batches_of calls)

committed : (first : Tables) (calls : List Call) → IsTrue (is_running calls) → HasPlayed first calls → Batched first calls → Batched first (Committed ∷ calls)
committed first calls runs plays is =
    let ops = ops_of calls in
    let play = calls_play first calls plays in
    let from : begun_at first calls ≡ played_batches first (batches_of calls) = begun_is_settled first calls runs ∙ is.tables_are in
    record {
      tables_are = tables_are_played (begun_at first calls) ops play ∙ ap (λ (t : Tables). played t (standing ops)) from ∙ sym (played_batches_more first (batches_of calls) (standing ops));
      all = batches_played_more first (batches_of calls) (standing ops) is.all (subst (λ (t : Tables). ArePlayed t (standing ops)) from (changes_are_played (begun_at first calls) ops play));
    }

batched : (defs : List TableDef) (first : Tables) (calls : List Call) → IsOrdered defs calls → HasPlayed first calls → Batched first calls
batched defs first [] ordered plays = record { tables_are = refl; all = tt }
batched defs first (Committed ∷ calls) ordered plays = committed first calls ordered.0 plays (batched defs first calls ordered.1 plays)
batched defs first (Began age number ∷ calls) ordered plays = let is = batched defs first calls ordered.1 plays in record { tables_are = is.tables_are; all = is.all }
batched defs first (Undone ∷ calls) ordered plays = let is = batched defs first calls ordered.1 plays in record { tables_are = is.tables_are; all = is.all }
batched defs first (Locked name mode ∷ calls) ordered plays = let is = batched defs first calls ordered.2 plays in record { tables_are = is.tables_are; all = is.all }
batched defs first (Did op ∷ calls) ordered plays = let is = batched defs first calls ordered.1 plays.1 in record { tables_are = is.tables_are; all = is.all }
batched defs first (Opened generation ∷ calls) ordered plays = absurd ordered
batched defs first (Stopped asked stop ∷ calls) ordered plays = let is = batched defs first calls ordered.2 plays in record { tables_are = is.tables_are; all = is.all }

pub settled_is_played : (defs : List TableDef) (first : Tables) (calls : List Call) → IsOrdered defs calls → HasPlayed first calls → settled first calls ≡ played_batches first (batches_of calls)
settled_is_played defs first calls ordered plays = (batched defs first calls ordered plays).tables_are

pub batches_played : (defs : List TableDef) (first : Tables) (calls : List Call) → IsOrdered defs calls → HasPlayed first calls → BatchesPlayed first (batches_of calls)
batches_played defs first calls ordered plays = (batched defs first calls ordered plays).all

-- ---- tables are tables

pub empty_schema : (defs : List TableDef) → schema_of (empty_tables defs) ≡ defs
empty_schema [] = refl
empty_schema (def ∷ defs) = ap (λ (ds : List TableDef). def ∷ ds) (empty_schema defs)

empty_rows : (defs : List TableDef) → AllByRecursion IsTableRows (empty_tables defs)
empty_rows [] = tt
empty_rows (def ∷ defs) = (record { fits = tt; rising = tt }, empty_rows defs)

pub empty_are_tables : (defs : List TableDef) → IsSchema defs → AreTables (empty_tables defs)
empty_are_tables defs schema = record { schema = subst IsSchema (sym (empty_schema defs)) schema; rows = empty_rows defs }

-- tables of this schema
abbrev pub OfDefs : List TableDef → Tables → Type 0
OfDefs defs tables = AreTables tables × (schema_of tables ≡ defs)

pub behind_are_tables : (defs : List TableDef) (first : Tables) (calls : List Call) → OfDefs defs first → CallsPlay first calls → OfDefs defs (tables_of first calls)
behind_are_tables defs first calls of play = let are = moments_are_tables first (ops_of calls) of.0 play in (are.0, are.1 ∙ of.1)

bounds_are : (defs : List TableDef) (first : Tables) (calls : List Call) → OfDefs defs first → HasPlayed first calls → OfDefs defs (begun_at first calls) × OfDefs defs (settled first calls)
bounds_are defs first [] of plays = (of, of)
bounds_are defs first (Began age number ∷ calls) of plays = let are = bounds_are defs first calls of plays in (are.1, are.1)
bounds_are defs first (Committed ∷ calls) of plays =
    let are = bounds_are defs first calls of plays in (are.0, behind_are_tables defs (begun_at first calls) calls are.0 (calls_play first calls plays))
bounds_are defs first (Undone ∷ calls) of plays = bounds_are defs first calls of plays
bounds_are defs first (Locked name mode ∷ calls) of plays = bounds_are defs first calls of plays
bounds_are defs first (Did op ∷ calls) of plays = bounds_are defs first calls of plays.1
bounds_are defs first (Opened generation ∷ calls) of plays = bounds_are defs first calls of plays
bounds_are defs first (Stopped asked stop ∷ calls) of plays = bounds_are defs first calls of plays

empty_of : (defs : List TableDef) → IsSchema defs → OfDefs defs (empty_tables defs)
empty_of defs schema = (empty_are_tables defs schema, empty_schema defs)

pub begun_are_tables : (defs : List TableDef) (calls : List Call) → IsHistory defs calls → OfDefs defs (begun_at (empty_tables defs) calls)
begun_are_tables defs calls is = (bounds_are defs (empty_tables defs) calls (empty_of defs is.schema) is.plays).0

pub settled_are_tables : (defs : List TableDef) (calls : List Call) → IsHistory defs calls → OfDefs defs (settled (empty_tables defs) calls)
settled_are_tables defs calls is = (bounds_are defs (empty_tables defs) calls (empty_of defs is.schema) is.plays).1

-- ---- batches

module _ (P : List RowChange → Type 0) where
  all_behind : (batches : List (List RowChange)) (batch : List RowChange) → AllByRecursion P batches → P batch → AllByRecursion P (batches ++ batch ∷ [])
  all_behind [] batch all one = (one, tt)
  all_behind (b ∷ batches) batch all one = (all.0, all_behind batches batch all.1 one)

  pub all_with : (batches : List (List RowChange)) (batch : List RowChange) → AllByRecursion P batches → (batch ≢ [] → P batch) → AllByRecursion P (with_batch batches batch)
  all_with batches [] all one = all
  all_with batches (c ∷ changes) all one = all_behind batches (c ∷ changes) all (one (λ e. absurd (let no = e in cc)))

fit_from : (defs : List TableDef) (first : Tables) (calls : List Call) → OfDefs defs first → HasPlayed first calls → AllByRecursion (AllByRecursion (IsChange defs)) (batches_of calls)
fit_from defs first [] of plays = tt
fit_from defs first (Committed ∷ calls) of plays =
    let are = (bounds_are defs first calls of plays).0 in
    let fits : AllByRecursion (IsChange defs) (standing (ops_of calls)) =
    subst (λ (ds : List TableDef). AllByRecursion (IsChange ds) (standing (ops_of calls))) are.1 (changes_fit (begun_at first calls) (ops_of calls) are.0 (calls_play first calls plays)) in
    all_with (AllByRecursion (IsChange defs)) (batches_of calls) (standing (ops_of calls)) (fit_from defs first calls of plays) (λ some. fits)
fit_from defs first (Began age number ∷ calls) of plays = fit_from defs first calls of plays
fit_from defs first (Undone ∷ calls) of plays = fit_from defs first calls of plays
fit_from defs first (Locked name mode ∷ calls) of plays = fit_from defs first calls of plays
fit_from defs first (Did op ∷ calls) of plays = fit_from defs first calls of plays.1
fit_from defs first (Opened generation ∷ calls) of plays = fit_from defs first calls of plays
fit_from defs first (Stopped asked stop ∷ calls) of plays = fit_from defs first calls of plays

pub batches_fit : (defs : List TableDef) (calls : List Call) → IsHistory defs calls → AllByRecursion (AllByRecursion (IsChange defs)) (batches_of calls)
batches_fit defs calls is = fit_from defs (empty_tables defs) calls (empty_of defs is.schema) is.plays

pub batches_are_some : (calls : List Call) → AllByRecursion (λ batch. batch ≢ []) (batches_of calls)
batches_are_some [] = tt
batches_are_some (Committed ∷ calls) = all_with (λ batch. batch ≢ []) (batches_of calls) (standing (ops_of calls)) (batches_are_some calls) (λ some. some)
batches_are_some (Began age number ∷ calls) = batches_are_some calls
batches_are_some (Undone ∷ calls) = batches_are_some calls
batches_are_some (Locked name mode ∷ calls) = batches_are_some calls
batches_are_some (Did op ∷ calls) = batches_are_some calls
batches_are_some (Opened generation ∷ calls) = batches_are_some calls
batches_are_some (Stopped asked stop ∷ calls) = batches_are_some calls

-- ---- locks

pub locked_is_table : (defs : List TableDef) (calls : List Call) (table : ℕ) → IsOrdered defs calls → locked_table calls ≡ Some table → table < length defs
locked_is_table defs [] table ordered is = absurd (let e = is in cc)
locked_is_table defs (Began age number ∷ calls) table ordered is = absurd (let e = is in cc)
locked_is_table defs (Committed ∷ calls) table ordered is = absurd (let e = is in cc)
locked_is_table defs (Undone ∷ calls) table ordered is = absurd (let e = is in cc)
locked_is_table defs (Locked name mode ∷ calls) table ordered is = let same : name.table ≡ table = cc in subst (λ n. n < length defs) same ordered.0
locked_is_table defs (Did op ∷ calls) table ordered is = locked_is_table defs calls table ordered.1 is
locked_is_table defs (Opened generation ∷ calls) table ordered is = absurd ordered
locked_is_table defs (Stopped asked stop ∷ calls) table ordered is = locked_is_table defs calls table ordered.2 is

-- ---- a batch of a log file

tables_by : (first : Tables) (calls : List Call) (c : RowChange) → tables_of first (Did (op_of c) ∷ calls) ≡ tables_behind_change (tables_of first calls) c
tables_by first calls (change.Put table row) = refl
tables_by first calls (change.Del table number) = refl

tables_changed : (first : Tables) (calls : List Call) (batch : List RowChange) → tables_of first (with_changes calls batch) ≡ played (tables_of first calls) batch
tables_changed first calls [] = refl
tables_changed first calls (c ∷ batch) = tables_changed first (Did (op_of c) ∷ calls) batch ∙ ap (λ (t : Tables). played t batch) (tables_by first calls c)

begun_changed : (first : Tables) (calls : List Call) (batch : List RowChange) → begun_at first (with_changes calls batch) ≡ begun_at first calls
begun_changed first calls [] = refl
begun_changed first calls (c ∷ batch) = begun_changed first (Did (op_of c) ∷ calls) batch

pub loaded_settled : (first : Tables) (calls : List Call) (batch : List RowChange) → settled first (with_loaded calls batch) ≡ played (settled first calls) batch
loaded_settled first calls batch =
    ap (λ (t : Tables). tables_of t (with_changes (Began None 0 ∷ calls) batch)) (begun_changed first (Began None 0 ∷ calls) batch) ∙ tables_changed (settled first calls) (Began None 0 ∷ calls) batch

batches_changed : (calls : List Call) (batch : List RowChange) → batches_of (with_changes calls batch) ≡ batches_of calls
batches_changed calls [] = refl
batches_changed calls (c ∷ batch) = batches_changed (Did (op_of c) ∷ calls) batch

stands_by : (defs : List TableDef) (ops : List RowOp) (c : RowChange) → IsChange defs c → standing (op_of c ∷ ops) ≡ standing ops ++ c ∷ []
stands_by defs ops (change.Put table row) fits = refl
stands_by defs ops (change.Del table number) fits = ap (λ n. standing ops ++ change.Del table n ∷ []) (number_again number fits.1)

append_join : (xs : List RowChange) (c : RowChange) (ys : List RowChange) → (xs ++ c ∷ []) ++ ys ≡ xs ++ c ∷ ys
append_join [] c ys = refl
append_join (x ∷ xs) c ys = ap (λ (l : List RowChange). x ∷ l) (append_join xs c ys)

stands_nothing : (xs : List RowChange) → xs ≡ xs ++ []
stands_nothing [] = refl
stands_nothing (x ∷ xs) = ap (λ (l : List RowChange). x ∷ l) (stands_nothing xs)

stands_changed : (defs : List TableDef) (calls : List Call) (batch : List RowChange) → AllByRecursion (IsChange defs) batch → standing (ops_of (with_changes calls batch)) ≡ standing (ops_of calls) ++ batch
stands_changed defs calls [] fits = stands_nothing (standing (ops_of calls))
stands_changed defs calls (c ∷ batch) fits =
    stands_changed defs (Did (op_of c) ∷ calls) batch fits.1 ∙ ap (λ (l : List RowChange). l ++ batch) (stands_by defs (ops_of calls) c fits.0) ∙ append_join (standing (ops_of calls)) c batch

pub loaded_batches : (defs : List TableDef) (calls : List Call) (batch : List RowChange) → AllByRecursion (IsChange defs) batch → batches_of (with_loaded calls batch) ≡ with_batch (batches_of calls) batch
loaded_batches defs calls batch fits =
    ap (λ (bs : List (List RowChange)). with_batch bs (standing (ops_of (with_changes (Began None 0 ∷ calls) batch)))) (batches_changed (Began None 0 ∷ calls) batch)
    ∙ ap (λ (b : List RowChange). with_batch (batches_of calls) b) (stands_changed defs (Began None 0 ∷ calls) batch fits)

running_changed : (calls : List Call) (batch : List RowChange) → IsTrue (is_running calls) → IsTrue (is_running (with_changes calls batch))
running_changed calls [] runs = runs
running_changed calls (c ∷ batch) runs = running_changed (Did (op_of c) ∷ calls) batch runs

ordered_changed : (defs : List TableDef) (calls : List Call) (batch : List RowChange) → IsTrue (is_running calls) → IsOrdered defs calls → IsOrdered defs (with_changes calls batch)
ordered_changed defs calls [] runs ordered = ordered
ordered_changed defs calls (c ∷ batch) runs ordered = ordered_changed defs (Did (op_of c) ∷ calls) batch runs (runs, ordered)

was_there : (tables : Tables) (n key : ℕ) → OfTable tables n (λ t. IsTrue (is_some (row_at t.def.keys t.rows key))) → OfTable tables n (λ t. true ≡ is_some (row_at t.def.keys t.rows key))
was_there [] n key of = of
was_there (t ∷ tables) ℕ.zero key of = sym of
was_there (t ∷ tables) (suc n) key of = was_there tables n key of

answers_by : (tables : Tables) (count : ℕ) (c : RowChange) → IsPlayed tables c → AnswersAt tables count (op_of c)
answers_by tables count (change.Put table row) is = is
answers_by tables count (change.Del table number) is = was_there tables table (key_of_int number) is

plays_changed : (first : Tables) (calls : List Call) (batch : List RowChange) → HasPlayed first calls → ArePlayed (tables_of (begun_at first calls) calls) batch → HasPlayed first (with_changes calls batch)
plays_changed first calls [] plays are = plays
plays_changed first calls (c ∷ batch) plays are =
    plays_changed first (Did (op_of c) ∷ calls) batch (answers_by (tables_of (begun_at first calls) calls) (length (ops_of calls)) c are.0, plays)
    (subst (λ (t : Tables). ArePlayed t batch) (sym (tables_by (begun_at first calls) calls c)) are.1)

pub forced_is_history : (defs : List TableDef) (calls : List Call) → IsHistory defs calls → is_running calls ≡ false → IsHistory defs (with_forced calls)
forced_is_history defs calls is none = record { schema = is.schema; ordered = (refl, (none, is.ordered)); plays = is.plays }

pub loaded_is_history : (defs : List TableDef) (calls : List Call) (batch : List RowChange) → IsHistory defs calls → is_running calls ≡ false → ArePlayed (settled (empty_tables defs) calls) batch
    → IsHistory defs (with_loaded calls batch)
loaded_is_history defs calls batch is none are =
    let begun = Began None 0 ∷ calls in
    forced_is_history defs (Committed ∷ with_changes begun batch)
    (record { schema = is.schema; ordered = (running_changed begun batch refl, ordered_changed defs begun batch refl (none, is.ordered)); plays = plays_changed (empty_tables defs) begun batch is.plays are }) refl
