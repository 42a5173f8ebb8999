-- What calls leave of the rows and of the bytes in use.
use Rattle.std.proofs.Common.{◌≡◌, ℕ, zero, suc, ◌+◌, ◌<◌, ◌≤◌, Bool, true, false, List, [], ◌∷◌, length, Option}
use Rattle.std.proofs.Common.{None, Some, Result, Ok, Err, refl, sym, ◌∙◌, ap, subst, arith}
use Rattle.std.proofs.lemmas.Bool.{false≢true}
use Rattle.std.proofs.lemmas.List.{length-append}
use Rattle.std.specs.Prelude.{◌≢◌, IfOk, IfErr, OnOk, IsTrue}
use Rattle.std.specs.List.{AllByRecursion}
use Rattle.row_types.specs.declared.definition.TableDef.{TableDef}
use Rattle.row_types.specs.declared.row.Value.{Value}
use Rattle.row_types.specs.Tables.{Tables}
use Rattle.key_space.specs.Plays.{RowOp}
use Rattle.plain_model.specs.declared.stop.Stop.{Stop}
use Rattle.plain_model.specs.declared.stop.Stop.TheVariants as stops
use Rattle.plain_model.specs.declared.stop.Resource.{Resource}
use Rattle.plain_model.specs.declared.stop.Resource.TheVariants.{Pages, Nodes, Txn, Locks, LogFull, Busy}
use Rattle.plain_model.specs.Calls.{Asked, AskPut, AskDel, Call, Began, Committed, Undone, Did, Stopped, is_running, op_count, ops_of}
use Rattle.plain_model.specs.Calls.{runs_behind, told}
use Rattle.plain_model.specs.CallPlays.{tables_of}
use Rattle.op_log.specs.Changes.{IsChange, body_text, change_text, del_bytes, put_bytes}
use Rattle.op_log.specs.declared.change.RowChange.{RowChange}
use Rattle.op_log.specs.declared.change.RowChange.TheVariants as change
use Rattle.call_log.specs.Played.{empty_tables}
use Rattle.call_log.specs.Standing.{op_of, standing}
use Rattle.call_log.specs.History.{AreOpsSpent, HasPlayed, IsHistory, IsInPlace, IsOrdered, IsSpentAt, IsUsedUp, batches_of}
use Rattle.call_log.specs.History.{begin_count, begun_at, bytes_with, last_batch, log_limit, log_room, settled, txn_limit}
use Rattle.call_log.specs.History.{with_batch, with_changes, with_forced, with_loaded}
use Rattle.call_log.proofs.Histories.{batches_are_some, batches_fit, begun_is_settled, forced_is_history, gate_more}
use Rattle.call_log.proofs.Histories.{loaded_batches, loaded_is_history, loaded_settled}
use Rattle.txn_rows.specs.Rows.{Idle, Running, IsLoaded, IsTooMany, LeftBy, defs_of}
use Rattle.txn_rows.specs.declared.rows.TxnRows.{TxnRows}
use Rattle.list_keeper.specs.Kept.{AreLeftBy, IsKept, batch_bytes, defs_in, runs_on}
use Rattle.list_keeper.specs.Past.{IsPast}
use Rattle.list_keeper.specs.declared.state.State.{State}

-- the tables at the last begin, and those that all committed transactions have left
abbrev pub first_of : List TableDef → List Call → Tables
first_of defs calls = begun_at (empty_tables defs) calls

abbrev pub last_of : List TableDef → List Call → Tables
last_of defs calls = settled (empty_tables defs) calls

none_runs : {P : Type 0} → IsTrue false → P
none_runs is = absurd (false≢true is)

-- the same of equal definitions and of an equal answer whether a transaction runs
pub left_as : {defs new_defs : List TableDef} {rows : TxnRows} {running new_running : Bool} {bytes number : ℕ} {calls : List Call}
    → new_defs ≡ defs → new_running ≡ running
    → AreLeftBy defs rows running bytes number calls → AreLeftBy new_defs rows new_running bytes number calls
left_as {new_defs = new_defs} {rows = rows} {running = running} {bytes = bytes} {number = number} {calls = calls} same_defs same left =
    subst (λ (r : Bool). AreLeftBy new_defs rows r bytes number calls) (sym same)
    (subst (λ (ds : List TableDef). AreLeftBy ds rows running bytes number calls) (sym same_defs) left)

-- what is known of the calls with one call more
more_history : (defs : List TableDef) (call : Call) (calls : List Call) → IsHistory defs calls
    → IsOrdered defs (call ∷ calls) → HasPlayed (empty_tables defs) (call ∷ calls) → IsHistory defs (call ∷ calls)
more_history defs call calls is ordered plays = record { schema = is.schema; ordered = ordered; plays = plays }

-- ---- Calls on rows

module _ (rows : TxnRows) (was : Bool) (bytes number : ℕ) (calls : List Call) where
  -- the rows of the transaction that runs
  pub running : was ≡ true → AreLeftBy (defs_of rows) rows was bytes number calls
      → Running rows (first_of (defs_of rows) calls) (ops_of calls)
  running was_is left = (left_as {new_running = true} refl (sym was_is) left).holds

  -- those that all committed transactions have left
  pub idle : was ≡ false → AreLeftBy (defs_of rows) rows was bytes number calls
      → Idle rows (last_of (defs_of rows) calls) (last_batch calls)
  idle was_is left = (left_as {new_running = false} refl (sym was_is) left).holds

-- what a refusal of a call says, by the bytes that its change would add
abbrev pub Uses : List TableDef → List Call → Asked → Option ℕ → Type 0
Uses defs calls asked more =
    (resource : Resource) → IsTooMany defs (ops_of calls) more resource → IsUsedUp defs calls asked resource

-- what it says where no more operations can be counted
abbrev pub Spends : List Call → Asked → Type 0
Spends calls asked = (limit : ℕ) → AreOpsSpent (op_count calls) limit → IsSpentAt calls asked limit

module _ (defs : List TableDef) (old rows : TxnRows) (bytes number : ℕ) (calls : List Call)
    (left : AreLeftBy defs old true bytes number calls) where
  -- a transaction runs, and began with what all committed ones have left
  runs : IsTrue (is_running calls)
  runs = subst IsTrue left.running_is refl

  begun : first_of defs calls ≡ last_of defs calls
  begun = begun_is_settled (empty_tables defs) calls runs

  did : (op : RowOp) → Running rows (first_of defs calls) (op ∷ ops_of calls) → AreLeftBy defs rows true bytes number (Did op ∷ calls)
  did op is = record {
    history = more_history defs (Did op) calls left.history (runs, left.history.ordered) (is.play.0, left.history.plays);
    running_is = left.running_is;
    bytes_are = left.bytes_are;
    few = left.few;
    room = left.room;
    numbered = left.numbered;
    holds = is;
  }

  stopped : (asked : Asked) (more : Option ℕ) (stop : Stop) → defs_of rows ≡ defs → IsInPlace asked calls
      → Uses defs calls asked more → Spends calls asked → LeftBy rows (first_of defs calls) (ops_of calls) more stop
      → AreLeftBy defs rows (runs_behind stop true) bytes number (Stopped asked stop ∷ calls)
  stopped asked more (stops.Refused resource) same place uses spends is =
      let many = subst (λ (ds : List TableDef). IsTooMany ds (ops_of calls) more resource) same is.1 in
      let call = Stopped asked (stops.Refused resource) in
      record {
        history = more_history defs call calls left.history (place, uses resource many, left.history.ordered) left.history.plays;
        running_is = left.running_is;
        bytes_are = left.bytes_are;
        few = left.few;
        room = left.room;
        numbered = left.numbered;
        holds = is.0;
      }
  stopped asked more (stops.Spent limit) same place uses spends is =
      let call = Stopped asked (stops.Spent limit) in
      record {
        history = more_history defs call calls left.history (place, spends limit is.0, left.history.ordered) left.history.plays;
        running_is = refl;
        bytes_are = left.bytes_are;
        few = left.few;
        room = none_runs;
        numbered = left.numbered;
        holds = subst (λ (t : Tables). Idle rows t []) begun is.1;
      }
  stopped asked more stops.OutOfMemory same place uses spends is =
      let call = Stopped asked stops.OutOfMemory in
      record {
        history = more_history defs call calls left.history (place, tt, left.history.ordered) left.history.plays;
        running_is = left.running_is;
        bytes_are = left.bytes_are;
        few = left.few;
        room = left.room;
        numbered = left.numbered;
        holds = is;
      }
  stopped asked more (stops.Die holder) same place uses spends is = absurd is
  stopped asked more (stops.Fault file) same place uses spends is = absurd is

  answered_by : {T : Type 0} (asked : Asked) (op : T → RowOp) (more : Option ℕ) (result : Result T Stop)
      → defs_of rows ≡ defs → IsInPlace asked calls → Uses defs calls asked more → Spends calls asked
      → IfOk result (λ answer. Running rows (first_of defs calls) (op answer ∷ ops_of calls))
      → IfErr result (LeftBy rows (first_of defs calls) (ops_of calls) more)
      → AreLeftBy defs rows (runs_on result) bytes number (told (λ answer. Did (op answer)) asked result calls)
  answered_by asked op more (Ok answer) same place uses spends done stops = did (op answer) done
  answered_by asked op more (Err stop) same place uses spends done stops = stopped asked more stop same place uses spends stops

module _ (old rows : TxnRows) (was : Bool) (bytes number : ℕ) (calls : List Call) (same : defs_of rows ≡ defs_of old) where
  -- a call on rows was answered
  pub answered : {T : Type 0} (is : Bool) (asked : Asked) (op : T → RowOp) (more : Option ℕ) (result : Result T Stop)
      → was ≡ true → is ≡ runs_on result → (IsTrue (is_running calls) → IsInPlace asked calls)
      → Uses (defs_of old) calls asked more → Spends calls asked → AreLeftBy (defs_of old) old was bytes number calls
      → IfOk result (λ answer. Running rows (first_of (defs_of old) calls) (op answer ∷ ops_of calls))
      → IfErr result (LeftBy rows (first_of (defs_of old) calls) (ops_of calls) more)
      → AreLeftBy (defs_of rows) rows is bytes number (told (λ answer. Did (op answer)) asked result calls)
  answered is asked op more result was_is is_is place uses spends left done stops =
      let defs = defs_of old in
      let kept : AreLeftBy defs old true bytes number calls = left_as refl (sym was_is) left in
      let here = place (runs defs old rows bytes number calls kept) in
      left_as same is_is (answered_by defs old rows bytes number calls kept asked op more result same here uses spends done stops)

-- a fact of a result without an answer
pub if_ok : {T : Type 0} (P : Type 0) (result : Result T Stop) → OnOk result P → IfOk result (λ answer. P)
if_ok P (Ok answer) p = p
if_ok P (Err stop) p = tt

-- ---- Refusals

module _ (defs : List TableDef) (calls : List Call) where
  pub uses_none : (asked : Asked) → Uses defs calls asked None
  uses_none asked resource never = absurd never

  pub uses_put : (table : ℕ) (row : List Value) → table < length defs
      → Uses defs calls (AskPut table row) (Some (put_bytes defs table))
  uses_put table row inside (Txn used limit) many = (inside, many.0, many.1)
  uses_put table row inside (Pages used limit) never = absurd never
  uses_put table row inside (Nodes used limit) never = absurd never
  uses_put table row inside (Locks held limit) never = absurd never
  uses_put table row inside (LogFull bytes limit) never = absurd never
  uses_put table row inside (Busy oldest) never = absurd never

  pub uses_del : (table key : ℕ) → Uses defs calls (AskDel table key) (Some del_bytes)
  uses_del table key (Txn used limit) many = many
  uses_del table key (Pages used limit) never = absurd never
  uses_del table key (Nodes used limit) never = absurd never
  uses_del table key (Locks held limit) never = absurd never
  uses_del table key (LogFull bytes limit) never = absurd never
  uses_del table key (Busy oldest) never = absurd never

-- ---- Numbers

changed_begins : (calls : List Call) (batch : List RowChange) → begin_count (with_changes calls batch) ≡ begin_count calls
changed_begins calls [] = refl
changed_begins calls (c ∷ batch) = changed_begins (Did (op_of c) ∷ calls) batch

-- a batch that is loaded begins transactions too
loaded_more : (calls : List Call) (batch : List RowChange) (number : ℕ) → number ≤ begin_count calls → number ≤ begin_count (with_loaded calls batch)
loaded_more calls batch number few = let same = changed_begins (Began None 0 ∷ calls) batch in omega (arith, few, same)

-- ---- Bytes in use

some_bytes : (defs : List TableDef) (change : RowChange) → length (change_text defs change) ≢ 0
unfolding change_text
some_bytes defs (change.Put table row) never = absurd (omega (arith, never))
some_bytes defs (change.Del table number) never = absurd (omega (arith, never))

-- a batch without bytes has no changes
pub no_changes : (defs : List TableDef) (batch : List RowChange) → length (body_text defs batch) ≡ 0 → batch ≡ []
no_changes defs [] is = refl
no_changes defs (change ∷ changes) is =
    absurd (some_bytes defs change (omega (arith, length-append (change_text defs change) (body_text defs changes), is)))

by_bytes : (gate len : ℕ) → len ≢ 0 → (gate + (5 + len)) + 1 ≡ (gate + 1) + batch_bytes len
by_bytes gate zero some = absurd (some refl)
by_bytes gate (suc len) some = omega arith

-- the bytes in use with one batch more
more_bytes : (defs : List TableDef) (batches : List (List RowChange)) (batch : List RowChange)
    → bytes_with defs (with_batch batches batch) ≡ bytes_with defs batches + batch_bytes (length (body_text defs batch))
more_bytes defs batches [] = omega arith
more_bytes defs batches (change ∷ changes) =
    ap (λ (gate : ℕ). gate + 1) (gate_more defs batches (change ∷ changes) (λ is. let e = is in cc))
    ∙ by_bytes _ (length (body_text defs (change ∷ changes))) (λ none. let e = no_changes defs (change ∷ changes) none in cc)

few_more : (bytes more len : ℕ) → bytes + log_room ≤ log_limit → len ≤ txn_limit → more ≡ batch_bytes len
    → bytes + more ≤ log_limit + 1
few_more bytes more zero room short is = omega (arith, room, is)
few_more bytes more (suc len) room short is = omega (arith, room, short, is)

-- ---- Transactions

module _ (old rows : TxnRows) (was : Bool) (bytes number : ℕ) (calls : List Call) (same : defs_of rows ≡ defs_of old)
    (left : AreLeftBy (defs_of old) old was bytes number calls) where
  abbrev defs : List TableDef
  defs = defs_of old

  pub has_begun : (age : Option ℕ) (next : ℕ) → was ≡ false → next ≡ number + 1 → bytes + log_room ≤ log_limit
      → Running rows (last_of (defs_of old) calls) [] → AreLeftBy (defs_of rows) rows true bytes next (Began age next ∷ calls)
  has_begun age next was_is next_is room is =
      let ordered : IsOrdered defs (Began age next ∷ calls) = (sym left.running_is ∙ was_is, left.history.ordered) in
      left_as same refl (record {
        history = more_history defs (Began age next) calls left.history ordered left.history.plays;
        running_is = refl;
        bytes_are = left.bytes_are;
        few = left.few;
        room = λ runs. room;
        numbered = omega (arith, left.numbered, next_is);
        holds = is;
      })

  pub has_committed : (more : ℕ) → was ≡ true
      → Idle rows (tables_of (first_of (defs_of old) calls) calls) (standing (ops_of calls))
      → length (body_text (defs_of rows) (standing (ops_of calls))) ≤ txn_limit
      → more ≡ batch_bytes (length (body_text (defs_of rows) (standing (ops_of calls))))
      → AreLeftBy (defs_of rows) rows false (bytes + more) number (Committed ∷ calls)
  has_committed more was_is is short more_is =
      let batch = standing (ops_of calls) in
      let kept : AreLeftBy defs old true bytes number calls = left_as refl (sym was_is) left in
      let ordered : IsOrdered defs (Committed ∷ calls) = (runs defs old rows bytes number calls kept, left.history.ordered) in
      let len_is = subst (λ (ds : List TableDef). more ≡ batch_bytes (length (body_text ds batch))) same more_is in
      left_as same refl (record {
        history = more_history defs Committed calls left.history ordered left.history.plays;
        running_is = refl;
        bytes_are =
            ap (λ (b : ℕ). b + more) left.bytes_are ∙ ap (λ (m : ℕ). bytes_with defs (batches_of calls) + m) len_is
            ∙ sym (more_bytes defs (batches_of calls) batch);
        few = few_more bytes more (length (body_text (defs_of rows) batch)) (kept.room refl) short more_is;
        room = none_runs;
        numbered = left.numbered;
        holds = is;
      })

  pub was_undone : was ≡ true → Idle rows (first_of (defs_of old) calls) []
      → AreLeftBy (defs_of rows) rows false bytes number (Undone ∷ calls)
  was_undone was_is is =
      let kept : AreLeftBy defs old true bytes number calls = left_as refl (sym was_is) left in
      let ordered : IsOrdered defs (Undone ∷ calls) = (runs defs old rows bytes number calls kept, left.history.ordered) in
      left_as same refl (record {
        history = more_history defs Undone calls left.history ordered left.history.plays;
        running_is = refl;
        bytes_are = left.bytes_are;
        few = left.few;
        room = none_runs;
        numbered = left.numbered;
        holds = subst (λ (t : Tables). Idle rows t []) (begun defs old rows bytes number calls kept) is;
      })

  -- ---- The log file

  pub was_loaded : (len : ℕ) (batch : List RowChange) → was ≡ false → batch ≢ []
      → AllByRecursion (IsChange (defs_of old)) batch → len ≡ length (body_text (defs_of old) batch)
      → bytes + 5 + len ≤ log_limit + 1 → IsLoaded rows (last_of (defs_of old) calls) batch None
      → AreLeftBy (defs_of rows) rows was (bytes + 5 + len) number (with_loaded calls batch)
  was_loaded len batch was_is some fit len_is room loaded =
      let batches = batches_of calls in
      left_as same was_is (record {
        history = loaded_is_history defs calls batch left.history (sym left.running_is ∙ was_is) loaded.0;
        running_is = refl;
        bytes_are =
            by_gate bytes len _ _ _ left.bytes_are len_is (gate_more defs batches batch some)
            ∙ ap (bytes_with defs) (sym (loaded_batches defs calls batch fit));
        few = room;
        room = none_runs;
        numbered = loaded_more calls batch number left.numbered;
        holds = subst (λ (t : Tables). Idle rows t []) (sym (loaded_settled (empty_tables defs) calls batch)) loaded.1;
      })
    where
      by_gate : (bytes len gate text new : ℕ) → bytes ≡ gate + 1 → len ≡ text → new ≡ gate + (5 + text)
          → bytes + 5 + len ≡ new + 1
      by_gate bytes len gate text new a b c = omega (arith, a, b, c)

-- a force without changes
pub none_forced : (rows : TxnRows) (was : Bool) (bytes number : ℕ) (calls : List Call) → was ≡ false
    → AreLeftBy (defs_of rows) rows was bytes number calls → last_batch calls ≡ []
    → AreLeftBy (defs_of rows) rows was bytes number (with_forced calls)
none_forced rows was bytes number calls was_is left none =
    let before = idle rows was bytes number calls was_is left in
    left_as refl was_is (record {
      history = forced_is_history (defs_of rows) calls left.history (sym left.running_is ∙ was_is);
      running_is = refl;
      bytes_are = left.bytes_are;
      few = left.few;
      room = none_runs;
      numbered = omega (arith, left.numbered);
      holds = subst (λ (batch : List RowChange). Idle rows (last_of (defs_of rows) calls) batch) none before;
    })

-- what is told of a keeper
pub past_of : (state : State) (calls : List Call) → IsKept state calls → IsPast (record { defs = defs_in state; calls = calls })
past_of state calls kept = record {
  history = kept.history;
  fit = batches_fit (defs_in state) calls kept.history;
  some = batches_are_some calls;
  few = subst (λ (bytes : ℕ). bytes ≤ log_limit + 1) kept.bytes_are kept.few;
}
