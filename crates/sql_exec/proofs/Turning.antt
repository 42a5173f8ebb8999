-- What the run over the rows of a list comes to.
use Rattle.std.proofs.Common.{◌≡◌, inl, inr, ℕ, ◌+◌, ◌<◌, true, false, List, ◌∷◌, length, take, drop, get_or, None, Ok, Err, refl, sym, ap, subst, ◌∙◌}
use Rattle.std.specs.List.{flat_map}
use Rattle.row_types.specs.declared.definition.TableDef.{TableDef}
use Rattle.row_types.specs.declared.row.Value.{Value}
use Rattle.row_types.specs.Keys.{row_key}
use Rattle.row_types.specs.Schema.{keys_at}
use Rattle.row_types.specs.Tables.{TableRows, Tables}
use Rattle.key_space.specs.Plays.{Rows, OfTable, row_at}
use Rattle.plain_model.specs.declared.stop.Stop.{Stop}
use Rattle.plain_model.specs.declared.stop.Stop.TheVariants as stops
use Rattle.plain_model.specs.declared.stop.Resource.{Resource}
use Rattle.plain_model.specs.declared.stop.Resource.TheVariants.{Pages, Nodes, Txn, Locks, LogFull, Busy}
use Rattle.plain_model.specs.Calls.{AskPut, Call, Stopped}
use Rattle.plain_model.specs.CallPlays.{tables_of}
use Rattle.plain_model.specs.Meaning.{table_at}
use Rattle.plain_model.specs.Runs.{Since}
use Rattle.sql_exec.specs.declared.act.Act.{Act}
use Rattle.sql_exec.specs.declared.act.Act.TheVariants.{Keep, Set, Take, Refuse}
use Rattle.sql_exec.specs.Acts.{effect, effects, is_done, is_refused, some_refused}
use Rattle.sql_exec.specs.Pieces.{ActsOne, DidAct, LacksAt, ListEnds, SendsAll, StoppedAct, StopsAt}
use Rattle.sql_exec.specs.Plays.{LacksPlay, OnTable, PlaysFrom, Turns}
use Rattle.sql_exec.specs.Sends.{SendsOnly}
use Rattle.sql_exec.proofs.Acting.{puts, takes, acts_forward, bad_here, effects_more, good_on, sends_more, sends_part, stopped_sends, stopped_forward}
use Rattle.sql_exec.proofs.Calling.{del_turns, keys_now, put_turns}
use Rattle.sql_exec.proofs.Fronts.{split_at}
use Rattle.sql_exec.proofs.OneTable.{fact_at, on_after, on_weaker, stays}
use Rattle.sql_exec.proofs.Playing.{plays_since}
use Rattle.sql_exec.proofs.Forward.{forward_since}

module _ (defs : List TableDef) (n : ℕ) where
  did_turns : (a : Act) (row : List Value) (first : Tables) (old new : List Call) → DidAct (keys_at defs n) n a row old new → PlaysFrom defs first new → Turns n (λ r s. s ≡ effect (keys_at defs n) a row r) (tables_of first old) (tables_of first new)
  did_turns Keep row first old new is plays = stays n (λ r s. s ≡ r) (tables_of first old) (tables_of first new) (ap (tables_of first) is) refl
  did_turns (Set other) row first old new is plays =
      subst (λ (calls : List Call). PlaysFrom defs first calls → Turns n (λ r s. s ≡ effect (keys_at defs n) (Set other) row r) (tables_of first old) (tables_of first calls)) (sym is) (put_turns defs n first old other) plays
  did_turns Take row first old new is plays =
      subst (λ (calls : List Call). PlaysFrom defs first calls → Turns n (λ r s. s ≡ effect (keys_at defs n) Take row r) (tables_of first old) (tables_of first calls)) (sym is.1) (del_turns defs n first old (row_key (keys_at defs n) row) is.0) plays
  did_turns Refuse row first old new is plays = stays n (λ r s. s ≡ r) (tables_of first old) (tables_of first new) (ap (tables_of first) is) refl

  new_key : (row : List Value) (first : Tables) (old : List Call) → PlaysFrom defs first old → OfTable (tables_of first old) n (λ (t : TableRows). row_at t.def.keys t.rows (row_key t.def.keys row) ≡ None) → row_at (keys_at defs n) (table_at (tables_of first old) n).rows (row_key (keys_at defs n) row) ≡ None
  new_key row first old plays is =
      subst (λ (marks : List ℕ). row_at marks (table_at (tables_of first old) n).rows (row_key marks row) ≡ None) (keys_now defs n first old plays)
      (fact_at (tables_of first old) n (λ (t : TableRows). row_at t.def.keys t.rows (row_key t.def.keys row) ≡ None) is)

  put_lacks : (row : List Value) (resource : Resource) (first : Tables) (old : List Call) → PlaysFrom defs first old → LacksPlay first (Stopped (AskPut n row) (stops.Refused resource) ∷ old)
      → (new : List Call) → (other : List Value) → StoppedAct (keys_at defs n) n (Set row) other (stops.Refused resource) old new → LacksAt (keys_at defs n) (Set row) (table_at (tables_of first old) n).rows resource
  put_lacks row (Pages used limit) first old plays lacks new other is = new_key row first old plays lacks.0
  put_lacks row (Nodes used limit) first old plays lacks new other is = new_key row first old plays lacks.0
  put_lacks row (Txn used limit) first old plays lacks new other is = tt
  put_lacks row (Locks held limit) first old plays lacks new other is = absurd is.1
  put_lacks row (LogFull bytes limit) first old plays lacks new other is = absurd is.1
  put_lacks row (Busy oldest) first old plays lacks new other is = absurd is.1

  del_lacks : (row : List Value) (resource : Resource) (old new : List Call) (rows : Rows) → StoppedAct (keys_at defs n) n Take row (stops.Refused resource) old new → LacksAt (keys_at defs n) Take rows resource
  del_lacks row (Pages used limit) old new rows is = absurd is.1
  del_lacks row (Nodes used limit) old new rows is = absurd is.1
  del_lacks row (Txn used limit) old new rows is = tt
  del_lacks row (Locks held limit) old new rows is = absurd is.1
  del_lacks row (LogFull bytes limit) old new rows is = absurd is.1
  del_lacks row (Busy oldest) old new rows is = absurd is.1

  lacks_at : (a : Act) (row : List Value) (resource : Resource) (first : Tables) (old new : List Call) → StoppedAct (keys_at defs n) n a row (stops.Refused resource) old new → PlaysFrom defs first new → PlaysFrom defs first old
      → LacksAt (keys_at defs n) a (table_at (tables_of first old) n).rows resource
  lacks_at Keep row resource first old new is plays before = absurd is
  lacks_at Refuse row resource first old new is plays before = absurd is
  lacks_at Take row resource first old new is plays before = del_lacks row resource old new (table_at (tables_of first old) n).rows is
  lacks_at (Set other) row resource first old new is plays before = put_lacks other resource first old before (subst (LacksPlay first) is.0 plays.lacks) new row is

stopped_done : (marks : List ℕ) (n : ℕ) (a : Act) (row : List Value) (stop : Stop) (old new : List Call) → StoppedAct marks n a row stop old new → (is_done a ≡ true) × (is_refused a ≡ false)
stopped_done marks n Keep row stop old new is = absurd is
stopped_done marks n Refuse row stop old new is = absurd is
stopped_done marks n Take row stop old new is = (refl, refl)
stopped_done marks n (Set other) row stop old new is = (refl, refl)

stopped_same : (marks : List ℕ) (n : ℕ) (a : Act) (row : List Value) (stop : Stop) (old new : List Call) (first : Tables) → StoppedAct marks n a row stop old new → tables_of first new ≡ tables_of first old
stopped_same marks n Keep row stop old new first is = absurd is
stopped_same marks n Refuse row stop old new first is = absurd is
stopped_same marks n Take row stop old new first is = ap (tables_of first) is.0
stopped_same marks n (Set other) row stop old new first is = ap (tables_of first) is.0

ended_same : (marks : List ℕ) (n : ℕ) (a : Act) (row : List Value) (stop : Stop) (old new : List Call) (first : Tables) → ActsOne marks n a row old (Err stop) new → tables_of first new ≡ tables_of first old
ended_same marks n a row stop old new first (inl is) = ap (tables_of first) is.1
ended_same marks n a row stop old new first (inr is) = stopped_same marks n a row stop old new first is

no_memory : (resource : Resource) → stops.Refused resource ≡ stops.OutOfMemory → ⊥
no_memory resource e = cc

module _ (defs : List TableDef) (n : ℕ) (act : List Value → Act) (list : Rows) (i : ℕ) (row : List Value) (less : i < length list) (at : row ≡ get_or list i row) (start old new : List Call) where
  abbrev pub So_far : Rows → Rows → Type 0
  So_far r s = s ≡ effects (keys_at defs n) act (take i list) r

  pub list_more : OnTable defs n So_far start old → DidAct (keys_at defs n) n (act row) row old new → Since old new → OnTable defs n (λ r s. s ≡ effects (keys_at defs n) act (take (i + 1) list) r) start new
  list_more so_far is since =
      on_after defs n So_far (λ r s. s ≡ effect (keys_at defs n) (act row) row r) (λ r s. s ≡ effects (keys_at defs n) act (take (i + 1) list) r) start old new since
      (λ r s t e f. f ∙ effects_more (keys_at defs n) act list i row less at r s e) so_far (λ first plays. did_turns defs n (act row) row first old new is plays)

  pub list_refused : OnTable defs n So_far start old → act row ≡ Refuse → new ≡ old → OnTable defs n (ListEnds (keys_at defs n) act list (Ok None)) start new
  list_refused so_far refused same =
      subst (OnTable defs n (ListEnds (keys_at defs n) act list (Ok None)) start) (sym same)
      (on_weaker defs n So_far (ListEnds (keys_at defs n) act list (Ok None)) start old (λ r s e. bad_here (keys_at defs n) act list i row less at refused) so_far)

  passed_on : (stop : Stop) → ((r s : Rows) → ListEnds (keys_at defs n) act list (Err stop) r s) → ActsOne (keys_at defs n) n (act row) row old (Err stop) new → OnTable defs n So_far start old → OnTable defs n (ListEnds (keys_at defs n) act list (Err stop)) start new
  passed_on stop any is so_far first plays =
      let since = forward_since old new (acts_forward (keys_at defs n) n (act row) row old (Err stop) new is) in
      let before = so_far first (plays_since defs first old new since plays) in
      subst (Turns n (ListEnds (keys_at defs n) act list (Err stop)) (tables_of first start)) (sym (ended_same (keys_at defs n) n (act row) row stop old new first is)) (record { others = before.others; rows = any _ _ })

  list_lacks : (resource : Resource) → StoppedAct (keys_at defs n) n (act row) row (stops.Refused resource) old new → OnTable defs n So_far start old → some_refused act (take i list) ≡ false → OnTable defs n (StopsAt (keys_at defs n) act list resource) start new
  list_lacks resource is so_far good first plays =
      let since = forward_since old new (stopped_forward (keys_at defs n) n (act row) row (stops.Refused resource) old new is) in
      let was = plays_since defs first old new since plays in
      let before = so_far first was in
      let done = stopped_done (keys_at defs n) n (act row) row (stops.Refused resource) old new is in
      subst (Turns n (StopsAt (keys_at defs n) act list resource) (tables_of first start)) (sym (stopped_same (keys_at defs n) n (act row) row (stops.Refused resource) old new first is))
      (record {
        others = before.others;
        rows = record {
          front = take i list;
          row = row;
          comes = record { rest = drop (i + 1) list; split = split_at list i row less at; good = good_on (keys_at defs n) act (take i list) row good done.1; done = done.0 };
          now = before.rows;
          lacks = lacks_at defs n (act row) row resource first old new is plays was;
        };
      })

  pub list_stops : (stop : Stop) → ActsOne (keys_at defs n) n (act row) row old (Err stop) new → OnTable defs n So_far start old → some_refused act (take i list) ≡ false → OnTable defs n (ListEnds (keys_at defs n) act list (Err stop)) start new
  list_stops (stops.Refused resource) (inl is) so_far good = absurd (no_memory resource is.0)
  list_stops (stops.Refused resource) (inr is) so_far good = list_lacks resource is so_far good
  list_stops (stops.Die holder) is so_far good = passed_on (stops.Die holder) (λ r s. tt) is so_far
  list_stops (stops.Fault file) is so_far good = passed_on (stops.Fault file) (λ r s. tt) is so_far
  list_stops (stops.Spent limit) is so_far good = passed_on (stops.Spent limit) (λ r s. tt) is so_far
  list_stops stops.OutOfMemory is so_far good = passed_on stops.OutOfMemory (λ r s. tt) is so_far

  pub stops_sent : (stop : Stop) → ActsOne (keys_at defs n) n (act row) row old (Err stop) new → SendsAll (flat_map (puts (keys_at defs n) act) (take i list)) (flat_map (takes (keys_at defs n) act) (take i list)) start old
      → SendsOnly (flat_map (puts (keys_at defs n) act) list) (flat_map (takes (keys_at defs n) act) list) start new
  stops_sent stop (inl is) sends = subst (SendsOnly (flat_map (puts (keys_at defs n) act) list) (flat_map (takes (keys_at defs n) act) list) start) (sym is.1) (sends_part (keys_at defs n) act list i start old sends)
  stops_sent stop (inr is) sends =
      sends_part (keys_at defs n) act list (i + 1) start new (sends_more (keys_at defs n) act list i row less at start old new sends (stopped_sends (keys_at defs n) n (act row) row stop old new is))
