-- What the run over the rows of an INSERT comes to.
use Rattle.std.proofs.Common.{◌≡◌, inl, inr, ℕ, ◌+◌, ◌^◌, ◌<◌, ◌≤◌, ℤ, Bool, true, false, cond, List, [], ◌∷◌, ◌++◌, length, take, drop, get_or, None, Some, Result, Ok, Err, IsTrue, refl, sym, ap, subst, ◌∙◌, arith}
use Rattle.std.specs.Prelude.{is_none}
use Rattle.std.proofs.lemmas.List.{take_all, append-nil, take-append-drop}
use Rattle.row_types.specs.declared.definition.TableDef.{TableDef}
use Rattle.row_types.specs.declared.row.Value.{Value}
use Rattle.row_types.specs.Keys.{row_key}
use Rattle.row_types.specs.Schema.{keys_at}
use Rattle.row_types.specs.Tables.{Tables}
use Rattle.key_space.specs.Plays.{Rows, Get, Put, row_at, with_row}
use Rattle.sql_check.specs.Columns.{def_at}
use Rattle.sql_check.specs.declared.plan.InsertPlan.{InsertPlan}
use Rattle.sql_check.specs.declared.plan.Plan.TheVariants.{Insert}
use Rattle.plain_model.specs.declared.reply.Reply.TheVariants as replies
use Rattle.plain_model.specs.declared.reply.Refusal.TheVariants as refusals
use Rattle.plain_model.specs.declared.stop.Stop.{Stop}
use Rattle.plain_model.specs.declared.stop.Stop.TheVariants as stops
use Rattle.plain_model.specs.declared.stop.Resource.{Resource}
use Rattle.plain_model.specs.declared.stop.Resource.TheVariants.{Pages, Nodes, Txn, Locks, LogFull, Busy}
use Rattle.plain_model.specs.Calls.{AskGet, AskPut, Call, Did, MayGive, Stopped, is_running}
use Rattle.plain_model.specs.CallPlays.{tables_of}
use Rattle.plain_model.specs.Lacks.{IsReached}
use Rattle.plain_model.specs.Meaning.{count_of, duplicate, inserts_unless, key_numbers, table_at, with_rows}
use Rattle.plain_model.specs.Runs as runs
use Rattle.plain_model.specs.Runs.{Since, keys_taken, pushed, rows_put}
use Rattle.sql_exec.specs.declared.act.Changes.TheVariants.{Made, Duplicate}
use Rattle.sql_exec.specs.Bodies.{CanWrite, ChangesEnd, InsertedSoFar, InsertsOne, PlanLacks, OnlyForward, here, did, stopped}
use Rattle.sql_exec.specs.Plays.{OnTable, PlaysFrom, Turns}
use Rattle.sql_exec.specs.Sends.{SendsOnly}
use Rattle.sql_exec.proofs.Acting.{pushed_on, sends_front}
use Rattle.sql_exec.proofs.Calling.{get_says, keys_def, put_turns}
use Rattle.sql_exec.proofs.Fronts.{front_one, split_at}
use Rattle.sql_exec.proofs.Playing.{plays_since, write_since}
use Rattle.sql_exec.proofs.OneTable.{on_weaker, turns_on}
use Rattle.sql_exec.proofs.Forward.{forward_since}

-- ---- the calls

module _ (n key : ℕ) (row : List Value) where
  pub inserts_forward : (old : List Call) (result : Result Bool Stop) (new : List Call) → InsertsOne n key row old result new → OnlyForward old new
  inserts_forward old (Ok true) new is = subst (OnlyForward old) (sym is) (did _ _ refl (did _ _ refl here))
  inserts_forward old (Ok false) new is = subst (OnlyForward old) (sym is.1) (did _ _ refl here)
  inserts_forward old (Err stop) new (inl is) = subst (OnlyForward old) (sym is.0) (stopped _ _ _ refl here)
  inserts_forward old (Err stop) new (inr is) = subst (OnlyForward old) (sym is.0) (stopped _ _ _ refl (did _ _ refl here))

  pub inserts_can : (lo hi : ℕ) (old new : List Call) → InsertsOne n key row old (Ok true) new → CanWrite old n lo hi → CanWrite new n lo hi
  inserts_can lo hi old new is can = (subst (λ (calls : List Call). IsTrue (is_running calls)) (sym is) can.0, write_since old new n lo hi (forward_since old new (inserts_forward old (Ok true) new is)) can.1)

-- ---- the rows

module _ (marks : List ℕ) where
  dup_step : (rows more : Rows) (row : List Value) (b : Bool) → is_none (row_at marks rows (row_key marks row)) ≡ b → cond b (duplicate marks (with_row marks rows row) more) (Some row) ≡ None
      → (b ≡ true) × (duplicate marks (with_row marks rows row) more ≡ None)
  dup_step rows more row true e none = (refl, none)
  dup_step rows more row false e none = absurd cc

  pub with_on : (xs ys rows : Rows) → with_rows marks rows (xs ++ ys) ≡ with_rows marks (with_rows marks rows xs) ys
  with_on [] ys rows = refl
  with_on (row ∷ xs) ys rows = with_on xs ys (with_row marks rows row)

  pub dup_on : (xs ys rows : Rows) → duplicate marks rows xs ≡ None → duplicate marks rows (xs ++ ys) ≡ duplicate marks (with_rows marks rows xs) ys
  dup_on [] ys rows none = refl
  dup_on (row ∷ xs) ys rows none =
      let step = dup_step rows xs row (is_none (row_at marks rows (row_key marks row))) refl none in
      rw step.0 (dup_on xs ys (with_row marks rows row) step.1)

  free : (rows : Rows) (row : List Value) (more : Rows) → row_at marks rows (row_key marks row) ≡ None → duplicate marks rows (row ∷ more) ≡ duplicate marks (with_row marks rows row) more
  free rows row more none = rw none refl

  there : (rows : Rows) (row found : List Value) (more : Rows) → row_at marks rows (row_key marks row) ≡ Some found → duplicate marks rows (row ∷ more) ≡ Some row
  there rows row found more is = rw is refl

  module _ (list : Rows) (i : ℕ) (row : List Value) (less : i < length list) (at : row ≡ get_or list i row) (old now : Rows) (so_far : InsertedSoFar marks list i old now) where
    pub inserted_more : (next : Rows) → row_at marks now (row_key marks row) ≡ None → next ≡ with_row marks now row → InsertedSoFar marks list (i + 1) old next
    inserted_more next none is = record {
      now = is ∙ ap (λ (l : Rows). with_row marks l row) so_far.now ∙ sym (with_on (take i list) (row ∷ []) old) ∙ ap (with_rows marks old) (front_one list i row less at);
      none = ap (duplicate marks old) (sym (front_one list i row less at)) ∙ dup_on (take i list) (row ∷ []) old so_far.none ∙ ap (λ (l : Rows). duplicate marks l (row ∷ [])) (sym so_far.now) ∙ free now row [] none;
    }

    pub twice : (found : List Value) → row_at marks now (row_key marks row) ≡ Some found → duplicate marks old list ≡ Some row
    twice found is =
        ap (duplicate marks old) (split_at list i row less at) ∙ dup_on (take i list) (row ∷ drop (i + 1) list) old so_far.none
        ∙ ap (λ (l : Rows). duplicate marks l (row ∷ drop (i + 1) list)) (sym so_far.now) ∙ there now row found (drop (i + 1) list) is

    pub reached : row_at marks now (row_key marks row) ≡ None → IsReached (λ new. is_none (duplicate marks old new)) list
    reached none = record {
      front = take i list;
      row = row;
      rest = drop (i + 1) list;
      split = split_at list i row less at;
      good = ap is_none (dup_on (take i list) (row ∷ []) old so_far.none ∙ ap (λ (l : Rows). duplicate marks l (row ∷ [])) (sym so_far.now) ∙ free now row [] none);
    }

  pub none_inserted : (list rows : Rows) → InsertedSoFar marks list 0 rows rows
  none_inserted list rows = record { now = refl; none = refl }

-- ---- in the words of the calls

module _ (defs : List TableDef) (n : ℕ) (list : Rows) (i : ℕ) (row : List Value) (less : i < length list) (at : row ≡ get_or list i row) (start old new : List Call) where
  abbrev marks : List ℕ
  marks = keys_at defs n

  abbrev key : ℕ
  key = row_key marks row

  abbrev pub SoFar : Rows → Rows → Type 0
  SoFar = InsertedSoFar marks list i

  pub row_inserted : OnTable defs n SoFar start old → InsertsOne n key row old (Ok true) new → OnTable defs n (InsertedSoFar marks list (i + 1)) start new
  row_inserted so_far is first plays =
      let put : PlaysFrom defs first (Did (Put n row) ∷ Did (Get n key None) ∷ old) = subst (PlaysFrom defs first) is plays in
      let got = plays_since defs first (Did (Get n key None) ∷ old) (Did (Put n row) ∷ Did (Get n key None) ∷ old) (runs.did _ _ runs.here) put in
      let was = plays_since defs first old (Did (Get n key None) ∷ old) (runs.did _ _ runs.here) got in
      let before = so_far first was in
      let free_now = sym (get_says defs n first old key None got) in
      let turn = put_turns defs n first (Did (Get n key None) ∷ old) row put in
      subst (λ (calls : List Call). Turns n (InsertedSoFar marks list (i + 1)) (tables_of first start) (tables_of first calls)) (sym is)
      (turns_on n SoFar (λ r s. (r ≡ (table_at (tables_of first old) n).rows) × (s ≡ with_row marks r row)) (InsertedSoFar marks list (i + 1)) (tables_of first start) (tables_of first old) (tables_of first (Did (Put n row) ∷ Did (Get n key None) ∷ old))
      (λ r s t f e. inserted_more marks list i row less at r s f t (ap (λ (l : Rows). row_at marks l key) e.0 ∙ free_now) e.1) before (record { others = turn.others; rows = (refl, turn.rows) }))

  module _ (p : InsertPlan) (rows_are : p.rows ≡ list) where
    def_keys : (def_at defs n).keys ≡ marks
    def_keys = sym (keys_def defs n)

    twice_rows : (numbers : List ℤ) → numbers ≡ key_numbers marks row → (r s : Rows) → duplicate marks r list ≡ Some row → ChangesEnd (def_at defs n) (Insert p) (Ok (Duplicate numbers)) r s
    twice_rows numbers are r s dup =
        let def = def_at defs n in
        ap (λ (l : Rows). inserts_unless (duplicate def.keys r l) def l r) rows_are ∙ ap (λ found. inserts_unless found def list r) (ap (λ (ks : List ℕ). duplicate ks r list) def_keys ∙ dup)
        ∙ ap (λ (k : List ℤ). (replies.Refused (refusals.Duplicate k), r)) (ap (λ (ks : List ℕ). key_numbers ks row) def_keys ∙ sym are)

    pub row_twice : (numbers : List ℤ) → numbers ≡ key_numbers marks row → OnTable defs n SoFar start old → InsertsOne n key row old (Ok false) new → OnTable defs n (ChangesEnd (def_at defs n) (Insert p) (Ok (Duplicate numbers))) start new
    row_twice numbers are so_far is first plays =
        let got : PlaysFrom defs first (Did (Get n key (Some is.0)) ∷ old) = subst (PlaysFrom defs first) is.1 plays in
        let was = plays_since defs first old (Did (Get n key (Some is.0)) ∷ old) (runs.did _ _ runs.here) got in
        let before = so_far first was in
        let found = sym (get_says defs n first old key (Some is.0) got) in
        subst (λ (calls : List Call). Turns n (ChangesEnd (def_at defs n) (Insert p) (Ok (Duplicate numbers))) (tables_of first start) (tables_of first calls)) (sym is.1)
        (record { others = before.others; rows = twice_rows numbers are (table_at (tables_of first start) n).rows (table_at (tables_of first old) n).rows (twice marks list i row less at (table_at (tables_of first start) n).rows (table_at (tables_of first old) n).rows before.rows is.0 found) })

    lacks_get : (resource : Resource) → MayGive (AskGet n key) (stops.Refused resource) → ⊥
    lacks_get (Pages used limit) may = may
    lacks_get (Nodes used limit) may = may
    lacks_get (Txn used limit) may = may
    lacks_get (Locks held limit) may = may
    lacks_get (LogFull bytes limit) may = may
    lacks_get (Busy oldest) may = may

    lacks_put : (resource : Resource) (rows : Rows) → MayGive (AskPut n row) (stops.Refused resource) → IsReached (λ more. is_none (duplicate marks rows more)) list → PlanLacks (def_at defs n).keys (Insert p) rows resource
    lacks_put (Pages used limit) rows may is = rw (def_keys, rows_are) is
    lacks_put (Nodes used limit) rows may is = rw (def_keys, rows_are) is
    lacks_put (Txn used limit) rows may is = rw (def_keys, rows_are) is
    lacks_put (Locks held limit) rows may is = absurd may
    lacks_put (LogFull bytes limit) rows may is = absurd may
    lacks_put (Busy oldest) rows may is = absurd may

    stop_rows : (stop : Stop) (r s : Rows) → ((resource : Resource) → stop ≡ stops.Refused resource → PlanLacks (def_at defs n).keys (Insert p) r resource) → ChangesEnd (def_at defs n) (Insert p) (Err stop) r s
    stop_rows (stops.Refused resource) r s lacks = lacks resource refl
    stop_rows (stops.Die holder) r s lacks = tt
    stop_rows (stops.Fault file) r s lacks = tt
    stop_rows (stops.Spent limit) r s lacks = tt
    stop_rows stops.OutOfMemory r s lacks = tt

    pub row_stops : (stop : Stop) → OnTable defs n SoFar start old → InsertsOne n key row old (Err stop) new → OnTable defs n (ChangesEnd (def_at defs n) (Insert p) (Err stop)) start new
    row_stops stop so_far (inl is) first plays =
        let was = plays_since defs first old new (forward_since old new (inserts_forward n key row old (Err stop) new (inl is))) plays in
        let before = so_far first was in
        subst (λ (calls : List Call). Turns n (ChangesEnd (def_at defs n) (Insert p) (Err stop)) (tables_of first start) (tables_of first calls)) (sym is.0)
        (record { others = before.others; rows = stop_rows stop _ _ (λ resource e. absurd (lacks_get resource (subst (MayGive (AskGet n key)) e is.1))) })
    row_stops stop so_far (inr is) first plays =
        let stopped_now : PlaysFrom defs first (Stopped (AskPut n row) stop ∷ Did (Get n key None) ∷ old) = subst (PlaysFrom defs first) is.0 plays in
        let got = plays_since defs first (Did (Get n key None) ∷ old) (Stopped (AskPut n row) stop ∷ Did (Get n key None) ∷ old) (runs.stopped _ _ _ refl runs.here) stopped_now in
        let was = plays_since defs first old (Did (Get n key None) ∷ old) (runs.did _ _ runs.here) got in
        let before = so_far first was in
        let none = sym (get_says defs n first old key None got) in
        subst (λ (calls : List Call). Turns n (ChangesEnd (def_at defs n) (Insert p) (Err stop)) (tables_of first start) (tables_of first calls)) (sym is.0)
        (record { others = before.others; rows = stop_rows stop _ _ (λ resource e. lacks_put resource _ (subst (MayGive (AskPut n row)) e is.1) (reached marks list i row less at _ _ before.rows none)) })

    -- memory ran out, and no call was made
    pub memory_stops : (Ends : Rows → Rows → Type 0) → ((r s : Rows) → Ends r s) → OnTable defs n SoFar start old → Since old new → ((first : Tables) → tables_of first new ≡ tables_of first old) → OnTable defs n Ends start new
    memory_stops Ends any so_far since same first plays =
        let before = so_far first (plays_since defs first old new since plays) in
        subst (Turns n Ends (tables_of first start)) (sym (same first)) (record { others = before.others; rows = any _ _ })

    -- ---- what is sent

    sends_so_far : (sent rest : Rows) (a : List Call) → p.rows ≡ sent ++ rest → rows_put a ≡ pushed sent (rows_put start) → keys_taken a ≡ keys_taken start → SendsOnly p.rows [] start a
    sends_so_far sent rest a split put taken = sends_front sent rest [] [] p.rows [] start a split refl (record { put = put; taken = taken })

    sent_here : (calls : List Call) → rows_put calls ≡ pushed (take i list) (rows_put start) → keys_taken calls ≡ keys_taken start → SendsOnly p.rows [] start calls
    sent_here calls put taken = sends_so_far (take i list) (drop i list) calls (rows_are ∙ sym (take-append-drop i list)) put taken

    pub put_more : (calls : List Call) → rows_put calls ≡ row ∷ rows_put old → rows_put old ≡ pushed (take i list) (rows_put start) → rows_put calls ≡ pushed (take (i + 1) list) (rows_put start)
    put_more calls one so_far = one ∙ ap (λ (l : Rows). row ∷ l) so_far ∙ sym (pushed_on (take i list) (row ∷ []) (rows_put start)) ∙ ap (λ (l : Rows). pushed l (rows_put start)) (front_one list i row less at)

    pub stops_sent : (stop : Stop) → InsertsOne n key row old (Err stop) new → rows_put old ≡ pushed (take i list) (rows_put start) → keys_taken old ≡ keys_taken start → SendsOnly p.rows [] start new
    stops_sent stop (inl is) put taken = sent_here new (ap rows_put is.0 ∙ put) (ap keys_taken is.0 ∙ taken)
    stops_sent stop (inr is) put taken = sends_so_far (take (i + 1) list) (drop (i + 1) list) new (rows_are ∙ sym (take-append-drop (i + 1) list)) (put_more new (ap rows_put is.0) put) (ap keys_taken is.0 ∙ taken)

    pub twice_sent : InsertsOne n key row old (Ok false) new → rows_put old ≡ pushed (take i list) (rows_put start) → keys_taken old ≡ keys_taken start → SendsOnly p.rows [] start new
    twice_sent is put taken = sent_here new (ap rows_put is.1 ∙ put) (ap keys_taken is.1 ∙ taken)

-- ---- all rows

module _ (defs : List TableDef) (n : ℕ) (p : InsertPlan) (list : Rows) (rows_are : p.rows ≡ list) (i : ℕ) (past : length list ≤ i) (start now : List Call) where
  all_rows : (count : ℕ) → count ≡ count_of list → (r s : Rows) → InsertedSoFar (keys_at defs n) list i r s → ChangesEnd (def_at defs n) (Insert p) (Ok (Made count)) r s
  all_rows count is r s so_far =
      let whole = take_all i list past in
      let none : duplicate (keys_at defs n) r list ≡ None = ap (duplicate (keys_at defs n) r) (sym whole) ∙ so_far.none in
      let new : s ≡ with_rows (keys_at defs n) r list = so_far.now ∙ ap (with_rows (keys_at defs n) r) whole in
      let def = def_at defs n in
      let keys : def.keys ≡ keys_at defs n = sym (keys_def defs n) in
      ap (λ (l : Rows). inserts_unless (duplicate def.keys r l) def l r) rows_are ∙ ap (λ found. inserts_unless found def list r) (ap (λ (ks : List ℕ). duplicate ks r list) keys ∙ none)
      ∙ ap (λ (ks : List ℕ). (replies.Many (count_of list), with_rows ks r list)) keys ∙ ap (λ k. (replies.Many k, with_rows (keys_at defs n) r list)) (sym is) ∙ ap (λ (l : Rows). (replies.Many count, l)) (sym new)

  pub all_inserted : (count : ℕ) → count ≡ count_of list → OnTable defs n (InsertedSoFar (keys_at defs n) list i) start now → OnTable defs n (ChangesEnd (def_at defs n) (Insert p) (Ok (Made count))) start now
  all_inserted count is so_far = on_weaker defs n (InsertedSoFar (keys_at defs n) list i) (ChangesEnd (def_at defs n) (Insert p) (Ok (Made count))) start now (λ r s f. all_rows count is r s f) so_far

  pub all_sent : rows_put now ≡ pushed (take i list) (rows_put start) → keys_taken now ≡ keys_taken start → SendsOnly p.rows [] start now
  all_sent put taken = sends_front list [] [] [] p.rows [] start now (rows_are ∙ sym (append-nil list)) refl (record { put = put ∙ ap (λ (l : Rows). pushed l (rows_put start)) (take_all i list past); taken = taken })

pub count_is : (list : Rows) → length list < 2 ^ 64 → length list ≡ count_of list
count_is list less = omega (arith, less)
