-- What the run over a piece of a range comes to.
use Rattle.std.proofs.Common.{◌≡◌, ℕ, ◌+◌, ◌<◌, ◌≤◌, Bool, true, false, cond, ◌||◌, eqb, List, [], ◌∷◌, ◌++◌, Option, None, Some, Ok, Err, IsTrue, refl, sym, ap, subst, ◌∙◌, arith, append_assoc}
use Rattle.std.specs.List.{AllByRecursion, filter, flat_map}
use Rattle.std.proofs.lemmas.Bool.{eqb-false}
use Rattle.std.proofs.lemmas.List.Folds.{list_any-append}
use Rattle.std.proofs.lemmas.Grind.{flat_map-append}
use Rattle.row_types.specs.declared.definition.TableDef.{TableDef}
use Rattle.row_types.specs.declared.row.Value.{Value}
use Rattle.row_types.specs.Keys.{row_key}
use Rattle.row_types.specs.Schema.{columns_at, keys_at}
use Rattle.row_types.specs.Slot.{IsRowOf}
use Rattle.row_types.specs.Tables.{Tables}
use Rattle.key_space.specs.declared.range.Range.{Range}
use Rattle.key_space.specs.Plays.{Rows, Part, row_at}
use Rattle.key_space.proofs.LookUpLaws.{row_at-with_row, row_at-without_key}
use Rattle.key_space.proofs.PlaysLaws.{rise_filter, all_filter}
use Rattle.plain_model.specs.declared.stop.Stop.{Stop}
use Rattle.plain_model.specs.declared.stop.Stop.TheVariants as stops
use Rattle.plain_model.specs.declared.stop.Resource.{Resource}
use Rattle.plain_model.specs.declared.stop.Resource.TheVariants.{Pages, Nodes, Txn, Locks, LogFull, Busy}
use Rattle.plain_model.specs.Calls.{AskChunk, Call, Did, MayGive, Stopped, is_running}
use Rattle.plain_model.specs.CallPlays.{tables_of}
use Rattle.plain_model.specs.Meaning.{table_at}
use Rattle.plain_model.specs.PlanMeaning.{passes_all, planned_row}
use Rattle.plain_model.specs.Runs.{InOrder, Since, did, here, keys_taken, pushed, rows_put}
use Rattle.plain_model.proofs.CallLaws.{since_joined}
use Rattle.sql_exec.specs.declared.act.Act.{Act}
use Rattle.sql_exec.specs.declared.act.Act.TheVariants.{Keep, Set, Take, Refuse}
use Rattle.sql_exec.specs.declared.act.Passed.{Passed}
use Rattle.sql_exec.specs.declared.act.ChangePlan.{ChangePlan}
use Rattle.sql_exec.specs.declared.act.ChangePlan.TheVariants as changes
use Rattle.sql_exec.specs.Acts.{act_of, done_count, effect, effects, is_in, is_refused, rows_in, set_or_refuse, some_refused}
use Rattle.sql_exec.specs.Bodies.{CanWrite, OnlyForward}
use Rattle.sql_exec.specs.Bodies as bodies
use Rattle.sql_exec.specs.Pieces.{ActsAll, ActsPiece, ComesTo, IsOfTable, LacksAt, LacksIn, ListEnds, PieceEnds, PieceSends, SendsAll, StopsAt}
use Rattle.sql_exec.specs.Plays.{OnTable, PlaysFrom, Turns}
use Rattle.sql_exec.specs.Sends.{SendsOnly}
use Rattle.sql_exec.proofs.Acting.{puts, takes}
use Rattle.sql_exec.proofs.Calling.{fits_now, part_says, rising_now}
use Rattle.sql_exec.proofs.InPlaces.{Rise, above_middle, range_acted}
use Rattle.sql_exec.proofs.PieceLaws.{between, rows_split}
use Rattle.sql_exec.proofs.OneTable.{stays}
use Rattle.sql_exec.proofs.Playing.{plays_since, write_since}
use Rattle.sql_exec.proofs.Forward.{forward_on, forward_since}

-- ---- a plan changes rows in their places

set_made : (b : Bool) (made : Option (List Value)) (new : List Value) → cond b (set_or_refuse made) Keep ≡ Set new → made ≡ Some new
set_made true None new e = absurd cc
set_made true (Some row) new e = cc
set_made false made new e = absurd cc

take_only : (b : Bool) (new : List Value) → cond b Take Keep ≡ Set new → ⊥
take_only true new e = absurd cc
take_only false new e = absurd cc

pub keeps_key : (defs : List TableDef) (n : ℕ) (plan : ChangePlan) → IsOfTable defs n plan → (row new : List Value) → IsRowOf (columns_at defs n) row → act_of plan row ≡ Set new → row_key (keys_at defs n) new ≡ row_key (keys_at defs n) row
keeps_key defs n (changes.Update p) of row new fits is = (of.2 row new fits (set_made (passes_all p.now.conditions row) (planned_row p.now.changes row) new is)).key
keeps_key defs n (changes.Delete p) of row new fits is = absurd (take_only (passes_all p.now.conditions row) new is)

-- ---- a row that is come to is still there

all_middle : (P : List Value → Type 0) (front : Rows) (row : List Value) (rest : Rows) → AllByRecursion P (front ++ row ∷ rest) → P row
all_middle P [] row rest all = all.0
all_middle P (r ∷ front) row rest all = all_middle P front row rest all.1

absent_step : (r : List Value) (k key : ℕ) (found : Option (List Value)) (b : Bool) → eqb key k ≡ b → cond b (Some r) found ≡ None → (key ≡ k → ⊥) × (found ≡ None)
absent_step r k key found true is e = absurd cc
absent_step r k key found false is e = (eqb-false key k is, e)

module _ (marks : List ℕ) where
  absent : (k : ℕ) (rows : Rows) → row_at marks rows k ≡ None → AllByRecursion (λ r. row_key marks r ≡ k → ⊥) rows
  absent k [] e = tt
  absent k (r ∷ rows) e =
      let parts = absent_step r k (row_key marks r) (row_at marks rows k) (eqb (row_key marks r) k) refl e in
      (parts.0, absent k rows parts.1)

  not_same : (a b : ℕ) → (a ≡ b → ⊥) → eqb a b ≡ false
  not_same a b other = grind (arith, other)

  module _ (act : List Value → Act) (Fits : List Value → Type 0) (keeps : (row new : List Value) → Fits row → act row ≡ Set new → row_key marks new ≡ row_key marks row) where
    kept_by : (a : Act) (r : List Value) (rows : Rows) (k : ℕ) → Fits r → act r ≡ a → (row_key marks r ≡ k → ⊥) → row_at marks (effect marks a r rows) k ≡ row_at marks rows k
    kept_by Keep r rows k fits is other = refl
    kept_by Refuse r rows k fits is other = refl
    kept_by Take r rows k fits is other = row_at-without_key marks rows (row_key marks r) k ∙ rw (not_same (row_key marks r) k other) refl
    kept_by (Set new) r rows k fits is other = row_at-with_row marks rows new k ∙ rw (not_same (row_key marks new) k (λ e. other (sym (keeps r new fits is) ∙ e))) refl

    kept_at : (front : Rows) (rows : Rows) (k : ℕ) (row : List Value) (rest : Rows) → row_key marks row ≡ k → AllByRecursion Fits (front ++ row ∷ rest) → Rise marks (front ++ row ∷ rest) → row_at marks (effects marks act front rows) k ≡ row_at marks rows k
    kept_at [] rows k row rest at all rise = refl
    kept_at (r ∷ front) rows k row rest at all rise =
        kept_at front (effect marks (act r) r rows) k row rest at all.1 rise.1
        ∙ kept_by (act r) r rows k all.0 refl (λ e. less_not (row_key marks r) (row_key marks row) (above_middle marks (row_key marks r) front row rest rise.0) (e ∙ sym at)) where
          less_not : (a b : ℕ) → a < b → a ≡ b → ⊥
          less_not a b less same = omega (arith, less, same)

    -- a row of the table that is come to has its key there
    not_new : (rows list front : Rows) (row : List Value) (rest : Rows) (test : List Value → Bool) → list ≡ filter test rows → list ≡ front ++ row ∷ rest → AllByRecursion Fits rows → Rise marks rows
        → (new : List Value) → act row ≡ Set new → row_at marks (effects marks act front rows) (row_key marks new) ≡ None → ⊥
    not_new rows list front row rest test is split all rise new set none =
        let here = sym is ∙ split in
        let fits = subst (AllByRecursion Fits) here (all_filter Fits test rows all) in
        let risen = subst (Rise marks) here (rise_filter marks test rows rise) in
        let k = row_key marks row in
        let same = keeps row new (all_middle Fits front row rest fits) set in
        let gone = sym (kept_at front rows k row rest refl fits risen) ∙ ap (row_at marks (effects marks act front rows)) (sym same) ∙ none in
        all_middle (λ r. row_key marks r ≡ k → ⊥) front row rest (subst (AllByRecursion (λ r. row_key marks r ≡ k → ⊥)) here (all_filter (λ r. row_key marks r ≡ k → ⊥) test rows (absent k rows gone))) refl

    or_first : (a b : Bool) → a ≡ true → (a || b) ≡ true
    or_first true b e = refl
    or_first false b e = absurd cc

    module _ (range : Range) (upto : ℕ) (rows list now : Rows) (low : range.lo.number ≤ upto) (high : upto ≤ range.hi.number) (is : list ≡ rows_in marks range.lo.number (upto + 1) rows) (all : AllByRecursion Fits rows) (rise : Rise marks rows) where
      abbrev whole : Rows
      whole = rows_in marks range.lo.number (range.hi.number + 1) rows

      abbrev later : Rows
      later = rows_in marks (upto + 1) (range.hi.number + 1) rows

      pub whole_is : whole ≡ list ++ later
      whole_is = rows_split marks range.lo.number (upto + 1) (range.hi.number + 1) rows (omega (arith, low)) (omega (arith, high)) rise ∙ ap (λ (l : Rows). l ++ later) (sym is)

      comes_in : (front : Rows) (row : List Value) → ComesTo act list front row → ComesTo act whole front row
      comes_in front row comes = record {
        rest = comes.rest ++ later;
        split = whole_is ∙ ap (λ (l : Rows). l ++ later) comes.split ∙ append_assoc front (row ∷ comes.rest) later;
        good = comes.good;
        done = comes.done;
      }

      no_room : (stops_at : StopsAt marks act list (Pages 0 0) rows now) → (a : Act) → act stops_at.row ≡ a → LacksAt marks a now (Pages 0 0) → ⊥
      no_room at Keep e lacks = lacks
      no_room at Refuse e lacks = lacks
      no_room at Take e lacks = lacks
      no_room at (Set new) e lacks =
          not_new rows list at.front at.row at.comes.rest (is_in marks range.lo.number (upto + 1)) is at.comes.split all rise new e (ap (λ (l : Rows). row_at marks l (row_key marks new)) (sym at.now) ∙ lacks)

      same_pages : (a : Act) (used limit : ℕ) → LacksAt marks a now (Pages used limit) → LacksAt marks a now (Pages 0 0)
      same_pages (Set new) used limit lacks = lacks
      same_pages Keep used limit lacks = lacks
      same_pages Take used limit lacks = lacks
      same_pages Refuse used limit lacks = lacks

      same_nodes : (a : Act) (used limit : ℕ) → LacksAt marks a now (Nodes used limit) → LacksAt marks a now (Pages 0 0)
      same_nodes (Set new) used limit lacks = lacks
      same_nodes Keep used limit lacks = lacks
      same_nodes Take used limit lacks = lacks
      same_nodes Refuse used limit lacks = lacks

      no_locks : (a : Act) (held limit : ℕ) → LacksAt marks a now (Locks held limit) → ⊥
      no_locks (Set new) held limit lacks = lacks
      no_locks Keep held limit lacks = lacks
      no_locks Take held limit lacks = lacks
      no_locks Refuse held limit lacks = lacks

      no_log : (a : Act) (bytes limit : ℕ) → LacksAt marks a now (LogFull bytes limit) → ⊥
      no_log (Set new) bytes limit lacks = lacks
      no_log Keep bytes limit lacks = lacks
      no_log Take bytes limit lacks = lacks
      no_log Refuse bytes limit lacks = lacks

      no_busy : (a : Act) (oldest : ℕ) → LacksAt marks a now (Busy oldest) → ⊥
      no_busy (Set new) oldest lacks = lacks
      no_busy Keep oldest lacks = lacks
      no_busy Take oldest lacks = lacks
      no_busy Refuse oldest lacks = lacks

      abbrev with_lack : (resource other : Resource) (at : StopsAt marks act list resource rows now) → LacksAt marks (act at.row) now other → StopsAt marks act list other rows now
      with_lack resource other at lacks = record { front = at.front; row = at.row; comes = at.comes; now = at.now; lacks = lacks }

      no_place : (resource : Resource) (at : StopsAt marks act list resource rows now) → LacksAt marks (act at.row) now (Pages 0 0) → ⊥
      no_place resource at lacks = no_room (with_lack resource (Pages 0 0) at lacks) (act at.row) refl lacks

      lacks_in : (resource : Resource) → StopsAt marks act list resource rows now → LacksIn marks act range rows resource
      lacks_in (Txn used limit) at = (at.front, at.row, comes_in at.front at.row at.comes)
      lacks_in (Pages used limit) at = absurd (no_place (Pages used limit) at (same_pages (act at.row) used limit at.lacks))
      lacks_in (Nodes used limit) at = absurd (no_place (Nodes used limit) at (same_nodes (act at.row) used limit at.lacks))
      lacks_in (Locks held limit) at = absurd (no_locks (act at.row) held limit at.lacks)
      lacks_in (LogFull bytes limit) at = absurd (no_log (act at.row) bytes limit at.lacks)
      lacks_in (Busy oldest) at = absurd (no_busy (act at.row) oldest at.lacks)

      pub piece_made : (passed : Passed) → passed.upto.number ≡ upto → ListEnds marks act list (Ok (Some passed.count)) rows now → PieceEnds marks act range (Ok (Some passed)) rows now
      piece_made passed at ends =
          let here : list ≡ rows_in marks range.lo.number (passed.upto.number + 1) rows = is ∙ ap (λ u. rows_in marks range.lo.number (u + 1) rows) (sym at) in (
            ends.0 ∙ ap (λ (l : Rows). effects marks act l rows) here ∙ range_acted marks range.lo.number (passed.upto.number + 1) act Fits rows keeps all rise,
            subst (λ (l : Rows). some_refused act l ≡ false) here ends.1,
            ends.2 ∙ ap (done_count act) here,
          )

      pub piece_refused : ListEnds marks act list (Ok None) rows now → PieceEnds marks act range (Ok None) rows now
      piece_refused ends = ap (some_refused act) whole_is ∙ list_any-append (λ r. is_refused (act r)) list later ∙ or_first (some_refused act list) (some_refused act later) ends

      pub piece_stops : (stop : Stop) → ListEnds marks act list (Err stop) rows now → PieceEnds marks act range (Err stop) rows now
      piece_stops (stops.Refused resource) ends = lacks_in resource ends
      piece_stops (stops.Die holder) ends = tt
      piece_stops (stops.Fault file) ends = tt
      piece_stops (stops.Spent limit) ends = tt
      piece_stops stops.OutOfMemory ends = tt

-- ---- in the words of the calls

module _ (defs : List TableDef) (n : ℕ) (plan : ChangePlan) (of : IsOfTable defs n plan) (range : Range) (upto : ℕ) (list : Rows) (old mid new : List Call) (low : range.lo.number ≤ upto) (high : upto ≤ range.hi.number)
    (told : mid ≡ Did (Part n range.lo.number upto list) ∷ old) (forward : OnlyForward mid new) where
  abbrev marks : List ℕ
  marks = keys_at defs n

  pub since_piece : Since old new
  since_piece = since_joined old mid new (subst (Since old) (sym told) (did _ _ here)) (forward_since mid new forward)

  list_is : (first : Tables) → PlaysFrom defs first new → list ≡ rows_in marks range.lo.number (upto + 1) (table_at (tables_of first old) n).rows
  list_is first plays =
      let was = subst (PlaysFrom defs first) told (plays_since defs first mid new (forward_since mid new forward) plays) in
      part_says defs n first old range.lo.number upto list was ∙ between marks range.lo.number upto (table_at (tables_of first old) n).rows

  turned : (Ends : Rows → Rows → Type 0) (first : Tables) → Turns n Ends (tables_of first mid) (tables_of first new) → Turns n Ends (tables_of first old) (tables_of first new)
  turned Ends first turns = subst (λ (t : Tables). Turns n Ends t (tables_of first new)) (ap (tables_of first) told) turns

  piece_on : (Ends All : Rows → Rows → Type 0) → ((rows now : Rows) → list ≡ rows_in marks range.lo.number (upto + 1) rows → AllByRecursion (IsRowOf (columns_at defs n)) rows → Rise marks rows → Ends rows now → All rows now)
      → OnTable defs n Ends mid new → OnTable defs n All old new
  piece_on Ends All more body first plays =
      let was = plays_since defs first old new since_piece plays in
      let turns = turned Ends first (body first plays) in
      record { others = turns.others; rows = more _ _ (list_is first plays) (fits_now defs n first old was) (rising_now defs n first old was) turns.rows }

  made_on : (passed : Passed) → passed.upto.number ≡ upto → OnTable defs n (ListEnds marks (act_of plan) list (Ok (Some passed.count))) mid new → OnTable defs n (PieceEnds marks (act_of plan) range (Ok (Some passed))) old new
  made_on passed at = piece_on (ListEnds marks (act_of plan) list (Ok (Some passed.count))) (PieceEnds marks (act_of plan) range (Ok (Some passed)))
      (λ rows now is all rise ends. piece_made marks (act_of plan) (IsRowOf (columns_at defs n)) (keeps_key defs n plan of) range upto rows list now low high is all rise passed at ends)

  refused_on : OnTable defs n (ListEnds marks (act_of plan) list (Ok None)) mid new → OnTable defs n (PieceEnds marks (act_of plan) range (Ok None)) old new
  refused_on = piece_on (ListEnds marks (act_of plan) list (Ok None)) (PieceEnds marks (act_of plan) range (Ok None))
      (λ rows now is all rise ends. piece_refused marks (act_of plan) (IsRowOf (columns_at defs n)) (keeps_key defs n plan of) range upto rows list now low high is all rise ends)

  stops_on : (stop : Stop) → OnTable defs n (ListEnds marks (act_of plan) list (Err stop)) mid new → OnTable defs n (PieceEnds marks (act_of plan) range (Err stop)) old new
  stops_on stop = piece_on (ListEnds marks (act_of plan) list (Err stop)) (PieceEnds marks (act_of plan) range (Err stop))
      (λ rows now is all rise ends. piece_stops marks (act_of plan) (IsRowOf (columns_at defs n)) (keeps_key defs n plan of) range upto rows list now low high is all rise stop ends)

  -- ---- what was sent

  abbrev sets : List Value → Rows
  sets = puts marks (act_of plan)

  abbrev clears : List Value → List ℕ
  clears = takes marks (act_of plan)

  made_sent : (passed : Passed) → passed.upto.number ≡ upto → SendsAll (flat_map sets list) (flat_map clears list) mid new → (first : Tables) → PlaysFrom defs first new
      → PieceSends marks (act_of plan) range (Ok (Some passed)) (table_at (tables_of first old) n).rows old new
  made_sent passed at sends first plays =
      let rows = (table_at (tables_of first old) n).rows in
      let here : list ≡ rows_in marks range.lo.number (passed.upto.number + 1) rows = list_is first plays ∙ ap (λ u. rows_in marks range.lo.number (u + 1) rows) (sym at) in
      record {
        put = sends.put ∙ ap (λ (c : List Call). pushed (flat_map sets list) (rows_put c)) told ∙ ap (λ (l : Rows). pushed (flat_map sets l) (rows_put old)) here;
        taken = sends.taken ∙ ap (λ (c : List Call). pushed (flat_map clears list) (keys_taken c)) told ∙ ap (λ (l : Rows). pushed (flat_map clears l) (keys_taken old)) here;
      }

  wider : {A : Type 0} (f : List Value → List A) (rows : Rows) (more : Rows) (a b : List A) → rows ≡ list ++ more → InOrder (flat_map f list) a b → InOrder (flat_map f rows) a b
  wider f rows more a b split sends = record {
    sent = sends.sent;
    rest = sends.rest ++ flat_map f more;
    front = ap (flat_map f) split ∙ flat_map-append f list more ∙ ap (λ l. l ++ flat_map f more) sends.front ∙ append_assoc sends.sent sends.rest (flat_map f more);
    added = sends.added;
  }

  part_sent : SendsOnly (flat_map sets list) (flat_map clears list) mid new → (first : Tables) → PlaysFrom defs first new
      → SendsOnly (flat_map sets (rows_in marks range.lo.number (range.hi.number + 1) (table_at (tables_of first old) n).rows)) (flat_map clears (rows_in marks range.lo.number (range.hi.number + 1) (table_at (tables_of first old) n).rows)) old new
  part_sent sends first plays =
      let rows = (table_at (tables_of first old) n).rows in
      let rise = rising_now defs n first old (plays_since defs first old new since_piece plays) in
      let more = rows_in marks (upto + 1) (range.hi.number + 1) rows in
      let split : rows_in marks range.lo.number (range.hi.number + 1) rows ≡ list ++ more =
      rows_split marks range.lo.number (upto + 1) (range.hi.number + 1) rows (omega (arith, low)) (omega (arith, high)) rise ∙ ap (λ (l : Rows). l ++ more) (sym (list_is first plays)) in
      record {
        put = wider sets (rows_in marks range.lo.number (range.hi.number + 1) rows) more (rows_put old) (rows_put new) split (subst (λ (c : List Call). InOrder (flat_map sets list) (rows_put c) (rows_put new)) told sends.put);
        taken = wider clears (rows_in marks range.lo.number (range.hi.number + 1) rows) more (keys_taken old) (keys_taken new) split (subst (λ (c : List Call). InOrder (flat_map clears list) (keys_taken c) (keys_taken new)) told sends.taken);
      }

  -- ---- both

  pub acts_stop : (stop : Stop) → ActsAll defs n plan list mid (Err stop) new → ActsPiece defs n plan range old (Err stop) new
  acts_stop stop acts = record { plain = stops_on stop acts.plain; sent = part_sent acts.sent }

  pub acts_refused : ActsAll defs n plan list mid (Ok None) new → ActsPiece defs n plan range old (Ok None) new
  acts_refused acts = record { plain = refused_on acts.plain; sent = part_sent acts.sent }

  pub acts_made : (passed : Passed) → passed.upto.number ≡ upto → ActsAll defs n plan list mid (Ok (Some passed.count)) new → ActsPiece defs n plan range old (Ok (Some passed)) new
  acts_made passed at acts = record { plain = made_on passed at acts.plain; sent = made_sent passed at acts.sent }

-- ---- no piece was given

chunk_stop : (ks : List ℕ) (act : List Value → Act) (n : ℕ) (asked range : Range) (rows : Rows) (stop : Stop) → MayGive (AskChunk n asked) stop → PieceEnds ks act range (Err stop) rows rows
chunk_stop ks act n asked range rows (stops.Refused (Pages used limit)) may = absurd may
chunk_stop ks act n asked range rows (stops.Refused (Nodes used limit)) may = absurd may
chunk_stop ks act n asked range rows (stops.Refused (Txn used limit)) may = absurd may
chunk_stop ks act n asked range rows (stops.Refused (Locks held limit)) may = absurd may
chunk_stop ks act n asked range rows (stops.Refused (LogFull bytes limit)) may = absurd may
chunk_stop ks act n asked range rows (stops.Refused (Busy oldest)) may = absurd may
chunk_stop ks act n asked range rows (stops.Die holder) may = tt
chunk_stop ks act n asked range rows (stops.Fault file) may = tt
chunk_stop ks act n asked range rows (stops.Spent limit) may = tt
chunk_stop ks act n asked range rows stops.OutOfMemory may = tt

pub no_piece : (defs : List TableDef) (n : ℕ) (plan : ChangePlan) (range : Range) (stop : Stop) (old new : List Call) → new ≡ Stopped (AskChunk n range) stop ∷ old → MayGive (AskChunk n range) stop → ActsPiece defs n plan range old (Err stop) new
no_piece defs n plan range stop old new told may = record {
  plain = λ first plays. stays n (PieceEnds (keys_at defs n) (act_of plan) range (Err stop)) (tables_of first old) (tables_of first new) (ap (tables_of first) told) (chunk_stop (keys_at defs n) (act_of plan) n range range (table_at (tables_of first old) n).rows stop may);
  sent = λ first plays. record {
    put = record { sent = []; rest = _; front = refl; added = ap rows_put told };
    taken = record { sent = []; rest = _; front = refl; added = ap keys_taken told };
  };
}

pub can_still : (calls new : List Call) (n lo hi : ℕ) → OnlyForward calls new → CanWrite calls n lo hi → IsTrue (is_running new) → CanWrite new n lo hi
can_still calls new n lo hi forward can runs = (runs, write_since calls new n lo hi (forward_since calls new forward) can.1)

pub forward_piece : (n lo upto : ℕ) (list : Rows) (old mid new : List Call) → mid ≡ Did (Part n lo upto list) ∷ old → OnlyForward mid new → OnlyForward old new
forward_piece n lo upto list old mid new told forward = forward_on old mid new (subst (OnlyForward old) (sym told) (bodies.did _ _ refl bodies.here)) forward
