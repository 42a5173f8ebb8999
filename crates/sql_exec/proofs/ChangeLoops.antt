-- What the loops that change rows know, and what their exits come to.
use Rattle.std.proofs.Common.{arith, ◌≡◌, ◌∙◌, ◌+◌, ◌^◌, ◌-◌, ◌<◌, ◌≤◌, ◌∷◌, min, ℕ, List, true, false, None, Some, Result, Ok, Err, IsTrue, drop, take, get_or, length, inl, inr, refl, sym, ap, subst}
use Rattle.std.specs.List.{AllByRecursion, flat_map}
use Rattle.std.proofs.lemmas.List.{drop_more}
use Rattle.row_types.specs.declared.definition.TableDef.{TableDef}
use Rattle.row_types.specs.declared.row.Value.{Value}
use Rattle.row_types.specs.Keys.{row_key}
use Rattle.row_types.specs.Schema.{keys_at}
use Rattle.row_types.specs.Tables.{Tables}
use Rattle.key_space.specs.declared.range.Range.{Range}
use Rattle.key_space.specs.Plays.{Get, Rows}
use Rattle.key_space.specs.Ranges.{IsNotEmpty}
use Rattle.sql_check.specs.Columns.{def_at}
use Rattle.sql_check.specs.declared.plan.InsertPlan.{InsertPlan}
use Rattle.sql_check.specs.declared.plan.Plan.TheVariants as plans
use Rattle.plain_model.specs.declared.stop.Stop.{Stop}
use Rattle.plain_model.specs.declared.stop.Stop.TheVariants as stops
use Rattle.plain_model.specs.Calls.{AskGet, AskPut, Call, Did, is_running}
use Rattle.plain_model.specs.CallPlays.{tables_of}
use Rattle.plain_model.specs.Meaning.{key_numbers, table_at}
use Rattle.plain_model.specs.Runs.{keys_taken, pushed, rows_put}
use Rattle.sql_exec.specs.declared.act.ChangePlan.{ChangePlan}
use Rattle.sql_exec.specs.declared.act.ChangePlan.TheVariants as changes
use Rattle.sql_exec.specs.declared.act.Changes.{Changes}
use Rattle.sql_exec.specs.declared.act.Changes.TheVariants.{Duplicate, Made, OutOfRange}
use Rattle.sql_exec.specs.declared.act.Passed.{Passed}
use Rattle.sql_exec.specs.Acts.{act_of, as_plan, rows_in, some_refused}
use Rattle.sql_exec.specs.Bodies.{ActedSoFar, CanWrite, ChangesEnd, InsertedSoFar, InsertsOne, OnlyForward, here}
use Rattle.sql_exec.specs.Fits.{IsNamed, NamesKept, tests_of}
use Rattle.sql_exec.specs.Means.{IsOwnOrBy}
use Rattle.sql_exec.specs.Parts.{Changed}
use Rattle.sql_exec.specs.Pieces.{ActsPiece, IsOfTable, SendsAll}
use Rattle.sql_exec.specs.Plays.{OnTable, PlaysFrom}
use Rattle.sql_exec.specs.Sends.{ChangeSends, PlanSends, SendsOnly}
use Rattle.sql_exec.proofs.Acting.{puts, takes}
use Rattle.sql_exec.proofs.Forward.{forward_on, forward_since}
use Rattle.sql_exec.proofs.Inserting.{inserts_can, inserts_forward, put_more, row_inserted, row_stops, row_twice, stops_sent, twice_sent}
use Rattle.sql_exec.proofs.OneTable.{on_weaker, stays}
use Rattle.sql_exec.proofs.PieceLaws.{none_sent, none_so_far}
use Rattle.sql_exec.proofs.Ranging.{StopEnds, run_more, run_part_sent, run_refused, run_sent, run_stops}
use Rattle.sql_exec.proofs.Wholes.{all_made, all_out, all_sent, all_stops, whole_sent}

-- what an UPDATE or a DELETE sends, in the words of any plan
pub plan_sends : (defs : List TableDef) (n : ℕ) (plan : ChangePlan) (old new : List Call) → ChangeSends defs n (act_of plan) old new → PlanSends defs n (as_plan plan) old new
plan_sends defs n (changes.Update p) old new sends = sends
plan_sends defs n (changes.Delete p) old new sends = sends

pub change_sends : (defs : List TableDef) (n : ℕ) (plan : ChangePlan) (old new : List Call) → PlanSends defs n (as_plan plan) old new → ChangeSends defs n (act_of plan) old new
change_sends defs n (changes.Update p) old new sends = sends
change_sends defs n (changes.Delete p) old new sends = sends

-- ---- UPDATE and DELETE

-- the rows of a range below its rest are done with, and so many were changed
pub record ChangedSoFar (defs : List TableDef) (n : ℕ) (plan : ChangePlan) (range rest : Range) (count : ℕ) (start now : List Call) : Type 0 where
  pub forward : OnlyForward start now
  pub can : CanWrite now n rest.lo.number rest.hi.number
  pub low : range.lo.number ≤ rest.lo.number
  pub some : IsNotEmpty rest
  pub high : rest.hi.number ≡ range.hi.number
  pub plain : OnTable defs n (ActedSoFar (keys_at defs n) range.lo.number rest.lo.number (act_of plan) count) start now
  pub sent : (first : Tables) → PlaysFrom defs first now
      → SendsAll (flat_map (puts (keys_at defs n) (act_of plan)) (rows_in (keys_at defs n) range.lo.number rest.lo.number (table_at (tables_of first start) n).rows))
      (flat_map (takes (keys_at defs n) (act_of plan)) (rows_in (keys_at defs n) range.lo.number rest.lo.number (table_at (tables_of first start) n).rows)) start now

pub none_changed : (defs : List TableDef) (n : ℕ) (plan : ChangePlan) (range : Range) (calls : List Call) → CanWrite calls n range.lo.number range.hi.number → IsNotEmpty range → ChangedSoFar defs n plan range range 0 calls calls
none_changed defs n plan range calls can some =
    let marks = keys_at defs n in
    let lo = range.lo.number in
    record {
      forward = here;
      can = can;
      low = omega arith;
      some = some;
      high = refl;
      plain = λ first plays. stays n (ActedSoFar marks lo lo (act_of plan) 0) (tables_of first calls) (tables_of first calls) refl (none_so_far marks (act_of plan) lo (table_at (tables_of first calls) n).rows);
      sent = λ first plays. none_sent marks (act_of plan) lo (table_at (tables_of first calls) n).rows calls;
    }

module _ {defs : List TableDef} {n : ℕ} {plan : ChangePlan} {range rest : Range} {count : ℕ} {start old new : List Call} (of : IsOfTable defs n plan) (kept : NamesKept defs n (Some range) (tests_of (as_plan plan))) (so_far : ChangedSoFar defs n plan range rest count start old) (on : OnlyForward old new) where
  abbrev marks : List ℕ
  marks = keys_at defs n

  pub forward_now : OnlyForward start new
  forward_now = forward_on start old new so_far.forward on

  -- the front of what a range sends is that of what the plan sends
  range_sent : ((first : Tables) → PlaysFrom defs first new → SendsOnly (flat_map (puts marks (act_of plan)) (rows_in marks range.lo.number (rest.hi.number + 1) (table_at (tables_of first start) n).rows))
      (flat_map (takes marks (act_of plan)) (rows_in marks range.lo.number (rest.hi.number + 1) (table_at (tables_of first start) n).rows)) start new) → PlanSends defs n (as_plan plan) start new
  range_sent part =
      plan_sends defs n plan start new (all_sent defs n plan of range kept start new (forward_since start new forward_now)
      (subst (λ hi. (first : Tables) → PlaysFrom defs first new → SendsOnly (flat_map (puts marks (act_of plan)) (rows_in marks range.lo.number (hi + 1) (table_at (tables_of first start) n).rows)) (flat_map (takes marks (act_of plan)) (rows_in marks range.lo.number (hi + 1) (table_at (tables_of first start) n).rows)) start new) so_far.high part))

  pub changes_stop : (stop : Stop) (result : Result Changes Stop) → result ≡ Err stop → ActsPiece defs n plan rest old (Err stop) new → IsOwnOrBy new stop → Changed defs n (as_plan plan) start result new
  changes_stop stop result is piece end =
      let earlier = forward_since start old so_far.forward in
      let since = forward_since old new on in
      subst (λ (r : Result Changes Stop). Changed defs n (as_plan plan) start r new) (sym is) (record {
        forward = forward_now;
        runs = tt;
        end = end;
        plain = all_stops defs n plan of range kept start new (forward_since start new forward_now) stop
            (subst (λ hi. OnTable defs n (StopEnds marks (act_of plan) range.lo.number hi stop) start new) so_far.high
            (run_stops defs n plan of range.lo.number rest.lo.number rest.hi.number count start old new so_far.low earlier since rest refl so_far.some refl stop so_far.plain piece.plain));
        sent = range_sent (run_part_sent defs n plan of range.lo.number rest.lo.number rest.hi.number count start old new so_far.low earlier since rest refl so_far.some refl so_far.plain so_far.sent piece.sent);
      })

  pub changes_refused : ActsPiece defs n plan rest old (Ok None) new → IsTrue (is_running new) → Changed defs n (as_plan plan) start (Ok OutOfRange) new
  changes_refused piece runs =
      let earlier = forward_since start old so_far.forward in
      let since = forward_since old new on in
      record {
        forward = forward_now;
        runs = runs;
        end = tt;
        plain = all_out defs n plan of range kept start new (forward_since start new forward_now)
            (subst (λ hi. OnTable defs n (λ r s. some_refused (act_of plan) (rows_in marks range.lo.number (hi + 1) r) ≡ true) start new) so_far.high
            (run_refused defs n plan of range.lo.number rest.lo.number rest.hi.number count start old new so_far.low earlier since rest refl so_far.some refl so_far.plain piece.plain));
        sent = range_sent (run_part_sent defs n plan of range.lo.number rest.lo.number rest.hi.number count start old new so_far.low earlier since rest refl so_far.some refl so_far.plain so_far.sent piece.sent);
      }

  module _ (passed : Passed) (total : ℕ) (sum : total ≡ min (count + passed.count) (2 ^ 64 - 1)) (up : rest.lo.number ≤ passed.upto.number) (piece : ActsPiece defs n plan rest old (Ok (Some passed)) new) where
    more : OnTable defs n (ActedSoFar marks range.lo.number (passed.upto.number + 1) (act_of plan) total) start new
    more = run_more defs n plan of range.lo.number rest.lo.number rest.hi.number count start old new so_far.low (forward_since start old so_far.forward) (forward_since old new on) rest passed total refl up sum so_far.plain piece.plain

    sends : (first : Tables) → PlaysFrom defs first new → SendsAll (flat_map (puts marks (act_of plan)) (rows_in marks range.lo.number (passed.upto.number + 1) (table_at (tables_of first start) n).rows))
        (flat_map (takes marks (act_of plan)) (rows_in marks range.lo.number (passed.upto.number + 1) (table_at (tables_of first start) n).rows)) start new
    sends = run_sent defs n plan of range.lo.number rest.lo.number rest.hi.number count start old new so_far.low (forward_since start old so_far.forward) (forward_since old new on) rest passed refl up so_far.plain so_far.sent piece.sent

    pub changes_made : passed.upto.number ≡ rest.hi.number → IsTrue (is_running new) → Changed defs n (as_plan plan) start (Ok (Made total)) new
    changes_made last runs = record {
      forward = forward_now;
      runs = runs;
      end = tt;
      plain = all_made defs n plan of range kept start new (forward_since start new forward_now) total (subst (λ hi. OnTable defs n (ActedSoFar marks range.lo.number (hi + 1) (act_of plan) total) start new) (last ∙ so_far.high) more);
      sent = range_sent (λ first plays.
          let rows = (table_at (tables_of first start) n).rows in
          subst (λ hi. SendsOnly (flat_map (puts marks (act_of plan)) (rows_in marks range.lo.number (hi + 1) rows)) (flat_map (takes marks (act_of plan)) (rows_in marks range.lo.number (hi + 1) rows)) start new) last
          (whole_sent (flat_map (puts marks (act_of plan)) (rows_in marks range.lo.number (passed.upto.number + 1) rows)) (flat_map (takes marks (act_of plan)) (rows_in marks range.lo.number (passed.upto.number + 1) rows)) start new (sends first plays)));
    }

    pub changes_on : (behind : Range) → (behind.lo.number ≡ passed.upto.number + 1) × (behind.hi.number ≡ rest.hi.number) × (passed.upto.number + 1 ≤ rest.hi.number) → CanWrite new n rest.lo.number rest.hi.number → ChangedSoFar defs n plan range behind total start new
    changes_on behind is can = record {
      forward = forward_now;
      can = (can.0, record { table_is = can.1.table_is; locked = λ key low high. can.1.locked key (omega (arith, low, up, is.0)) (omega (arith, high, is.1)) });
      low = omega (arith, so_far.low, up, is.0);
      some = omega (arith, is.0, is.1, is.2);
      high = is.1 ∙ so_far.high;
      plain = subst (λ mid. OnTable defs n (ActedSoFar marks range.lo.number mid (act_of plan) total) start new) (sym is.0) more;
      sent = subst (λ mid. (first : Tables) → PlaysFrom defs first new → SendsAll (flat_map (puts marks (act_of plan)) (rows_in marks range.lo.number mid (table_at (tables_of first start) n).rows))
          (flat_map (takes marks (act_of plan)) (rows_in marks range.lo.number mid (table_at (tables_of first start) n).rows)) start new) (sym is.0) sends;
    }

-- ---- INSERT

-- the first so many rows of a list are added
pub record InsertedUpTo (defs : List TableDef) (n : ℕ) (range : Range) (list : Rows) (i : ℕ) (start now : List Call) : Type 0 where
  pub forward : OnlyForward start now
  pub can : CanWrite now n range.lo.number range.hi.number
  pub named : AllByRecursion (IsNamed defs n (Some range)) (drop i list)
  pub plain : OnTable defs n (InsertedSoFar (keys_at defs n) list i) start now
  pub put : rows_put now ≡ pushed (take i list) (rows_put start)
  pub taken : keys_taken now ≡ keys_taken start

module _ {defs : List TableDef} {range : Range} {list : Rows} {i : ℕ} {start old new : List Call} (p : InsertPlan) (are : p.rows ≡ list) (row : List Value) (less : i < length list) (at : row ≡ get_or list i row)
    (so_far : InsertedUpTo defs p.table range list i start old) where
  insert_ends : (stop : Stop) → InsertsOne p.table (row_key (keys_at defs p.table) row) row old (Err stop) new → IsOwnOrBy new stop
  insert_ends stop (inl is) = inr (record { asked = AskGet p.table (row_key (keys_at defs p.table) row); before = old; last = is.0; running = so_far.can.0 })
  insert_ends stop (inr is) = inr (record { asked = AskPut p.table row; before = Did (Get p.table (row_key (keys_at defs p.table) row) None) ∷ old; last = is.0; running = so_far.can.0 })

  pub insert_stops : (stop : Stop) (result : Result Changes Stop) → result ≡ Err stop → InsertsOne p.table (row_key (keys_at defs p.table) row) row old (Err stop) new → Changed defs p.table (plans.Insert p) start result new
  insert_stops stop result is acts = subst (λ (r : Result Changes Stop). Changed defs p.table (plans.Insert p) start r new) (sym is) (record {
    forward = forward_on start old new so_far.forward (inserts_forward p.table (row_key (keys_at defs p.table) row) row old (Err stop) new acts);
    runs = tt;
    end = insert_ends stop acts;
    plain = row_stops defs p.table list i row less at start old new p are stop so_far.plain acts;
    sent = stops_sent defs p.table list i row less at start old new p are stop acts so_far.put so_far.taken;
  })

  pub insert_twice : InsertsOne p.table (row_key (keys_at defs p.table) row) row old (Ok false) new → Changed defs p.table (plans.Insert p) start (Ok (Duplicate (key_numbers (keys_at defs p.table) row))) new
  insert_twice acts = record {
    forward = forward_on start old new so_far.forward (inserts_forward p.table (row_key (keys_at defs p.table) row) row old (Ok false) new acts);
    runs = subst (λ (calls : List Call). IsTrue (is_running calls)) (sym acts.1) so_far.can.0;
    end = tt;
    plain = row_twice defs p.table list i row less at start old new p are (key_numbers (keys_at defs p.table) row) refl so_far.plain acts;
    sent = twice_sent defs p.table list i row less at start old new p are acts so_far.put so_far.taken;
  }

  -- memory ran out for the key
  pub insert_twice_unsaid : (result : Result Changes Stop) → result ≡ Err stops.OutOfMemory → InsertsOne p.table (row_key (keys_at defs p.table) row) row old (Ok false) new → Changed defs p.table (plans.Insert p) start result new
  insert_twice_unsaid result is acts =
      let twice = insert_twice acts in
      subst (λ (r : Result Changes Stop). Changed defs p.table (plans.Insert p) start r new) (sym is) (record {
        forward = twice.forward;
        runs = tt;
        end = inl refl;
        plain = on_weaker defs p.table _ (ChangesEnd (def_at defs p.table) (plans.Insert p) (Err stops.OutOfMemory)) start new (λ r s f. tt) twice.plain;
        sent = twice.sent;
      })

  pub inserts_on : InsertsOne p.table (row_key (keys_at defs p.table) row) row old (Ok true) new → InsertedUpTo defs p.table range list (i + 1) start new
  inserts_on acts = record {
    forward = forward_on start old new so_far.forward (inserts_forward p.table (row_key (keys_at defs p.table) row) row old (Ok true) new acts);
    can = inserts_can p.table (row_key (keys_at defs p.table) row) row range.lo.number range.hi.number old new acts so_far.can;
    named = (subst (AllByRecursion (IsNamed defs p.table (Some range))) (drop_more list i row less) so_far.named).1;
    plain = row_inserted defs p.table list i row less at start old new so_far.plain acts;
    put = put_more defs p.table list i row less at start old new p are new (ap rows_put acts) so_far.put;
    taken = ap keys_taken acts ∙ so_far.taken;
  }
