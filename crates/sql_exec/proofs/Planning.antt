-- What a plan comes to is what its statement means.
use Rattle.std.proofs.Common.{rules, ◌≡◌, inl, inr, ◌⊎◌, ℕ, zero, suc, ◌<◌, Bool, true, false, cond, ◌||◌, not, is_none, List, [], ◌∷◌, ◌++◌, length, map, take, slice_get, unwrap_or, Option, None, Some, Result, Ok, Err, IfOk, IsTrue, refl, sym, ap, subst, ◌∙◌}
use Rattle.std.specs.Prelude.{IsSome, option_and_then}
use Rattle.std.specs.List.{AllByRecursion, filter, flat_map, list_any}
use Rattle.row_types.specs.declared.definition.TableDef.{TableDef}
use Rattle.row_types.specs.declared.row.Value.{Value}
use Rattle.row_types.specs.Keys.{row_key}
use Rattle.row_types.specs.Schema.{columns_at, has_int_key, keys_at}
use Rattle.row_types.specs.Slot.{IsRowOf}
use Rattle.row_types.specs.Tables.{TableRows, Tables, schema_of}
use Rattle.row_types.proofs.SchemaLaws.{neither}
use Rattle.key_space.specs.declared.lock.LockName.{LockName}
use Rattle.key_space.specs.declared.lock.Mode.{Mode}
use Rattle.key_space.specs.declared.range.Range.{Range}
use Rattle.key_space.specs.Plays.{Rows, changed}
use Rattle.key_space.specs.Ranges.{IsNotEmpty}
use Rattle.key_space.proofs.PlaysLaws.{all_filter}
use Rattle.sql_parse.specs.declared.statement.Statement.{Statement}
use Rattle.sql_parse.specs.declared.statement.Statement.TheVariants as statements
use Rattle.sql_check.specs.declared.plan.Plan.{Plan}
use Rattle.sql_check.specs.declared.plan.Plan.TheVariants as plans
use Rattle.sql_check.specs.declared.plan.Test.{Test}
use Rattle.sql_check.specs.Columns.{def_at}
use Rattle.sql_check.specs.KeyRange.{IsInRange}
use Rattle.sql_check.specs.Misfits.{fault_in, misfit}
use Rattle.sql_check.specs.Plans.{assignment_of, columns_shown, falls, number_of, plan_of, plan_on, test_of, total_plan}
use Rattle.plain_model.specs.declared.reply.Reply.{Reply}
use Rattle.plain_model.specs.declared.reply.Reply.TheVariants as replies
use Rattle.plain_model.specs.declared.reply.Refusal.TheVariants as refusals
use Rattle.plain_model.specs.declared.stop.Stop.{Stop}
use Rattle.plain_model.specs.declared.stop.Resource.{Resource}
use Rattle.plain_model.specs.declared.stop.Resource.TheVariants.{Pages, Nodes, Txn, Locks, LogFull, Busy}
use Rattle.plain_model.specs.Blocks.{AnswersUnless}
use Rattle.plain_model.specs.Calls.{AskLock, Asked, Call, Locked, MayGiveLack, Stopped}
use Rattle.plain_model.specs.CallPlays.{tables_of}
use Rattle.plain_model.specs.Lacks as lacks
use Rattle.plain_model.specs.Lacks.{AsksFor, NeedsLock}
use Rattle.plain_model.specs.Meaning.{acts, acts_on, count_of, inserts, limited, means, table_at, totals_reply}
use Rattle.plain_model.specs.PlanMeaning.{passes_all, plan_acts, planned_row, planned_total, planned_update, put_in_order}
use Rattle.plain_model.specs.Refusals.{refusal_of_check}
use Rattle.plain_model.specs.Runs.{Since}
use Rattle.plain_model.specs.Values.{changed_row, is_kept}
use Rattle.plain_model.proofs.Acting.{means_acts}
use Rattle.plain_model.proofs.PlanLaws.{plan_means}
use Rattle.sql_exec.specs.declared.act.Act.{Act}
use Rattle.sql_exec.specs.declared.act.Act.TheVariants.{Keep, Take}
use Rattle.sql_exec.specs.Acts.{delete_act, put_by, set_or_refuse, taken_by, update_act}
use Rattle.sql_exec.specs.Bodies.{AddsRow, ChangesRow, Lacks, PlanEnds, PlanLacks, RepliesWithoutKeys}
use Rattle.sql_exec.specs.Fits.{FitsTables, IsAbout, IsNamed, NamesKept}
use Rattle.sql_exec.specs.Means.{lock_of, name_of}
use Rattle.sql_exec.specs.Plays.{PlaysFrom, Turns}
use Rattle.sql_exec.specs.Selects.{in_columns}
use Rattle.sql_exec.specs.Sends.{PlanSends, Sends, SendsFor, SendsNothing, SendsOfRows, SendsOnly, keys_cleared, rows_made, rows_set}
use Rattle.sql_exec.proofs.Calling.{columns_def, def_now, fits_now, schema_now}
use Rattle.sql_exec.proofs.Kept.{all_more, has_key}
use Rattle.sql_exec.proofs.Naming.{changed_planned, fault_at, kept_passes}
use Rattle.sql_exec.proofs.OneTable.{same_changed, stays, unchanged}
use Rattle.sql_exec.proofs.Playing.{plays_since}

-- ---- tests that agree on each row

filter_same : (p q : List Value → Bool) (rows : Rows) → AllByRecursion (λ row. p row ≡ q row) rows → filter p rows ≡ filter q rows
filter_same p q [] all = refl
filter_same p q (row ∷ rows) all = ap (λ b. cond b (row ∷ filter p rows) (filter p rows)) all.0 ∙ ap (λ (l : Rows). cond (q row) (row ∷ l) l) (filter_same p q rows all.1)

any_same : (p q : List Value → Bool) (rows : Rows) → AllByRecursion (λ row. p row ≡ q row) rows → list_any p rows ≡ list_any q rows
any_same p q [] all = refl
any_same p q (row ∷ rows) all = ap (λ b. b || list_any p rows) all.0 ∙ ap (λ b. q row || b) (any_same p q rows all.1)

all_upto : (P : List Value → Type 0) (front : Rows) (row : List Value) (rest : Rows) → AllByRecursion P (front ++ row ∷ rest) → AllByRecursion P (front ++ row ∷ [])
all_upto P [] row rest all = (all.0, tt)
all_upto P (r ∷ front) row rest all = (all.0, all_upto P front row rest all.1)

flat_none : {B : Type 0} (f : List Value → List B) → ((row : List Value) → f row ≡ []) → (rows : Rows) → flat_map f rows ≡ []
flat_none f none [] = refl
flat_none f none (row ∷ rows) = ap (λ l. l ++ flat_map f rows) (none row) ∙ flat_none f none rows

-- ---- what is put and taken of one row

made_put : (made : Option (List Value)) → put_by (set_or_refuse made) ≡ rows_made made
made_put None = refl
made_put (Some row) = refl

set_one : (g : List Value → Rows) (row : List Value) (b : Bool) (made : Option (List Value)) (kept sets : Rows) → g row ≡ rows_made made → sets ≡ flat_map g kept → put_by (cond b (set_or_refuse made) Keep) ++ sets ≡ flat_map g (cond b (row ∷ kept) kept)
set_one g row true made kept sets e rest = ap (λ (l : Rows). l ++ sets) (made_put made ∙ sym e) ∙ ap (λ (l : Rows). g row ++ l) rest
set_one g row false made kept sets e rest = rest

sets_of : (kept passes : List Value → Bool) (made planned : List Value → Option (List Value)) (rows : Rows) → AllByRecursion (λ row. (kept row ≡ passes row) × (made row ≡ planned row)) rows
    → flat_map (λ row. put_by (cond (passes row) (set_or_refuse (planned row)) Keep)) rows ≡ flat_map (λ row. rows_made (made row)) (filter kept rows)
sets_of kept passes made planned [] all = refl
sets_of kept passes made planned (row ∷ rows) all =
    ap (λ b. put_by (cond b (set_or_refuse (planned row)) Keep) ++ flat_map (λ r. put_by (cond (passes r) (set_or_refuse (planned r)) Keep)) rows) (sym all.0.0)
    ∙ set_one (λ r. rows_made (made r)) row (kept row) (planned row) (filter kept rows) (flat_map (λ r. put_by (cond (passes r) (set_or_refuse (planned r)) Keep)) rows) (ap rows_made all.0.1) (sets_of kept passes made planned rows all.1)

set_takes : (marks : List ℕ) (b : Bool) (made : Option (List Value)) (row : List Value) → taken_by marks (cond b (set_or_refuse made) Keep) row ≡ []
set_takes marks true None row = refl
set_takes marks true (Some new) row = refl
set_takes marks false made row = refl

take_puts : (b : Bool) → put_by (cond b Take Keep) ≡ []
take_puts true = refl
take_puts false = refl

take_one : (marks : List ℕ) (row : List Value) (b : Bool) (kept : Rows) (takes : List ℕ) → takes ≡ map (row_key marks) kept → taken_by marks (cond b Take Keep) row ++ takes ≡ map (row_key marks) (cond b (row ∷ kept) kept)
take_one marks row true kept takes rest = ap (λ (l : List ℕ). row_key marks row ∷ l) rest
take_one marks row false kept takes rest = rest

takes_of : (marks : List ℕ) (kept passes : List Value → Bool) (rows : Rows) → AllByRecursion (λ row. kept row ≡ passes row) rows → flat_map (λ row. taken_by marks (cond (passes row) Take Keep) row) rows ≡ map (row_key marks) (filter kept rows)
takes_of marks kept passes [] all = refl
takes_of marks kept passes (row ∷ rows) all =
    ap (λ b. taken_by marks (cond b Take Keep) row ++ flat_map (λ r. taken_by marks (cond (passes r) Take Keep) r) rows) (sym all.0)
    ∙ take_one marks row (kept row) (filter kept rows) (flat_map (λ r. taken_by marks (cond (passes r) Take Keep) r) rows) (takes_of marks kept passes rows all.1)

-- ---- rows of which none passes

pass_step : (test : List Value → Bool) (row : List Value) (b : Bool) (kept : Rows) → test row ≡ b → (test row ≡ true → ⊥) → kept ≡ [] → cond b (row ∷ kept) kept ≡ []
pass_step test row true kept e never rest = absurd (never e)
pass_step test row false kept e never rest = rest

none_pass : (test : List Value → Bool) (rows : Rows) → AllByRecursion (λ row. test row ≡ true → ⊥) rows → filter test rows ≡ []
none_pass test [] all = refl
none_pass test (row ∷ rows) all = pass_step test row (test row) (filter test rows) refl all.0 (none_pass test rows all.1)

fails_step : (row : List Value) (b : Bool) (kept : Rows) → cond b (row ∷ kept) kept ≡ [] → (b ≡ false) × (kept ≡ [])
fails_step row true kept e = absurd (not_nil row kept e) where
  not_nil : (r : List Value) (rows : Rows) → r ∷ rows ≡ [] → ⊥
  not_nil r rows same = cc
fails_step row false kept e = (refl, e)

none_updated : (test : List Value → Bool) (new : List Value → List Value) (rows : Rows) → filter test rows ≡ [] → map (λ row. cond (test row) (new row) row) rows ≡ rows
none_updated test new [] e = refl
none_updated test new (row ∷ rows) e =
    let step = fails_step row (test row) (filter test rows) e in
    ap (λ b. cond b (new row) row ∷ map (λ r. cond (test r) (new r) r) rows) step.0 ∙ ap (λ (l : Rows). row ∷ l) (none_updated test new rows step.1)

none_removed : (test : List Value → Bool) (rows : Rows) → filter test rows ≡ [] → filter (λ row. not (test row)) rows ≡ rows
none_removed test [] e = refl
none_removed test (row ∷ rows) e =
    let step = fails_step row (test row) (filter test rows) e in
    ap (λ b. cond (not b) (row ∷ filter (λ r. not (test r)) rows) (filter (λ r. not (test r)) rows)) step.0 ∙ ap (λ (l : Rows). row ∷ l) (none_removed test rows step.1)

take_nothing : (limit : ℕ) → take {A = List Value} limit [] ≡ []
take_nothing zero = refl
take_nothing (suc limit) = refl

none_limited : (limit : Option ℕ) (falling : Bool) → limited limit (put_in_order falling []) ≡ []
none_limited None true = refl
none_limited None false = refl
none_limited (Some limit) true = take_nothing limit
none_limited (Some limit) false = take_nothing limit

no_named : (defs : List TableDef) (n : ℕ) (range : Option Range) (rows : Rows) → range ≡ None → AllByRecursion (IsNamed defs n range) rows → rows ≡ []
no_named defs n range [] none all = refl
no_named defs n range (row ∷ rows) none all = absurd (subst (λ (r : Option Range). IsInRange r (row_key (keys_at defs n) row)) none all.0.inside)

-- ---- the name of a lock

not_some : (name : LockName) → None ≡ Some name → ⊥
not_some name e = cc

some_is : (a b : LockName) → Some a ≡ Some b → a ≡ b
some_is a b e = cc

name_none : (table : ℕ) (range : Option Range) → name_of table range ≡ None → range ≡ None
name_none table None e = refl
name_none table (Some range) e = absurd (not_some _ (sym e))

some_range : (table : ℕ) (range : Option Range) (name : LockName) → name_of table range ≡ Some name → IsSome range
some_range table None name e = absurd (not_some name e)
some_range table (Some range) name e = search rules

pub name_table : (table : ℕ) (range : Option Range) (name : LockName) → name_of table range ≡ Some name → name.table ≡ table
name_table table None name e = absurd (not_some name e)
name_table table (Some range) name e = ap (λ (m : LockName). m.table) (sym (some_is _ name e))

-- ---- what a plan sets and takes away

abbrev pub act_for : Plan → List Value → Act
act_for (plans.Update p) = update_act p
act_for (plans.Delete p) = delete_act p
act_for plan = λ row. Keep

abbrev pub plan_sets : Plan → Rows → Rows
plan_sets (plans.Insert p) rows = p.rows
plan_sets plan rows = flat_map (λ row. put_by (act_for plan row)) rows

abbrev pub plan_takes : List ℕ → Plan → Rows → List ℕ
plan_takes marks plan rows = flat_map (λ row. taken_by marks (act_for plan row) row) rows

abbrev pub PlanChanges : List TableDef → ℕ → Plan → List Call → List Call → Type 0
PlanChanges defs n plan old new = (first : Tables) → PlaysFrom defs first new → SendsOnly (plan_sets plan (table_at (tables_of first old) n).rows) (plan_takes (table_at (tables_of first old) n).def.keys plan (table_at (tables_of first old) n).rows) old new

-- ---- a statement that has no fault in its table

module _ (t : TableRows) (n : ℕ) (fits : AllByRecursion (IsRowOf t.def.columns) t.rows) where
  changes_row : (statement : Statement) → fault_in t.def statement ≡ None → ChangesRow t.def.keys (plan_on n t.def statement) t.rows → lacks.ChangesRow t statement
  changes_row (statements.Update s) none is =
      let faults = neither _ _ none in
      let kept = all_more (IsRowOf t.def.columns) (λ row. is_kept t.def.columns s.conditions row ≡ passes_all (map (test_of t.def.columns) s.conditions) row) t.rows (kept_passes t.def s.conditions (neither _ _ faults.1).0) fits in
      let reached = subst (AllByRecursion (IsRowOf t.def.columns)) is.split (all_filter (IsRowOf t.def.columns) (passes_all (map (test_of t.def.columns) s.conditions)) t.rows fits) in
      let planned = all_more (IsRowOf t.def.columns) (λ row. is_none (changed_row t.def.columns s.changes row) ≡ is_none (planned_row (map (assignment_of t.def.columns) s.changes) row)) (is.front ++ is.row ∷ [])
      (λ row fit. ap is_none (changed_planned t.def s.changes faults.0 row fit)) (all_upto (IsRowOf t.def.columns) is.front is.row is.rest reached) in
      record {
        front = is.front;
        row = is.row;
        rest = is.rest;
        split = filter_same (is_kept t.def.columns s.conditions) (passes_all (map (test_of t.def.columns) s.conditions)) t.rows kept ∙ is.split;
        good = subst (λ (b : Bool). IsTrue (not b)) (sym (any_same (λ row. is_none (changed_row t.def.columns s.changes row)) (λ row. is_none (planned_row (map (assignment_of t.def.columns) s.changes) row)) (is.front ++ is.row ∷ []) planned)) is.good;
      }
  changes_row (statements.Delete s) none is =
      let kept = all_more (IsRowOf t.def.columns) (λ row. is_kept t.def.columns s.conditions row ≡ passes_all (map (test_of t.def.columns) s.conditions) row) t.rows (kept_passes t.def s.conditions none) fits in
      record {
        front = is.front;
        row = is.row;
        rest = is.rest;
        split = filter_same (is_kept t.def.columns s.conditions) (passes_all (map (test_of t.def.columns) s.conditions)) t.rows kept ∙ is.split;
        good = refl;
      }
  changes_row (statements.Insert s) none is = is
  changes_row (statements.Select s) none is = is
  changes_row (statements.Totals s) none is = is
  changes_row (statements.Create created) none is = is
  changes_row statements.Begin none is = is
  changes_row statements.Commit none is = is
  changes_row statements.Rollback none is = is

  adds_row : (statement : Statement) → AddsRow t.def.keys (plan_on n t.def statement) t.rows → lacks.AddsRow t statement
  adds_row (statements.Insert s) is = is
  adds_row (statements.Update s) is = is
  adds_row (statements.Delete s) is = is
  adds_row (statements.Select s) is = is
  adds_row (statements.Totals s) is = is
  adds_row (statements.Create created) is = is
  adds_row statements.Begin is = is
  adds_row statements.Commit is = is
  adds_row statements.Rollback is = is

  pub lacks_asks : (statement : Statement) → fault_in t.def statement ≡ None → (resource : Resource) → PlanLacks t.def.keys (plan_on n t.def statement) t.rows resource → AsksFor t statement resource
  lacks_asks statement none (Pages used limit) is = adds_row statement is
  lacks_asks statement none (Nodes used limit) is = adds_row statement is
  lacks_asks statement none (Txn used limit) is = changes_row statement none is
  lacks_asks statement none (Locks held limit) is = absurd is
  lacks_asks statement none (LogFull bytes limit) is = is
  lacks_asks statement none (Busy oldest) is = is

  pub sets_same : (statement : Statement) → fault_in t.def statement ≡ None → plan_sets (plan_on n t.def statement) t.rows ≡ rows_set t.def statement t.rows
  sets_same (statements.Insert s) none = refl
  sets_same (statements.Update s) none =
      let faults = neither _ _ none in
      sets_of (is_kept t.def.columns s.conditions) (passes_all (map (test_of t.def.columns) s.conditions)) (changed_row t.def.columns s.changes) (planned_row (map (assignment_of t.def.columns) s.changes)) t.rows
      (all_more (IsRowOf t.def.columns) _ t.rows (λ row fit. (kept_passes t.def s.conditions (neither _ _ faults.1).0 row fit, changed_planned t.def s.changes faults.0 row fit)) fits)
  sets_same (statements.Delete s) none = flat_none (λ row. put_by (cond (passes_all (map (test_of t.def.columns) s.conditions) row) Take Keep)) (λ row. take_puts (passes_all (map (test_of t.def.columns) s.conditions) row)) t.rows
  sets_same (statements.Select s) none = flat_none (λ row. []) (λ row. refl) t.rows
  sets_same (statements.Totals s) none = flat_none (λ row. []) (λ row. refl) t.rows
  sets_same (statements.Create created) none = flat_none (λ row. []) (λ row. refl) t.rows
  sets_same statements.Begin none = flat_none (λ row. []) (λ row. refl) t.rows
  sets_same statements.Commit none = flat_none (λ row. []) (λ row. refl) t.rows
  sets_same statements.Rollback none = flat_none (λ row. []) (λ row. refl) t.rows

  pub takes_same : (statement : Statement) → fault_in t.def statement ≡ None → plan_takes t.def.keys (plan_on n t.def statement) t.rows ≡ keys_cleared t.def statement t.rows
  takes_same (statements.Delete s) none =
      takes_of t.def.keys (is_kept t.def.columns s.conditions) (passes_all (map (test_of t.def.columns) s.conditions)) t.rows
      (all_more (IsRowOf t.def.columns) (λ row. is_kept t.def.columns s.conditions row ≡ passes_all (map (test_of t.def.columns) s.conditions) row) t.rows (kept_passes t.def s.conditions none) fits)
  takes_same (statements.Update s) none =
      flat_none (λ row. taken_by t.def.keys (cond (passes_all (map (test_of t.def.columns) s.conditions) row) (set_or_refuse (planned_row (map (assignment_of t.def.columns) s.changes) row)) Keep) row)
      (λ row. set_takes t.def.keys (passes_all (map (test_of t.def.columns) s.conditions) row) (planned_row (map (assignment_of t.def.columns) s.changes) row) row) t.rows
  takes_same (statements.Insert s) none = flat_none (λ row. []) (λ row. refl) t.rows
  takes_same (statements.Select s) none = flat_none (λ row. []) (λ row. refl) t.rows
  takes_same (statements.Totals s) none = flat_none (λ row. []) (λ row. refl) t.rows
  takes_same (statements.Create created) none = flat_none (λ row. []) (λ row. refl) t.rows
  takes_same statements.Begin none = flat_none (λ row. []) (λ row. refl) t.rows
  takes_same statements.Commit none = flat_none (λ row. []) (λ row. refl) t.rows
  takes_same statements.Rollback none = flat_none (λ row. []) (λ row. refl) t.rows

-- ---- wherever the calls are those of some tables

module _ (defs : List TableDef) (statement : Statement) (fitting : misfit defs statement ≡ None) (first : Tables) (start : List Call) (plays : PlaysFrom defs first start) where
  abbrev old : Tables
  old = tables_of first start

  abbrev number : ℕ
  number = number_of defs statement

  abbrev at : TableRows
  at = table_at (tables_of first start) (number_of defs statement)

  schema : schema_of old ≡ defs
  schema = schema_now defs number first start plays

  fits_old : misfit (schema_of old) statement ≡ None
  fits_old = ap (λ (ds : List TableDef). misfit ds statement) schema ∙ fitting

  def_is : at.def ≡ def_at defs number
  def_is = def_now defs number first start plays

  rows_fit : AllByRecursion (IsRowOf at.def.columns) at.rows
  rows_fit =
      subst (λ (def : TableDef). AllByRecursion (IsRowOf def.columns) at.rows) (sym def_is)
      (subst (λ columns. AllByRecursion (IsRowOf columns) at.rows) (columns_def defs number) (fits_now defs number first start plays))

  no_fault : fault_in at.def statement ≡ None
  no_fault = subst (λ (def : TableDef). fault_in def statement ≡ None) (sym def_is) (fault_at defs statement fitting)

  place : number_of (schema_of old) statement ≡ number
  place = ap (λ (ds : List TableDef). number_of ds statement) schema

  meaning : means old statement ≡ acts_on old number statement
  meaning = means_acts old statement fits_old ∙ ap (λ (k : ℕ). acts_on old k statement) place

  lacking : (resource : Resource) → AsksFor at statement resource → lacks.MayLack old statement resource
  lacking resource asks = record {
    fits = ap (option_and_then refusal_of_check) fits_old;
    asks = subst (λ (k : ℕ). AsksFor (table_at old k) statement resource) (sym place) asks;
  }

  meant : (reply : Reply) (new : Tables) → plan_acts (def_at defs number) (plan_of defs statement) at.rows ≡ (reply, (table_at new number).rows) → new ≡ changed old number (λ t. (table_at new number).rows)
      → (reply ≡ (means old statement).0) × (new ≡ (means old statement).1)
  meant reply new e others =
      let acted : acts at.def statement at.rows ≡ (reply, (table_at new number).rows) =
      plan_means number at.def statement at.rows no_fault rows_fit ∙ ap (λ (d : TableDef). plan_acts d (plan_on number d statement) at.rows) def_is ∙ e in (
        sym (ap (λ (p : Reply × Tables). p.0) meaning ∙ ap (λ (p : Reply × Rows). p.0) acted),
        others ∙ same_changed old number (λ t. (table_at new number).rows) (λ t. (acts t.def statement t.rows).1) (sym (ap (λ (p : Reply × Rows). p.1) acted)) ∙ sym (ap (λ (p : Reply × Tables). p.1) meaning),
      )

  lacked : (reply : Reply) (new : Tables) → Lacks (def_at defs number) (plan_of defs statement) reply at.rows (table_at new number).rows → new ≡ changed old number (λ t. (table_at new number).rows) → AnswersUnless None statement old reply new
  lacked reply new is others =
      let resource = is.0 in
      let found = subst (λ (d : TableDef). PlanLacks d.keys (plan_on number d statement) at.rows resource) (sym def_is) is.1 in
      let same = others ∙ ap (λ (rows : Rows). changed old number (λ t. rows)) is.3 ∙ sym (unchanged old number) in
      inr (resource, lacking resource (lacks_asks at number rows_fit statement no_fault resource found), (is.2, same))

  answered : (reply : Reply) (new : Tables) → new ≡ changed old number (λ t. (table_at new number).rows) → PlanEnds (def_at defs number) (plan_of defs statement) (Ok reply) at.rows (table_at new number).rows → AnswersUnless None statement old reply new
  answered reply new others (inl e) = inl (meant reply new e others)
  answered reply new others (inr is) = lacked reply new is others

  pub plan_answers : (reply : Reply) (new : Tables) → Turns number (PlanEnds (def_at defs number) (plan_of defs statement) (Ok reply)) old new → AnswersUnless None statement old reply new
  plan_answers reply new turns = answered reply new turns.others turns.rows

  plan_sent : (new : List Call) → SendsOnly (plan_sets (plan_of defs statement) at.rows) (plan_takes at.def.keys (plan_of defs statement) at.rows) start new → SendsFor at statement start new
  plan_sent new sends =
      let there = subst (λ (d : TableDef). SendsOnly (plan_sets (plan_on number d statement) at.rows) (plan_takes at.def.keys (plan_on number d statement) at.rows) start new) (sym def_is) sends in
      subst (λ (keys : List ℕ). SendsOnly (rows_set at.def statement at.rows) keys start new) (takes_same at number rows_fit statement no_fault)
      (subst (λ (rows : Rows). SendsOnly rows (plan_takes at.def.keys (plan_on number at.def statement) at.rows) start new) (sets_same at number rows_fit statement no_fault) there)

  -- ---- a plan that is about no key

  quiet : (conditions : List Test) → NamesKept defs number None conditions → filter (passes_all conditions) at.rows ≡ []
  quiet conditions kept = quiet_by (has_key defs number first start plays (slice_get defs number) refl) where
    quiet_by : (has_int_key (columns_at defs number) (keys_at defs number) ≡ true) ⊎ (at.rows ≡ []) → filter (passes_all conditions) at.rows ≡ []
    quiet_by (inl key) = none_pass (passes_all conditions) at.rows (all_more (IsRowOf (columns_at defs number)) (λ row. passes_all conditions row ≡ true → ⊥) at.rows (λ row fit passes. kept row key fit passes) (fits_now defs number first start plays))
    quiet_by (inr none) = ap (filter (passes_all conditions)) none

  acts_without : (def : TableDef) (s : Statement) (reply : Reply) → FitsTables defs (plan_on number def s) → lock_of (plan_on number def s) ≡ None → RepliesWithoutKeys (plan_on number def s) reply → plan_acts def (plan_on number def s) at.rows ≡ (reply, at.rows)
  acts_without def (statements.Insert s) reply fits none is =
      ap (λ (new : Rows). inserts def new at.rows) (no_named defs number _ s.rows (name_none number _ none) fits.1) ∙ ap (λ (r : Reply). (r, at.rows)) (sym is)
  acts_without def (statements.Select s) reply fits none is =
      let conditions = map (test_of def.columns) s.conditions in
      ap (λ (rows : Rows). (replies.Rows (map (in_columns (columns_shown def.columns s.shown)) (limited s.limit (put_in_order (falls s.order) rows))), at.rows)) (quiet conditions (subst (λ r. NamesKept defs number r conditions) (name_none number _ none) fits.1))
      ∙ ap (λ (rows : Rows). (replies.Rows (map (in_columns (columns_shown def.columns s.shown)) rows), at.rows)) (none_limited s.limit (falls s.order)) ∙ ap (λ (r : Reply). (r, at.rows)) (sym is)
  acts_without def (statements.Totals s) reply fits none is =
      let conditions = map (test_of def.columns) s.conditions in
      ap (λ (rows : Rows). (totals_reply (map (planned_total rows) (map (total_plan def.columns) s.totals)), at.rows)) (quiet conditions (subst (λ r. NamesKept defs number r conditions) (name_none number _ none) fits.1))
      ∙ ap (λ (r : Reply). (r, at.rows)) (sym is)
  acts_without def (statements.Update s) reply fits none is =
      let conditions = map (test_of def.columns) s.conditions in
      let changes = map (assignment_of def.columns) s.changes in
      let nothing = quiet conditions (subst (λ r. NamesKept defs number r conditions) (name_none number _ none) fits.1) in
      ap (λ (rows : Rows). cond (list_any (λ row. is_none (planned_row changes row)) rows) (replies.Refused refusals.Range, at.rows) (replies.Many (count_of rows), map (planned_update changes conditions) at.rows)) nothing
      ∙ ap (λ (rows : Rows). (replies.Many 0, rows)) (none_updated (passes_all conditions) (λ row. unwrap_or (planned_row changes row) row) at.rows nothing) ∙ ap (λ (r : Reply). (r, at.rows)) (sym is)
  acts_without def (statements.Delete s) reply fits none is =
      let conditions = map (test_of def.columns) s.conditions in
      let nothing = quiet conditions (subst (λ r. NamesKept defs number r conditions) (name_none number _ none) fits.1) in
      ap (λ (rows : Rows). (replies.Many (count_of rows), filter (λ row. not (passes_all conditions row)) at.rows)) nothing
      ∙ ap (λ (rows : Rows). (replies.Many 0, rows)) (none_removed (passes_all conditions) at.rows nothing) ∙ ap (λ (r : Reply). (r, at.rows)) (sym is)
  acts_without def (statements.Create created) reply fits none is = ap (λ (r : Reply). (r, at.rows)) (sym is)
  acts_without def statements.Begin reply fits none is = ap (λ (r : Reply). (r, at.rows)) (sym is)
  acts_without def statements.Commit reply fits none is = ap (λ (r : Reply). (r, at.rows)) (sym is)
  acts_without def statements.Rollback reply fits none is = ap (λ (r : Reply). (r, at.rows)) (sym is)

  pub answers_without : (reply : Reply) → FitsTables defs (plan_of defs statement) → lock_of (plan_of defs statement) ≡ None → RepliesWithoutKeys (plan_of defs statement) reply → AnswersUnless None statement old reply old
  answers_without reply fits none is =
      plan_answers reply old (stays number (PlanEnds (def_at defs number) (plan_of defs statement) (Ok reply)) old old refl (inl (acts_without (def_at defs number) statement reply fits none is)))

  -- ---- a lock that isn't given

  needs_lock : (def : TableDef) (s : Statement) (name : LockName) → lock_of (plan_on number def s) ≡ Some name → NeedsLock def s
  needs_lock def (statements.Insert s) name e = some_range number _ name e
  needs_lock def (statements.Select s) name e = some_range number _ name e
  needs_lock def (statements.Totals s) name e = some_range number _ name e
  needs_lock def (statements.Update s) name e = some_range number _ name e
  needs_lock def (statements.Delete s) name e = some_range number _ name e
  needs_lock def (statements.Create created) name e = absurd (not_some name e)
  needs_lock def statements.Begin name e = absurd (not_some name e)
  needs_lock def statements.Commit name e = absurd (not_some name e)
  needs_lock def statements.Rollback name e = absurd (not_some name e)

  asks_lock : (name : LockName) (mode : Mode) (resource : Resource) → lock_of (plan_of defs statement) ≡ Some name → MayGiveLack (AskLock name mode) resource → AsksFor at statement resource
  asks_lock name mode (Locks held limit) e may = subst (λ (d : TableDef). NeedsLock d statement) (sym def_is) (needs_lock (def_at defs number) statement name e)
  asks_lock name mode (Pages used limit) e may = absurd may
  asks_lock name mode (Nodes used limit) e may = absurd may
  asks_lock name mode (Txn used limit) e may = absurd may
  asks_lock name mode (LogFull bytes limit) e may = absurd may
  asks_lock name mode (Busy oldest) e may = absurd may

  pub lock_lacks : (name : LockName) (mode : Mode) (resource : Resource) → lock_of (plan_of defs statement) ≡ Some name → MayGiveLack (AskLock name mode) resource → AnswersUnless None statement old (replies.Refused (refusals.Resource resource)) old
  lock_lacks name mode resource e may = inr (resource, lacking resource (asks_lock name mode resource e may), (refl, refl))

  -- the table that a lock names is the statement's
  table_named_by : (def : TableDef) (s : Statement) (name : LockName) → lock_of (plan_on number def s) ≡ Some name → name.table ≡ number
  table_named_by def (statements.Insert s) name e = name_table number _ name e
  table_named_by def (statements.Select s) name e = name_table number _ name e
  table_named_by def (statements.Totals s) name e = name_table number _ name e
  table_named_by def (statements.Update s) name e = name_table number _ name e
  table_named_by def (statements.Delete s) name e = name_table number _ name e
  table_named_by def (statements.Create created) name e = absurd (not_some name e)
  table_named_by def statements.Begin name e = absurd (not_some name e)
  table_named_by def statements.Commit name e = absurd (not_some name e)
  table_named_by def statements.Rollback name e = absurd (not_some name e)

  pub lock_table : (name : LockName) → lock_of (plan_of defs statement) ≡ Some name → name.table ≡ number
  lock_table name e = table_named_by (def_at defs number) statement name e

-- what a lock names is there
about_some : (defs : List TableDef) (table : ℕ) (range : Option Range) (name : LockName) → IsAbout defs table range → name_of table range ≡ Some name → (name.table < length defs) × IsNotEmpty name.range
about_some defs table None name about e = absurd (not_some name e)
about_some defs table (Some range) name about e =
    subst (λ (m : LockName). (m.table < length defs) × IsNotEmpty m.range) (some_is _ name e) (about.table_is, about.some range refl)

pub lock_about : (defs : List TableDef) (plan : Plan) (name : LockName) → FitsTables defs plan → lock_of plan ≡ Some name → (name.table < length defs) × IsNotEmpty name.range
lock_about defs (plans.Insert p) name fits e = about_some defs p.table p.range name fits.0 e
lock_about defs (plans.Select p) name fits e = about_some defs p.table p.range name fits.0 e
lock_about defs (plans.Totals p) name fits e = about_some defs p.table p.range name fits.0 e
lock_about defs (plans.Update p) name fits e = about_some defs p.table p.range name fits.0 e
lock_about defs (plans.Delete p) name fits e = about_some defs p.table p.range name fits.0 e
lock_about defs plans.Create name fits e = absurd (not_some name e)
lock_about defs plans.Begin name fits e = absurd (not_some name e)
lock_about defs plans.Commit name fits e = absurd (not_some name e)
lock_about defs plans.Rollback name fits e = absurd (not_some name e)

pub if_ok : (P Q : Reply → Type 0) (result : Result Reply Stop) → ((reply : Reply) → P reply → Q reply) → IfOk result P → IfOk result Q
if_ok P Q (Ok reply) more is = more reply is
if_ok P Q (Err stop) more is = tt

pub plan_ok : (n : ℕ) (def : TableDef) (plan : Plan) (a b : Tables) (result : Result Reply Stop) (Q : Reply → Type 0) → ((reply : Reply) → Turns n (PlanEnds def plan (Ok reply)) a b → Q reply) → Turns n (PlanEnds def plan result) a b → IfOk result Q
plan_ok n def plan a b (Ok reply) Q more is = more reply is
plan_ok n def plan a b (Err stop) Q more is = tt

-- ---- behind the request for the lock

pub behind_lock : (defs : List TableDef) (first : Tables) (name : LockName) (mode : Mode) (calls : List Call) → PlaysFrom defs first (Locked name mode ∷ calls) → PlaysFrom defs first calls
behind_lock defs first name mode calls plays = record { tables = plays.tables; schema = plays.schema; answers = plays.answers; lacks = plays.lacks }

pub behind_stop : (defs : List TableDef) (first : Tables) (asked : Asked) (stop : Stop) (calls : List Call) → PlaysFrom defs first (Stopped asked stop ∷ calls) → PlaysFrom defs first calls
behind_stop defs first asked stop calls plays = record { tables = plays.tables; schema = plays.schema; answers = plays.answers; lacks = plays.lacks.1 }

sends_behind : (name : LockName) (mode : Mode) (start new : List Call) (rows : Rows) (keys : List ℕ) → SendsOnly rows keys (Locked name mode ∷ start) new → SendsOnly rows keys start new
sends_behind name mode start new rows keys sends = record { put = sends.put; taken = sends.taken }

front_of : (rows : Rows) (keys : List ℕ) (start new : List Call) → SendsNothing start new → SendsOnly rows keys start new
front_of rows keys start new none = record {
  put = record { sent = []; rest = rows; front = refl; added = none.put };
  taken = record { sent = []; rest = keys; front = refl; added = none.taken };
}

none_behind : (name : LockName) (mode : Mode) (start new : List Call) → SendsNothing (Locked name mode ∷ start) new → SendsNothing start new
none_behind name mode start new sends = record { put = sends.put; taken = sends.taken }

module _ (defs : List TableDef) (statement : Statement) (fitting : misfit defs statement ≡ None) (name : LockName) (mode : Mode) (start new : List Call) (since : Since (Locked name mode ∷ start) new)
    (named : lock_of (plan_of defs statement) ≡ Some name) where
  -- wherever the calls are those of some tables
  rows_sent : PlanChanges defs name.table (plan_of defs statement) (Locked name mode ∷ start) new → SendsOfRows defs statement start new
  rows_sent sends first plays =
      let was = behind_lock defs first name mode start (plays_since defs first (Locked name mode ∷ start) new since plays) in
      let is = lock_table defs statement fitting first start was name named in
      plan_sent defs statement fitting first start was new (sends_behind name mode start new _ _ (subst (λ (n : ℕ). PlanChanges defs n (plan_of defs statement) (Locked name mode ∷ start) new) is sends first plays))

-- the calls behind the lock send what the statement says
pub locked_sent : (defs : List TableDef) (statement : Statement) → misfit defs statement ≡ None → (name : LockName) (mode : Mode) (start new : List Call) → Since (Locked name mode ∷ start) new
    → lock_of (plan_of defs statement) ≡ Some name → PlanSends defs name.table (plan_of defs statement) (Locked name mode ∷ start) new → Sends defs statement start new
locked_sent defs (statements.Insert s) fitting name mode start new since named sends = sends_behind name mode start new s.rows [] sends
locked_sent defs (statements.Update s) fitting name mode start new since named sends = rows_sent defs (statements.Update s) fitting name mode start new since named sends
locked_sent defs (statements.Delete s) fitting name mode start new since named sends = rows_sent defs (statements.Delete s) fitting name mode start new since named sends
locked_sent defs (statements.Select s) fitting name mode start new since named sends = none_behind name mode start new sends
locked_sent defs (statements.Totals s) fitting name mode start new since named sends = none_behind name mode start new sends
locked_sent defs (statements.Create created) fitting name mode start new since named sends = none_behind name mode start new sends
locked_sent defs statements.Begin fitting name mode start new since named sends = none_behind name mode start new sends
locked_sent defs statements.Commit fitting name mode start new since named sends = none_behind name mode start new sends
locked_sent defs statements.Rollback fitting name mode start new since named sends = none_behind name mode start new sends

-- calls that put no row and take none away send the front of whatever is to be sent
pub quiet_sent : (defs : List TableDef) (statement : Statement) (start new : List Call) → SendsNothing start new → Sends defs statement start new
quiet_sent defs (statements.Insert s) start new none = front_of s.rows [] start new none
quiet_sent defs (statements.Update s) start new none = λ first plays. front_of _ _ start new none
quiet_sent defs (statements.Delete s) start new none = λ first plays. front_of _ _ start new none
quiet_sent defs (statements.Select s) start new none = none
quiet_sent defs (statements.Totals s) start new none = none
quiet_sent defs (statements.Create created) start new none = none
quiet_sent defs statements.Begin start new none = none
quiet_sent defs statements.Commit start new none = none
quiet_sent defs statements.Rollback start new none = none
