-- What the slow reference does is what a statement means.
use Rattle.std.proofs.Common.{◌≡◌, ℕ, zero, suc, ◌<◌, List, [], ◌∷◌, length, Option, None, Some, refl, ap, sym, subst, ◌∙◌, arith}
use Rattle.std.specs.Prelude.{slice_get, unwrap_or, option_and_then}
use Rattle.std.specs.List.{AllByRecursion}
use Rattle.std.specs.Option.{option_map_or}
use Rattle.row_types.specs.declared.definition.TableDef.{TableDef}
use Rattle.row_types.specs.Schema.{table_named}
use Rattle.row_types.specs.Tables.{TableRows, Tables, IsTableRows, AreTables, schema_of}
use Rattle.key_space.specs.Plays.{Rows, changed}
use Rattle.sql_parse.specs.declared.statement.Statement.{Statement}
use Rattle.sql_parse.specs.declared.statement.Statement.TheVariants as statements
use Rattle.sql_check.specs.declared.fault.CheckFault.{CheckFault}
use Rattle.sql_check.specs.declared.fault.CheckFault.TheVariants.{NoTable}
use Rattle.sql_check.specs.Columns.{def_named, table_number}
use Rattle.sql_check.specs.Misfits.{misfit, fault_in, fault_on, table_of}
use Rattle.sql_check.specs.Plans.{number_of}
use Rattle.sql_check.specs.Valued.{HasValues}
use Rattle.plain_model.specs.declared.reply.Reply.{Reply}
use Rattle.plain_model.specs.declared.reply.Reply.TheVariants as reply
use Rattle.plain_model.specs.declared.reply.Refusal.{Refusal}
use Rattle.plain_model.specs.Refusals.{refusal_of_check}
use Rattle.plain_model.specs.Meaning.{acts, table_at, acts_on, means_unless, means}
use Rattle.plain_model.proofs.MeaningLaws.{acts_keep, changed_same, is_there, map_get}

-- a statement that doesn't fit is refused
pub means_refused : (tables : Tables) (statement : Statement) (fault : CheckFault) (refusal : Refusal) → misfit (schema_of tables) statement ≡ Some fault → refusal_of_check fault ≡ Some refusal
    → means tables statement ≡ (reply.Refused refusal, tables)
means_refused tables statement fault refusal e is = ap (λ o. means_unless (option_and_then refusal_of_check o) tables statement) e ∙ ap (λ o. means_unless o tables statement) is

-- one that fits acts on its table
pub means_acts : (tables : Tables) (statement : Statement) → misfit (schema_of tables) statement ≡ None → means tables statement ≡ acts_on tables (number_of (schema_of tables) statement) statement
means_acts tables statement e = ap (λ o. means_unless (option_and_then refusal_of_check o) tables statement) e

-- where it is on no table, nothing happens
no_name : (defs : List TableDef) (statement : Statement) (o : Option (List ℕ)) → table_of statement ≡ o → option_map_or (fault_on defs statement) o None ≡ None → option_and_then (table_named defs) o ≡ None → table_of statement ≡ None
no_name defs statement None e none number = e
no_name defs statement (Some name) e none number = absurd (nowhere (def_named defs name) refl none)
  where
    nowhere : (d : Option TableDef) → def_named defs name ≡ d → option_map_or (λ def. fault_in def statement) d (Some NoTable) ≡ None → ⊥
    nowhere None found fault = cc
    nowhere (Some def) found fault = is_there defs name def found number

no_table_acts : (statement : Statement) (tables : Tables) (n : ℕ) → table_of statement ≡ None → acts_on tables n statement ≡ (reply.Done, tables)
no_table_acts (statements.Insert s) tables n e = absurd cc
no_table_acts (statements.Select s) tables n e = absurd cc
no_table_acts (statements.Totals s) tables n e = absurd cc
no_table_acts (statements.Update s) tables n e = absurd cc
no_table_acts (statements.Delete s) tables n e = absurd cc
no_table_acts (statements.Create created) tables n e = ap (λ (ts : Tables). (reply.Done, ts)) (changed_same tables n (λ t. t.rows) refl)
no_table_acts statements.Begin tables n e = ap (λ (ts : Tables). (reply.Done, ts)) (changed_same tables n (λ t. t.rows) refl)
no_table_acts statements.Commit tables n e = ap (λ (ts : Tables). (reply.Done, ts)) (changed_same tables n (λ t. t.rows) refl)
no_table_acts statements.Rollback tables n e = ap (λ (ts : Tables). (reply.Done, ts)) (changed_same tables n (λ t. t.rows) refl)

pub means_nothing : (tables : Tables) (statement : Statement) → misfit (schema_of tables) statement ≡ None → option_and_then (table_named (schema_of tables)) (table_of statement) ≡ None → means tables statement ≡ (reply.Done, tables)
means_nothing tables statement e number =
    means_acts tables statement e ∙ no_table_acts statement tables (number_of (schema_of tables) statement) (no_name (schema_of tables) statement (table_of statement) refl e number)

-- the number that was found is the statement's
number_found : (defs : List TableDef) (o : Option (List ℕ)) (n : ℕ) → option_and_then (table_named defs) o ≡ Some n → option_map_or (table_number defs) o 0 ≡ n
number_found defs None n e = absurd cc
number_found defs (Some name) n e = ap (λ o. unwrap_or o 0) e

table_there : (tables : Tables) (n : ℕ) → n < length tables → slice_get tables n ≡ Some (table_at tables n)
table_there [] n inside = absurd (omega arith)
table_there (t ∷ tables) zero inside = refl
table_there (t ∷ tables) (suc n) inside = table_there tables n (omega arith)

changed_at : (tables : Tables) (n : ℕ) (rows_of : TableRows → Rows) (rows : Rows) → rows_of (table_at tables n) ≡ rows → changed tables n rows_of ≡ changed tables n (λ t. rows)
changed_at [] n rows_of rows e = refl
changed_at (t ∷ tables) zero rows_of rows e = ap (λ (r : Rows). record t { rows = r } ∷ tables) e
changed_at (t ∷ tables) (suc n) rows_of rows e = ap (λ (ts : Tables). t ∷ ts) (changed_at tables n rows_of rows e)

module _ (tables : Tables) (statement : Statement) (n : ℕ) (def : TableDef) (fits : misfit (schema_of tables) statement ≡ None) (number : option_and_then (table_named (schema_of tables)) (table_of statement) ≡ Some n)
    (inside : n < length tables) (is : slice_get (schema_of tables) n ≡ Some def) where
  def_is : (table_at tables n).def ≡ def
  def_is = let there = map_get (λ (t : TableRows). t.def) tables n (table_at tables n) (table_there tables n inside) in cc

  -- what a statement does on its table is what it means
  pub means_on : (said : Reply) (rows : Rows) → (said, rows) ≡ acts def statement (table_at tables n).rows → means tables statement ≡ (said, changed tables n (λ t. rows))
  means_on said rows e =
      let place : number_of (schema_of tables) statement ≡ n = number_found (schema_of tables) (table_of statement) n number in
      let here : acts (table_at tables n).def statement (table_at tables n).rows ≡ (said, rows) = ap (λ d. acts d statement (table_at tables n).rows) def_is ∙ sym e in
      means_acts tables statement fits ∙ ap (λ k. acts_on tables k statement) place
      ∙ ap (λ (p : Reply × Rows). (p.0, changed tables n (λ t. (acts t.def statement t.rows).1))) here
      ∙ ap (λ (ts : Tables). (said, ts)) (changed_at tables n (λ t. (acts t.def statement t.rows).1) rows (ap (λ (p : Reply × Rows). p.1) here))

  -- and its rows are rows of the table
  pub rows_on : (said : Reply) (rows : Rows) → HasValues statement → AreTables tables → (said, rows) ≡ acts def statement (table_at tables n).rows → IsTableRows (record (table_at tables n) { rows = rows })
  rows_on said rows valued are e =
      let place : number_of (schema_of tables) statement ≡ n = number_found (schema_of tables) (table_of statement) n number in
      let there = table_there tables n inside in
      let here : (acts (table_at tables n).def statement (table_at tables n).rows).1 ≡ rows = ap (λ (p : Reply × Rows). p.1) (ap (λ d. acts d statement (table_at tables n).rows) def_is ∙ sym e) in
      subst (λ (r : Rows). IsTableRows (record (table_at tables n) { rows = r })) here
      (acts_keep tables statement fits valued are (table_at tables n) (ap (slice_get tables) place ∙ there) (all_at tables n are.rows inside))
    where
      all_at : (ts : Tables) (k : ℕ) → AllByRecursion IsTableRows ts → k < length ts → IsTableRows (table_at ts k)
      all_at [] k all less = absurd (omega arith)
      all_at (t ∷ ts) zero all less = all.0
      all_at (t ∷ ts) (suc k) all less = all_at ts k all.1 (omega arith)
