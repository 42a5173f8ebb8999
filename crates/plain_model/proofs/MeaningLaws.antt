-- What a statement leaves of the tables.
use Rattle.std.proofs.Common.{◌≡◌, ℕ, zero, suc, Bool, true, false, cond, List, [], ◌∷◌, map, Option, None, Some, ◌+◌, refl, ap, sym, subst, ◌∙◌, arith}
use Rattle.std.specs.Prelude.{slice_get, unwrap_or, option_and_then}
use Rattle.std.specs.List.{AllByRecursion}
use Rattle.std.specs.Str.{bytes_eq}
use Rattle.std.specs.Option.{option_map_or}
use Rattle.row_types.specs.declared.definition.TableDef.{TableDef}
use Rattle.row_types.specs.declared.row.Value.{Value}
use Rattle.row_types.specs.Schema.{IsSchema, table_named}
use Rattle.row_types.specs.Tables.{TableRows, Tables, IsTableRows, AreTables, schema_of}
use Rattle.key_space.specs.Plays.{Rows, changed}
use Rattle.sql_parse.specs.declared.statement.Statement.{Statement}
use Rattle.sql_parse.specs.declared.statement.Statement.TheVariants as statements
use Rattle.sql_parse.specs.declared.statement.Select.{Select}
use Rattle.sql_parse.specs.declared.statement.Totals.{Totals}
use Rattle.sql_check.specs.declared.fault.CheckFault.{CheckFault}
use Rattle.sql_check.specs.declared.fault.CheckFault.TheVariants as faults
use Rattle.sql_check.specs.declared.fault.CheckFault.TheVariants.{NoTable}
use Rattle.sql_check.specs.Columns.{def_named, table_number}
use Rattle.sql_check.specs.Misfits.{misfit, fault_in, fault_on, table_of}
use Rattle.sql_check.specs.Plans.{number_of}
use Rattle.sql_check.specs.Valued.{HasValues}
use Rattle.plain_model.specs.declared.reply.Reply.{Reply}
use Rattle.plain_model.specs.declared.reply.Reply.TheVariants as reply
use Rattle.plain_model.specs.declared.reply.Refusal.{Refusal}
use Rattle.plain_model.specs.declared.reply.Refusal.TheVariants.{Range}
use Rattle.plain_model.specs.Refusals.{refusal_of_check}
use Rattle.plain_model.specs.Meaning.{count_of, kept, duplicate, inserts_unless, is_out_of_range, updated, acts, table_at, unfit, means_unless, means}
use Rattle.sql_check.proofs.NamedTables.{found_at}
use Rattle.plain_model.proofs.Stays.{acts_stay}

-- tables of which one gets the rows that it has are the same
pub changed_same : (tables : Tables) (n : ℕ) (rows_of : TableRows → Rows) → rows_of (table_at tables n) ≡ (table_at tables n).rows → changed tables n rows_of ≡ tables
changed_same [] n rows_of e = refl
changed_same (t ∷ tables) zero rows_of e = ap (λ (rows : Rows). record t { rows = rows } ∷ tables) e
changed_same (t ∷ tables) (suc n) rows_of e = ap (λ (ts : Tables). t ∷ ts) (changed_same tables n rows_of e)

-- ---- a refused statement

insert_refused : (def : TableDef) (rows new : Rows) (o : Option (List Value)) (refusal : Refusal) → (inserts_unless o def new rows).0 ≡ reply.Refused refusal → (inserts_unless o def new rows).1 ≡ rows
insert_refused def rows new None refusal e = absurd cc
insert_refused def rows new (Some row) refusal e = refl

-- the first where the test holds, else the second
abbrev either : Bool → Reply × Rows → Reply × Rows → Reply × Rows
either b x y = cond b x y

update_refused : (b : Bool) (n : ℕ) (rows new : Rows) (refusal : Refusal)
    → (either b (reply.Refused Range, rows) (reply.Many n, new)).0 ≡ reply.Refused refusal → (either b (reply.Refused Range, rows) (reply.Many n, new)).1 ≡ rows
update_refused true n rows new refusal e = refl
update_refused false n rows new refusal e = absurd cc

acts_refused : (def : TableDef) (statement : Statement) (rows : Rows) (refusal : Refusal) → (acts def statement rows).0 ≡ reply.Refused refusal → (acts def statement rows).1 ≡ rows
acts_refused def (statements.Insert s) rows refusal e = insert_refused def rows s.rows (duplicate def.keys rows s.rows) refusal e
acts_refused def (statements.Select s) rows refusal e = refl
acts_refused def (statements.Totals s) rows refusal e = refl
acts_refused def (statements.Update s) rows refusal e =
    update_refused (is_out_of_range def.columns s.changes (kept def.columns s.conditions rows)) (count_of (kept def.columns s.conditions rows)) rows (map (updated def.columns s.changes s.conditions) rows) refusal e
acts_refused def (statements.Delete s) rows refusal e = absurd cc
acts_refused def (statements.Create created) rows refusal e = refl
acts_refused def statements.Begin rows refusal e = refl
acts_refused def statements.Commit rows refusal e = refl
acts_refused def statements.Rollback rows refusal e = refl

refused_unless : (o : Option Refusal) (tables : Tables) (statement : Statement) (refusal : Refusal) → (means_unless o tables statement).0 ≡ reply.Refused refusal → (means_unless o tables statement).1 ≡ tables
refused_unless None tables statement refusal e =
    let n = number_of (schema_of tables) statement in
    changed_same tables n (λ t. (acts t.def statement t.rows).1) (acts_refused (table_at tables n).def statement (table_at tables n).rows refusal e)
refused_unless (Some first) tables statement refusal e = refl

pub refused_leaves : (tables : Tables) (statement : Statement) (refusal : Refusal) → (means tables statement).0 ≡ reply.Refused refusal → (means tables statement).1 ≡ tables
refused_leaves tables statement refusal e = refused_unless (unfit tables statement) tables statement refusal e

-- ---- SELECT

same_unless : (o : Option Refusal) (tables : Tables) (statement : Statement) → ((def : TableDef) (rows : Rows) → (acts def statement rows).1 ≡ rows) → (means_unless o tables statement).1 ≡ tables
same_unless None tables statement same = let n = number_of (schema_of tables) statement in changed_same tables n (λ t. (acts t.def statement t.rows).1) (same (table_at tables n).def (table_at tables n).rows)
same_unless (Some refusal) tables statement same = refl

pub select_leaves : (tables : Tables) (s : Select) → (means tables (statements.Select s)).1 ≡ tables
select_leaves tables s = same_unless (unfit tables (statements.Select s)) tables (statements.Select s) (λ def rows. refl)

pub totals_leave : (tables : Tables) (s : Totals) → (means tables (statements.Totals s)).1 ≡ tables
totals_leave tables s = same_unless (unfit tables (statements.Totals s)) tables (statements.Totals s) (λ def rows. refl)

-- ---- tables stay tables

-- it isn't that memory ran out
abbrev IsReal : Option CheckFault → Type 0
IsReal o = o ≡ Some faults.OutOfMemory → ⊥

pub map_get : {A B : Type 0} (f : A → B) (xs : List A) (n : ℕ) (x : A) → slice_get xs n ≡ Some x → slice_get (map f xs) n ≡ Some (f x)
map_get f [] n x e = absurd cc
map_get f (y ∷ ys) zero x e = let same : y ≡ x = cc in ap (λ z. Some (f z)) same
map_get f (y ∷ ys) (suc n) x e = map_get f ys n x e

pub schema_changed : (tables : Tables) (n : ℕ) (rows_of : TableRows → Rows) → schema_of (changed tables n rows_of) ≡ schema_of tables
schema_changed [] n rows_of = refl
schema_changed (t ∷ tables) zero rows_of = refl
schema_changed (t ∷ tables) (suc n) rows_of = ap (λ (defs : List TableDef). t.def ∷ defs) (schema_changed tables n rows_of)

pub rows_changed : (tables : Tables) (n : ℕ) (rows_of : TableRows → Rows) → AllByRecursion IsTableRows tables
    → ((t : TableRows) → slice_get tables n ≡ Some t → IsTableRows t → IsTableRows (record t { rows = rows_of t })) → AllByRecursion IsTableRows (changed tables n rows_of)
rows_changed [] n rows_of all keeps = tt
rows_changed (t ∷ tables) zero rows_of all keeps = (keeps t refl all.0, all.1)
rows_changed (t ∷ tables) (suc n) rows_of all keeps = (all.0, rows_changed tables n rows_of all.1 keeps)

-- a statement that fits is on no table, or on one in which it has no fault
fault_none : (defs : List TableDef) (statement : Statement) (name : List ℕ) (o : Option TableDef) → def_named defs name ≡ o → option_map_or (λ def. fault_in def statement) o (Some NoTable) ≡ None
    → (def : TableDef) × (def_named defs name ≡ Some def) × (fault_in def statement ≡ None)
fault_none defs statement name None e none = absurd cc
fault_none defs statement name (Some def) e none = (def, e, none)

named_at : (defs : List TableDef) (name : List ℕ) (def : TableDef) → def_named defs name ≡ Some def → slice_get defs (unwrap_or (table_named defs name) 0) ≡ Some def
named_at defs name def e =
    let at = found_at (λ (t : TableDef). bytes_eq t.name name) 0 defs def e in
    let plain : 0 + at.0 ≡ at.0 = omega arith in
    ap (λ o. slice_get defs (unwrap_or o 0)) (at.1 ∙ ap Some plain) ∙ at.2

-- the statement has no fault in table number n
fits_in : (tables : Tables) (statement : Statement) (o : Option (List ℕ)) → table_of statement ≡ o → option_map_or (fault_on (schema_of tables) statement) o None ≡ None
    → (t : TableRows) → slice_get tables (option_map_or (table_number (schema_of tables)) o 0) ≡ Some t → fault_in t.def statement ≡ None
fits_in tables statement None e none t at = no_table statement e t.def
  where
    no_table : (s : Statement) → table_of s ≡ None → (def : TableDef) → fault_in def s ≡ None
    no_table (statements.Insert s) e def = absurd cc
    no_table (statements.Select s) e def = absurd cc
    no_table (statements.Totals s) e def = absurd cc
    no_table (statements.Update s) e def = absurd cc
    no_table (statements.Delete s) e def = absurd cc
    no_table (statements.Create created) e def = refl
    no_table statements.Begin e def = refl
    no_table statements.Commit e def = refl
    no_table statements.Rollback e def = refl
fits_in tables statement (Some name) e none t at =
    let found = fault_none (schema_of tables) statement name (def_named (schema_of tables) name) refl none in
    let here = named_at (schema_of tables) name found.0 found.1 in
    let there = map_get (λ (x : TableRows). x.def) tables (table_number (schema_of tables) name) t at in
    let same : t.def ≡ found.0 = cc in
    subst (λ def. fault_in def statement ≡ None) (sym same) found.2

pub acts_keep : (tables : Tables) (statement : Statement) → misfit (schema_of tables) statement ≡ None → HasValues statement → AreTables tables
    → (t : TableRows) → slice_get tables (number_of (schema_of tables) statement) ≡ Some t → IsTableRows t → IsTableRows (record t { rows = (acts t.def statement t.rows).1 })
acts_keep tables statement none valued are t at is = acts_stay t.def t.rows statement (fits_in tables statement (table_of statement) refl none t at) valued is

stays_unless : (tables : Tables) (statement : Statement) (o : Option CheckFault) → misfit (schema_of tables) statement ≡ o → IsReal o → HasValues statement → AreTables tables → AreTables (means_unless (option_and_then refusal_of_check o) tables statement).1
stays_unless tables statement None e real valued are =
    let n = number_of (schema_of tables) statement in
    record {
      schema = subst IsSchema (sym (schema_changed tables n (λ t. (acts t.def statement t.rows).1))) are.schema;
      rows = rows_changed tables n (λ t. (acts t.def statement t.rows).1) are.rows (acts_keep tables statement e valued are);
    }
stays_unless tables statement (Some fault) e real valued are = refused_fault fault real
  where
    refused_fault : (f : CheckFault) → (Some f ≡ Some faults.OutOfMemory → ⊥) → AreTables (means_unless (refusal_of_check f) tables statement).1
    refused_fault faults.NoTable real = are
    refused_fault faults.NoColumn real = are
    refused_fault faults.Kind real = are
    refused_fault faults.Order real = are
    refused_fault faults.KeyFixed real = are
    refused_fault faults.Twice real = are
    refused_fault (faults.Count given wanted) real = are
    refused_fault (faults.Length given limit) real = are
    refused_fault faults.OutOfMemory real = absurd (real refl)

pub means_are_tables : ((defs : List TableDef) (statement : Statement) → misfit defs statement ≡ Some faults.OutOfMemory → ⊥) → (tables : Tables) (statement : Statement) → HasValues statement → AreTables tables → AreTables (means tables statement).1
means_are_tables real tables statement valued are = stays_unless tables statement (misfit (schema_of tables) statement) refl (real (schema_of tables) statement) valued are

-- a name of a table has a number
pub is_there : (defs : List TableDef) (name : List ℕ) (def : TableDef) → def_named defs name ≡ Some def → table_named defs name ≡ None → ⊥
is_there defs name def found none = let at = found_at (λ (t : TableDef). bytes_eq t.name name) 0 defs def found in let number : table_named defs name ≡ Some (0 + at.0) = at.1 in cc
