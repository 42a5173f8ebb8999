-- The rows that pass the tests of a plan lie in its range.
use Rattle.std.proofs.Common.{◌≡◌, inl, inr, ◌⊎◌, ℕ, zero, suc, ◌+◌, ◌≤◌, Bool, true, false, cond, List, [], ◌∷◌, slice_get, Option, None, Some, refl, sym, ap, subst, ◌∙◌, arith}
use Rattle.std.specs.List.{AllByRecursion, filter}
use Rattle.std.proofs.lemmas.Bool.{lt-ltb, le-leb}
use Rattle.row_types.specs.declared.definition.TableDef.{TableDef}
use Rattle.row_types.specs.declared.row.Value.{Value}
use Rattle.row_types.specs.Keys.{row_key}
use Rattle.row_types.specs.Schema.{columns_at, columns_of, has_int_key, keys_at, keys_of, IsSchema}
use Rattle.row_types.specs.Slot.{IsRowOf}
use Rattle.row_types.specs.Tables.{Tables, schema_of}
use Rattle.row_types.proofs.SchemaLaws.{table_of_schema}
use Rattle.key_space.specs.declared.range.Range.{Range}
use Rattle.key_space.specs.Plays.{Rows}
use Rattle.sql_check.specs.declared.plan.Test.{Test}
use Rattle.plain_model.specs.Calls.{Call}
use Rattle.plain_model.specs.CallPlays.{tables_of}
use Rattle.plain_model.specs.Meaning.{table_at}
use Rattle.plain_model.specs.PlanMeaning.{passes_all}
use Rattle.plain_model.specs.Runs.{Since}
use Rattle.sql_exec.specs.Acts.{is_in, rows_in}
use Rattle.sql_exec.specs.Fits.{NamesKept}
use Rattle.sql_exec.specs.Plays.{OnTable, PlaysFrom, Turns}
use Rattle.sql_exec.proofs.Calling.{fits_now, schema_now}
use Rattle.sql_exec.proofs.Playing.{plays_since}

-- what follows for one element follows for each
pub all_more : (P Q : List Value → Type 0) (rows : Rows) → ((row : List Value) → P row → Q row) → AllByRecursion P rows → AllByRecursion Q rows
all_more P Q [] more all = tt
all_more P Q (row ∷ rows) more all = (more row all.0, all_more P Q rows more all.1)

filter_one : (test : List Value → Bool) (row : List Value) (rows kept : Rows) (b d : Bool) → test row ≡ b → (b ≡ true → d ≡ true) → filter test kept ≡ filter test rows → filter test (cond d (row ∷ kept) kept) ≡ cond b (row ∷ filter test rows) (filter test rows)
filter_one test row rows kept true true e inside rest = rw e (ap (λ (l : Rows). row ∷ l) rest)
filter_one test row rows kept true false e inside rest = let bad = inside refl in absurd cc
filter_one test row rows kept false true e inside rest = rw e rest
filter_one test row rows kept false false e inside rest = rest

module _ (marks : List ℕ) (lo hi : ℕ) (test : List Value → Bool) where
  abbrev pub LiesIn : List Value → Type 0
  LiesIn row = test row ≡ true → (lo ≤ row_key marks row) × (row_key marks row ≤ hi)

  in_range : (row : List Value) → (lo ≤ row_key marks row) × (row_key marks row ≤ hi) → is_in marks lo (hi + 1) row ≡ true
  in_range row lies = rw (le-leb lo (row_key marks row) lies.0, lt-ltb (row_key marks row) (hi + 1) (omega (arith, lies.1))) refl

  pub filter_in : (rows : Rows) → AllByRecursion LiesIn rows → filter test (rows_in marks lo (hi + 1) rows) ≡ filter test rows
  filter_in [] all = refl
  filter_in (row ∷ rows) all =
      filter_one test row rows (rows_in marks lo (hi + 1) rows) (test row) (is_in marks lo (hi + 1) row) refl (λ passes. in_range row (all.0 passes)) (filter_in rows all.1)

-- a table that isn't there has no rows
none_there : (tables : Tables) (n : ℕ) → slice_get (schema_of tables) n ≡ None → (table_at tables n).rows ≡ []
none_there [] n e = refl
none_there (t ∷ tables) zero e = absurd cc
none_there (t ∷ tables) (suc n) e = none_there tables n e

module _ (defs : List TableDef) (n : ℕ) (first : Tables) (calls : List Call) (plays : PlaysFrom defs first calls) where
  schema_is : IsSchema defs
  schema_is = subst IsSchema plays.schema plays.tables.schema

  -- a table has a whole number as its key, or no rows
  pub has_key : (def : Option TableDef) → slice_get defs n ≡ def → (has_int_key (columns_at defs n) (keys_at defs n) ≡ true) ⊎ ((table_at (tables_of first calls) n).rows ≡ [])
  has_key (Some def) e = inl (subst (λ (d : Option TableDef). has_int_key (columns_of d) (keys_of d) ≡ true) (sym e) (table_of_schema defs n def schema_is e).key)
  has_key None e = inr (none_there (tables_of first calls) n (ap (λ (ds : List TableDef). slice_get ds n) (schema_now defs n first calls plays) ∙ e))

  lie_in : (range : Range) (conditions : List Test) → NamesKept defs n (Some range) conditions → (rows : Rows) → AllByRecursion (IsRowOf (columns_at defs n)) rows
      → (has_int_key (columns_at defs n) (keys_at defs n) ≡ true) ⊎ (rows ≡ []) → AllByRecursion (LiesIn (keys_at defs n) range.lo.number range.hi.number (passes_all conditions)) rows
  lie_in range conditions kept rows fits (inl key) = all_more (IsRowOf (columns_at defs n)) (LiesIn (keys_at defs n) range.lo.number range.hi.number (passes_all conditions)) rows (λ row fit passes. kept row key fit passes) fits
  lie_in range conditions kept rows fits (inr none) = subst (AllByRecursion (LiesIn (keys_at defs n) range.lo.number range.hi.number (passes_all conditions))) (sym none) tt

  pub kept_in : (range : Range) (conditions : List Test) → NamesKept defs n (Some range) conditions
      → filter (passes_all conditions) (rows_in (keys_at defs n) range.lo.number (range.hi.number + 1) (table_at (tables_of first calls) n).rows) ≡ filter (passes_all conditions) (table_at (tables_of first calls) n).rows
  kept_in range conditions kept =
      filter_in (keys_at defs n) range.lo.number range.hi.number (passes_all conditions) (table_at (tables_of first calls) n).rows
      (lie_in range conditions kept (table_at (tables_of first calls) n).rows (fits_now defs n first calls plays) (has_key (slice_get defs n) refl))

-- what follows from it for the rows of a table
pub on_kept : (defs : List TableDef) (n : ℕ) (range : Range) (conditions : List Test) (F G : Rows → Rows → Type 0) (old new : List Call) → NamesKept defs n (Some range) conditions → Since old new
    → ((r s : Rows) → filter (passes_all conditions) (rows_in (keys_at defs n) range.lo.number (range.hi.number + 1) r) ≡ filter (passes_all conditions) r → F r s → G r s) → OnTable defs n F old new → OnTable defs n G old new
on_kept defs n range conditions F G old new kept since more body first plays =
    let turns = body first plays in
    record { others = turns.others; rows = more _ _ (kept_in defs n first old (plays_since defs first old new since plays) range conditions kept) turns.rows }

-- where the tables stay, what was so still is
pub on_same : (defs : List TableDef) (n : ℕ) (F G : Rows → Rows → Type 0) (start old new : List Call) → Since old new → ((first : Tables) → tables_of first new ≡ tables_of first old) → ((r s : Rows) → F r s → G r s)
    → OnTable defs n F start old → OnTable defs n G start new
on_same defs n F G start old new since same more body first plays =
    let turns = body first (plays_since defs first old new since plays) in
    subst (Turns n G (tables_of first start)) (sym (same first)) (record { others = turns.others; rows = more _ _ turns.rows })
