-- Tables whose rows stand in a state.
use Rattle.std.proofs.Common.{◌≡◌, inl, inr, ℕ, zero, suc, ◌<◌, Bool, true, false, not, cond, ◌&&◌, eqb, List, [], ◌∷◌, length, Option, None, Some, refl, sym, ◌∙◌, ap, subst, arith}
use Rattle.std.specs.Prelude.{◌==◌, ◌⊎◌, is_some, slice_get}
use Rattle.std.specs.List.{AllByRecursion}
use Rattle.std.specs.Option.{option_flatten}
use Rattle.std.proofs.lemmas.Bool.{eqb-true}
use Rattle.row_types.specs.declared.definition.TableDef.{TableDef}
use Rattle.row_types.specs.declared.row.Value.{Value}
use Rattle.row_types.specs.Keys.{row_key}
use Rattle.row_types.specs.Schema.{IsSchema, columns_at, keys_at, columns_of, keys_of}
use Rattle.row_types.specs.Slot.{IsRowOf}
use Rattle.row_types.specs.Tables.{TableRows, Tables, IsTableRows, schema_of}
use Rattle.key_space.specs.Plays.{Rows, OfTable, changed, row_at, with_row, without_key}
use Rattle.key_space.proofs.LookUpLaws.{row_at-with_row, row_at-without_key}
use Rattle.key_space.proofs.PlaysLaws.{put_rows, rise_filter, all_filter}
use Rattle.plain_model.proofs.MeaningLaws.{map_get, schema_changed, rows_changed}
use Rattle.txn_rows.specs.Steps.{State, IsSame, with_at, Holds}

-- the same where the state is the same
pub holds_same : (defs : List TableDef) (a b : State) (tables : Tables) → IsSame a b → Holds defs a tables → Holds defs b tables
holds_same defs a b tables same holds = record {
  are = holds.are;
  schema = holds.schema;
  rows = λ n t at key. ap option_flatten (sym (same n key)) ∙ holds.rows n t at key;
}

-- the same where the rows are the same
pub holds_rows : (defs : List TableDef) (a b : State) (tables : Tables) → ((n key : ℕ) → option_flatten (b n key) ≡ option_flatten (a n key)) → Holds defs a tables → Holds defs b tables
holds_rows defs a b tables same holds = record {
  are = holds.are;
  schema = holds.schema;
  rows = λ n t at key. same n key ∙ holds.rows n t at key;
}

-- ---- the table with a number

pub table_there : (tables : Tables) (n : ℕ) → n < length tables → (t : TableRows) × (slice_get tables n ≡ Some t)
table_there [] n inside = absurd (omega arith)
table_there (t ∷ tables) zero inside = (t, refl)
table_there (t ∷ tables) (suc n) inside = table_there tables n (omega arith)

pub of_table : (tables : Tables) (n : ℕ) (P : TableRows → Type 0) (t : TableRows) → slice_get tables n ≡ Some t → P t → OfTable tables n P
of_table [] n P t at p = absurd cc
of_table (x ∷ tables) zero P t at p = let same : t ≡ x = cc in subst P same p
of_table (x ∷ tables) (suc n) P t at p = of_table tables n P t at p

pub from_table : (tables : Tables) (n : ℕ) (P : TableRows → Type 0) (t : TableRows) → slice_get tables n ≡ Some t → OfTable tables n P → P t
from_table [] n P t at p = absurd p
from_table (x ∷ tables) zero P t at p = let same : x ≡ t = cc in subst P same p
from_table (x ∷ tables) (suc n) P t at p = from_table tables n P t at p

schema_len : (tables : Tables) → length (schema_of tables) ≡ length tables
schema_len [] = refl
schema_len (t ∷ tables) = let rest = schema_len tables in omega arith

pub tables_len : (defs : List TableDef) (tables : Tables) → schema_of tables ≡ defs → length tables ≡ length defs
tables_len defs tables e = sym (schema_len tables) ∙ ap (λ (ds : List TableDef). length ds) e

pub def_at : (defs : List TableDef) (tables : Tables) (n : ℕ) (t : TableRows) → schema_of tables ≡ defs → slice_get tables n ≡ Some t → slice_get defs n ≡ Some t.def
def_at defs tables n t e at = subst (λ (ds : List TableDef). slice_get ds n ≡ Some t.def) e (map_get (λ (x : TableRows). x.def) tables n t at)

pub keys_are : (defs : List TableDef) (tables : Tables) (n : ℕ) (t : TableRows) → schema_of tables ≡ defs → slice_get tables n ≡ Some t → keys_at defs n ≡ t.def.keys
keys_are defs tables n t e at = ap keys_of (def_at defs tables n t e at)

pub columns_are : (defs : List TableDef) (tables : Tables) (n : ℕ) (t : TableRows) → schema_of tables ≡ defs → slice_get tables n ≡ Some t → columns_at defs n ≡ t.def.columns
columns_are defs tables n t e at = ap columns_of (def_at defs tables n t e at)

pub rows_are : (tables : Tables) (n : ℕ) (t : TableRows) → AllByRecursion IsTableRows tables → slice_get tables n ≡ Some t → IsTableRows t
rows_are [] n t all at = absurd cc
rows_are (x ∷ tables) zero t all at = let same : x ≡ t = cc in subst IsTableRows same all.0
rows_are (x ∷ tables) (suc n) t all at = rows_are tables n t all.1 at

-- ---- a table that is changed

-- a table of changed ones is the changed one, or it was there before
pub changed_at : (tables : Tables) (n m : ℕ) (f : TableRows → Rows) (t : TableRows) → slice_get (changed tables n f) m ≡ Some t
    → (old : TableRows) × (slice_get tables m ≡ Some old) × (((n ≡ m) × (t ≡ record old { rows = f old })) ⊎ ((n ≡ m → ⊥) × (t ≡ old)))
changed_at [] n m f t at = absurd cc
changed_at (x ∷ tables) zero zero f t at = let same : t ≡ record x { rows = f x } = cc in (x, refl, inl (refl, same))
changed_at (x ∷ tables) zero (suc m) f t at = (t, at, inr (λ e. omega (arith, e), refl))
changed_at (x ∷ tables) (suc n) zero f t at = let same : t ≡ x = cc in (x, refl, inr (λ e. omega (arith, e), same))
changed_at (x ∷ tables) (suc n) (suc m) f t at = let rest = changed_at tables n m f t at in (rest.0, rest.1, one rest.2)
  where
    one : {old : TableRows} → ((n ≡ m) × (t ≡ record old { rows = f old })) ⊎ ((n ≡ m → ⊥) × (t ≡ old)) → ((suc n ≡ suc m) × (t ≡ record old { rows = f old })) ⊎ ((suc n ≡ suc m → ⊥) × (t ≡ old))
    one (inl p) = inl (ap suc p.0, p.1)
    one (inr p) = inr (λ e. p.0 (omega (arith, e)), p.1)

not_eqb : (n m : ℕ) → (n ≡ m → ⊥) → eqb n m ≡ false
not_eqb n m other = one (eqb n m) refl
  where
    one : (b : Bool) → eqb n m ≡ b → b ≡ false
    one true e = absurd (other (eqb-true n m e))
    one false e = refl

-- other rows of a table stand in a state
pub holds_changed : (defs : List TableDef) (state new : State) (tables : Tables) (n : ℕ) (f : TableRows → Rows) → Holds defs state tables
    → ((t : TableRows) → slice_get tables n ≡ Some t → IsTableRows t → IsTableRows (record t { rows = f t }))
    → ((t : TableRows) → slice_get tables n ≡ Some t → (key : ℕ) → option_flatten (new n key) ≡ row_at t.def.keys (f t) key)
    → ((m key : ℕ) → (n ≡ m → ⊥) → option_flatten (new m key) ≡ option_flatten (state m key))
    → Holds defs new (changed tables n f)
holds_changed defs state new tables n f holds keeps here other = record {
  are = record {
    schema = subst IsSchema (sym (schema_changed tables n f)) holds.are.schema;
    rows = rows_changed tables n f holds.are.rows keeps;
  };
  schema = schema_changed tables n f ∙ holds.schema;
  rows = λ m t at key. let old = changed_at tables n m f t at in one m key t old.0 old.1 old.2;
}
  where
    one : (m key : ℕ) (t old : TableRows) → slice_get tables m ≡ Some old → ((n ≡ m) × (t ≡ record old { rows = f old })) ⊎ ((n ≡ m → ⊥) × (t ≡ old)) → option_flatten (new m key) ≡ row_at t.def.keys t.rows key
    one m key t old was (inl is) =
        let there : option_flatten (new m key) ≡ row_at old.def.keys (f old) key = subst (λ k. option_flatten (new k key) ≡ row_at old.def.keys (f old) key) is.0 (here old (subst (λ k. slice_get tables k ≡ Some old) (sym is.0) was) key) in
        there ∙ sym (ap (λ (x : TableRows). row_at x.def.keys x.rows key) is.1)
    one m key t old was (inr is) = other m key is.0 ∙ holds.rows m old was key ∙ sym (ap (λ (x : TableRows). row_at x.def.keys x.rows key) is.1)

-- a row is put
pub holds_put : (defs : List TableDef) (state new : State) (tables : Tables) (n : ℕ) (row : List Value) → Holds defs state tables → IsRowOf (columns_at defs n) row → IsSame new (with_at state n (row_key (keys_at defs n) row) (Some (Some row)))
    → Holds defs new (changed tables n (λ t. with_row t.def.keys t.rows row))
holds_put defs state new tables n row holds fits now =
    holds_changed defs state new tables n (λ t. with_row t.def.keys t.rows row) holds
    (λ t at is. put_rows t row is (subst (λ cs. IsRowOf cs row) (columns_are defs tables n t holds.schema at) fits))
    (λ t at key. ap option_flatten (now n key) ∙ here t at key (row_key (keys_at defs n) row == key) refl)
    (λ m key e. ap option_flatten (now m key) ∙ other m key (eqb n m) (not_eqb n m e))
  where
    here : (t : TableRows) → slice_get tables n ≡ Some t → (key : ℕ) (b : Bool) → (row_key (keys_at defs n) row == key) ≡ b
        → option_flatten (cond ((n == n) && b) (Some (Some row)) (state n key)) ≡ row_at t.def.keys (with_row t.def.keys t.rows row) key
    here t at key b e =
        let marks = keys_are defs tables n t holds.schema at in
        let test : (row_key t.def.keys row == key) ≡ b = ap (λ ks. row_key ks row == key) (sym marks) ∙ e in
        let after = row_at-with_row t.def.keys t.rows row key ∙ ap (λ x. cond x (Some row) (row_at t.def.keys t.rows key)) test in
        pick b (state n key) (row_at t.def.keys t.rows key) (holds.rows n t at key) ∙ sym after
      where
        pick : (b : Bool) (o : Option (Option (List Value))) (r : Option (List Value)) → option_flatten o ≡ r → option_flatten (cond ((n == n) && b) (Some (Some row)) o) ≡ cond b (Some row) r
        pick true o r e = let own : (n == n) ≡ true = grind arith in rw own refl
        pick false o r e = let own : (n == n) ≡ true = grind arith in rw own e

    other : (m key : ℕ) (b : Bool) → b ≡ false → option_flatten (cond (b && (row_key (keys_at defs n) row == key)) (Some (Some row)) (state m key)) ≡ option_flatten (state m key)
    other m key true e = absurd cc
    other m key false e = refl

-- a row is taken away
pub holds_del : (defs : List TableDef) (state new : State) (tables : Tables) (n taken : ℕ) → Holds defs state tables
    → ((m key : ℕ) → option_flatten (new m key) ≡ cond ((n == m) && (taken == key)) None (option_flatten (state m key)))
    → Holds defs new (changed tables n (λ t. without_key t.def.keys t.rows taken))
holds_del defs state new tables n taken holds now =
    holds_changed defs state new tables n (λ t. without_key t.def.keys t.rows taken) holds
    (λ t at is. record { fits = all_filter (IsRowOf t.def.columns) _ t.rows is.fits; rising = rise_filter t.def.keys (λ row. not (row_key t.def.keys row == taken)) t.rows is.rising })
    (λ t at key. now n key ∙ own_table key ∙ ap (λ o. cond (taken == key) None o) (holds.rows n t at key) ∙ sym (row_at-without_key t.def.keys t.rows taken key))
    (λ m key e. now m key ∙ other m key (eqb n m) (not_eqb n m e))
  where
    own_table : (key : ℕ) → cond ((n == n) && (taken == key)) None (option_flatten (state n key)) ≡ cond (taken == key) None (option_flatten (state n key))
    own_table key = let own : (n == n) ≡ true = grind arith in rw own refl

    other : (m key : ℕ) (b : Bool) → b ≡ false → cond (b && (taken == key)) None (option_flatten (state m key)) ≡ option_flatten (state m key)
    other m key true e = absurd cc
    other m key false e = refl

-- taking away what isn't there
without_none : (marks : List ℕ) (rows : Rows) (key : ℕ) → row_at marks rows key ≡ None → without_key marks rows key ≡ rows
without_none marks [] key e = refl
without_none marks (row ∷ rows) key e = one (row_key marks row == key) refl e (without_none marks rows key)
  where
    one : (b : Bool) → (row_key marks row == key) ≡ b → cond b (Some row) (row_at marks rows key) ≡ None → (row_at marks rows key ≡ None → without_key marks rows key ≡ rows) → without_key marks (row ∷ rows) key ≡ row ∷ rows
    one true t found rest = absurd cc
    one false t found rest = rw t (ap (λ rs. row ∷ rs) (rest found))

pub changed_none : (tables : Tables) (n key : ℕ) → OfTable tables n (λ t. is_some (row_at t.def.keys t.rows key) ≡ false) → changed tables n (λ t. without_key t.def.keys t.rows key) ≡ tables
changed_none [] n key of = refl
changed_none (t ∷ tables) zero key of = ap (λ (rows : Rows). record t { rows = rows } ∷ tables) (without_none t.def.keys t.rows key (none_of (row_at t.def.keys t.rows key) of))
  where
    none_of : (o : Option (List Value)) → is_some o ≡ false → o ≡ None
    none_of None e = refl
    none_of (Some row) e = absurd cc
changed_none (t ∷ tables) (suc n) key of = ap (λ (ts : Tables). t ∷ ts) (changed_none tables n key of)
