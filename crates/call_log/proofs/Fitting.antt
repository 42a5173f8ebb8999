-- The changes that stand after operations fit, and what the operations lead to are tables.
use Rattle.std.proofs.Common.{◌≡◌, ℕ, zero, suc, ◌+◌, ◌-◌, ◌<◌, Bool, true, false, cond, List, [], ◌∷◌, ◌++◌, length, map, reverse, Some, refl, sym, ◌∙◌, ap, subst, arith}
use Rattle.std.specs.Prelude.{◌==◌, ◌^◌, nat_le, ℤ, pos, negsuc, is_some, slice_get, FitsSigned}
use Rattle.std.specs.List.{AllByRecursion}
use Rattle.std.specs.Int.{w64}
use Rattle.std.proofs.lemmas.Bool.{eqb-true, leb-true, leb-false, lt-ltb, le-leb, lt-leb}
use Rattle.row_types.specs.declared.definition.Column.{Column}
use Rattle.row_types.specs.declared.definition.Kind.{Kind}
use Rattle.row_types.specs.declared.definition.Kind.TheVariants as kinds
use Rattle.row_types.specs.declared.definition.TableDef.{TableDef}
use Rattle.row_types.specs.declared.row.Value.{Value}
use Rattle.row_types.specs.declared.row.Value.TheVariants as values
use Rattle.row_types.specs.Keys.{int_of, key_of_int, row_key}
use Rattle.row_types.specs.Schema.{columns_at, IsSchema}
use Rattle.row_types.specs.Slot.{FitsKind, IsRowOf}
use Rattle.row_types.specs.Tables.{AreTables, IsTableRows, Tables, schema_of}
use Rattle.row_types.proofs.SchemaLaws.{table_count}
use Rattle.key_space.specs.Plays.{Rows, RowOp, Get, Part, Put, Del, UndoTo, row_at, OfTable, AnswersAt, Plays}
use Rattle.key_space.proofs.PlaysLaws.{tables_stay, schema_stays}
use Rattle.plain_model.specs.Calls.{Did, ops_of}
use Rattle.plain_model.specs.CallPlays.{latest, moments_of, OpsPlay}
use Rattle.plain_model.proofs.CallLaws.{plays_as_listed}
use Rattle.plain_model.proofs.Checked.{fits_of}
use Rattle.op_log.specs.Changes.{IsChange}
use Rattle.op_log.specs.declared.change.RowChange.{RowChange}
use Rattle.op_log.specs.declared.change.RowChange.TheVariants as change
use Rattle.call_log.specs.Standing.{int_of_key, changes_at, latest_changes, with_del, changes_behind, change_moments, standing}

-- ---- keys and their numbers

number_by : (key : ℕ) (b : Bool) → nat_le (2 ^ 63) key ≡ b → key < 2 ^ 64 → FitsSigned w64 (cond b (pos (key - 2 ^ 63)) (negsuc (2 ^ 63 - key - 1)))
number_by key true e small = let least = leb-true (2 ^ 63) key e in fits_of (pos (key - 2 ^ 63)) (lt-ltb _ _ (omega arith))
number_by key false e small = let less = leb-false (2 ^ 63) key e in fits_of (negsuc (2 ^ 63 - key - 1)) (lt-ltb _ _ (omega arith))

-- a key of 64 bits is that of a whole number of 64 bits
pub key_number_fits : (key : ℕ) → key < 2 ^ 64 → FitsSigned w64 (int_of_key key)
key_number_fits key small = number_by key (nat_le (2 ^ 63) key) refl small

again_by : (key : ℕ) (number : ℤ) (b : Bool) → nat_le (2 ^ 63) key ≡ b → cond b (pos (key - 2 ^ 63)) (negsuc (2 ^ 63 - key - 1)) ≡ number → int_of_key key ≡ number
again_by key number b e is = ap (λ t. cond t (pos (key - 2 ^ 63)) (negsuc (2 ^ 63 - key - 1))) e ∙ is

pub number_again : (number : ℤ) → FitsSigned w64 number → int_of_key (key_of_int number) ≡ number
number_again (pos n) fits =
    let same : 2 ^ 63 + n - 2 ^ 63 ≡ n = omega arith in
    again_by (2 ^ 63 + n) (pos n) true (le-leb _ _ (omega arith)) (ap pos same)
number_again (negsuc n) fits =
    let less : n < 2 ^ 63 = omega (arith, fits.sfits) in
    let same : 2 ^ 63 - (2 ^ 63 - suc n) - 1 ≡ n = omega arith in
    again_by (2 ^ 63 - suc n) (negsuc n) false (lt-leb _ _ (omega arith)) (ap negsuc same)

small : (number : ℤ) → FitsSigned w64 number → key_of_int number < 2 ^ 64
small (pos n) fits = omega (arith, fits.sfits)
small (negsuc n) fits = omega (arith, fits.sfits)

zero_fits : FitsSigned w64 (pos 0)
zero_fits = fits_of (pos 0) refl

value_fits : (kind : Kind) (value : Value) → FitsKind kind value → FitsSigned w64 (int_of (Some value))
value_fits kinds.Int (values.Int number) fits = fits
value_fits (kinds.Text limit) (values.Text text) fits = zero_fits
value_fits kinds.Int (values.Text text) fits = absurd fits
value_fits (kinds.Text limit) (values.Int number) fits = absurd fits

place_fits : (columns : List Column) (row : List Value) (n : ℕ) → IsRowOf columns row → FitsSigned w64 (int_of (slice_get row n))
place_fits columns [] n fits = zero_fits
place_fits (c ∷ columns) (v ∷ row) zero fits = value_fits c.kind v fits.0
place_fits (c ∷ columns) (v ∷ row) (suc n) fits = place_fits columns row n fits.1
place_fits [] (v ∷ row) n fits = absurd fits

row_key_small : (columns : List Column) (marks : List ℕ) (row : List Value) → IsRowOf columns row → row_key marks row < 2 ^ 64
row_key_small columns [] row fits = omega arith
row_key_small columns (mark ∷ marks) row fits = small (int_of (slice_get row mark)) (place_fits columns row mark fits)

found_by : (marks : List ℕ) (key : ℕ) (row : List Value) (rows : Rows) (b : Bool) → row_key marks row == key ≡ b → row_key marks row < 2 ^ 64
    → (true ≡ is_some (row_at marks rows key) → key < 2 ^ 64) → true ≡ is_some (cond b (Some row) (row_at marks rows key)) → key < 2 ^ 64
found_by marks key row rows true e here rest some = let same = eqb-true (row_key marks row) key e in omega arith
found_by marks key row rows false e here rest some = rest some

-- the key of a row that is there has 64 bits
found_small : (columns : List Column) (marks : List ℕ) (key : ℕ) (rows : Rows) → AllByRecursion (IsRowOf columns) rows → true ≡ is_some (row_at marks rows key) → key < 2 ^ 64
found_small columns marks key [] fits some = absurd (let e = some in cc)
found_small columns marks key (row ∷ rows) fits some =
    found_by marks key row rows (row_key marks row == key) refl (row_key_small columns marks row fits.0) (found_small columns marks key rows fits.1) some

-- ---- one change

put_fits : (tables : Tables) (n : ℕ) (row : List Value) → OfTable tables n (λ t. IsRowOf t.def.columns row) → (n < length (schema_of tables)) × IsRowOf (columns_at (schema_of tables) n) row
put_fits [] n row of = absurd of
put_fits (t ∷ tables) zero row of = (omega arith, of)
put_fits (t ∷ tables) (suc n) row of = let rest = put_fits tables n row of in let less = rest.0 in (omega arith, rest.1)

del_fits : (tables : Tables) (n key : ℕ) → AllByRecursion IsTableRows tables → OfTable tables n (λ t. true ≡ is_some (row_at t.def.keys t.rows key)) → (n < length (schema_of tables)) × (key < 2 ^ 64)
del_fits [] n key rows of = absurd of
del_fits (t ∷ tables) zero key rows of = (omega arith, found_small t.def.columns t.def.keys key t.rows rows.0.fits of)
del_fits (t ∷ tables) (suc n) key rows of = let rest = del_fits tables n key rows.1 of in let less = rest.0 in (omega arith, rest.1)

in_schema : (defs : List TableDef) (n : ℕ) → IsSchema defs → n < length defs → (n < length defs) × (n < 2 ^ 16)
in_schema defs n schema less = let few = table_count defs schema in (less, omega arith)

-- ---- operations lead to tables

ops_again : (ops : List RowOp) → ops_of (map Did ops) ≡ ops
ops_again [] = refl
ops_again (op ∷ ops) = ap (λ (os : List RowOp). op ∷ os) (ops_again ops)

plays_listed : (first : Tables) (ops : List RowOp) → OpsPlay first ops → Plays first (reverse ops) (latest (moments_of first ops))
plays_listed first ops play =
    subst (λ (os : List RowOp). OpsPlay first os → Plays first (reverse os) (latest (moments_of first os))) (ops_again ops) (λ p. plays_as_listed first (map Did ops) p) play

pub moments_are_tables : (first : Tables) (ops : List RowOp) → AreTables first → OpsPlay first ops → AreTables (latest (moments_of first ops)) × (schema_of (latest (moments_of first ops)) ≡ schema_of first)
moments_are_tables first ops are play =
    (tables_stay first (latest (moments_of first ops)) (reverse ops) are (plays_listed first ops play), schema_stays first (latest (moments_of first ops)) (reverse ops) are (plays_listed first ops play))

-- ---- what stands fits

module _ (defs : List TableDef) where
  abbrev pub Fit : List RowChange → Type 0
  Fit changes = AllByRecursion (IsChange defs) changes

  fit_more : (changes : List RowChange) (c : RowChange) → Fit changes → IsChange defs c → Fit (changes ++ c ∷ [])
  fit_more [] c fits one = (one, tt)
  fit_more (x ∷ changes) c fits one = (fits.0, fit_more changes c fits.1 one)

  fit_by : (b : Bool) (now before : List RowChange) → Fit now → Fit before → Fit (cond b now before)
  fit_by true now before fits rest = fits
  fit_by false now before fits rest = rest

  fit_at : (n : ℕ) (cs : List (List RowChange)) → AllByRecursion Fit cs → Fit (changes_at n cs)
  fit_at n [] fits = tt
  fit_at n (c ∷ cs) fits = fit_by (length cs == n) c (changes_at n cs) fits.0 (fit_at n cs fits.1)

  fit_latest : (cs : List (List RowChange)) → AllByRecursion Fit cs → Fit (latest_changes cs)
  fit_latest [] fits = tt
  fit_latest (c ∷ cs) fits = fits.0

  fit_del : (table key : ℕ) (answer : Bool) (changes : List RowChange) → Fit changes → (true ≡ answer → IsChange defs (change.Del table (int_of_key key))) → Fit (with_del answer table key changes)
  fit_del table key true changes fits one = fit_more changes (change.Del table (int_of_key key)) fits (one refl)
  fit_del table key false changes fits one = fits

  -- tables of this schema
  record OfDefs (tables : Tables) : Type 0 where
    are : AreTables tables
    same : schema_of tables ≡ defs

  put_change : (tables : Tables) (n : ℕ) (row : List Value) → OfDefs tables → OfTable tables n (λ t. IsRowOf t.def.columns row) → IsChange defs (change.Put n row)
  put_change tables n row of says =
      subst (λ (ds : List TableDef). IsChange ds (change.Put n row)) of.same (let fits = put_fits tables n row says in (in_schema (schema_of tables) n of.are.schema fits.0, fits.1))

  del_change : (tables : Tables) (n key : ℕ) → OfDefs tables → OfTable tables n (λ t. true ≡ is_some (row_at t.def.keys t.rows key)) → IsChange defs (change.Del n (int_of_key key))
  del_change tables n key of says =
      subst (λ (ds : List TableDef). IsChange ds (change.Del n (int_of_key key))) of.same
      (let fits = del_fits tables n key of.are.rows says in (in_schema (schema_of tables) n of.are.schema fits.0, key_number_fits key fits.1))

  fit_behind : (tables : Tables) (n : ℕ) (cs : List (List RowChange)) (op : RowOp) → AllByRecursion Fit cs → OfDefs tables → AnswersAt tables n op → Fit (changes_behind cs op)
  fit_behind tables n cs (Get table key answer) fits of says = fit_latest cs fits
  fit_behind tables n cs (Part table from upto answer) fits of says = fit_latest cs fits
  fit_behind tables n cs (Put table row) fits of says = fit_more (latest_changes cs) (change.Put table row) (fit_latest cs fits) (put_change tables table row of says)
  fit_behind tables n cs (Del table key answer) fits of says =
      fit_del table key answer (latest_changes cs) (fit_latest cs fits) (λ e. del_change tables table key of (subst (λ b. OfTable tables table (λ t. b ≡ is_some (row_at t.def.keys t.rows key))) (sym e) says))
  fit_behind tables n cs (UndoTo count) fits of says = fit_at count cs fits

  fit_moments : (first : Tables) (ops : List RowOp) → OfDefs first → OpsPlay first ops → AllByRecursion Fit (change_moments ops)
  fit_moments first [] of play = (tt, tt)
  fit_moments first (op ∷ ops) of play =
      let now = moments_are_tables first ops of.are play.1 in
      let of_now : OfDefs (latest (moments_of first ops)) = record { are = now.0; same = now.1 ∙ of.same } in
      let before = fit_moments first ops of play.1 in
      (fit_behind (latest (moments_of first ops)) (length ops) (change_moments ops) op before of_now play.0, before)

pub changes_fit : (first : Tables) (ops : List RowOp) → AreTables first → OpsPlay first ops → AllByRecursion (IsChange (schema_of first)) (standing ops)
changes_fit first ops are play = fit_latest (schema_of first) (change_moments ops) (fit_moments (schema_of first) first ops (record { are = are; same = refl }) play)
