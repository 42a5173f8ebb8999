-- Row operations play to one list of tables, and tables stay tables.
use Rattle.std.proofs.Common.{◌≡◌, ℕ, zero, suc, ◌<◌, Bool, true, false, not, cond, List, [], ◌∷◌, ◌++◌, length, map, refl, sym, ◌∙◌, ap, subst, arith}
use Rattle.std.specs.Prelude.{nat_lt, ◌==◌, slice_index_or}
use Rattle.std.specs.List.{filter, AllByRecursion}
use Rattle.std.proofs.lemmas.Bool.{ltb-true}
use Rattle.row_types.specs.declared.row.Value.{Value}
use Rattle.row_types.specs.declared.definition.TableDef.{TableDef}
use Rattle.row_types.specs.Slot.{IsRowOf}
use Rattle.row_types.specs.Schema.{IsSchema}
use Rattle.row_types.specs.Keys.{row_key}
use Rattle.row_types.specs.Tables.{TableRows, Tables, AreRising, IsTableRows, AreTables, schema_of}
use Rattle.key_space.specs.Plays.{Rows, RowOp, Get, Part, Put, Del, UndoTo, with_row, without_key, changed, OfTable, AnswersAt, tables_after, PlaysOn, Plays}

once : (before : List Tables) (tables a b : Tables) (ops : List RowOp) → PlaysOn before tables ops a → PlaysOn before tables ops b → a ≡ b
once before tables a b [] p q = sym p ∙ q
once before tables a b (op ∷ ops) p q = once (before ++ tables ∷ []) (tables_after (before ++ tables ∷ []) tables op) a b ops p.1 q.1

pub plays_once : (first a b : Tables) (ops : List RowOp) → Plays first ops a → Plays first ops b → a ≡ b
plays_once first a b ops p q = once [] first a b ops p q

-- ---- rows in order

module _ (marks : List ℕ) where
  abbrev pub Rise : Rows → Type 0
  Rise rows = AreRising (map (row_key marks) rows)

  above_filter : (k : ℕ) (test : List Value → Bool) (rows : Rows) → AllByRecursion (λ other. k < other) (map (row_key marks) rows) → AllByRecursion (λ other. k < other) (map (row_key marks) (filter test rows))
  above_filter k test [] all = tt
  above_filter k test (row ∷ rows) all =
      elim (test row) as (λ b. AllByRecursion (λ other. k < other) (map (row_key marks) (cond b (row ∷ filter test rows) (filter test rows)))) [
        | true ↦ (all.0, above_filter k test rows all.1)
        | false ↦ above_filter k test rows all.1
      ]

  pub rise_filter : (test : List Value → Bool) (rows : Rows) → Rise rows → Rise (filter test rows)
  rise_filter test [] rise = tt
  rise_filter test (row ∷ rows) rise =
      elim (test row) as (λ b. Rise (cond b (row ∷ filter test rows) (filter test rows))) [
        | true ↦ (above_filter (row_key marks row) test rows rise.0, rise_filter test rows rise.1)
        | false ↦ rise_filter test rows rise.1
      ]

  below_step : (k : ℕ) (row : List Value) (rest : Rows) → AllByRecursion (λ r. row_key marks r < k) rest → (b : Bool) → nat_lt (row_key marks row) k ≡ b → AllByRecursion (λ r. row_key marks r < k) (cond b (row ∷ rest) rest)
  below_step k row rest all true e = (ltb-true _ _ e, all)
  below_step k row rest all false e = all

  below_filter : (k : ℕ) (rows : Rows) → AllByRecursion (λ row. row_key marks row < k) (filter (λ other. nat_lt (row_key marks other) k) rows)
  below_filter k [] = tt
  below_filter k (row ∷ rows) = below_step k row (filter (λ other. nat_lt (row_key marks other) k) rows) (below_filter k rows) (nat_lt (row_key marks row) k) refl

  over_step : (k : ℕ) (row : List Value) (rest : Rows) → AllByRecursion (λ other. k < other) (map (row_key marks) rest) → (b : Bool) → nat_lt k (row_key marks row) ≡ b
      → AllByRecursion (λ other. k < other) (map (row_key marks) (cond b (row ∷ rest) rest))
  over_step k row rest all true e = (ltb-true _ _ e, all)
  over_step k row rest all false e = all

  over_filter : (k : ℕ) (rows : Rows) → AllByRecursion (λ other. k < other) (map (row_key marks) (filter (λ other. nat_lt k (row_key marks other)) rows))
  over_filter k [] = tt
  over_filter k (row ∷ rows) = over_step k row (filter (λ other. nat_lt k (row_key marks other)) rows) (over_filter k rows) (nat_lt k (row_key marks row)) refl

  above_more : (k l : ℕ) (rows : Rows) → k < l → AllByRecursion (λ other. l < other) (map (row_key marks) rows) → AllByRecursion (λ other. k < other) (map (row_key marks) rows)
  above_more k l [] lt all = tt
  above_more k l (row ∷ rows) lt all = (omega (arith, all.0), above_more k l rows lt all.1)

  above_join : (k : ℕ) (row : List Value) (low high : Rows) → AllByRecursion (λ other. k < other) (map (row_key marks) low) → k < row_key marks row → AllByRecursion (λ other. k < other) (map (row_key marks) high)
      → AllByRecursion (λ other. k < other) (map (row_key marks) (low ++ row ∷ high))
  above_join k row [] high all lt over = (lt, over)
  above_join k row (r ∷ low) high all lt over = (all.0, above_join k row low high all.1 lt over)

  rise_join : (row : List Value) (low high : Rows) → Rise low → Rise high → AllByRecursion (λ r. row_key marks r < row_key marks row) low → AllByRecursion (λ other. row_key marks row < other) (map (row_key marks) high)
      → Rise (low ++ row ∷ high)
  rise_join row [] high rise-low rise-high under over = (over, rise-high)
  rise_join row (r ∷ low) high rise-low rise-high under over =
      (above_join (row_key marks r) row low high rise-low.0 under.0 (above_more (row_key marks r) (row_key marks row) high under.0 over), rise_join row low high rise-low.1 rise-high under.1 over)

  pub rise_with_row : (rows : Rows) (row : List Value) → Rise rows → Rise (with_row marks rows row)
  rise_with_row rows row rise =
      let k = row_key marks row in
      rise_join row (filter (λ other. nat_lt (row_key marks other) k) rows) (filter (λ other. nat_lt k (row_key marks other)) rows)
      (rise_filter (λ other. nat_lt (row_key marks other) k) rows rise) (rise_filter (λ other. nat_lt k (row_key marks other)) rows rise) (below_filter k rows) (over_filter k rows)

pub all_filter : (P : List Value → Type 0) (test : List Value → Bool) (rows : Rows) → AllByRecursion P rows → AllByRecursion P (filter test rows)
all_filter P test [] all = tt
all_filter P test (row ∷ rows) all =
    elim (test row) as (λ b. AllByRecursion P (cond b (row ∷ filter test rows) (filter test rows))) [ true ↦ (all.0, all_filter P test rows all.1) | false ↦ all_filter P test rows all.1 ]

all_join : (P : List Value → Type 0) (low high : Rows) (row : List Value) → AllByRecursion P low → P row → AllByRecursion P high → AllByRecursion P (low ++ row ∷ high)
all_join P [] high row low-all one high-all = (one, high-all)
all_join P (r ∷ low) high row low-all one high-all = (low-all.0, all_join P low high row low-all.1 one high-all)

pub put_rows : (t : TableRows) (row : List Value) → IsTableRows t → IsRowOf t.def.columns row → IsTableRows (record t { rows = with_row t.def.keys t.rows row })
put_rows t row is fits = record {
  fits = all_join (IsRowOf t.def.columns) _ _ row (all_filter (IsRowOf t.def.columns) _ t.rows is.fits) fits (all_filter (IsRowOf t.def.columns) _ t.rows is.fits);
  rising = rise_with_row t.def.keys t.rows row is.rising;
}

del_rows : (t : TableRows) (key : ℕ) → IsTableRows t → IsTableRows (record t { rows = without_key t.def.keys t.rows key })
del_rows t key is = record {
  fits = all_filter (IsRowOf t.def.columns) _ t.rows is.fits;
  rising = rise_filter t.def.keys (λ row. not (row_key t.def.keys row == key)) t.rows is.rising;
}

-- ---- tables

-- the rows of tables whose definitions are these
record OfSchema (defs : List TableDef) (tables : Tables) : Type 0 where
  same : schema_of tables ≡ defs
  rows : AllByRecursion IsTableRows tables

schema_of-changed : (tables : Tables) (n : ℕ) (rows_of : TableRows → Rows) → schema_of (changed tables n rows_of) ≡ schema_of tables
schema_of-changed [] n rows_of = refl
schema_of-changed (t ∷ tables) zero rows_of = refl
schema_of-changed (t ∷ tables) (suc n) rows_of = ap (λ (defs : List TableDef). t.def ∷ defs) (schema_of-changed tables n rows_of)

put_tables : (tables : Tables) (n : ℕ) (row : List Value) → AllByRecursion IsTableRows tables → OfTable tables n (λ t. IsRowOf t.def.columns row)
    → AllByRecursion IsTableRows (changed tables n (λ t. with_row t.def.keys t.rows row))
put_tables [] n row all of = tt
put_tables (t ∷ tables) zero row all of = (put_rows t row all.0 of, all.1)
put_tables (t ∷ tables) (suc n) row all of = (all.0, put_tables tables n row all.1 of)

del_tables : (tables : Tables) (n key : ℕ) → AllByRecursion IsTableRows tables → AllByRecursion IsTableRows (changed tables n (λ t. without_key t.def.keys t.rows key))
del_tables [] n key all = tt
del_tables (t ∷ tables) zero key all = (del_rows t key all.0, all.1)
del_tables (t ∷ tables) (suc n) key all = (all.0, del_tables tables n key all.1)

module _ (defs : List TableDef) where
  moment_is : (moments : List Tables) (n : ℕ) (other : Tables) → AllByRecursion (OfSchema defs) moments → OfSchema defs other → OfSchema defs (slice_index_or moments n other)
  moment_is [] n other all are = are
  moment_is (m ∷ moments) zero other all are = all.0
  moment_is (m ∷ moments) (suc n) other all are = moment_is moments n other all.1 are

  moments_push : (before : List Tables) (tables : Tables) → AllByRecursion (OfSchema defs) before → OfSchema defs tables → AllByRecursion (OfSchema defs) (before ++ tables ∷ [])
  moments_push [] tables all are = (are, tt)
  moments_push (m ∷ before) tables all are = (all.0, moments_push before tables all.1 are)

  after_are : (moments : List Tables) (tables : Tables) (n : ℕ) (op : RowOp) → AllByRecursion (OfSchema defs) moments → OfSchema defs tables → AnswersAt tables n op → OfSchema defs (tables_after moments tables op)
  after_are moments tables n (Get table key answer) all are says = are
  after_are moments tables n (Part table from upto answer) all are says = are
  after_are moments tables n (Put table row) all are says = record { same = schema_of-changed tables table _ ∙ are.same; rows = put_tables tables table row are.rows says }
  after_are moments tables n (Del table key answer) all are says = record { same = schema_of-changed tables table _ ∙ are.same; rows = del_tables tables table key are.rows }
  after_are moments tables n (UndoTo count) all are says = moment_is moments count tables all are

  stay : (before : List Tables) (tables end : Tables) (ops : List RowOp) → AllByRecursion (OfSchema defs) before → OfSchema defs tables → PlaysOn before tables ops end → OfSchema defs end
  stay before tables end [] all are plays = subst (OfSchema defs) plays are
  stay before tables end (op ∷ ops) all are plays =
      let moments = moments_push before tables all are in
      stay (before ++ tables ∷ []) (tables_after (before ++ tables ∷ []) tables op) end ops moments (after_are (before ++ tables ∷ []) tables (length before) op moments are plays.0) plays.1

of_schema : (first end : Tables) (ops : List RowOp) → AreTables first → Plays first ops end → OfSchema (schema_of first) end
of_schema first end ops are plays = stay (schema_of first) [] first end ops tt (record { same = refl; rows = are.rows }) plays

pub tables_stay : (first end : Tables) (ops : List RowOp) → AreTables first → Plays first ops end → AreTables end
tables_stay first end ops are plays =
    let of = of_schema first end ops are plays in
    record { schema = subst IsSchema (sym of.same) are.schema; rows = of.rows }

pub schema_stays : (first end : Tables) (ops : List RowOp) → AreTables first → Plays first ops end → schema_of end ≡ schema_of first
schema_stays first end ops are plays = (of_schema first end ops are plays).same
