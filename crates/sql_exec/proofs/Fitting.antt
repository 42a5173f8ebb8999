-- The plan of a statement that fits the tables fits them too.
use Rattle.std.proofs.Common.{eq-eqb, ◌≡◌, ℕ, zero, suc, ◌-◌, ◌^◌, ◌<◌, ◌≤◌, min, Bool, true, false, cond, ◌||◌, ◌==◌, nat_lt, List, [], ◌∷◌, ◌++◌, length, map, slice_get, unwrap_or, Option, None, Some, refl, sym, ap, subst, ◌∙◌, arith}
use Rattle.std.specs.Prelude.{option_and_then, option_map}
use Rattle.std.specs.List.{AllByRecursion, find, fold, slice_set}
use Rattle.std.specs.Option.{option_map_or}
use Rattle.std.specs.Str.{bytes_eq}
use Rattle.std.proofs.lemmas.Bool.{ltb-true}
use Rattle.row_types.specs.declared.definition.Column.{Column}
use Rattle.row_types.specs.declared.definition.Kind.{Kind}
use Rattle.row_types.specs.declared.definition.Kind.TheVariants as kinds
use Rattle.row_types.specs.declared.definition.TableDef.{TableDef}
use Rattle.row_types.specs.declared.row.Value.{Value}
use Rattle.row_types.specs.Keys.{int_of, key_of_int, row_key}
use Rattle.row_types.specs.Schema.{column_named, columns_at, has_int_key, keys_at}
use Rattle.row_types.specs.Slot.{IsRowOf}
use Rattle.row_types.proofs.SchemaLaws.{neither}
use Rattle.key_space.specs.declared.range.Range.{Range}
use Rattle.key_space.specs.Plays.{Rows}
use Rattle.key_space.specs.Ranges.{IsNotEmpty}
use Rattle.sql_parse.specs.declared.statement.Change.{Change}
use Rattle.sql_parse.specs.declared.statement.Condition.{Condition}
use Rattle.sql_parse.specs.declared.statement.Statement.{Statement}
use Rattle.sql_parse.specs.declared.statement.Statement.TheVariants as statements
use Rattle.sql_check.specs.declared.plan.Plan.{Plan}
use Rattle.sql_check.specs.Columns.{column_number, def_at, is_marked, kind_named}
use Rattle.sql_check.specs.KeyRange.{IsInRange, end_of, from_of, high_end, key_in, on_key, range_of, range_of_rows}
use Rattle.sql_check.specs.Misfits.{changes_fault, condition_fault, fault_in, first_fault, row_fault, table_of, target_fault}
use Rattle.sql_check.specs.Plans.{assigned, assignment_of, kind_or, number_of, plan_on, test_of}
use Rattle.sql_check.specs.Valued.{HasValues, IsChangeOfValues, IsConditionOfValue, IsPlanOf, IsValue}
use Rattle.sql_check.proofs.NamedTables.{found_at}
use Rattle.plain_model.specs.Meaning.{updates}
use Rattle.plain_model.specs.PlanMeaning.{assigned_value, target_of, with_assignments}
use Rattle.plain_model.specs.Values.{changed_row, is_kept}
use Rattle.plain_model.proofs.Stays.{change_parts, row_fits, target_none, update_stays}
use Rattle.sql_exec.specs.Fits.{ChangesInPlace, FitsTables, IsAbout, IsNamed, IsOfInts, NamesKept}
use Rattle.sql_exec.proofs.Calling.{columns_def, keys_def}
use Rattle.sql_exec.proofs.Naming.{changed_planned, fault_at, kept_passes, number_less}

-- the laws of kept rows and of rows in their range
abbrev pub Keeps : Type 0
Keeps = (def : TableDef) (conditions : List Condition) (row : List Value) → has_int_key def.columns def.keys ≡ true → IsRowOf def.columns row → AllByRecursion IsConditionOfValue conditions → is_kept def.columns conditions row ≡ true
    → IsInRange (range_of def conditions) (row_key def.keys row)

abbrev pub Lies : Type 0
Lies = (marks : List ℕ) (rows : List (List Value)) → AllByRecursion (λ row. IsInRange (range_of_rows marks rows) (row_key marks row)) rows

-- ---- ranges

below_some : (from end : ℕ) (b : Bool) (range : Range) → nat_lt from end ≡ b → cond b (Some (record { lo = record { number = from }; hi = record { number = end - 1 } })) None ≡ Some range → IsNotEmpty range × (range.hi.number < end)
below_some from end false range less e = absurd cc
below_some from end true range less e =
    let low : from < end = ltb-true from end less in
    let is : record { lo = record { number = from }; hi = record { number = end - 1 } } ≡ range = cc in
    subst (λ (r : Range). IsNotEmpty r × (r.hi.number < end)) is (omega (arith, low), omega (arith, low))

least_few : (xs : List ℕ) (most : ℕ) → fold min most xs ≤ most
least_few [] most = omega arith
least_few (x ∷ xs) most = let rest = least_few xs (min most x) in omega (arith, rest)

range_some : (def : TableDef) (conditions : List Condition) (range : Range) → range_of def conditions ≡ Some range → IsNotEmpty range × (range.hi.number < end_of (on_key def conditions))
range_some def conditions range e = below_some (from_of (on_key def conditions)) (end_of (on_key def conditions)) (nat_lt (from_of (on_key def conditions)) (end_of (on_key def conditions))) range refl e

range_ints : (def : TableDef) (conditions : List Condition) → IsOfInts (range_of def conditions)
range_ints def conditions range e =
    let high = (range_some def conditions range e).1 in
    let most : end_of (on_key def conditions) ≤ 2 ^ 64 = least_few (map (λ (c : Condition). high_end c.comparison (key_in c)) (on_key def conditions)) (2 ^ 64) in
    omega (arith, high, most)

rows_some : Lies → (marks : List ℕ) (rows : List (List Value)) (range : Range) → range_of_rows marks rows ≡ Some range → IsNotEmpty range
rows_some lies marks [] range e = absurd cc
rows_some lies marks (row ∷ rows) range e =
    let lie = subst (λ (r : Option Range). IsInRange r (row_key marks row)) e (lies marks (row ∷ rows)).0 in
    omega (arith, lie.0, lie.1)

-- ---- rows of an INSERT

rows_fit : (columns : List Column) (rows : List (List Value)) → first_fault (row_fault columns) rows ≡ None → AllByRecursion (AllByRecursion IsValue) rows → AllByRecursion (IsRowOf columns) rows
rows_fit columns [] none valued = tt
rows_fit columns (row ∷ rows) none valued =
    let both = neither _ _ none in
    (row_fits columns row both.0 valued.0, rows_fit columns rows both.1 valued.1)

both_all : (P Q R : List Value → Type 0) (rows : Rows) → ((row : List Value) → P row → Q row → R row) → AllByRecursion P rows → AllByRecursion Q rows → AllByRecursion R rows
both_all P Q R [] more p q = tt
both_all P Q R (row ∷ rows) more p q = (more row p.0 q.0, both_all P Q R rows more p.1 q.1)

-- ---- new rows in their places

and_then : {A B : Type 0} (f : A → Option B) (o : Option A) (new : B) → option_and_then f o ≡ Some new → (v : A) × (f v ≡ Some new)
and_then f None new e = absurd cc
and_then f (Some v) new e = (v, e)

or_no : (a b : Bool) → (a || b) ≡ false → (a ≡ false) × (b ≡ false)
or_no true b e = absurd cc
or_no false b e = (refl, e)

get_other : (row : List Value) (n k : ℕ) (v : Value) → (k ≡ n → ⊥) → slice_get (slice_set row n v) k ≡ slice_get row k
get_other [] n k v other = refl
get_other (x ∷ row) zero zero v other = absurd (other refl)
get_other (x ∷ row) zero (suc k) v other = refl
get_other (x ∷ row) (suc n) zero v other = refl
get_other (x ∷ row) (suc n) (suc k) v other = get_other row n k v (λ e. other (ap suc e))

key_stays : (marks : List ℕ) (row : List Value) (n : ℕ) (v : Value) → is_marked marks n ≡ false → row_key marks (slice_set row n v) ≡ row_key marks row
key_stays [] row n v free = refl
key_stays (mark ∷ marks) row n v free =
    let other : mark ≡ n → ⊥ = λ e. let yes : (mark == n) ≡ true = eq-eqb mark n e in let no = (or_no (mark == n) (is_marked marks n) free).0 in absurd cc in
    ap (λ o. key_of_int (int_of o)) (get_other row n mark v other)

target_is : (columns : List Column) (n : ℕ) (kind : Kind) (change : Change) → target_of (assigned columns n kind change) ≡ n
target_is columns n kinds.Int change = refl
target_is columns n (kinds.Text limit) change = refl

column_there : (columns : List Column) (name : List ℕ) (kind : Kind) (o : Option Column) → find (λ (c : Column). bytes_eq c.name name) columns ≡ o → option_map (λ (c : Column). c.kind) o ≡ Some kind → column_named columns name ≡ Some (column_number columns name)
column_there columns name kind None e is = absurd cc
column_there columns name kind (Some c) e is =
    let at = found_at (λ (x : Column). bytes_eq x.name name) 0 columns c e in
    at.1 ∙ ap Some (sym (ap (λ (o : Option ℕ). unwrap_or o 0) at.1))

target_free : (def : TableDef) (earlier : List (List ℕ)) (change : Change) → target_fault def earlier change.column ≡ None → is_marked def.keys (column_number def.columns change.column) ≡ false
target_free def earlier change faults =
    let target = target_none def earlier change.column faults in
    subst (λ (o : Option ℕ). option_map_or (is_marked def.keys) o false ≡ false) (column_there def.columns change.column target.0 (find (λ (c : Column). bytes_eq c.name change.column) def.columns) refl target.1) target.2

keys_kept : (def : TableDef) (earlier : List (List ℕ)) (changes : List Change) (old row new : List Value) → changes_fault def earlier changes ≡ None → with_assignments old (map (assignment_of def.columns) changes) row ≡ Some new
    → row_key def.keys new ≡ row_key def.keys row
keys_kept def earlier [] old row new none made = let same : row ≡ new = cc in ap (row_key def.keys) (sym same)
keys_kept def earlier (change ∷ changes) old row new none made =
    let both = neither _ _ none in
    let n = column_number def.columns change.column in
    let assignment = assignment_of def.columns change in
    let found = and_then (λ value. with_assignments old (map (assignment_of def.columns) changes) (slice_set row (target_of assignment) value)) (assigned_value old assignment) new made in
    let v = found.0 in
    let place : target_of assignment ≡ n = target_is def.columns n (kind_or (kind_named def.columns change.column)) change in
    let free = subst (λ (k : ℕ). is_marked def.keys k ≡ false) (sym place) (target_free def earlier change (change_parts def earlier change both.0).0) in
    keys_kept def (earlier ++ change.column ∷ []) changes old (slice_set row (target_of assignment) v) new both.1 found.1 ∙ key_stays def.keys row (target_of assignment) v free

new_fits : (def : TableDef) (changes : List Change) (row new : List Value) → changes_fault def [] changes ≡ None → AllByRecursion IsChangeOfValues changes → IsRowOf def.columns row → changed_row def.columns changes row ≡ Some new → IsRowOf def.columns new
new_fits def changes row new none valued fits made =
    let stays = update_stays def changes [] none valued (row ∷ []) (record { fits = (fits, tt); rising = (tt, tt) }) in
    let is : (updates def.columns changes [] (row ∷ [])).1 ≡ new ∷ [] = rw made refl in
    (subst (AllByRecursion (IsRowOf def.columns)) is stays.fits).0

-- ---- the plan

module _ (keeps : Keeps) (lies : Lies) (defs : List TableDef) (n : ℕ) where
  abbrev def : TableDef
  def = def_at defs n

  row_here : (row : List Value) → IsRowOf (columns_at defs n) row → IsRowOf (def_at defs n).columns row
  row_here row fits = subst (λ columns. IsRowOf columns row) (columns_def defs n) fits

  names_kept : (conditions : List Condition) → first_fault (condition_fault (def_at defs n).columns) conditions ≡ None → AllByRecursion IsConditionOfValue conditions → NamesKept defs n (range_of (def_at defs n) conditions) (map (test_of (def_at defs n).columns) conditions)
  names_kept conditions none valued row key fits passes =
      let fit = row_here row fits in
      let there = subst (λ (marks : List ℕ). has_int_key def.columns marks ≡ true) (keys_def defs n) (subst (λ columns. has_int_key columns (keys_at defs n) ≡ true) (columns_def defs n) key) in
      subst (λ (marks : List ℕ). IsInRange (range_of def conditions) (row_key marks row)) (sym (keys_def defs n)) (keeps def conditions row there fit valued (kept_passes def conditions none row fit ∙ passes))

  about : n < length defs → (conditions : List Condition) → IsAbout defs n (range_of (def_at defs n) conditions)
  about less conditions = record { table_is = less; some = λ range e. (range_some def conditions range e).0 }

  in_place : (changes : List Change) → changes_fault (def_at defs n) [] changes ≡ None → AllByRecursion IsChangeOfValues changes → ChangesInPlace defs n (map (assignment_of (def_at defs n).columns) changes)
  in_place changes none valued row new fits made =
      let fit = row_here row fits in
      record {
        fits = subst (λ columns. IsRowOf columns new) (sym (columns_def defs n)) (new_fits def changes row new none valued fit (changed_planned def changes none row fit ∙ made));
        key = subst (λ (marks : List ℕ). row_key marks new ≡ row_key marks row) (sym (keys_def defs n)) (keys_kept def [] changes row row new none made);
      }

  named : (rows : Rows) → first_fault (row_fault (def_at defs n).columns) rows ≡ None → AllByRecursion (AllByRecursion IsValue) rows → AllByRecursion (IsNamed defs n (range_of_rows (def_at defs n).keys rows)) rows
  named rows none valued =
      both_all (IsRowOf def.columns) (λ row. IsInRange (range_of_rows def.keys rows) (row_key def.keys row)) (IsNamed defs n (range_of_rows def.keys rows)) rows
      (λ row fits inside. record {
        fits = subst (λ columns. IsRowOf columns row) (sym (columns_def defs n)) fits;
        inside = subst (λ (marks : List ℕ). IsInRange (range_of_rows def.keys rows) (row_key marks row)) (sym (keys_def defs n)) inside;
      }) (rows_fit def.columns rows none valued) (lies def.keys rows)

  fits_plan : (statement : Statement) → ((name : List ℕ) → table_of statement ≡ Some name → n < length defs) → fault_in (def_at defs n) statement ≡ None → HasValues statement → FitsTables defs (plan_on n (def_at defs n) statement)
  fits_plan (statements.Insert s) less none valued = (record { table_is = less s.table refl; some = λ range e. rows_some lies def.keys s.rows range e }, named s.rows none valued)
  fits_plan (statements.Select s) less none valued = (about (less s.table refl) s.conditions, names_kept s.conditions (neither _ _ (neither _ _ none).1).0 valued)
  fits_plan (statements.Totals s) less none valued =
      (about (less s.table refl) s.conditions, names_kept s.conditions (neither _ _ (neither _ _ none).1).0 valued, range_ints def s.conditions)
  fits_plan (statements.Update s) less none valued =
      let faults = neither _ _ none in
      (about (less s.table refl) s.conditions, names_kept s.conditions (neither _ _ faults.1).0 valued.1, in_place s.changes faults.0 valued.0)
  fits_plan (statements.Delete s) less none valued = (about (less s.table refl) s.conditions, names_kept s.conditions none valued)
  fits_plan (statements.Create created) less none valued = tt
  fits_plan statements.Begin less none valued = tt
  fits_plan statements.Commit less none valued = tt
  fits_plan statements.Rollback less none valued = tt

pub all_plans_fit : Keeps → Lies → (defs : List TableDef) (statement : Statement) (plan : Plan) → IsPlanOf defs statement plan → FitsTables defs plan
all_plans_fit keeps lies defs statement plan of =
    subst (FitsTables defs) (sym of.plan_is)
    (fits_plan keeps lies defs (number_of defs statement) statement (λ name e. number_less defs statement name e of.fits) (fault_at defs statement of.fits) of.values)
