-- What a statement does to the rows of a table leaves rows that fit, in rising order of their keys.
use Rattle.std.proofs.Common.{◌≡◌, eq-eqb, ℕ, Bool, true, false, cond, not, ◌||◌, List, [], ◌∷◌, ◌++◌, length, map, Option, None, Some, refl, ap, sym, subst, ◌∙◌, arith}
use Rattle.std.specs.Prelude.{unwrap_or, option_and_then, filter, ◌==◌, ℤ, pos, negsuc, ◌+ℤ◌, ◌-ℤ◌}
use Rattle.std.specs.Bool.{then_some}
use Rattle.std.specs.Option.{option_or, option_map_or}
use Rattle.std.specs.List.{list_any, slice_set, AllByRecursion}
use Rattle.std.specs.Str.{bytes_eq}
use Rattle.std.proofs.lemmas.Bool.{ltb-true, eqb-true}
use Rattle.row_types.specs.declared.definition.Kind.{Kind}
use Rattle.row_types.specs.declared.definition.Kind.TheVariants as kinds
use Rattle.row_types.specs.declared.definition.Column.{Column}
use Rattle.row_types.specs.declared.definition.TableDef.{TableDef}
use Rattle.row_types.specs.declared.row.Value.{Value}
use Rattle.row_types.specs.declared.row.Value.TheVariants as values
use Rattle.row_types.specs.Slot.{FitsKind, IsRowOf}
use Rattle.row_types.specs.Keys.{key_of_int, int_of, row_key}
use Rattle.row_types.specs.Schema.{column_named}
use Rattle.row_types.specs.Tables.{AreRising, IsTableRows}
use Rattle.key_space.specs.Plays.{Rows, with_row}
use Rattle.key_space.proofs.PlaysLaws.{rise_filter, all_filter, put_rows}
use Rattle.sql_parse.specs.declared.statement.Statement.{Statement}
use Rattle.sql_parse.specs.declared.statement.Statement.TheVariants as statements
use Rattle.sql_parse.specs.declared.statement.Change.{Change}
use Rattle.sql_parse.specs.declared.statement.Condition.{Condition}
use Rattle.sql_parse.specs.declared.statement.Step.{Step}
use Rattle.sql_parse.specs.declared.statement.Term.{Term}
use Rattle.sql_parse.specs.declared.statement.Term.TheVariants as terms
use Rattle.sql_check.specs.declared.fault.CheckFault.{CheckFault}
use Rattle.sql_check.specs.declared.fault.CheckFault.TheVariants as faults
use Rattle.sql_check.specs.Columns.{column_number, kind_named, kind_of, is_marked, is_key}
use Rattle.sql_check.specs.Misfits.{fault_if, first_of, first_fault, of_column, given_fault, values_fault, row_fault, alone_or, in_expression, term_fault, is_none_left, terms_of, expression_fault, target_fault, change_fault, changes_fault, fault_in}
use Rattle.sql_check.specs.Valued.{IsValue, IsTermOfValue, IsChangeOfValues, HasValues}
use Rattle.sql_check.proofs.NamedTables.{clash}
use Rattle.plain_model.specs.Values.{cell, fits_int, term_value, stepped, after_steps, expression_value, with_changes, changed_row, is_kept}
use Rattle.plain_model.specs.declared.reply.Reply.{Reply}
use Rattle.plain_model.specs.declared.reply.Reply.TheVariants as reply
use Rattle.plain_model.specs.declared.reply.Refusal.TheVariants.{Range}
use Rattle.plain_model.specs.Meaning.{count_of, with_rows, duplicate, inserts_unless, kept, updated, is_out_of_range, updates, acts}
use Rattle.plain_model.proofs.Cells.{is_named, cell_fits, set_fits, get_elsewhere, value_fits, wider_fits}

-- ---- what it says that no fault is found

pub or_none : (a b : Option CheckFault) → option_or a b ≡ None → (a ≡ None) × (b ≡ None)
or_none None b e = (refl, e)
or_none (Some fault) b e = absurd cc

pub if_none : (b : Bool) (fault : CheckFault) → cond b (Some fault) None ≡ None → b ≡ false
if_none true fault e = absurd cc
if_none false fault e = refl

pub not_false : (b : Bool) → not b ≡ false → b ≡ true
not_false true e = refl
not_false false e = absurd cc

-- the column is there, and the test of its kind finds none
column_none : (columns : List Column) (name : List ℕ) (test : Kind → Option CheckFault) (o : Option Kind) → kind_named columns name ≡ o → option_map_or test o (Some faults.NoColumn) ≡ None
    → (kind : Kind) × (kind_named columns name ≡ Some kind) × (test kind ≡ None)
column_none columns name test None e none = absurd cc
column_none columns name test (Some kind) e none = (kind, e, none)

pub of_column_none : (columns : List Column) (name : List ℕ) (test : Kind → Option CheckFault) → of_column columns name test ≡ None → (kind : Kind) × (kind_named columns name ≡ Some kind) × (test kind ≡ None)
of_column_none columns name test none = column_none columns name test (kind_named columns name) refl none

-- ---- INSERT

values_row : (columns : List Column) (row : List Value) → length row ≡ length columns → values_fault columns row ≡ None → AllByRecursion IsValue row → IsRowOf columns row
values_row [] [] len none is = tt
values_row [] (v ∷ vs) len none is = absurd (omega arith)
values_row (c ∷ cs) [] len none is = absurd (omega arith)
values_row (c ∷ cs) (v ∷ vs) len none is =
    let both = or_none (given_fault c.kind (kind_of v)) (values_fault cs vs) none in
    (value_fits c.kind v both.0 is.0, values_row cs vs (omega arith) both.1 is.1)

pub row_fits : (columns : List Column) (row : List Value) → row_fault columns row ≡ None → AllByRecursion IsValue row → IsRowOf columns row
row_fits columns row none is =
    let first = or_none (fault_if (not (length row == length columns)) (faults.Count (length row) (length columns))) (option_or (values_fault columns row) None) none in
    let second = or_none (values_fault columns row) None first.1 in
    let count = not_false (length row == length columns) (if_none (not (length row == length columns)) (faults.Count (length row) (length columns)) first.0) in
    values_row columns row (eqb-true (length row) (length columns) count) second.0 is

all_rows_fit : (columns : List Column) (rows : Rows) → first_fault (row_fault columns) rows ≡ None → AllByRecursion (AllByRecursion IsValue) rows → AllByRecursion (IsRowOf columns) rows
all_rows_fit columns [] none is = tt
all_rows_fit columns (row ∷ rows) none is =
    let both = or_none (row_fault columns row) (first_fault (row_fault columns) rows) none in
    (row_fits columns row both.0 is.0, all_rows_fit columns rows both.1 is.1)

insert_rows : (def : TableDef) (rows new : Rows) → IsTableRows (record { def = def; rows = rows }) → AllByRecursion (IsRowOf def.columns) new → IsTableRows (record { def = def; rows = with_rows def.keys rows new })
insert_rows def rows [] is fits = is
insert_rows def rows (row ∷ more) is fits = insert_rows def (with_row def.keys rows row) more (put_rows (record { def = def; rows = rows }) row is fits.0) fits.1

insert_stays : (def : TableDef) (rows new : Rows) (o : Option (List Value)) → IsTableRows (record { def = def; rows = rows }) → AllByRecursion (IsRowOf def.columns) new → IsTableRows (record { def = def; rows = (inserts_unless o def new rows).1 })
insert_stays def rows new None is fits = insert_rows def rows new is fits
insert_stays def rows new (Some row) is fits = is

-- ---- UPDATE: what an expression comes to fits its column

pub in_int_fits : (n : ℤ) (b : Bool) (w : Value) → fits_int n ≡ b → then_some b (values.Int n) ≡ Some w → FitsKind kinds.Int w
in_int_fits (pos n) true w e is = let same : values.Int (pos n) ≡ w = cc in subst (λ v. FitsKind kinds.Int v) same (record { sfits = ltb-true _ _ e })
in_int_fits (negsuc n) true w e is = let same : values.Int (negsuc n) ≡ w = cc in subst (λ v. FitsKind kinds.Int v) same (record { sfits = ltb-true _ _ e })
in_int_fits n false w e is = absurd cc

step_fits : (v : Value) (is_minus : Bool) (other w : Value) → stepped v is_minus other ≡ Some w → FitsKind kinds.Int w
step_fits (values.Int a) false (values.Int b) w is = in_int_fits (a +ℤ b) (fits_int (a +ℤ b)) w refl is
step_fits (values.Int a) true (values.Int b) w is = in_int_fits (a -ℤ b) (fits_int (a -ℤ b)) w refl is
step_fits (values.Int a) false (values.Text b) w is = absurd cc
step_fits (values.Int a) true (values.Text b) w is = absurd cc
step_fits (values.Text a) false other w is = absurd cc
step_fits (values.Text a) true other w is = absurd cc

-- what an option leads to
and_then : {A B : Type 0} (f : A → Option B) (o : Option A) (w : B) → option_and_then f o ≡ Some w → (v : A) × (o ≡ Some v) × (f v ≡ Some w)
and_then f None w e = absurd cc
and_then f (Some v) w e = (v, refl, e)

steps_fit : (columns : List Column) (row : List Value) (v : Value) (steps : List Step) (w : Value) → FitsKind kinds.Int v → after_steps columns row v steps ≡ Some w → FitsKind kinds.Int w
steps_fit columns row v [] w fits is = let same : v ≡ w = cc in subst (λ x. FitsKind kinds.Int x) same fits
steps_fit columns row v (step ∷ steps) w fits is =
    let found = and_then (λ next. after_steps columns row next steps) (stepped v step.is_minus (term_value columns row step.term)) w is in
    steps_fit columns row found.0 steps w (step_fits v step.is_minus (term_value columns row step.term) found.0 found.1) found.2

pub alone_none : (kind : Kind) (b : Bool) (fault : Option CheckFault) → alone_or kind b fault ≡ None → fault ≡ None
alone_none kinds.Int b fault none = none
alone_none (kinds.Text limit) true fault none = none
alone_none (kinds.Text limit) false fault none = absurd cc

term_fits : (columns : List Column) (row : List Value) (kind : Kind) (b : Bool) (term : Term) → IsRowOf columns row → term_fault columns kind b term ≡ None → IsTermOfValue term → FitsKind kind (term_value columns row term)
term_fits columns row kind b (terms.Value v) is none value = value_fits kind v (alone_none kind b (given_fault kind (kind_of v)) none) value
term_fits columns row kind b (terms.Column name) is none value =
    let found = of_column_none columns name (in_expression kind b) none in
    wider_fits kind found.0 (cell columns row name) (alone_none kind b (given_fault kind found.0) found.2) (cell_fits columns row name found.0 is found.1)

-- a text stands alone, so it isn't stepped
expression_by : (columns : List Column) (row : List Value) (kind : Kind) (first : Term) (further : List Step) (w : Value) → IsRowOf columns row
    → term_fault columns kind (is_none_left further) first ≡ None → IsTermOfValue first → after_steps columns row (term_value columns row first) further ≡ Some w → FitsKind kind w
expression_by columns row kinds.Int first further w is none value after = steps_fit columns row (term_value columns row first) further w (term_fits columns row kinds.Int (is_none_left further) first is none value) after
expression_by columns row (kinds.Text limit) first [] w is none value after =
    let same : term_value columns row first ≡ w = cc in subst (λ v. FitsKind (kinds.Text limit) v) same (term_fits columns row (kinds.Text limit) true first is none value)
expression_by columns row (kinds.Text limit) (terms.Value v) (step ∷ further) w is none value after = absurd cc
expression_by columns row (kinds.Text limit) (terms.Column name) (step ∷ further) w is none value after =
    let found = of_column_none columns name (in_expression (kinds.Text limit) false) none in clash faults.Kind found.2

pub expression_fits : (columns : List Column) (row : List Value) (kind : Kind) (change : Change) (w : Value) → IsRowOf columns row → kind_named columns change.column ≡ Some kind
    → expression_fault columns change ≡ None → IsChangeOfValues change → expression_value columns row change ≡ Some w → FitsKind kind w
expression_fits columns row kind change w is named none valued after =
    let found = of_column_none columns change.column (λ k. first_fault (term_fault columns k (is_none_left change.further)) (terms_of change)) none in
    let same : found.0 ≡ kind = cc (found.1, named) in
    let first = or_none (term_fault columns found.0 (is_none_left change.further) change.first) (first_fault (term_fault columns found.0 (is_none_left change.further)) (map (λ (s : Step). s.term) change.further)) found.2 in
    subst (λ k. FitsKind k w) same (expression_by columns row found.0 change.first change.further w is first.0 valued.0 after)

-- ---- UPDATE: a row with assignments made fits, and its key stays

pub target_none : (def : TableDef) (earlier : List (List ℕ)) (name : List ℕ) → target_fault def earlier name ≡ None → (kind : Kind) × (kind_named def.columns name ≡ Some kind) × (is_key def name ≡ false)
target_none def earlier name none =
    let found = of_column_none def.columns name (λ kind. first_of (fault_if (is_key def name) faults.KeyFixed ∷ fault_if (list_any (bytes_eq name) earlier) faults.Twice ∷ [])) none in
    let first = or_none (fault_if (is_key def name) faults.KeyFixed) (option_or (fault_if (list_any (bytes_eq name) earlier) faults.Twice) None) found.2 in
    (found.0, found.1, if_none (is_key def name) faults.KeyFixed first.0)

or_false : (a b : Bool) → (a || b) ≡ false → a ≡ false
or_false true b e = absurd cc
or_false false b e = refl

key_number : (def : TableDef) (name : List ℕ) (n : ℕ) → column_named def.columns name ≡ Some n → is_key def name ≡ false → is_marked def.keys n ≡ false
key_number def name n number free = subst (λ o. option_map_or (is_marked def.keys) o false ≡ false) number free

key_stays : (marks : List ℕ) (row : List Value) (n : ℕ) (v : Value) → is_marked marks n ≡ false → row_key marks (slice_set row n v) ≡ row_key marks row
key_stays [] row n v free = refl
key_stays (mark ∷ marks) row n v free =
    let other : mark ≡ n → ⊥ = λ e. let yes : (mark == n) ≡ true = eq-eqb mark n e in let no : (mark == n) ≡ false = or_false (mark == n) (is_marked marks n) free in absurd cc in
    ap (λ o. key_of_int (int_of o)) (get_elsewhere row n mark v other)

-- a row that an UPDATE makes fits, and has the key of the old one
pub record IsNewRow (def : TableDef) (old new : List Value) : Type 0 where
  pub fits : IsRowOf def.columns new
  pub key : row_key def.keys new ≡ row_key def.keys old

pub change_parts : (def : TableDef) (earlier : List (List ℕ)) (change : Change) → change_fault def earlier change ≡ None → (target_fault def earlier change.column ≡ None) × (expression_fault def.columns change ≡ None)
change_parts def earlier change none =
    let first = or_none (target_fault def earlier change.column) (option_or (expression_fault def.columns change) None) none in
    (first.0, (or_none (expression_fault def.columns change) None first.1).0)

changes_fit : (def : TableDef) (earlier : List (List ℕ)) (old : List Value) (changes : List Change) (row new : List Value) → IsRowOf def.columns old → IsNewRow def old row
    → changes_fault def earlier changes ≡ None → AllByRecursion IsChangeOfValues changes → with_changes def.columns old changes row ≡ Some new → IsNewRow def old new
changes_fit def earlier old [] row new is so_far none valued made = let same : row ≡ new = cc in subst (λ r. IsNewRow def old r) same so_far
changes_fit def earlier old (change ∷ changes) row new is so_far none valued made =
    let both = or_none (change_fault def earlier change) (changes_fault def (earlier ++ change.column ∷ []) changes) none in
    let parts = change_parts def earlier change both.0 in
    let target = target_none def earlier change.column parts.0 in
    let named = is_named def.columns change.column target.0 target.1 in
    let n = column_number def.columns change.column in
    let found = and_then (λ v. with_changes def.columns old changes (slice_set row n v)) (expression_value def.columns old change) new made in
    let v = found.0 in
    let fits : FitsKind named.column.kind v = subst (λ k. FitsKind k v) (sym named.kind_is) (expression_fits def.columns old target.0 change v is target.1 parts.1 valued.0 found.1) in
    let next : IsNewRow def old (slice_set row n v) = record {
      fits = set_fits def.columns row n named.column v so_far.fits named.stands fits;
      key = key_stays def.keys row n v (key_number def change.column n named.number target.2) ∙ so_far.key;
    } in
    changes_fit def (earlier ++ change.column ∷ []) old changes (slice_set row n v) new is next both.1 valued.1 found.2

-- the first where the test holds, else the second
abbrev either : Bool → Reply × Rows → Reply × Rows → Reply × Rows
either b x y = cond b x y

updated_by : (def : TableDef) (row : List Value) (o : Option (List Value)) → IsNewRow def row row → ((new : List Value) → o ≡ Some new → IsNewRow def row new) → IsNewRow def row (unwrap_or o row)
updated_by def row None same each = same
updated_by def row (Some new) same each = each new refl

module _ (def : TableDef) (changes : List Change) (conditions : List Condition) (none : changes_fault def [] changes ≡ None) (valued : AllByRecursion IsChangeOfValues changes) where
  changed_fits : (row : List Value) → IsRowOf def.columns row → IsNewRow def row (updated def.columns changes conditions row)
  changed_fits row is =
      let same : IsNewRow def row row = record { fits = is; key = refl } in
      elim (is_kept def.columns conditions row) as (λ b. IsNewRow def row (cond b (unwrap_or (changed_row def.columns changes row) row) row)) [
        | true ↦ updated_by def row (changed_row def.columns changes row) same (λ new made. changes_fit def [] row changes row new is same none valued made)
        | false ↦ same
      ]

  all_fit : (rows : Rows) → AllByRecursion (IsRowOf def.columns) rows → AllByRecursion (IsRowOf def.columns) (map (updated def.columns changes conditions) rows)
  all_fit [] all = tt
  all_fit (row ∷ rows) all = ((changed_fits row all.0).fits, all_fit rows all.1)

  keys_stay : (rows : Rows) → AllByRecursion (IsRowOf def.columns) rows → map (row_key def.keys) (map (updated def.columns changes conditions) rows) ≡ map (row_key def.keys) rows
  keys_stay [] all = refl
  keys_stay (row ∷ rows) all = let first = (changed_fits row all.0).key in let rest = keys_stay rows all.1 in cc

  update_rows : (rows : Rows) → IsTableRows (record { def = def; rows = rows }) → IsTableRows (record { def = def; rows = map (updated def.columns changes conditions) rows })
  update_rows rows is = record {
    fits = all_fit rows is.fits;
    rising = subst AreRising (sym (keys_stay rows is.fits)) is.rising;
  }

  pub update_stays : (rows : Rows) → IsTableRows (record { def = def; rows = rows }) → IsTableRows (record { def = def; rows = (updates def.columns changes conditions rows).1 })
  update_stays rows is =
      elim (is_out_of_range def.columns changes (kept def.columns conditions rows)) as (λ b. IsTableRows (record { def = def; rows = (either b (reply.Refused Range, rows) (reply.Many (count_of (kept def.columns conditions rows)), map (updated def.columns changes conditions) rows)).1 })) [
        | true ↦ is
        | false ↦ update_rows rows is
      ]

-- ---- any statement

filter_rows : (def : TableDef) (rows : Rows) (test : List Value → Bool) → IsTableRows (record { def = def; rows = rows }) → IsTableRows (record { def = def; rows = filter test rows })
filter_rows def rows test is = record {
  fits = all_filter (IsRowOf def.columns) test rows is.fits;
  rising = rise_filter def.keys test rows is.rising;
}

-- the rows of a table stay rows of it, whatever statement that fits acts on them
pub acts_stay : (def : TableDef) (rows : Rows) (statement : Statement) → fault_in def statement ≡ None → HasValues statement → IsTableRows (record { def = def; rows = rows })
    → IsTableRows (record { def = def; rows = (acts def statement rows).1 })
acts_stay def rows (statements.Insert s) none valued is = insert_stays def rows s.rows (duplicate def.keys rows s.rows) is (all_rows_fit def.columns s.rows none valued)
acts_stay def rows (statements.Select s) none valued is = is
acts_stay def rows (statements.Totals s) none valued is = is
acts_stay def rows (statements.Update s) none valued is =
    update_stays def s.changes s.conditions (or_none (changes_fault def [] s.changes) _ none).0 valued.0 rows is
acts_stay def rows (statements.Delete s) none valued is = filter_rows def rows (λ row. not (is_kept def.columns s.conditions row)) is
acts_stay def rows (statements.Create created) none valued is = is
acts_stay def rows statements.Begin none valued is = is
acts_stay def rows statements.Commit none valued is = is
acts_stay def rows statements.Rollback none valued is = is
