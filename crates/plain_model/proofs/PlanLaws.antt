-- A plan does what its statement means.
use Rattle.std.proofs.Common.{◌≡◌, ℕ, zero, suc, ◌+◌, Bool, true, false, cond, not, ◌&&◌, ℤ, pos, ◌+ℤ◌, ◌-ℤ◌, List, [], ◌∷◌, ◌++◌, length, map, reverse, Option, None, Some, refl, ap, sym, subst, ◌∙◌, arith}
use Rattle.std.specs.Prelude.{slice_get, unwrap_or, option_map, option_and_then, filter, is_none, take}
use Rattle.std.specs.List.{list_any, list_all, range_with_len, slice_set, AllByRecursion}
use Rattle.std.specs.Bool.{then_some}
use Rattle.std.specs.Option.{option_or}
use Rattle.std.proofs.lemmas.Grind.{reverse_onto}
use Rattle.std.proofs.lemmas.List.{append_assoc, length-append}
use Rattle.row_types.specs.declared.definition.Kind.{Kind}
use Rattle.row_types.specs.declared.definition.Kind.TheVariants as kinds
use Rattle.row_types.specs.declared.definition.Column.{Column}
use Rattle.row_types.specs.declared.definition.TableDef.{TableDef}
use Rattle.row_types.specs.declared.row.Value.{Value}
use Rattle.row_types.specs.declared.row.Value.TheVariants as values
use Rattle.row_types.specs.Slot.{FitsKind, IsRowOf}
use Rattle.row_types.specs.Keys.{int_of, int_at}
use Rattle.key_space.specs.Plays.{Rows}
use Rattle.sql_parse.specs.declared.statement.Statement.{Statement}
use Rattle.sql_parse.specs.declared.statement.Statement.TheVariants as statements
use Rattle.sql_parse.specs.declared.statement.Change.{Change}
use Rattle.sql_parse.specs.declared.statement.Condition.{Condition}
use Rattle.sql_parse.specs.declared.statement.Order.{Order}
use Rattle.sql_parse.specs.declared.statement.Shown.{Shown}
use Rattle.sql_parse.specs.declared.statement.Shown.TheVariants as showns
use Rattle.sql_parse.specs.declared.statement.Step.{Step}
use Rattle.sql_parse.specs.declared.statement.Term.{Term}
use Rattle.sql_parse.specs.declared.statement.Term.TheVariants as terms
use Rattle.sql_parse.specs.declared.statement.Total.{Total}
use Rattle.sql_parse.specs.declared.statement.Total.TheVariants as totals
use Rattle.sql_check.specs.declared.fault.CheckFault.TheVariants as faults
use Rattle.sql_check.specs.Columns.{column_number, kind_named, kind_of, text_in}
use Rattle.sql_check.specs.Misfits.{fault_if, first_fault, given_fault, is_same_kind, condition_fault, in_expression, term_fault, is_none_left, terms_of, expression_fault, change_fault, changes_fault, fault_in, all_shown_fault, total_fault, order_fault}
use Rattle.sql_check.specs.Plans.{test_by as test_by_value, test_of, columns_shown, falls, total_plan, int_term, int_step, text_term, assigned, kind_or, assignment_of, plan_on}
use Rattle.sql_check.proofs.NamedTables.{clash}
use Rattle.plain_model.specs.declared.reply.Reply.TheVariants as reply
use Rattle.plain_model.specs.declared.reply.Refusal.TheVariants.{Range}
use Rattle.plain_model.specs.Values.{value_at, cell, compares, holds, is_kept, fits_int, term_value, stepped, after_steps, expression_value, with_changes, changed_row}
use Rattle.plain_model.specs.Meaning.{count_of, kept, shown, ordered, limited, total_of, totals_reply, is_out_of_range, updated, acts}
use Rattle.plain_model.specs.PlanMeaning.{text_at, test_holds, passes_all, int_value, int_stepped, ints_after, text_value, target_of, assigned_value, with_assignments, planned_row, planned_total, put_in_order, planned_update, plan_acts}
use Rattle.plain_model.proofs.Cells.{is_named, fits_at}
use Rattle.plain_model.proofs.Stays.{or_none, if_none, not_false, of_column_none, alone_none, change_parts}

-- ---- cells

int_by : (row : List Value) (n : ℕ) (v : Value) → slice_get row n ≡ Some v → FitsKind kinds.Int v → value_at row n ≡ values.Int (int_at row n)
int_by row n (values.Int x) at fits = ap (λ o. unwrap_or o (values.Int (pos 0))) at ∙ ap (λ o. values.Int (int_of o)) (sym at)
int_by row n (values.Text text) at fits = absurd fits

text_by : (row : List Value) (n limit : ℕ) (v : Value) → slice_get row n ≡ Some v → FitsKind (kinds.Text limit) v → value_at row n ≡ values.Text (text_at row n)
text_by row n limit (values.Int x) at fits = absurd fits
text_by row n limit (values.Text text) at fits = let is : value_at row n ≡ values.Text text = ap (λ o. unwrap_or o (values.Int (pos 0))) at in is ∙ ap (λ v. values.Text (text_in v)) (sym is)

int_cell : (columns : List Column) (row : List Value) (name : List ℕ) → IsRowOf columns row → kind_named columns name ≡ Some kinds.Int → cell columns row name ≡ values.Int (int_at row (column_number columns name))
int_cell columns row name fits e =
    let named = is_named columns name kinds.Int e in
    let found = fits_at columns row (column_number columns name) named.column fits named.stands in
    int_by row (column_number columns name) found.0 found.1 (subst (λ k. FitsKind k found.0) named.kind_is found.2)

text_cell : (columns : List Column) (row : List Value) (name : List ℕ) (limit : ℕ) → IsRowOf columns row → kind_named columns name ≡ Some (kinds.Text limit) → cell columns row name ≡ values.Text (text_at row (column_number columns name))
text_cell columns row name limit fits e =
    let named = is_named columns name (kinds.Text limit) e in
    let found = fits_at columns row (column_number columns name) named.column fits named.stands in
    text_by row (column_number columns name) limit found.0 found.1 (subst (λ k. FitsKind k found.0) named.kind_is found.2)

-- ---- conditions

condition_by : (columns : List Column) (row : List Value) (c : Condition) (kind : Kind) (value : Value) → c.value ≡ value → IsRowOf columns row → kind_named columns c.column ≡ Some kind → is_same_kind kind (kind_of value) ≡ true
    → holds columns row c ≡ test_holds row (test_of columns c)
condition_by columns row c kinds.Int (values.Int w) is fits named same =
    ap (λ v. compares c.comparison (cell columns row c.column) v) is ∙ ap (λ v. compares c.comparison v (values.Int w)) (int_cell columns row c.column fits named) ∙ ap (λ v. test_holds row (test_by_value (column_number columns c.column) c v)) (sym is)
condition_by columns row c (kinds.Text limit) (values.Text text) is fits named same =
    ap (λ v. compares c.comparison (cell columns row c.column) v) is ∙ ap (λ v. compares c.comparison v (values.Text text)) (text_cell columns row c.column limit fits named) ∙ ap (λ v. test_holds row (test_by_value (column_number columns c.column) c v)) (sym is)
condition_by columns row c kinds.Int (values.Text text) is fits named same = absurd cc
condition_by columns row c (kinds.Text limit) (values.Int w) is fits named same = absurd cc

test_same : (columns : List Column) (row : List Value) (c : Condition) → IsRowOf columns row → condition_fault columns c ≡ None → holds columns row c ≡ test_holds row (test_of columns c)
test_same columns row c fits none =
    let found = of_column_none columns c.column (λ kind. fault_if (not (is_same_kind kind (kind_of c.value))) faults.Kind) none in
    let same = not_false (is_same_kind found.0 (kind_of c.value)) (if_none (not (is_same_kind found.0 (kind_of c.value))) faults.Kind found.2) in
    condition_by columns row c found.0 c.value refl fits found.1 same

passes_same : (columns : List Column) (row : List Value) (cs : List Condition) → IsRowOf columns row → first_fault (condition_fault columns) cs ≡ None → is_kept columns cs row ≡ passes_all (map (test_of columns) cs) row
passes_same columns row [] fits none = refl
passes_same columns row (c ∷ cs) fits none =
    let both = or_none (condition_fault columns c) (first_fault (condition_fault columns) cs) none in
    let first = test_same columns row c fits both.0 in
    let rest = passes_same columns row cs fits both.1 in
    ap (λ b. b && list_all (holds columns row) cs) first ∙ ap (λ b. test_holds row (test_of columns c) && b) rest

filter_same : (columns : List Column) (p q : List Value → Bool) (rows : Rows) → ((row : List Value) → IsRowOf columns row → p row ≡ q row) → AllByRecursion (IsRowOf columns) rows → filter p rows ≡ filter q rows
filter_same columns p q [] same all = refl
filter_same columns p q (row ∷ rows) same all =
    ap (λ b. cond b (row ∷ filter p rows) (filter p rows)) (same row all.0) ∙ ap (λ (l : Rows). cond (q row) (row ∷ l) l) (filter_same columns p q rows same all.1)

map_same : {A : Type 0} (columns : List Column) (f g : List Value → A) (rows : Rows) → ((row : List Value) → IsRowOf columns row → f row ≡ g row) → AllByRecursion (IsRowOf columns) rows → map f rows ≡ map g rows
map_same columns f g [] same all = refl
map_same columns f g (row ∷ rows) same all = let first = same row all.0 in let rest = map_same columns f g rows same all.1 in cc

any_same : (columns : List Column) (p q : List Value → Bool) (rows : Rows) → ((row : List Value) → IsRowOf columns row → p row ≡ q row) → AllByRecursion (IsRowOf columns) rows → list_any p rows ≡ list_any q rows
any_same columns p q [] same all = refl
any_same columns p q (row ∷ rows) same all = let first = same row all.0 in let rest = any_same columns p q rows same all.1 in cc

-- ---- columns that are shown

value_behind : (front : List Value) (v : Value) (back : List Value) → value_at (front ++ v ∷ back) (length front) ≡ v
value_behind [] v back = refl
value_behind (w ∷ front) v back = value_behind front v back

all_values : (front row : List Value) → row ≡ map (value_at (front ++ row)) (range_with_len (length front) (length row))
all_values front [] = refl
all_values front (v ∷ row) =
    let rest = all_values (front ++ v ∷ []) row in
    let more : (front ++ v ∷ []) ++ row ≡ front ++ v ∷ row = append_assoc front (v ∷ []) row in
    let len : length (front ++ v ∷ []) ≡ length front + 1 = length-append front (v ∷ []) in
    let moved : row ≡ map (value_at (front ++ v ∷ row)) (range_with_len (length front + 1) (length row)) =
    rest ∙ ap (λ (l : List Value). map (value_at l) (range_with_len (length (front ++ v ∷ [])) (length row))) more ∙ ap (λ k. map (value_at (front ++ v ∷ row)) (range_with_len k (length row))) len in
    ap (λ (l : List Value). v ∷ l) moved ∙ ap (λ w. w ∷ map (value_at (front ++ v ∷ row)) (range_with_len (length front + 1) (length row))) (sym (value_behind front v row))

row_len : (columns : List Column) (row : List Value) → IsRowOf columns row → length row ≡ length columns
row_len [] [] fits = refl
row_len [] (v ∷ vs) fits = absurd fits
row_len (c ∷ cs) [] fits = absurd fits
row_len (c ∷ cs) (v ∷ vs) fits = let rest = row_len cs vs fits.1 in omega arith

names_same : (columns : List Column) (row : List Value) (names : List (List ℕ)) → map (cell columns row) names ≡ map (value_at row) (map (column_number columns) names)
names_same columns row [] = refl
names_same columns row (name ∷ names) = ap (λ (l : List Value). cell columns row name ∷ l) (names_same columns row names)

shown_same : (columns : List Column) (s : Shown) (row : List Value) → IsRowOf columns row → shown columns s row ≡ map (value_at row) (columns_shown columns s)
shown_same columns showns.All row fits = all_values [] row ∙ ap (λ k. map (value_at row) (range_with_len 0 k)) (row_len columns row fits)
shown_same columns (showns.Columns names) row fits = names_same columns row names

order_same : (order : Option Order) (rows : Rows) → ordered order rows ≡ put_in_order (falls order) rows
order_same None rows = refl
order_same (Some o) rows = by o.is_falling
  where
    by : (b : Bool) → cond b (reverse rows) rows ≡ put_in_order b rows
    by true = refl
    by false = refl

-- ---- totals

total_same : (columns : List Column) (rows : Rows) (t : Total) → total_of columns rows t ≡ planned_total rows (total_plan columns t)
total_same columns rows totals.Count = refl
total_same columns rows (totals.Sum name) = refl

totals_same : (columns : List Column) (rows : Rows) (ts : List Total) → map (total_of columns rows) ts ≡ map (planned_total rows) (map (total_plan columns) ts)
totals_same columns rows [] = refl
totals_same columns rows (t ∷ ts) = let first = total_same columns rows t in let rest = totals_same columns rows ts in cc

-- ---- assignments

then_int : (b : Bool) (n : ℤ) → then_some b (values.Int n) ≡ option_map values.Int (then_some b n)
then_int true n = refl
then_int false n = refl

map_then : (f : ℤ → Option ℤ) (g : Value → Option Value) (o : Option ℤ) → ((n : ℤ) → g (values.Int n) ≡ option_map values.Int (f n)) → option_and_then g (option_map values.Int o) ≡ option_map values.Int (option_and_then f o)
map_then f g None same = refl
map_then f g (Some n) same = same n

int_term_same : (columns : List Column) (row : List Value) (b : Bool) (term : Term) → IsRowOf columns row → term_fault columns kinds.Int b term ≡ None → term_value columns row term ≡ values.Int (int_value row (int_term columns term))
int_term_same columns row b (terms.Value (values.Int n)) fits none = refl
int_term_same columns row b (terms.Value (values.Text text)) fits none = absurd cc
int_term_same columns row b (terms.Column name) fits none =
    let found = of_column_none columns name (in_expression kinds.Int b) none in
    by found.0 found.1 found.2
  where
    by : (kind : Kind) → kind_named columns name ≡ Some kind → in_expression kinds.Int b kind ≡ None → cell columns row name ≡ values.Int (int_at row (column_number columns name))
    by kinds.Int named none = int_cell columns row name fits named
    by (kinds.Text limit) named none = absurd cc

text_term_same : (columns : List Column) (row : List Value) (limit : ℕ) (b : Bool) (term : Term) → IsRowOf columns row → term_fault columns (kinds.Text limit) b term ≡ None → term_value columns row term ≡ values.Text (text_value row (text_term columns term))
text_term_same columns row limit b (terms.Value (values.Text text)) fits none = refl
text_term_same columns row limit b (terms.Value (values.Int n)) fits none = let plain = alone_none (kinds.Text limit) b (given_fault (kinds.Text limit) kinds.Int) none in absurd cc
text_term_same columns row limit b (terms.Column name) fits none =
    let found = of_column_none columns name (in_expression (kinds.Text limit) b) none in
    by found.0 found.1 (alone_none (kinds.Text limit) b (given_fault (kinds.Text limit) found.0) found.2)
  where
    by : (kind : Kind) → kind_named columns name ≡ Some kind → given_fault (kinds.Text limit) kind ≡ None → cell columns row name ≡ values.Text (text_at row (column_number columns name))
    by (kinds.Text given) named none = text_cell columns row name given fits named
    by kinds.Int named none = absurd cc

step_same : (a b : ℤ) (is_minus : Bool) → stepped (values.Int a) is_minus (values.Int b) ≡ option_map values.Int (then_some (fits_int (int_stepped a is_minus b)) (int_stepped a is_minus b))
step_same a b false = then_int (fits_int (a +ℤ b)) (a +ℤ b)
step_same a b true = then_int (fits_int (a -ℤ b)) (a -ℤ b)

steps_same : (columns : List Column) (row : List Value) (alone : Bool) (n : ℤ) (steps : List Step) → IsRowOf columns row → first_fault (term_fault columns kinds.Int alone) (map (λ (s : Step). s.term) steps) ≡ None
    → after_steps columns row (values.Int n) steps ≡ option_map values.Int (ints_after row n (map (int_step columns) steps))
steps_same columns row alone n [] fits none = refl
steps_same columns row alone n (s ∷ steps) fits none =
    let both = or_none (term_fault columns kinds.Int alone s.term) (first_fault (term_fault columns kinds.Int alone) (map (λ (s : Step). s.term) steps)) none in
    let term = int_term_same columns row alone s.term fits both.0 in
    let m = int_stepped n s.is_minus (int_value row (int_term columns s.term)) in
    ap (λ v. option_and_then (λ next. after_steps columns row next steps) (stepped (values.Int n) s.is_minus v)) term
    ∙ ap (λ o. option_and_then (λ next. after_steps columns row next steps) o) (step_same n (int_value row (int_term columns s.term)) s.is_minus)
    ∙ map_then (λ k. ints_after row k (map (int_step columns) steps)) (λ next. after_steps columns row next steps) (then_some (fits_int m) m) (λ k. steps_same columns row alone k steps fits both.1)

-- a text stands alone, so what is assigned is its first term
text_same : (columns : List Column) (row : List Value) (limit : ℕ) (first : Term) (further : List Step) → IsRowOf columns row → term_fault columns (kinds.Text limit) (is_none_left further) first ≡ None
    → after_steps columns row (term_value columns row first) further ≡ Some (values.Text (text_value row (text_term columns first)))
text_same columns row limit first [] fits none = ap Some (text_term_same columns row limit true first fits none)
text_same columns row limit (terms.Value v) (s ∷ further) fits none = absurd cc
text_same columns row limit (terms.Column name) (s ∷ further) fits none =
    let found = of_column_none columns name (in_expression (kinds.Text limit) false) none in clash faults.Kind found.2

value_by : (columns : List Column) (row : List Value) (change : Change) (kind : Kind) → IsRowOf columns row → first_fault (term_fault columns kind (is_none_left change.further)) (terms_of change) ≡ None
    → expression_value columns row change ≡ assigned_value row (assigned columns (column_number columns change.column) kind change)
value_by columns row change kinds.Int fits none =
    let both = or_none (term_fault columns kinds.Int (is_none_left change.further) change.first) (first_fault (term_fault columns kinds.Int (is_none_left change.further)) (map (λ (s : Step). s.term) change.further)) none in
    ap (λ v. after_steps columns row v change.further) (int_term_same columns row (is_none_left change.further) change.first fits both.0)
    ∙ steps_same columns row (is_none_left change.further) (int_value row (int_term columns change.first)) change.further fits both.1
value_by columns row change (kinds.Text limit) fits none =
    text_same columns row limit change.first change.further fits (or_none (term_fault columns (kinds.Text limit) (is_none_left change.further) change.first) (first_fault (term_fault columns (kinds.Text limit) (is_none_left change.further)) (map (λ (s : Step). s.term) change.further)) none).0

value_same : (columns : List Column) (row : List Value) (change : Change) → IsRowOf columns row → expression_fault columns change ≡ None → expression_value columns row change ≡ assigned_value row (assignment_of columns change)
value_same columns row change fits none =
    let found = of_column_none columns change.column (λ k. first_fault (term_fault columns k (is_none_left change.further)) (terms_of change)) none in
    value_by columns row change found.0 fits found.2 ∙ ap (λ o. assigned_value row (assigned columns (column_number columns change.column) (kind_or o) change)) (sym found.1)

target_same : (columns : List Column) (n : ℕ) (kind : Kind) (change : Change) → target_of (assigned columns n kind change) ≡ n
target_same columns n kinds.Int change = refl
target_same columns n (kinds.Text limit) change = refl

changes_same : (def : TableDef) (earlier : List (List ℕ)) (old : List Value) (changes : List Change) (row : List Value) → IsRowOf def.columns old → changes_fault def earlier changes ≡ None
    → with_changes def.columns old changes row ≡ with_assignments old (map (assignment_of def.columns) changes) row
changes_same def earlier old [] row fits none = refl
changes_same def earlier old (change ∷ changes) row fits none =
    let both = or_none (change_fault def earlier change) (changes_fault def (earlier ++ change.column ∷ []) changes) none in
    let value = value_same def.columns old change fits (change_parts def earlier change both.0).1 in
    let target = target_same def.columns (column_number def.columns change.column) (kind_or (kind_named def.columns change.column)) change in
    ap (λ o. option_and_then (λ v. with_changes def.columns old changes (slice_set row (column_number def.columns change.column) v)) o) value
    ∙ each (assigned_value old (assignment_of def.columns change)) (column_number def.columns change.column) (λ r. changes_same def (earlier ++ change.column ∷ []) old changes r fits both.1)
    ∙ ap (λ n. option_and_then (λ v. with_assignments old (map (assignment_of def.columns) changes) (slice_set row n v)) (assigned_value old (assignment_of def.columns change))) (sym target)
  where
    each : (o : Option Value) (n : ℕ) → ((r : List Value) → with_changes def.columns old changes r ≡ with_assignments old (map (assignment_of def.columns) changes) r)
        → option_and_then (λ v. with_changes def.columns old changes (slice_set row n v)) o ≡ option_and_then (λ v. with_assignments old (map (assignment_of def.columns) changes) (slice_set row n v)) o
    each None n same = refl
    each (Some v) n same = same (slice_set row n v)

row_same : (def : TableDef) (changes : List Change) (row : List Value) → IsRowOf def.columns row → changes_fault def [] changes ≡ None → changed_row def.columns changes row ≡ planned_row (map (assignment_of def.columns) changes) row
row_same def changes row fits none = changes_same def [] row changes row fits none

-- ---- a plan

kept_same : (columns : List Column) (conditions : List Condition) (rows : Rows) → AllByRecursion (IsRowOf columns) rows → first_fault (condition_fault columns) conditions ≡ None → kept columns conditions rows ≡ filter (passes_all (map (test_of columns) conditions)) rows
kept_same columns conditions rows all none = filter_same columns (is_kept columns conditions) (passes_all (map (test_of columns) conditions)) rows (λ row fits. passes_same columns row conditions fits none) all

all_kept : (columns : List Column) (test : List Value → Bool) (rows : Rows) → AllByRecursion (IsRowOf columns) rows → AllByRecursion (IsRowOf columns) (filter test rows)
all_kept columns test [] all = tt
all_kept columns test (row ∷ rows) all =
    let rest = all_kept columns test rows all.1 in
    elim (test row) as (λ b. AllByRecursion (IsRowOf columns) (cond b (row ∷ filter test rows) (filter test rows))) [ true ↦ (all.0, rest) | false ↦ rest ]

all_take : (columns : List Column) (n : ℕ) (rows : Rows) → AllByRecursion (IsRowOf columns) rows → AllByRecursion (IsRowOf columns) (take n rows)
all_take columns zero rows all = tt
all_take columns (suc n) [] all = tt
all_take columns (suc n) (row ∷ rows) all = (all.0, all_take columns n rows all.1)

all_joined : (columns : List Column) (a b : Rows) → AllByRecursion (IsRowOf columns) a → AllByRecursion (IsRowOf columns) b → AllByRecursion (IsRowOf columns) (a ++ b)
all_joined columns [] b all_a all_b = all_b
all_joined columns (row ∷ a) b all_a all_b = (all_a.0, all_joined columns a b all_a.1 all_b)

all_reversed : (columns : List Column) (rows : Rows) → AllByRecursion (IsRowOf columns) rows → AllByRecursion (IsRowOf columns) (reverse rows)
all_reversed columns [] all = tt
all_reversed columns (row ∷ rows) all =
    subst (λ (l : Rows). AllByRecursion (IsRowOf columns) l) (sym (reverse_onto rows row [])) (all_joined columns (reverse rows) (row ∷ []) (all_reversed columns rows all.1) (all.0, tt))

all_ordered : (columns : List Column) (b : Bool) (rows : Rows) → AllByRecursion (IsRowOf columns) rows → AllByRecursion (IsRowOf columns) (put_in_order b rows)
all_ordered columns true rows all = all_reversed columns rows all
all_ordered columns false rows all = all

all_limited : (columns : List Column) (limit : Option ℕ) (rows : Rows) → AllByRecursion (IsRowOf columns) rows → AllByRecursion (IsRowOf columns) (limited limit rows)
all_limited columns None rows all = all
all_limited columns (Some n) rows all = all_take columns n rows all

pub plan_means : (n : ℕ) (def : TableDef) (statement : Statement) (rows : Rows) → fault_in def statement ≡ None → AllByRecursion (IsRowOf def.columns) rows → acts def statement rows ≡ plan_acts def (plan_on n def statement) rows
plan_means n def (statements.Insert s) rows none all = refl
plan_means n def (statements.Select s) rows none all =
    let conditions = first_fault (condition_fault def.columns) s.conditions in
    let no_condition = (or_none conditions (option_or (order_fault def s.order) None) (or_none (all_shown_fault def.columns s.shown) (option_or conditions (option_or (order_fault def s.order) None)) none).1).0 in
    let found = filter (passes_all (map (test_of def.columns) s.conditions)) rows in
    let same : limited s.limit (ordered s.order (kept def.columns s.conditions rows)) ≡ limited s.limit (put_in_order (falls s.order) found) =
    ap (λ (l : Rows). limited s.limit (ordered s.order l)) (kept_same def.columns s.conditions rows all no_condition) ∙ ap (limited s.limit) (order_same s.order found) in
    let fits = all_limited def.columns s.limit (put_in_order (falls s.order) found) (all_ordered def.columns (falls s.order) found (all_kept def.columns (passes_all (map (test_of def.columns) s.conditions)) rows all)) in
    ap (λ (l : Rows). (reply.Rows (map (shown def.columns s.shown) l), rows)) same
    ∙ ap (λ (l : Rows). (reply.Rows l, rows)) (map_same def.columns (shown def.columns s.shown) (λ row. map (value_at row) (columns_shown def.columns s.shown)) (limited s.limit (put_in_order (falls s.order) found)) (shown_same def.columns s.shown) fits)
plan_means n def (statements.Totals s) rows none all =
    let conditions = first_fault (condition_fault def.columns) s.conditions in
    let no_condition = (or_none conditions None (or_none (first_fault (total_fault def.columns) s.totals) (option_or conditions None) none).1).0 in
    ap (λ (l : Rows). (totals_reply (map (total_of def.columns l) s.totals), rows)) (kept_same def.columns s.conditions rows all no_condition)
    ∙ ap (λ (l : List ℤ). (totals_reply l, rows)) (totals_same def.columns (filter (passes_all (map (test_of def.columns) s.conditions)) rows) s.totals)
plan_means n def (statements.Update s) rows none all =
    let conditions = first_fault (condition_fault def.columns) s.conditions in
    let parts = or_none (changes_fault def [] s.changes) (option_or conditions None) none in
    let no_condition = (or_none conditions None parts.1).0 in
    let tests = map (test_of def.columns) s.conditions in
    let changes = map (assignment_of def.columns) s.changes in
    let found = filter (passes_all tests) rows in
    let same = kept_same def.columns s.conditions rows all no_condition in
    let out : is_out_of_range def.columns s.changes found ≡ list_any (λ row. is_none (planned_row changes row)) found =
    any_same def.columns (λ row. is_none (changed_row def.columns s.changes row)) (λ row. is_none (planned_row changes row)) found (λ row fits. ap is_none (row_same def s.changes row fits parts.0)) (all_kept def.columns (passes_all tests) rows all) in
    let news : map (updated def.columns s.changes s.conditions) rows ≡ map (planned_update changes tests) rows =
    map_same def.columns (updated def.columns s.changes s.conditions) (planned_update changes tests) rows (λ row fits. update_rows row fits) all in
    ap (λ (l : Rows). cond (is_out_of_range def.columns s.changes l) (reply.Refused Range, rows) (reply.Many (count_of l), map (updated def.columns s.changes s.conditions) rows)) same
    ∙ ap (λ b. cond b (reply.Refused Range, rows) (reply.Many (count_of found), map (updated def.columns s.changes s.conditions) rows)) out
    ∙ ap (λ (l : Rows). cond (list_any (λ row. is_none (planned_row changes row)) found) (reply.Refused Range, rows) (reply.Many (count_of found), l)) news
  where
    update_rows : (row : List Value) → IsRowOf def.columns row → updated def.columns s.changes s.conditions row ≡ planned_update (map (assignment_of def.columns) s.changes) (map (test_of def.columns) s.conditions) row
    update_rows row fits =
        let conditions = first_fault (condition_fault def.columns) s.conditions in
        let parts = or_none (changes_fault def [] s.changes) (option_or conditions None) none in
        ap (λ b. cond b (unwrap_or (changed_row def.columns s.changes row) row) row) (passes_same def.columns row s.conditions fits (or_none conditions None parts.1).0)
        ∙ ap (λ o. cond (passes_all (map (test_of def.columns) s.conditions) row) (unwrap_or o row) row) (row_same def s.changes row fits parts.0)
plan_means n def (statements.Delete s) rows none all =
    let tests = map (test_of def.columns) s.conditions in
    ap (λ (l : Rows). (reply.Many (count_of l), filter (λ row. not (is_kept def.columns s.conditions row)) rows)) (kept_same def.columns s.conditions rows all none)
    ∙ ap (λ (l : Rows). (reply.Many (count_of (filter (passes_all tests) rows)), l))
    (filter_same def.columns (λ row. not (is_kept def.columns s.conditions row)) (λ row. not (passes_all tests row)) rows (λ row fits. ap not (passes_same def.columns row s.conditions fits none)) all)
plan_means n def (statements.Create created) rows none all = refl
plan_means n def statements.Begin rows none all = refl
plan_means n def statements.Commit rows none all = refl
plan_means n def statements.Rollback rows none all = refl
