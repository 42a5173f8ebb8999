-- No fault of a statement is that memory ran out.
use Rattle.std.proofs.Common.{◌≡◌, ℕ, Bool, true, false, cond, not, List, [], ◌∷◌, ◌++◌, length, map, Option, None, Some, refl}
use Rattle.std.specs.Prelude.{nat_lt, ◌==◌}
use Rattle.std.specs.List.{list_any}
use Rattle.std.specs.Option.{option_or, option_map_or}
use Rattle.std.specs.Str.{bytes_eq}
use Rattle.row_types.specs.declared.definition.Kind.{Kind}
use Rattle.row_types.specs.declared.definition.Kind.TheVariants as kinds
use Rattle.row_types.specs.declared.definition.Column.{Column}
use Rattle.row_types.specs.declared.definition.TableDef.{TableDef}
use Rattle.row_types.specs.declared.row.Value.{Value}
use Rattle.row_types.specs.Schema.{is_int}
use Rattle.sql_parse.specs.declared.statement.Statement.{Statement}
use Rattle.sql_parse.specs.declared.statement.Statement.TheVariants as statements
use Rattle.sql_parse.specs.declared.statement.Change.{Change}
use Rattle.sql_parse.specs.declared.statement.Condition.{Condition}
use Rattle.sql_parse.specs.declared.statement.Order.{Order}
use Rattle.sql_parse.specs.declared.statement.Shown.{Shown}
use Rattle.sql_parse.specs.declared.statement.Shown.TheVariants as showns
use Rattle.sql_parse.specs.declared.statement.Term.{Term}
use Rattle.sql_parse.specs.declared.statement.Term.TheVariants as terms
use Rattle.sql_parse.specs.declared.statement.Total.{Total}
use Rattle.sql_parse.specs.declared.statement.Total.TheVariants as totals
use Rattle.sql_check.specs.declared.fault.CheckFault.{CheckFault}
use Rattle.sql_check.specs.declared.fault.CheckFault.TheVariants as faults
use Rattle.sql_check.specs.Columns.{def_named, kind_named, is_key, kind_of}
use Rattle.sql_check.specs.Misfits.{fault_if, first_of, first_fault, of_column, given_fault, values_fault, row_fault, shown_fault, all_shown_fault, total_fault, is_same_kind, condition_fault, target_fault, alone_or, in_expression, term_fault, is_none_left, terms_of, expression_fault, change_fault, changes_fault, order_fault, fault_in, table_of, fault_on, misfit}

-- it isn't that memory ran out
abbrev pub IsReal : Option CheckFault → Type 0
IsReal o = o ≡ Some faults.OutOfMemory → ⊥

none : IsReal None
none = λ e. cc

real_if : (b : Bool) (fault : CheckFault) → IsReal (Some fault) → IsReal (cond b (Some fault) None)
real_if true fault real = real
real_if false fault real = none

real_or : (a b : Option CheckFault) → IsReal a → IsReal b → IsReal (option_or a b)
real_or None b real_a real_b = real_b
real_or (Some fault) b real_a real_b = real_a

real_first : {Part : Type 0} (fault_of : Part → Option CheckFault) (parts : List Part) → ((part : Part) → IsReal (fault_of part)) → IsReal (first_fault fault_of parts)
real_first fault_of [] each = none
real_first fault_of (part ∷ parts) each = real_or (fault_of part) (first_fault fault_of parts) (each part) (real_first fault_of parts each)

real_map_or : {A : Type 0} (test : A → Option CheckFault) (o : Option A) (fault : CheckFault) → ((x : A) → IsReal (test x)) → IsReal (Some fault) → IsReal (option_map_or test o (Some fault))
real_map_or test None fault each real = real
real_map_or test (Some x) fault each real = each x

real_column : (columns : List Column) (name : List ℕ) (test : Kind → Option CheckFault) → ((kind : Kind) → IsReal (test kind)) → IsReal (of_column columns name test)
real_column columns name test each = real_map_or test (kind_named columns name) faults.NoColumn each (λ e. cc)

real_given : (kind given : Kind) → IsReal (given_fault kind given)
real_given kinds.Int kinds.Int = none
real_given kinds.Int (kinds.Text given) = λ e. cc
real_given (kinds.Text limit) kinds.Int = λ e. cc
real_given (kinds.Text limit) (kinds.Text given) = real_if (nat_lt limit given) (faults.Length given limit) (λ e. cc)

real_values : (columns : List Column) (row : List Value) → IsReal (values_fault columns row)
real_values [] row = none
real_values (c ∷ cs) [] = none
real_values (c ∷ cs) (v ∷ vs) = real_or (given_fault c.kind (kind_of v)) (values_fault cs vs) (real_given c.kind (kind_of v)) (real_values cs vs)

real_row : (columns : List Column) (row : List Value) → IsReal (row_fault columns row)
real_row columns row =
    real_or (fault_if (not (length row == length columns)) (faults.Count (length row) (length columns))) (option_or (values_fault columns row) None)
    (real_if (not (length row == length columns)) (faults.Count (length row) (length columns)) (λ e. cc)) (real_or (values_fault columns row) None (real_values columns row) none)

real_shown : (columns : List Column) (shown : Shown) → IsReal (all_shown_fault columns shown)
real_shown columns showns.All = none
real_shown columns (showns.Columns names) = real_first (shown_fault columns) names (λ name. real_column columns name (λ kind. None) (λ kind. none))

real_total : (columns : List Column) (total : Total) → IsReal (total_fault columns total)
real_total columns totals.Count = none
real_total columns (totals.Sum name) = real_column columns name (λ kind. fault_if (not (is_int kind)) faults.Kind) (λ kind. real_if (not (is_int kind)) faults.Kind (λ e. cc))

real_condition : (columns : List Column) (condition : Condition) → IsReal (condition_fault columns condition)
real_condition columns condition =
    real_column columns condition.column (λ kind. fault_if (not (is_same_kind kind (kind_of condition.value))) faults.Kind) (λ kind. real_if (not (is_same_kind kind (kind_of condition.value))) faults.Kind (λ e. cc))

real_conditions : (columns : List Column) (conditions : List Condition) → IsReal (first_fault (condition_fault columns) conditions)
real_conditions columns conditions = real_first (condition_fault columns) conditions (real_condition columns)

real_target : (def : TableDef) (earlier : List (List ℕ)) (name : List ℕ) → IsReal (target_fault def earlier name)
real_target def earlier name =
    let fixed = fault_if (is_key def name) faults.KeyFixed in
    let twice = fault_if (list_any (bytes_eq name) earlier) faults.Twice in
    real_column def.columns name (λ kind. first_of (fixed ∷ twice ∷ [])) (λ kind.
    real_or fixed (option_or twice None) (real_if (is_key def name) faults.KeyFixed (λ e. cc)) (real_or twice None (real_if (list_any (bytes_eq name) earlier) faults.Twice (λ e. cc)) none))

real_alone : (kind : Kind) (b : Bool) (fault : Option CheckFault) → IsReal fault → IsReal (alone_or kind b fault)
real_alone kinds.Int b fault real = real
real_alone (kinds.Text limit) true fault real = real
real_alone (kinds.Text limit) false fault real = λ e. cc

real_term : (columns : List Column) (kind : Kind) (b : Bool) (term : Term) → IsReal (term_fault columns kind b term)
real_term columns kind b (terms.Value v) = real_alone kind b (given_fault kind (kind_of v)) (real_given kind (kind_of v))
real_term columns kind b (terms.Column name) = real_column columns name (in_expression kind b) (λ given. real_alone kind b (given_fault kind given) (real_given kind given))

real_expression : (columns : List Column) (change : Change) → IsReal (expression_fault columns change)
real_expression columns change =
    real_column columns change.column (λ kind. first_fault (term_fault columns kind (is_none_left change.further)) (terms_of change))
    (λ kind. real_first (term_fault columns kind (is_none_left change.further)) (terms_of change) (real_term columns kind (is_none_left change.further)))

real_change : (def : TableDef) (earlier : List (List ℕ)) (change : Change) → IsReal (change_fault def earlier change)
real_change def earlier change =
    real_or (target_fault def earlier change.column) (option_or (expression_fault def.columns change) None) (real_target def earlier change.column)
    (real_or (expression_fault def.columns change) None (real_expression def.columns change) none)

real_changes : (def : TableDef) (earlier : List (List ℕ)) (changes : List Change) → IsReal (changes_fault def earlier changes)
real_changes def earlier [] = none
real_changes def earlier (change ∷ changes) =
    real_or (change_fault def earlier change) (changes_fault def (earlier ++ change.column ∷ []) changes) (real_change def earlier change) (real_changes def (earlier ++ change.column ∷ []) changes)

real_order : (def : TableDef) (order : Option Order) → IsReal (order_fault def order)
real_order def None = none
real_order def (Some order) = real_column def.columns order.column (λ kind. fault_if (not (is_key def order.column)) faults.Order) (λ kind. real_if (not (is_key def order.column)) faults.Order (λ e. cc))

real_in : (def : TableDef) (statement : Statement) → IsReal (fault_in def statement)
real_in def (statements.Insert s) = real_first (row_fault def.columns) s.rows (real_row def.columns)
real_in def (statements.Select s) =
    let conditions = first_fault (condition_fault def.columns) s.conditions in
    real_or (all_shown_fault def.columns s.shown) (option_or conditions (option_or (order_fault def s.order) None)) (real_shown def.columns s.shown)
    (real_or conditions (option_or (order_fault def s.order) None) (real_conditions def.columns s.conditions) (real_or (order_fault def s.order) None (real_order def s.order) none))
real_in def (statements.Totals s) =
    let conditions = first_fault (condition_fault def.columns) s.conditions in
    real_or (first_fault (total_fault def.columns) s.totals) (option_or conditions None) (real_first (total_fault def.columns) s.totals (real_total def.columns))
    (real_or conditions None (real_conditions def.columns s.conditions) none)
real_in def (statements.Update s) =
    let conditions = first_fault (condition_fault def.columns) s.conditions in
    real_or (changes_fault def [] s.changes) (option_or conditions None) (real_changes def [] s.changes) (real_or conditions None (real_conditions def.columns s.conditions) none)
real_in def (statements.Delete s) = real_conditions def.columns s.conditions
real_in def (statements.Create created) = none
real_in def statements.Begin = none
real_in def statements.Commit = none
real_in def statements.Rollback = none

real_on : (tables : List TableDef) (statement : Statement) (o : Option (List ℕ)) → IsReal (option_map_or (fault_on tables statement) o None)
real_on tables statement None = none
real_on tables statement (Some name) = real_map_or (λ def. fault_in def statement) (def_named tables name) faults.NoTable (λ def. real_in def statement) (λ e. cc)

pub misfit_is_real : (tables : List TableDef) (statement : Statement) → misfit tables statement ≡ Some faults.OutOfMemory → ⊥
misfit_is_real tables statement = real_on tables statement (table_of statement)
