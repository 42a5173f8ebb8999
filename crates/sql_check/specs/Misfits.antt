-- Why a statement doesn't fit the tables: its names, kinds
-- and counts, tested in the order in which they stand.
use Rattle.std.specs.Prelude.{ℕ, Bool, true, false, not, ◌||◌, if◌then◌else◌, ◌==◌, nat_lt, List, [], ◌∷◌}
use Rattle.std.specs.Prelude.{◌++◌, length, map, Option, None, Some}
use Rattle.std.specs.List.{list_any}
use Rattle.std.specs.Option.{option_or, option_map_or}
use Rattle.std.specs.Str.{bytes_eq}
use Rattle.row_types.specs.declared.definition.Kind.{Kind}
use Rattle.row_types.specs.declared.definition.Kind.TheVariants as kinds
use Rattle.row_types.specs.declared.definition.Column.{Column}
use Rattle.row_types.specs.declared.definition.TableDef.{TableDef}
use Rattle.row_types.specs.declared.row.Value.{Value}
use Rattle.row_types.specs.Schema.{is_int}
use Rattle.sql_parse.specs.declared.statement.Statement.{Statement}
use Rattle.sql_parse.specs.declared.statement.Statement.TheVariants as statements
use Rattle.sql_parse.specs.declared.statement.Change.{Change}
use Rattle.sql_parse.specs.declared.statement.Condition.{Condition}
use Rattle.sql_parse.specs.declared.statement.Order.{Order}
use Rattle.sql_parse.specs.declared.statement.Shown.{Shown}
use Rattle.sql_parse.specs.declared.statement.Shown.TheVariants as showns
use Rattle.sql_parse.specs.declared.statement.Step.{Step}
use Rattle.sql_parse.specs.declared.statement.Term.{Term}
use Rattle.sql_parse.specs.declared.statement.Term.TheVariants as terms
use Rattle.sql_parse.specs.declared.statement.Total.{Total}
use Rattle.sql_parse.specs.declared.statement.Total.TheVariants as totals
use Rattle.sql_check.specs.declared.fault.CheckFault.{CheckFault}
use Rattle.sql_check.specs.declared.fault.CheckFault.TheVariants.{NoTable, NoColumn, Order as WrongOrder}
use Rattle.sql_check.specs.declared.fault.CheckFault.TheVariants.{Kind as WrongKind, KeyFixed, Twice, Count}
use Rattle.sql_check.specs.declared.fault.CheckFault.TheVariants.{Length}
use Rattle.sql_check.specs.Columns.{def_named, kind_named, is_key, kind_of}

-- the fault where the test holds
abbrev pub fault_if : Bool → CheckFault → Option CheckFault
fault_if test fault = if test then Some fault else None

-- the first of some tests that finds a fault
abbrev pub first_of : List (Option CheckFault) → Option CheckFault
first_of [] = None
first_of (test ∷ tests) = option_or test (first_of tests)

-- the first fault of some parts that stand one after the other
abbrev pub first_fault : {Part : Type 0} → (Part → Option CheckFault) → List Part → Option CheckFault
first_fault fault_of parts = first_of (map fault_of parts)

-- NO COLUMN where no column has the name, else what is tested of its kind
abbrev pub of_column : List Column → List ℕ → (Kind → Option CheckFault) → Option CheckFault
of_column columns name test = option_map_or test (kind_named columns name) (Some NoColumn)

-- what is given to a column: KIND where it is of the other kind,
-- LENGTH where a text may have more bytes than the column's
abbrev pub given_fault : Kind → Kind → Option CheckFault
given_fault kinds.Int kinds.Int = None
given_fault kinds.Int (kinds.Text given) = Some WrongKind
given_fault (kinds.Text limit) kinds.Int = Some WrongKind
given_fault (kinds.Text limit) (kinds.Text given) = fault_if (nat_lt limit given) (Length given limit)

-- the values of a row, each in its column: KIND, LENGTH
abbrev pub values_fault : List Column → List Value → Option CheckFault
values_fault [] values = None
values_fault (column ∷ columns) [] = None
values_fault (column ∷ columns) (value ∷ values) =
    option_or (given_fault column.kind (kind_of value)) (values_fault columns values)

-- a row of an INSERT: COUNT, and then its values
abbrev pub row_fault : List Column → List Value → Option CheckFault
row_fault columns row = first_of (
    fault_if (not (length row == length columns)) (Count (length row) (length columns)) ∷
    values_fault columns row ∷ [])

-- a column that is shown: NO COLUMN
abbrev pub shown_fault : List Column → List ℕ → Option CheckFault
shown_fault columns name = of_column columns name (λ kind. None)

-- the columns that are shown
abbrev pub all_shown_fault : List Column → Shown → Option CheckFault
all_shown_fault columns showns.All = None
all_shown_fault columns (showns.Columns names) = first_fault (shown_fault columns) names

-- a total: of a sum NO COLUMN, and KIND where the column holds texts
abbrev pub total_fault : List Column → Total → Option CheckFault
total_fault columns totals.Count = None
total_fault columns (totals.Sum name) =
    of_column columns name (λ kind. fault_if (not (is_int kind)) WrongKind)

-- both hold whole numbers, or both texts
abbrev pub is_same_kind : Kind → Kind → Bool
is_same_kind kinds.Int kinds.Int = true
is_same_kind (kinds.Text limit) (kinds.Text given) = true
is_same_kind kinds.Int (kinds.Text given) = false
is_same_kind (kinds.Text limit) kinds.Int = false

-- a condition: NO COLUMN, KIND
abbrev pub condition_fault : List Column → Condition → Option CheckFault
condition_fault columns condition =
    of_column columns condition.column
    (λ kind. fault_if (not (is_same_kind kind (kind_of condition.value))) WrongKind)

-- the columns that assignments name
abbrev pub column_names : List Change → List (List ℕ)
column_names changes = map (λ (c : Change). c.column) changes

-- the column of an assignment, where these are the columns of earlier ones: NO COLUMN, KEY FIXED, TWICE
abbrev pub target_fault : TableDef → List (List ℕ) → List ℕ → Option CheckFault
target_fault def earlier name = of_column def.columns name (λ kind. first_of (
    fault_if (is_key def name) KeyFixed ∷
    fault_if (list_any (bytes_eq name) earlier) Twice ∷ []))

-- a text stands alone in its expression: KIND where it doesn't, else the fault that there is
abbrev pub alone_or : Kind → Bool → Option CheckFault → Option CheckFault
alone_or kinds.Int is_alone fault = fault
alone_or (kinds.Text limit) true fault = fault
alone_or (kinds.Text limit) false fault = Some WrongKind

-- what an expression gives a column of one kind by a term of another
abbrev pub in_expression : Kind → Bool → Kind → Option CheckFault
in_expression kind is_alone given = alone_or kind is_alone (given_fault kind given)

-- a term of the expression of a column of this kind: NO COLUMN, KIND, LENGTH
abbrev pub term_fault : List Column → Kind → Bool → Term → Option CheckFault
term_fault columns kind is_alone (terms.Value value) = in_expression kind is_alone (kind_of value)
term_fault columns kind is_alone (terms.Column name) = of_column columns name (in_expression kind is_alone)

-- there is nothing in the list
abbrev pub is_none_left : {Part : Type 0} → List Part → Bool
is_none_left [] = true
is_none_left (part ∷ parts) = false

-- the terms of the expression, in their order
abbrev pub terms_of : Change → List Term
terms_of change = change.first ∷ map (λ (s : Step). s.term) change.further

-- the expression of an assignment, whose column is there
abbrev pub expression_fault : List Column → Change → Option CheckFault
expression_fault columns change =
    of_column columns change.column
    (λ kind. first_fault (term_fault columns kind (is_none_left change.further)) (terms_of change))

-- an assignment behind those of other columns
abbrev pub change_fault : TableDef → List (List ℕ) → Change → Option CheckFault
change_fault def earlier change = first_of (
    target_fault def earlier change.column ∷
    expression_fault def.columns change ∷ [])

-- the assignments, where these are the columns of those before them
abbrev pub changes_fault : TableDef → List (List ℕ) → List Change → Option CheckFault
changes_fault def earlier [] = None
changes_fault def earlier (change ∷ changes) =
    option_or (change_fault def earlier change) (changes_fault def (earlier ++ change.column ∷ []) changes)

-- ORDER BY: NO COLUMN, ORDER where the column isn't the key
abbrev pub order_fault : TableDef → Option Order → Option CheckFault
order_fault def None = None
order_fault def (Some order) =
    of_column def.columns order.column (λ kind. fault_if (not (is_key def order.column)) WrongOrder)

-- the first fault of a statement on this table, from left to right, with WHERE last but one and ORDER BY last
abbrev pub fault_in : TableDef → Statement → Option CheckFault
fault_in def (statements.Insert s) = first_fault (row_fault def.columns) s.rows
fault_in def (statements.Select s) = first_of (
    all_shown_fault def.columns s.shown ∷
    first_fault (condition_fault def.columns) s.conditions ∷
    order_fault def s.order ∷ [])
fault_in def (statements.Totals s) = first_of (
    first_fault (total_fault def.columns) s.totals ∷
    first_fault (condition_fault def.columns) s.conditions ∷ [])
fault_in def (statements.Update s) = first_of (
    changes_fault def [] s.changes ∷
    first_fault (condition_fault def.columns) s.conditions ∷ [])
fault_in def (statements.Delete s) = first_fault (condition_fault def.columns) s.conditions
fault_in def (statements.Create created) = None
fault_in def statements.Begin = None
fault_in def statements.Commit = None
fault_in def statements.Rollback = None

-- the name of the table that a statement is on
abbrev pub table_of : Statement → Option (List ℕ)
table_of (statements.Insert s) = Some s.table
table_of (statements.Select s) = Some s.table
table_of (statements.Totals s) = Some s.table
table_of (statements.Update s) = Some s.table
table_of (statements.Delete s) = Some s.table
table_of (statements.Create created) = None
table_of statements.Begin = None
table_of statements.Commit = None
table_of statements.Rollback = None

-- NO TABLE where no table has the name, else the first fault in it
abbrev pub fault_on : List TableDef → Statement → List ℕ → Option CheckFault
fault_on tables statement name =
    option_map_or (λ def. fault_in def statement) (def_named tables name) (Some NoTable)

-- the first fault of a statement by name, kind or count; none where it is on no table
abbrev pub misfit : List TableDef → Statement → Option CheckFault
misfit tables statement = option_map_or (fault_on tables statement) (table_of statement) None
