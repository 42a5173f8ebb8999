-- The plan of a statement that fits the tables.
use Rattle.std.specs.Prelude.{◌≡◌, ◌⊎◌, ℕ, Bool, true, false, List, [], ◌∷◌, length, map, Option, None, Some}
use Rattle.std.specs.Prelude.{Result, Ok, Err}
use Rattle.std.specs.List.{range_with_len}
use Rattle.std.specs.Option.{option_map_or}
use Rattle.row_types.specs.declared.definition.Kind.{Kind}
use Rattle.row_types.specs.declared.definition.Kind.TheVariants as kinds
use Rattle.row_types.specs.declared.definition.Column.{Column}
use Rattle.row_types.specs.declared.definition.TableDef.{TableDef}
use Rattle.row_types.specs.declared.row.Value.{Value}
use Rattle.row_types.specs.declared.row.Value.TheVariants as values
use Rattle.row_types.specs.Schema.{columns_at, keys_at}
use Rattle.row_types.specs.Keys.{int_of}
use Rattle.sql_parse.specs.declared.statement.Statement.{Statement}
use Rattle.sql_parse.specs.declared.statement.Statement.TheVariants as statements
use Rattle.sql_parse.specs.declared.statement.Change.{Change}
use Rattle.sql_parse.specs.declared.statement.Condition.{Condition}
use Rattle.sql_parse.specs.declared.statement.Order.{Order}
use Rattle.sql_parse.specs.declared.statement.Shown.{Shown}
use Rattle.sql_parse.specs.declared.statement.Shown.TheVariants as showns
use Rattle.sql_parse.specs.declared.statement.Step.{Step}
use Rattle.sql_parse.specs.declared.statement.Term.{Term}
use Rattle.sql_parse.specs.declared.statement.Term.TheVariants as terms
use Rattle.sql_parse.specs.declared.statement.Total.{Total}
use Rattle.sql_parse.specs.declared.statement.Total.TheVariants as totals
use Rattle.sql_check.specs.declared.plan.Plan.{Plan}
use Rattle.sql_check.specs.declared.plan.Plan.TheVariants as plans
use Rattle.sql_check.specs.declared.plan.Test.{Test}
use Rattle.sql_check.specs.declared.plan.Test.TheVariants as tests
use Rattle.sql_check.specs.declared.plan.TotalPlan.{TotalPlan}
use Rattle.sql_check.specs.declared.plan.TotalPlan.TheVariants as sums
use Rattle.sql_check.specs.declared.plan.Assignment.{Assignment}
use Rattle.sql_check.specs.declared.plan.Assignment.TheVariants as assignments
use Rattle.sql_check.specs.declared.plan.IntTerm.{IntTerm}
use Rattle.sql_check.specs.declared.plan.IntTerm.TheVariants as numbers
use Rattle.sql_check.specs.declared.plan.IntStep.{IntStep}
use Rattle.sql_check.specs.declared.plan.TextTerm.{TextTerm}
use Rattle.sql_check.specs.declared.plan.TextTerm.TheVariants as texts
use Rattle.sql_check.specs.Columns.{def_at, table_number, column_number, kind_named, text_in}
use Rattle.sql_check.specs.KeyRange.{range_of, range_of_rows}
use Rattle.sql_check.specs.Misfits.{table_of}
use Rattle.sql_check.specs.declared.fault.CheckFault.{CheckFault}
use Rattle.sql_check.specs.declared.fault.CheckFault.TheVariants.{OutOfMemory}

-- a condition as a test of its column
abbrev pub test_by : ℕ → Condition → Value → Test
test_by column condition (values.Int number) = tests.Int column condition.comparison number
test_by column condition (values.Text text) = tests.Text column condition.comparison text

-- the same, with the number of its column
abbrev pub test_of : List Column → Condition → Test
test_of columns condition = test_by (column_number columns condition.column) condition condition.value

-- the numbers of the columns that are shown
abbrev pub columns_shown : List Column → Shown → List ℕ
columns_shown columns showns.All = range_with_len 0 (length columns)
columns_shown columns (showns.Columns names) = map (column_number columns) names

-- the greatest key comes first
abbrev pub falls : Option Order → Bool
falls None = false
falls (Some order) = order.is_falling

-- a total, with the number of its column
abbrev pub total_plan : List Column → Total → TotalPlan
total_plan columns totals.Count = sums.Count
total_plan columns (totals.Sum name) = sums.Sum (column_number columns name)

-- a term of whole numbers
abbrev pub int_term : List Column → Term → IntTerm
int_term columns (terms.Value value) = numbers.Number (int_of (Some value))
int_term columns (terms.Column name) = numbers.Column (column_number columns name)

-- what is added, or taken away
abbrev pub int_step : List Column → Step → IntStep
int_step columns step = record { is_minus = step.is_minus; term = int_term columns step.term }

-- a term that is a text
abbrev pub text_term : List Column → Term → TextTerm
text_term columns (terms.Value value) = texts.Text (text_in value)
text_term columns (terms.Column name) = texts.Column (column_number columns name)

-- an assignment to column number n, which has this kind
abbrev pub assigned : List Column → ℕ → Kind → Change → Assignment
assigned columns n kinds.Int change =
    assignments.Int n (int_term columns change.first) (map (int_step columns) change.further)
assigned columns n (kinds.Text limit) change = assignments.Text n (text_term columns change.first)

-- the kind, whole numbers where there is none
abbrev pub kind_or : Option Kind → Kind
kind_or None = kinds.Int
kind_or (Some kind) = kind

-- an assignment, by the kind of its column
abbrev pub assignment_of : List Column → Change → Assignment
assignment_of columns change =
    assigned columns (column_number columns change.column) (kind_or (kind_named columns change.column)) change

-- the plan of a statement on table number n, which has this definition
abbrev pub plan_on : ℕ → TableDef → Statement → Plan
plan_on n def (statements.Insert s) = plans.Insert (record {
  table = n;
  range = range_of_rows def.keys s.rows;
  rows = s.rows;
})
plan_on n def (statements.Select s) = plans.Select (record {
  table = n;
  range = range_of def s.conditions;
  columns = columns_shown def.columns s.shown;
  conditions = map (test_of def.columns) s.conditions;
  is_falling = falls s.order;
  limit = s.limit;
})
plan_on n def (statements.Totals s) = plans.Totals (record {
  table = n;
  range = range_of def s.conditions;
  totals = map (total_plan def.columns) s.totals;
  conditions = map (test_of def.columns) s.conditions;
})
plan_on n def (statements.Update s) = plans.Update (record {
  table = n;
  range = range_of def s.conditions;
  changes = map (assignment_of def.columns) s.changes;
  conditions = map (test_of def.columns) s.conditions;
})
plan_on n def (statements.Delete s) = plans.Delete (record {
  table = n;
  range = range_of def s.conditions;
  conditions = map (test_of def.columns) s.conditions;
})
plan_on n def (statements.Create created) = plans.Create
plan_on n def statements.Begin = plans.Begin
plan_on n def statements.Commit = plans.Commit
plan_on n def statements.Rollback = plans.Rollback

-- the number of the table that a statement is on, 0 where it is on none
abbrev pub number_of : List TableDef → Statement → ℕ
number_of tables statement = option_map_or (table_number tables) (table_of statement) 0

-- the plan of a statement that fits these tables
abbrev pub plan_of : List TableDef → Statement → Plan
plan_of tables statement =
    plan_on (number_of tables statement) (def_at tables (number_of tables statement)) statement

-- the plan, unless there is a fault
abbrev pub plan_unless : Option CheckFault → Plan → Result Plan CheckFault
plan_unless None plan = Ok plan
plan_unless (Some fault) plan = Err fault

-- the plan or the fault that is due, or there was no memory
abbrev pub IsUnlessMemory : Result Plan CheckFault → Result Plan CheckFault → Type 0
IsUnlessMemory result due = (result ≡ due) ⊎ (result ≡ Err OutOfMemory)
