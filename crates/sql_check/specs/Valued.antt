-- What the types of the program know of the values of a statement.
use Rattle.std.specs.Prelude.{◌≡◌, List, map, None, FitsSigned, IsUtf8, ⊤}
use Rattle.std.specs.Int.{w64}
use Rattle.std.specs.List.{AllByRecursion}
use Rattle.row_types.specs.declared.definition.TableDef.{TableDef}
use Rattle.row_types.specs.declared.row.Value.{Value}
use Rattle.row_types.specs.declared.row.Value.TheVariants as values
use Rattle.sql_parse.specs.declared.statement.Statement.{Statement}
use Rattle.sql_parse.specs.declared.statement.Statement.TheVariants as statements
use Rattle.sql_parse.specs.declared.statement.Change.{Change}
use Rattle.sql_parse.specs.declared.statement.Condition.{Condition}
use Rattle.sql_parse.specs.declared.statement.Term.{Term}
use Rattle.sql_parse.specs.declared.statement.Term.TheVariants as terms
use Rattle.sql_check.specs.declared.plan.Plan.{Plan}
use Rattle.sql_check.specs.Misfits.{terms_of, misfit}
use Rattle.sql_check.specs.Plans.{plan_of}

-- a number lies in -2^63 to 2^63 - 1, and a text is UTF-8
abbrev pub IsValue : Value → Type 0
IsValue (values.Int number) = FitsSigned w64 number
IsValue (values.Text text) = IsUtf8 text

-- the same, where a term is a value
abbrev pub IsTermOfValue : Term → Type 0
IsTermOfValue (terms.Value value) = IsValue value
IsTermOfValue (terms.Column name) = ⊤

-- the same of the terms of an assignment
abbrev pub IsChangeOfValues : Change → Type 0
IsChangeOfValues change = AllByRecursion IsTermOfValue (terms_of change)

-- the same of the value of a condition
abbrev pub IsConditionOfValue : Condition → Type 0
IsConditionOfValue condition = IsValue condition.value

-- the same of all values of a statement
abbrev pub HasValues : Statement → Type 0
HasValues (statements.Insert s) = AllByRecursion (AllByRecursion IsValue) s.rows
HasValues (statements.Select s) = AllByRecursion IsConditionOfValue s.conditions
HasValues (statements.Totals s) = AllByRecursion IsConditionOfValue s.conditions
HasValues (statements.Update s) =
    AllByRecursion IsChangeOfValues s.changes × AllByRecursion IsConditionOfValue s.conditions
HasValues (statements.Delete s) = AllByRecursion IsConditionOfValue s.conditions
HasValues (statements.Create created) = ⊤
HasValues statements.Begin = ⊤
HasValues statements.Commit = ⊤
HasValues statements.Rollback = ⊤

-- the plan is that of the statement, which fits the tables
pub record IsPlanOf (tables : List TableDef) (statement : Statement) (plan : Plan) : Type 0 where
  pub fits : misfit tables statement ≡ None
  pub values : HasValues statement
  pub plan_is : plan ≡ plan_of tables statement
