-- What a plan does to the rows of its table: the meaning of
-- a statement that fits, by the numbers of its columns.
use Rattle.std.specs.Prelude.{ℕ, Bool, true, false, not, if◌then◌else◌, is_none, ℤ, pos, ◌+ℤ◌, ◌-ℤ◌, List, []}
use Rattle.std.specs.Prelude.{◌∷◌, length, map, reverse, filter, fold, unwrap_or, Option, Some, option_map}
use Rattle.std.specs.Prelude.{option_and_then}
use Rattle.std.specs.List.{list_any, list_all, slice_set}
use Rattle.std.specs.Bool.{then_some}
use Rattle.std.specs.Ordering.{int_cmp, nat_cmp}
use Rattle.std.specs.Cmp.Lexicographic.{slice_cmp}
use Rattle.row_types.specs.declared.row.Value.{Value}
use Rattle.row_types.specs.declared.row.Value.TheVariants as values
use Rattle.row_types.specs.Keys.{int_at}
use Rattle.row_types.specs.declared.definition.TableDef.{TableDef}
use Rattle.key_space.specs.Plays.{Rows}
use Rattle.sql_check.specs.declared.plan.Plan.{Plan}
use Rattle.sql_check.specs.declared.plan.Plan.TheVariants as plans
use Rattle.sql_check.specs.declared.plan.Test.{Test}
use Rattle.sql_check.specs.declared.plan.Test.TheVariants as tests
use Rattle.sql_check.specs.declared.plan.TotalPlan.{TotalPlan}
use Rattle.sql_check.specs.declared.plan.TotalPlan.TheVariants as sums
use Rattle.sql_check.specs.declared.plan.Assignment.{Assignment}
use Rattle.sql_check.specs.declared.plan.Assignment.TheVariants as assignments
use Rattle.sql_check.specs.declared.plan.IntTerm.{IntTerm}
use Rattle.sql_check.specs.declared.plan.IntTerm.TheVariants as numbers
use Rattle.sql_check.specs.declared.plan.IntStep.{IntStep}
use Rattle.sql_check.specs.declared.plan.TextTerm.{TextTerm}
use Rattle.sql_check.specs.declared.plan.TextTerm.TheVariants as texts
use Rattle.sql_check.specs.Columns.{text_in}
use Rattle.plain_model.specs.declared.reply.Reply.{Reply}
use Rattle.plain_model.specs.declared.reply.Reply.TheVariants as reply
use Rattle.plain_model.specs.declared.reply.Refusal.TheVariants.{Range}
use Rattle.plain_model.specs.Values.{value_at, allows, fits_int}
use Rattle.plain_model.specs.Meaning.{count_of, inserts, limited, totals_reply}

-- the text at a place of a row, empty where no such stands
abbrev pub text_at : List Value → ℕ → List ℕ
text_at row n = text_in (value_at row n)

-- a test holds of a row
abbrev pub test_holds : List Value → Test → Bool
test_holds row (tests.Int column comparison number) = allows comparison (int_cmp (int_at row column) number)
test_holds row (tests.Text column comparison text) =
    allows comparison (slice_cmp nat_cmp (text_at row column) text)

-- every test holds of a row
abbrev pub passes_all : List Test → List Value → Bool
passes_all conditions row = list_all (test_holds row) conditions

-- a term of whole numbers
abbrev pub int_value : List Value → IntTerm → ℤ
int_value row (numbers.Number number) = number
int_value row (numbers.Column column) = int_at row column

-- a number with another added, or taken away
abbrev pub int_stepped : ℤ → Bool → ℤ → ℤ
int_stepped a false b = a +ℤ b
int_stepped a true b = a -ℤ b

-- a number after further steps, from left to right; none where one leaves -2^63 to 2^63 - 1
abbrev pub ints_after : List Value → ℤ → List IntStep → Option ℤ
ints_after row number [] = Some number
ints_after row number (step ∷ steps) =
    let next = int_stepped number step.is_minus (int_value row step.term) in
    option_and_then (λ n. ints_after row n steps) (then_some (fits_int next) next)

-- a term that is a text
abbrev pub text_value : List Value → TextTerm → List ℕ
text_value row (texts.Text text) = text
text_value row (texts.Column column) = text_at row column

-- the column of an assignment
abbrev pub target_of : Assignment → ℕ
target_of (assignments.Int column first further) = column
target_of (assignments.Text column text) = column

-- what an assignment gives its column on a row
abbrev pub assigned_value : List Value → Assignment → Option Value
assigned_value row (assignments.Int column first further) =
    option_map values.Int (ints_after row (int_value row first) further)
assigned_value row (assignments.Text column text) = Some (values.Text (text_value row text))

-- a row with assignments made, whose expressions are of the old row
abbrev pub with_assignments : List Value → List Assignment → List Value → Option (List Value)
with_assignments old [] row = Some row
with_assignments old (change ∷ changes) row =
    option_and_then (λ value. with_assignments old changes (slice_set row (target_of change) value))
    (assigned_value old change)

-- the new row that assignments make of a row
abbrev pub planned_row : List Assignment → List Value → Option (List Value)
planned_row changes row = with_assignments row changes row

-- a total
abbrev pub planned_total : Rows → TotalPlan → ℤ
planned_total rows sums.Count = pos (length rows)
planned_total rows (sums.Sum column) = fold (λ sum row. sum +ℤ int_at row column) (pos 0) rows

-- rows in rising order of their keys as they are, or the other way round
abbrev pub put_in_order : Bool → Rows → Rows
put_in_order false rows = rows
put_in_order true rows = reverse rows

-- a row after an UPDATE
abbrev pub planned_update : List Assignment → List Test → List Value → List Value
planned_update changes conditions row =
    if passes_all conditions row then unwrap_or (planned_row changes row) row else row

-- the reply to a plan, and the rows of its table after it
abbrev pub plan_acts : TableDef → Plan → Rows → Reply × Rows
plan_acts def (plans.Insert p) rows = inserts def p.rows rows
plan_acts def (plans.Select p) rows = (
  reply.Rows
      (map (λ row. map (value_at row) p.columns)
      (limited p.limit (put_in_order p.is_falling (filter (passes_all p.conditions) rows)))),
  rows,
)
plan_acts def (plans.Totals p) rows =
    (totals_reply (map (planned_total (filter (passes_all p.conditions) rows)) p.totals), rows)
plan_acts def (plans.Update p) rows =
    if list_any (λ row. is_none (planned_row p.changes row)) (filter (passes_all p.conditions) rows)
    then (reply.Refused Range, rows)
    else (
      reply.Many (count_of (filter (passes_all p.conditions) rows)),
      map
          (planned_update p.changes p.conditions) rows,
    )
plan_acts def (plans.Delete p) rows = (
  reply.Many (count_of (filter (passes_all p.conditions) rows)),
  filter
      (λ row. not (passes_all p.conditions row)) rows,
)
plan_acts def plans.Create rows = (reply.Done, rows)
plan_acts def plans.Begin rows = (reply.Done, rows)
plan_acts def plans.Commit rows = (reply.Done, rows)
plan_acts def plans.Rollback rows = (reply.Done, rows)
