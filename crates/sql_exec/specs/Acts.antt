-- What UPDATE and DELETE do with each row.
use Rattle.std.specs.Prelude.{ℕ, Bool, true, false, ◌&&◌, if◌then◌else◌, nat_le, nat_lt, List, [], ◌∷◌}
use Rattle.std.specs.Prelude.{length, filter, Option, None, Some}
use Rattle.std.specs.List.{flat_map, list_any}
use Rattle.row_types.specs.declared.row.Value.{Value}
use Rattle.row_types.specs.Keys.{row_key}
use Rattle.key_space.specs.Plays.{Rows, with_row, without_key}
use Rattle.sql_check.specs.declared.plan.DeletePlan.{DeletePlan}
use Rattle.sql_check.specs.declared.plan.Plan.{Plan}
use Rattle.sql_check.specs.declared.plan.Plan.TheVariants as plans
use Rattle.sql_check.specs.declared.plan.UpdatePlan.{UpdatePlan}
use Rattle.plain_model.specs.PlanMeaning.{passes_all, planned_row}
use Rattle.sql_exec.specs.declared.act.Act.{Act}
use Rattle.sql_exec.specs.declared.act.Act.TheVariants.{Keep, Set, Take, Refuse}
use Rattle.sql_exec.specs.declared.act.ChangePlan.{ChangePlan}
use Rattle.sql_exec.specs.declared.act.ChangePlan.TheVariants as changes

-- the new row takes the place of the old one, where it can be made
abbrev pub set_or_refuse : Option (List Value) → Act
set_or_refuse None = Refuse
set_or_refuse (Some new) = Set new

-- what an UPDATE does with a row that is there
abbrev pub update_act : UpdatePlan → List Value → Act
update_act p row =
    if passes_all p.conditions row then set_or_refuse (planned_row p.changes row) else Keep

-- what a DELETE does with it
abbrev pub delete_act : DeletePlan → List Value → Act
delete_act p row = if passes_all p.conditions row then Take else Keep

-- what either does with it
abbrev pub act_of : ChangePlan → List Value → Act
act_of (changes.Update p) row = update_act p.now row
act_of (changes.Delete p) row = delete_act p.now row

-- the plan that it is
abbrev pub as_plan : ChangePlan → Plan
as_plan (changes.Update p) = plans.Update p.now
as_plan (changes.Delete p) = plans.Delete p.now

-- it changes the row or takes it away
abbrev pub is_done : Act → Bool
is_done Keep = false
is_done (Set new) = true
is_done Take = true
is_done Refuse = false

-- the new row can't be made
abbrev pub is_refused : Act → Bool
is_refused Keep = false
is_refused (Set new) = false
is_refused Take = false
is_refused Refuse = true

-- the rows that it leaves of a row
abbrev pub left_of : Act → List Value → Rows
left_of Keep row = row ∷ []
left_of (Set new) row = new ∷ []
left_of Take row = []
left_of Refuse row = row ∷ []

-- the rows after it is done by a call
abbrev pub effect : List ℕ → Act → List Value → Rows → Rows
effect marks Keep row rows = rows
effect marks (Set new) row rows = with_row marks rows new
effect marks Take row rows = without_key marks rows (row_key marks row)
effect marks Refuse row rows = rows

-- the rows after it is done with each row of a list
abbrev pub effects : List ℕ → (List Value → Act) → Rows → Rows → Rows
effects marks act [] rows = rows
effects marks act (row ∷ more) rows = effects marks act more (effect marks (act row) row rows)

-- the row that it sets
abbrev pub put_by : Act → Rows
put_by (Set new) = new ∷ []
put_by Keep = []
put_by Take = []
put_by Refuse = []

-- the key that it takes away
abbrev pub taken_by : List ℕ → Act → List Value → List ℕ
taken_by marks Take row = row_key marks row ∷ []
taken_by marks Keep row = []
taken_by marks (Set new) row = []
taken_by marks Refuse row = []

-- ---- Parts of a range

-- the key is at least one number and below another
abbrev pub is_in : List ℕ → ℕ → ℕ → List Value → Bool
is_in marks lo end row = nat_le lo (row_key marks row) && nat_lt (row_key marks row) end

-- the rows with such keys
abbrev pub rows_in : List ℕ → ℕ → ℕ → Rows → Rows
rows_in marks lo end rows = filter (is_in marks lo end) rows

-- the rows after it is done with those whose keys are such
abbrev pub acted_in : List ℕ → ℕ → ℕ → (List Value → Act) → Rows → Rows
acted_in marks lo end act rows =
    flat_map (λ row. if is_in marks lo end row then left_of (act row) row else row ∷ []) rows

-- with how many rows something is done
abbrev pub done_count : (List Value → Act) → Rows → ℕ
done_count act rows = length (filter (λ row. is_done (act row)) rows)

-- some new row can't be made
abbrev pub some_refused : (List Value → Act) → Rows → Bool
some_refused act rows = list_any (λ row. is_refused (act row)) rows
