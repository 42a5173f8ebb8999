-- How far a look-up over the pieces of a range has come.
use Rattle.std.specs.Prelude.{◌≡◌, ◌⊎◌, ℕ, ◌+◌, ◌^◌, ◌++◌, ℤ, pos, ◌+ℤ◌, ◌≤ℤ◌, ◌<ℤ◌, neg_ℤ, List, [], ◌∷◌}
use Rattle.std.specs.Prelude.{map, filter, Option}
use Rattle.std.specs.List.{Any}
use Rattle.row_types.specs.declared.row.Value.{Value}
use Rattle.row_types.specs.Keys.{int_at}
use Rattle.key_space.specs.declared.range.Range.{Range}
use Rattle.key_space.specs.Plays.{Rows}
use Rattle.sql_check.specs.declared.plan.SelectPlan.{SelectPlan}
use Rattle.sql_check.specs.declared.plan.TotalPlan.{TotalPlan}
use Rattle.sql_check.specs.declared.plan.TotalPlan.TheVariants as sums
use Rattle.sql_check.specs.declared.plan.TotalsPlan.{TotalsPlan}
use Rattle.plain_model.specs.Meaning.{limited}
use Rattle.plain_model.specs.PlanMeaning.{passes_all, planned_total, put_in_order}
use Rattle.plain_model.specs.Values.{value_at}
use Rattle.sql_exec.specs.Acts.{rows_in}

-- the values of a row in these columns
abbrev pub in_columns : List ℕ → List Value → List Value
in_columns columns row = map (value_at row) columns

-- what is shown of rows in their order, at most so many
abbrev pub shown_of : SelectPlan → Option ℕ → Rows → Rows
shown_of p wanted rows = map (in_columns p.columns) (limited wanted (filter (passes_all p.conditions) rows))

-- the sums over rows
abbrev pub sums_of : TotalsPlan → Rows → List ℤ
sums_of p rows = map (planned_total (filter (passes_all p.conditions) rows)) p.totals

-- what is shown of the rows of a range that pass was found
abbrev pub Found : List ℕ → Range → SelectPlan → Option ℕ → Rows → Rows → Type 0
Found marks range p wanted found rows =
    found ≡ shown_of p wanted (rows_in marks range.lo.number (range.hi.number + 1) rows)

-- it was found in the order that is asked for, of at most LIMIT of them
abbrev pub FoundInOrder : List ℕ → Range → SelectPlan → Rows → Rows → Type 0
FoundInOrder marks range p found rows =
    found
    ≡ map (in_columns p.columns)
    (limited p.limit
    (put_in_order p.is_falling
    (filter (passes_all p.conditions) (rows_in marks range.lo.number (range.hi.number + 1) rows))))

-- what a row adds to a total
abbrev pub part_of : List Value → TotalPlan → ℤ
part_of row sums.Count = pos 1
part_of row (sums.Sum column) = int_at row column

-- the sums with a row added
abbrev pub with_row_added : List TotalPlan → List Value → List ℤ → List ℤ
with_row_added [] row sums = []
with_row_added (total ∷ totals) row [] = []
with_row_added (total ∷ totals) row (sum ∷ sums) = (sum +ℤ part_of row total) ∷ with_row_added totals row sums

-- a number leaves 128 bits
abbrev pub IsOver : ℤ → Type 0
IsOver number = (pos (2 ^ 127) ≤ℤ number) ⊎ (number <ℤ neg_ℤ (pos (2 ^ 127)))

-- a sum over the first of these rows leaves 128 bits
pub record GoesOver (p : TotalsPlan) (rows : Rows) : Type 0 where
  pub front : Rows
  pub rest : Rows
  pub split : rows ≡ front ++ rest
  pub over : Any IsOver (sums_of p front)
