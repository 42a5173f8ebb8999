-- What is found of the last rows of a range, and of a window of it.
use Rattle.std.specs.Prelude.{◌≡◌, ℕ, ◌+◌, List, ⊤, map, reverse, take, filter}
use Rattle.key_space.specs.declared.range.Range.{Range}
use Rattle.key_space.specs.Plays.{Rows}
use Rattle.sql_check.specs.declared.plan.SelectPlan.{SelectPlan}
use Rattle.plain_model.specs.PlanMeaning.{passes_all}
use Rattle.sql_exec.specs.declared.window.Window.{Window}
use Rattle.sql_exec.specs.declared.window.Window.TheVariants.{Whole, GivenUp}
use Rattle.sql_exec.specs.Acts.{rows_in}
use Rattle.sql_exec.specs.Selects.{in_columns}

-- what is shown of the last rows that pass, the last one first, at most so many
abbrev pub last_shown : SelectPlan → ℕ → Rows → Rows
last_shown p limit rows =
    map (in_columns p.columns) (take limit (reverse (filter (passes_all p.conditions) rows)))

-- that was found of a range
abbrev pub FoundLast : List ℕ → Range → SelectPlan → ℕ → Rows → Rows → Type 0
FoundLast marks range p limit found rows =
    found ≡ last_shown p limit (rows_in marks range.lo.number (range.hi.number + 1) rows)

-- a window was read to its end, or given up
abbrev pub WindowEnds : List ℕ → Range → SelectPlan → ℕ → Window → Rows → Type 0
WindowEnds marks window p wanted (Whole found) rows = FoundLast marks window p wanted found.items rows
WindowEnds marks window p wanted (GivenUp width) rows = ⊤
