-- What is known of a plan that fits the tables.
use Rattle.std.specs.Prelude.{◌≡◌, ℕ, ◌<◌, ◌^◌, true, List, [], length, Option, Some, ⊤}
use Rattle.std.specs.List.{AllByRecursion}
use Rattle.row_types.specs.declared.definition.TableDef.{TableDef}
use Rattle.row_types.specs.declared.row.Value.{Value}
use Rattle.row_types.specs.Keys.{row_key}
use Rattle.row_types.specs.Schema.{columns_at, keys_at, has_int_key}
use Rattle.row_types.specs.Slot.{IsRowOf}
use Rattle.key_space.specs.declared.range.Range.{Range}
use Rattle.key_space.specs.Ranges.{IsNotEmpty}
use Rattle.sql_check.specs.declared.plan.Assignment.{Assignment}
use Rattle.sql_check.specs.declared.plan.Plan.{Plan}
use Rattle.sql_check.specs.declared.plan.Plan.TheVariants as plans
use Rattle.sql_check.specs.declared.plan.Test.{Test}
use Rattle.sql_check.specs.KeyRange.{IsInRange}
use Rattle.plain_model.specs.PlanMeaning.{passes_all, planned_row}

-- the table is there, and the range holds a key or isn't there
pub record IsAbout (defs : List TableDef) (table : ℕ) (range : Option Range) : Type 0 where
  pub table_is : table < length defs
  pub some : (r : Range) → range ≡ Some r → IsNotEmpty r

-- the keys of the range are those of whole numbers
abbrev pub IsOfInts : Option Range → Type 0
IsOfInts range = (r : Range) → range ≡ Some r → r.hi.number < 2 ^ 64

-- the row fits the table, and its key lies in the range
pub record IsNamed (defs : List TableDef) (table : ℕ) (range : Option Range) (row : List Value) : Type 0 where
  pub fits : IsRowOf (columns_at defs table) row
  pub inside : IsInRange range (row_key (keys_at defs table) row)

-- each row that fits the table and passes all tests has its key in the range
abbrev pub NamesKept : List TableDef → ℕ → Option Range → List Test → Type 0
NamesKept defs table range conditions =
    (row : List Value) → has_int_key (columns_at defs table) (keys_at defs table) ≡ true
    → IsRowOf (columns_at defs table) row
    → passes_all conditions row ≡ true → IsInRange range (row_key (keys_at defs table) row)

-- the new row fits the table, under the key of the old one
pub record IsInPlace (defs : List TableDef) (table : ℕ) (old new : List Value) : Type 0 where
  pub fits : IsRowOf (columns_at defs table) new
  pub key : row_key (keys_at defs table) new ≡ row_key (keys_at defs table) old

-- each new row that assignments make of a row that fits is one in its place
abbrev pub ChangesInPlace : List TableDef → ℕ → List Assignment → Type 0
ChangesInPlace defs table changes =
    (row new : List Value) → IsRowOf (columns_at defs table) row → planned_row changes row ≡ Some new
    → IsInPlace defs table row new

-- the tests of the rows that a plan keeps
abbrev pub tests_of : Plan → List Test
tests_of (plans.Select p) = p.conditions
tests_of (plans.Totals p) = p.conditions
tests_of (plans.Update p) = p.conditions
tests_of (plans.Delete p) = p.conditions
tests_of plan = []

-- the plan fits tables of these definitions
abbrev pub FitsTables : List TableDef → Plan → Type 0
FitsTables defs (plans.Insert p) =
    IsAbout defs p.table p.range × AllByRecursion (IsNamed defs p.table p.range) p.rows
FitsTables defs (plans.Select p) = IsAbout defs p.table p.range × NamesKept defs p.table p.range p.conditions
FitsTables defs (plans.Totals p) =
    IsAbout defs p.table p.range × NamesKept defs p.table p.range p.conditions × IsOfInts p.range
FitsTables defs (plans.Update p) =
    IsAbout defs p.table p.range × NamesKept defs p.table p.range p.conditions
    × ChangesInPlace defs p.table p.changes
FitsTables defs (plans.Delete p) = IsAbout defs p.table p.range × NamesKept defs p.table p.range p.conditions
FitsTables defs plans.Create = ⊤
FitsTables defs plans.Begin = ⊤
FitsTables defs plans.Commit = ⊤
FitsTables defs plans.Rollback = ⊤
