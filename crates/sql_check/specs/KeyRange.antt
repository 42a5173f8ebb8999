-- The keys that a statement is about.
use Rattle.std.specs.Prelude.{◌≡◌, ℕ, ◌+◌, ◌-◌, ◌^◌, ◌<◌, ◌≤◌, min, max, Bool, if◌then◌else◌, nat_lt, List}
use Rattle.std.specs.Prelude.{[], ◌∷◌, map, fold, filter, Option, None, Some, ⊤}
use Rattle.row_types.specs.declared.definition.TableDef.{TableDef}
use Rattle.row_types.specs.declared.row.Value.{Value}
use Rattle.row_types.specs.Keys.{key_of_int, int_of, row_key}
use Rattle.key_space.specs.declared.range.Range.{Range}
use Rattle.sql_parse.specs.declared.statement.Comparison.{Comparison}
use Rattle.sql_parse.specs.declared.statement.Comparison.TheVariants.{Equal, NotEqual, Less, LessEqual}
use Rattle.sql_parse.specs.declared.statement.Comparison.TheVariants.{Greater, GreaterEqual}
use Rattle.sql_parse.specs.declared.statement.Condition.{Condition}
use Rattle.sql_check.specs.Columns.{is_key}

-- a key lies in the range, which holds none where it isn't there
abbrev pub IsInRange : Option Range → ℕ → Type 0
IsInRange None key = ⊥
IsInRange (Some range) key = (range.lo.number ≤ key) × (key ≤ range.hi.number)

-- a key compares so with another, where `<>` bars none
abbrev pub MeetsKey : Comparison → ℕ → ℕ → Type 0
MeetsKey Equal key other = key ≡ other
MeetsKey NotEqual key other = ⊤
MeetsKey Less key other = key < other
MeetsKey LessEqual key other = key ≤ other
MeetsKey Greater key other = other < key
MeetsKey GreaterEqual key other = other ≤ key

-- the least key that compares so with another
abbrev pub low_end : Comparison → ℕ → ℕ
low_end Equal key = key
low_end NotEqual key = 0
low_end Less key = 0
low_end LessEqual key = 0
low_end Greater key = key + 1
low_end GreaterEqual key = key

-- the first key above those that compare so with another, of keys of whole numbers
abbrev pub high_end : Comparison → ℕ → ℕ
high_end Equal key = key + 1
high_end NotEqual key = 2 ^ 64
high_end Less key = key
high_end LessEqual key = key + 1
high_end Greater key = 2 ^ 64
high_end GreaterEqual key = 2 ^ 64

-- the key that a condition on the key compares with
abbrev pub key_in : Condition → ℕ
key_in condition = key_of_int (int_of (Some condition.value))

-- the keys from one up to below another
abbrev pub keys_below : ℕ → ℕ → Option Range
keys_below from end =
    if nat_lt from end then Some (record { lo = record { number = from }; hi = record { number = end - 1 } })
    else None

-- the greatest of the low ends of conditions on the key
abbrev pub from_of : List Condition → ℕ
from_of conditions = fold max 0 (map (λ (c : Condition). low_end c.comparison (key_in c)) conditions)

-- the least of their high ends
abbrev pub end_of : List Condition → ℕ
end_of conditions = fold min (2 ^ 64) (map (λ (c : Condition). high_end c.comparison (key_in c)) conditions)

-- the conditions on the key
abbrev pub on_key : TableDef → List Condition → List Condition
on_key def conditions = filter (λ (c : Condition). is_key def c.column) conditions

-- the keys that the conditions on the key allow: all keys of whole numbers, cut by each
abbrev pub range_of : TableDef → List Condition → Option Range
range_of def conditions = keys_below (from_of (on_key def conditions)) (end_of (on_key def conditions))

-- from the least of the keys of some rows to the greatest
abbrev pub range_of_rows : List ℕ → List (List Value) → Option Range
range_of_rows marks [] = None
range_of_rows marks (row ∷ rows) = Some (record {
  lo = record { number = fold min (row_key marks row) (map (row_key marks) rows) };
  hi = record { number = fold max (row_key marks row) (map (row_key marks) rows) };
})
