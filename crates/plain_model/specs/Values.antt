-- What conditions and expressions come to on a row.
use Rattle.std.specs.Prelude.{ℕ, Bool, true, false, ◌^◌, nat_lt, ℤ, pos, negsuc, ◌+ℤ◌, ◌-ℤ◌, List, [], ◌∷◌}
use Rattle.std.specs.Prelude.{slice_get, unwrap_or, Option, None, Some, option_and_then}
use Rattle.std.specs.List.{list_all, slice_set}
use Rattle.std.specs.Bool.{then_some}
use Rattle.std.specs.declared.cmp.Ordering.{Ordering}
use Rattle.std.specs.Ordering.{is_eq, is_ne, is_lt, is_le, is_gt, is_ge, int_cmp, nat_cmp}
use Rattle.std.specs.Cmp.Lexicographic.{slice_cmp}
use Rattle.row_types.specs.declared.definition.Column.{Column}
use Rattle.row_types.specs.declared.row.Value.{Value}
use Rattle.row_types.specs.declared.row.Value.TheVariants.{Int, Text}
use Rattle.sql_parse.specs.declared.statement.Change.{Change}
use Rattle.sql_parse.specs.declared.statement.Comparison.{Comparison}
use Rattle.sql_parse.specs.declared.statement.Comparison.TheVariants.{Equal, NotEqual, Less, LessEqual}
use Rattle.sql_parse.specs.declared.statement.Comparison.TheVariants.{Greater, GreaterEqual}
use Rattle.sql_parse.specs.declared.statement.Condition.{Condition}
use Rattle.sql_parse.specs.declared.statement.Step.{Step}
use Rattle.sql_parse.specs.declared.statement.Term.{Term}
use Rattle.sql_parse.specs.declared.statement.Term.TheVariants as terms
use Rattle.sql_check.specs.Columns.{column_number}

-- the value of a row in column number n, 0 where it has none
abbrev pub value_at : List Value → ℕ → Value
value_at row n = unwrap_or (slice_get row n) (Int (pos 0))

-- the value of a row in the column with this name
abbrev pub cell : List Column → List Value → List ℕ → Value
cell columns row name = value_at row (column_number columns name)

-- two values in this order compare as a comparison asks
abbrev pub allows : Comparison → Ordering → Bool
allows Equal order = is_eq order
allows NotEqual order = is_ne order
allows Less order = is_lt order
allows LessEqual order = is_le order
allows Greater order = is_gt order
allows GreaterEqual order = is_ge order

-- one value compares so with another: numbers as numbers, texts byte by byte
abbrev pub compares : Comparison → Value → Value → Bool
compares comparison (Int a) (Int b) = allows comparison (int_cmp a b)
compares comparison (Text a) (Text b) = allows comparison (slice_cmp nat_cmp a b)
compares comparison (Int a) (Text b) = false
compares comparison (Text a) (Int b) = false

-- a condition holds of a row
abbrev pub holds : List Column → List Value → Condition → Bool
holds columns row condition =
    compares condition.comparison (cell columns row condition.column) condition.value

-- every condition holds of a row
abbrev pub is_kept : List Column → List Condition → List Value → Bool
is_kept columns conditions row = list_all (holds columns row) conditions

-- the number lies in -2^63 to 2^63 - 1, where negsuc n is -1 - n
abbrev pub fits_int : ℤ → Bool
fits_int (pos n) = nat_lt n (2 ^ 63)
fits_int (negsuc n) = nat_lt n (2 ^ 63)

-- a number, where it lies there
abbrev pub in_int : ℤ → Option Value
in_int number = then_some (fits_int number) (Int number)

-- a term: its value, or what its column has in the row
abbrev pub term_value : List Column → List Value → Term → Value
term_value columns row (terms.Value value) = value
term_value columns row (terms.Column name) = cell columns row name

-- a number with another added, or taken away; none where that leaves -2^63 to 2^63 - 1
abbrev pub stepped : Value → Bool → Value → Option Value
stepped (Int a) false (Int b) = in_int (a +ℤ b)
stepped (Int a) true (Int b) = in_int (a -ℤ b)
stepped (Int a) is_minus (Text b) = None
stepped (Text a) is_minus b = None

-- a value after further steps, from left to right
abbrev pub after_steps : List Column → List Value → Value → List Step → Option Value
after_steps columns row value [] = Some value
after_steps columns row value (step ∷ steps) =
    option_and_then (λ next. after_steps columns row next steps)
    (stepped value step.is_minus (term_value columns row step.term))

-- what an expression comes to on a row; none where a step leaves -2^63 to 2^63 - 1
abbrev pub expression_value : List Column → List Value → Change → Option Value
expression_value columns row change =
    after_steps columns row (term_value columns row change.first) change.further

-- a row with assignments made, whose expressions are of the old row; none where one leaves -2^63 to 2^63 - 1
abbrev pub with_changes : List Column → List Value → List Change → List Value → Option (List Value)
with_changes columns old [] row = Some row
with_changes columns old (change ∷ changes) row =
    option_and_then
    (λ value. with_changes columns old changes (slice_set row (column_number columns change.column) value))
    (expression_value columns old change)

-- the new row that an UPDATE makes of a row
abbrev pub changed_row : List Column → List Change → List Value → Option (List Value)
changed_row columns changes row = with_changes columns row changes row
