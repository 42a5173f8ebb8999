-- The key of a row.
use Rattle.std.specs.Prelude.{ℕ, suc, ◌+◌, ◌-◌, ◌^◌, ℤ, pos, negsuc, List, [], ◌∷◌, slice_get, Option, None}
use Rattle.std.specs.Prelude.{Some}
use Rattle.row_types.specs.declared.row.Value.{Value}
use Rattle.row_types.specs.declared.row.Value.TheVariants as value

-- the whole number that a value is, 0 for a text and for none
abbrev pub int_of : Option Value → ℤ
int_of None = pos 0
int_of (Some (value.Int number)) = number
int_of (Some (value.Text text)) = pos 0

-- the whole number at a place of a row, 0 where no such stands
abbrev pub int_at : List Value → ℕ → ℤ
int_at row place = int_of (slice_get row place)

-- the whole number plus 2^63, so that the least of 64 bits is 0 and order is kept
abbrev pub key_of_int : ℤ → ℕ
key_of_int (pos n) = 2 ^ 63 + n
key_of_int (negsuc n) = 2 ^ 63 - suc n

-- the key of a row: that of the whole number in its marked column
abbrev pub row_key : List ℕ → List Value → ℕ
row_key [] row = 0
row_key (mark ∷ marks) row = key_of_int (int_at row mark)
