-- What stands at the keys of a list of rows.
use Rattle.std.specs.Prelude.{ℕ, List, Option, None, Some}
use Rattle.std.specs.List.{filter_map}
use Rattle.std.specs.Map.{lookup}
use Rattle.std.specs.Option.{option_flatten}
use Rattle.std.specs.Ordering.{nat_cmp}
use Rattle.std.specs.BTreeMap.{is_at}
use Rattle.std.specs.BTreeMap.Range.{entries_between as within}
use Rattle.std.specs.declared.ops.Bound.TheVariants.{Included}
use Rattle.row_types.specs.declared.row.Value.{Value}
use Rattle.row_lists.specs.declared.row_list.Before.{Before}
use Rattle.row_lists.specs.declared.row_list.Before.TheVariants.{NoKey, Had}

-- keys in rising order, each with a row or without one
abbrev pub Entries : Type 0
Entries = List (ℕ × Option (List Value))

-- what stands at a key: a row, a key without a row, or nothing
abbrev pub at_key : Entries → ℕ → Option (Option (List Value))
at_key entries key = lookup (is_at (nat_cmp key)) entries

-- the row of a key
abbrev pub row_of : Entries → ℕ → Option (List Value)
row_of entries key = option_flatten (at_key entries key)

-- what stood at a key before a change
abbrev pub stood : Before → Option (Option (List Value))
stood NoKey = None
stood (Had row) = Some row

-- the rows that stand at the keys
abbrev pub rows_of : Entries → List (List Value)
rows_of entries = filter_map (λ e. e.1) entries

-- what stands at the keys from one to another, both among them
abbrev pub entries_between : Entries → ℕ → ℕ → Entries
entries_between entries lo hi = within nat_cmp (Included lo) (Included hi) entries

-- the most rows of a piece of a range
abbrev pub most_rows : ℕ
most_rows = 256
