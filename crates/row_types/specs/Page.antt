-- A page of a table: its slots stand one after another from
-- its first byte on, and what is behind the last is 0.
use Rattle.std.specs.Prelude.{ℕ, zero, suc, ◌+◌, ◌*◌, ◌/◌, List, [], ◌∷◌, take, drop, Option, None, Some}
use Rattle.std.specs.Option.{option_or, option_map}
use Rattle.row_types.specs.declared.definition.Column.{Column}
use Rattle.row_types.specs.declared.row.Value.{Value}
use Rattle.row_types.specs.Slot.{slot_len, slot_fault, first_not_zero}
use Rattle.row_types.specs.Reading.{slot_value}

-- slot k of a page whose slots have this length
abbrev pub slot_at : ℕ → List ℕ → ℕ → List ℕ
slot_at len page k = take len (drop (k * len) page)

-- how many slots a page has
abbrev pub slots : List Column → ℕ
slots columns = 4096 / slot_len columns

-- the number and the place of the first fault, where the bytes are those of n slots
-- from number k on and what is behind them, which has the number behind the last
abbrev pub slots_fault : List Column → ℕ → ℕ → List ℕ → Option (ℕ × ℕ)
slots_fault columns k zero bytes = option_map (λ at. (k, at)) (first_not_zero 0 bytes)
slots_fault columns k (suc n) bytes =
    option_or (option_map (λ at. (k, at)) (slot_fault columns (take (slot_len columns) bytes)))
    (slots_fault columns (k + 1) n (drop (slot_len columns) bytes))

-- the first slot of a page that is none, and the place in it
unfoldable pub page_fault : List Column → List ℕ → Option (ℕ × ℕ)
page_fault columns page = slots_fault columns 0 (slots columns) page

-- what n slots hold: a row or none
abbrev pub slots_values : List Column → ℕ → List ℕ → List (Option (List Value))
slots_values columns zero bytes = []
slots_values columns (suc n) bytes =
    slot_value columns (take (slot_len columns) bytes)
    ∷ slots_values columns n (drop (slot_len columns) bytes)

-- the rows that there are
abbrev pub rows_there : List (Option (List Value)) → List (List Value)
rows_there [] = []
rows_there (None ∷ held) = rows_there held
rows_there (Some row ∷ held) = row ∷ rows_there held

-- the rows of a page, in the order of its slots
unfoldable pub page_rows : List Column → List ℕ → List (List Value)
page_rows columns page = rows_there (slots_values columns (slots columns) page)
