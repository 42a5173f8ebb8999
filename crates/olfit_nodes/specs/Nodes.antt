-- The 64 words of an index node: its low key, the key and number of its right neighbour, its
-- level and the number of its entries, and sixteen places for entries of three words each.
use Rattle.std.specs.Prelude.{◌≡◌, ℕ, ◌+◌, ◌-◌, ◌*◌, ◌/◌, ◌%◌, ◌^◌, ◌<◌, ◌==◌, nat_le, if◌then◌else◌, Option}
use Rattle.std.specs.Prelude.{None, Some, List, replicate, length, map, take, drop, slice_index, slice_get}
use Rattle.std.specs.Option.{option_map}
use Rattle.std.specs.List.{AllPairs, filter, range_with_len}
use Rattle.olfit_nodes.specs.declared.head.Link.{Link}

-- the number whose halves of 64 bits stand in two words
abbrev pub number_of : ℕ → ℕ → ℕ
number_of high low = high * 2 ^ 64 + low

-- an entry: its key, and its value or child
abbrev pub Entry : Type 0
Entry = ℕ × ℕ

-- the entry in a place: the halves of its key, and its value or child
abbrev pub entry_at : List ℕ → ℕ → Entry
entry_at words place = (
  number_of (slice_index words (7 + 3 * place))
      (slice_index words (8 + 3 * place)),
  slice_index words (9 + 3 * place),
)

-- the number of entries, which shares a word with the level
abbrev pub count_of : List ℕ → ℕ
count_of words = slice_index words 6 % 65536

-- how far the node is above the leaves
abbrev pub level_of : List ℕ → ℕ
level_of words = slice_index words 6 / 65536

-- the entries in the places below the count
abbrev pub entries_of : List ℕ → List Entry
entries_of words = map (entry_at words) (range_with_len 0 (count_of words))

-- the least key that belongs into the node
abbrev pub low_of : List ℕ → ℕ
low_of words = number_of (slice_index words 1) (slice_index words 2)

-- the right neighbour, with the key from which on keys belong to it or further right
abbrev pub right_of : List ℕ → Option Link
right_of words =
    if slice_index words 5 == 0 then None
    else Some record {
      key = number_of (slice_index words 3) (slice_index words 4);
      node = slice_index words 5 - 1;
    }

-- the keys strictly rise
abbrev pub Rises : List Entry → Type 0
Rises entries = AllPairs (λ (a b : Entry). a.0 < b.0) entries

-- the place of the entry with this key
abbrev pub place_in : ℕ → List Entry → Option ℕ
place_in key entries = Rattle.std.specs.List.position (λ (e : Entry). e.0 == key) entries

-- the value of the last entry whose key is at most this
abbrev pub child_in : ℕ → List Entry → Option ℕ
child_in key entries =
    let below =
    filter (λ (e : Entry). nat_le e.0 key) entries in option_map (λ (e : Entry). e.1)
    (slice_get below (length below - 1))

-- the words behind the last place are 0
abbrev pub IsClear : List ℕ → Type 0
IsClear words = drop 55 words ≡ replicate 9 0

-- the words that hold no entry and no number of entries are the same, and so is the level
pub record SameFrame (old new : List ℕ) : Type 0 where
  pub head : take 6 new ≡ take 6 old
  pub level : level_of new ≡ level_of old
  pub rest : drop 55 new ≡ drop 55 old
