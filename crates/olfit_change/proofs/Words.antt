-- What a node's words tell does not depend on its version.
use Rattle.std.proofs.Common.{◌≡◌, ℕ, ◌+◌, ◌*◌, ◌<◌, ◌%◌, ◌/◌, List, get_or, set, map, Option, Some, None, cond, eqb, ◌-◌, ◌∷◌, [], ap, arith, get_or-set_other}
use Rattle.std.specs.List.{range_with_len}
use Rattle.olfit_nodes.specs.declared.head.Link.{Link}
use Rattle.olfit_nodes.specs.Nodes.{number_of, entry_at, entries_of, count_of, level_of, low_of, right_of, IsClear}

word : (ws : List ℕ) (b k : ℕ) → 0 < k → get_or (set ws 0 b) k 0 ≡ get_or ws k 0
word ws b k some = get_or-set_other ws 0 k b 0 (λ e. omega arith)

pub low_renewed : (ws : List ℕ) (b : ℕ) → low_of (set ws 0 b) ≡ low_of ws
low_renewed ws b = λ j. number_of (word ws b 1 (omega arith) j) (word ws b 2 (omega arith) j)

pub count_renewed : (ws : List ℕ) (b : ℕ) → count_of (set ws 0 b) ≡ count_of ws
count_renewed ws b = ap (λ (z : ℕ). z % 65536) (word ws b 6 (omega arith))

pub level_renewed : (ws : List ℕ) (b : ℕ) → level_of (set ws 0 b) ≡ level_of ws
level_renewed ws b = ap (λ (z : ℕ). z / 65536) (word ws b 6 (omega arith))

abbrev shown : ℕ → ℕ → ℕ → Option Link
shown high low next = cond (eqb next 0) None (Some record { key = number_of high low; node = next - 1 })

pub right_renewed : (ws : List ℕ) (b : ℕ) → right_of (set ws 0 b) ≡ right_of ws
right_renewed ws b = λ j. shown (word ws b 3 (omega arith) j) (word ws b 4 (omega arith) j) (word ws b 5 (omega arith) j)

entry_renewed : (ws : List ℕ) (b i : ℕ) → entry_at (set ws 0 b) i ≡ entry_at ws i
entry_renewed ws b i = λ j. (number_of (word ws b (7 + 3 * i) (omega arith) j) (word ws b (8 + 3 * i) (omega arith) j), word ws b (9 + 3 * i) (omega arith) j)

pub entries_renewed : (ws : List ℕ) (b : ℕ) → entries_of (set ws 0 b) ≡ entries_of ws
entries_renewed ws b = λ j. map (λ (i : ℕ). entry_renewed ws b i j) (range_with_len 0 (count_renewed ws b j))

pub clear_renewed : (ws : List ℕ) (b : ℕ) → IsClear ws → IsClear (set ws 0 b)
clear_renewed [] b h = h
clear_renewed (w ∷ ws) b h = h
