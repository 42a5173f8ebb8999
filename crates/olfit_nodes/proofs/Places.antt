-- What a change of a node's places leaves of its list of entries.
use Rattle.std.proofs.Common.{◌≡◌, ◌≢◌, ℕ, ◌+◌, ◌-◌, ◌*◌, ◌%◌, ◌^◌, ◌<◌, ◌≤◌, List, [], ◌∷◌, ◌++◌, length, get_or, set, take, drop, map, sym, refl, ap, ◌∙◌, arith, ⊎_elim, get_or-set_other, get_or-set_same, get_or-take, get_or-drop, length-drop}
use Rattle.std.specs.List.{range_with_len, insert, remove}
use Rattle.std.proofs.lemmas.List.{ext_get_or, length-take-le, take-append-drop, take_at, drop_at, take_more}
use Rattle.std.proofs.lemmas.List.FromFn.{length-map-range_with_len, get_or-map-range_with_len}
use Rattle.std.proofs.lemmas.List.Edits.{length-insert, get_or-insert_below, get_or-insert_at, get_or-insert_above, length-remove, get_or-remove_below, get_or-remove_above, insert-append_left, insert-append_right, insert_end}
use Rattle.std.proofs.lemmas.Bool.{cases_lt, cases_eq}
use Rattle.olfit_nodes.specs.Nodes.{Entry, entry_at, entries_of, count_of}

pub length-entries : (words : List ℕ) → length (entries_of words) ≡ count_of words
length-entries words = length-map-range_with_len (entry_at words) 0 (count_of words)

pub get_or-entries : (words : List ℕ) (i : ℕ) (d : Entry) → i < count_of words → get_or (entries_of words) i d ≡ entry_at words i
get_or-entries words i d h = get_or-map-range_with_len (entry_at words) 0 (count_of words) i i d h (omega arith)

-- a list of entries that has in each place what the node has there
pub entries_are : (words : List ℕ) (xs : List Entry) → length xs ≡ count_of words → ((i : ℕ) (d : Entry) → i < count_of words → entry_at words i ≡ get_or xs i d) → entries_of words ≡ xs
entries_are words xs long each =
    let n = length-entries words in
    ext_get_or (0, 0) (entries_of words) xs (n ∙ sym long)
    (λ i h. let inside : i < count_of words = omega arith in get_or-entries words i (0, 0) inside ∙ each i (0, 0) inside)

-- the word of the level and the count is none of an entry's
pub entry_beside : (words : List ℕ) (b i : ℕ) → entry_at (set words 6 b) i ≡ entry_at words i
entry_beside words b i = λ j. (
  get_or-set_other words 6 (7 + 3 * i) b 0 (λ e. omega arith) j * 2 ^ 64 + get_or-set_other words 6 (8 + 3 * i) b 0 (λ e. omega arith) j,
  get_or-set_other words 6 (9 + 3 * i) b 0 (λ e. omega arith) j,
)

pub count_set : (words : List ℕ) (b : ℕ) → 6 < length words → count_of (set words 6 b) ≡ b % 65536
count_set words b h = ap (λ (z : ℕ). z % 65536) (get_or-set_same words 6 b 0 h)

-- a word of the head
pub head_word : (old new : List ℕ) (k : ℕ) → k < 7 → take 7 new ≡ take 7 old → get_or new k 0 ≡ get_or old k 0
head_word old new k h e = sym (get_or-take 7 new k 0 h) ∙ (ap (λ (xs : List ℕ). get_or xs k 0) e ∙ get_or-take 7 old k 0 h)

-- the places from one on were moved up, and there is one entry more
pub inserted : (old new : List ℕ) (place : ℕ) (e : Entry) → count_of new ≡ count_of old + 1 → place ≤ count_of old
    → ((k : ℕ) → k < place → entry_at new k ≡ entry_at old k) → entry_at new place ≡ e
    → ((k : ℕ) → place < k → k ≤ count_of old → entry_at new k ≡ entry_at old (k - 1))
    → entries_of new ≡ insert (entries_of old) place e
inserted old new place e count inside below here above =
    let n = length-entries old in let xs : List Entry = entries_of old in
    let within : place ≤ length xs = omega arith in
    entries_are new (insert xs place e) (length-insert xs place e within ∙ omega arith)
    (λ i d h. ⊎_elim
    (λ (l : i < place). below i l ∙ (sym (get_or-entries old i d (omega arith)) ∙ sym (get_or-insert_below xs place e d i l within)))
    (λ (g : place ≤ i). ⊎_elim
    (λ (is : i ≡ place). ap (entry_at new) is ∙ (here ∙ (sym (get_or-insert_at xs place e d within) ∙ ap (λ (z : ℕ). get_or (insert xs place e) z d) (sym is))))
    (λ (not : i ≢ place). let up : i - 1 + 1 ≡ i = omega arith in
    above i (omega arith) (omega arith) ∙ (sym (get_or-entries old (i - 1) d (omega arith)) ∙ (sym (get_or-insert_above xs place e d (i - 1) (omega arith) within) ∙ ap (λ (z : ℕ). get_or (insert xs place e) z d) up)))
    (cases_eq i place))
    (cases_lt i place))

-- one more item of a list is put behind its first ones
pub pushed : (old new : List ℕ) (xs : List Entry) (p : ℕ) (e : Entry) → entries_of old ≡ take p xs → p < length xs → entries_of new ≡ insert (entries_of old) p e → ((d : Entry) → get_or xs p d ≡ e)
    → entries_of new ≡ take (p + 1) xs
pushed old new xs p e so h put is =
    let n : p ≡ length (take p xs) = sym (length-take-le p xs (omega arith)) in
    put ∙ ((λ j. insert (so j) (n j) e) ∙ (insert_end (take p xs) e ∙ ((λ j. take p xs ++ sym (is e) j ∷ []) ∙ sym (take_more xs p e h))))

-- the places behind one were moved down, and there is one entry less
pub removed : (old new : List ℕ) (place : ℕ) → count_of new + 1 ≡ count_of old → place < count_of old
    → ((k : ℕ) → k < place → entry_at new k ≡ entry_at old k)
    → ((k : ℕ) → place ≤ k → k + 1 < count_of old → entry_at new k ≡ entry_at old (k + 1))
    → entries_of new ≡ remove (entries_of old) place
removed old new place count inside below above =
    let n = length-entries old in let xs : List Entry = entries_of old in
    let within : place < length xs = omega arith in
    let m = length-remove xs place within in
    entries_are new (remove xs place) (omega arith)
    (λ i d h. ⊎_elim
    (λ (l : i < place). below i l ∙ (sym (get_or-entries old i d (omega arith)) ∙ sym (get_or-remove_below xs place d i l within)))
    (λ (g : place ≤ i). above i g (omega arith) ∙ (sym (get_or-entries old (i + 1) d (omega arith)) ∙ sym (get_or-remove_above xs place d i g within)))
    (cases_lt i place))

-- there are as many entries as that, and they are the first ones
pub cut_lower : (old new : List ℕ) (place : ℕ) → count_of new ≡ place → place ≤ count_of old → ((k : ℕ) → k < place → entry_at new k ≡ entry_at old k) → entries_of new ≡ take place (entries_of old)
cut_lower old new place count inside same =
    let n = length-entries old in let xs : List Entry = entries_of old in
    entries_are new (take place xs) (length-take-le place xs (omega arith) ∙ sym count)
    (λ i d h. same i (omega arith) ∙ (sym (get_or-entries old i d (omega arith)) ∙ sym (get_or-take place xs i d (omega arith))))

pub cut_upper : (words : List ℕ) (place : ℕ) → place ≤ count_of words → map (entry_at words) (range_with_len place (count_of words - place)) ≡ drop place (entries_of words)
cut_upper words place inside =
    let n = length-entries words in let xs : List Entry = entries_of words in
    let long = length-map-range_with_len (entry_at words) place (count_of words - place) in
    let rest = length-drop place xs in
    ext_get_or (0, 0) (map (entry_at words) (range_with_len place (count_of words - place))) (drop place xs) (omega arith)
    (λ i h. get_or-map-range_with_len (entry_at words) place (count_of words - place) i (place + i) (0, 0) (omega arith) refl
    ∙ (sym (get_or-entries words (place + i) (0, 0) (omega arith)) ∙ sym (get_or-drop place xs i (0, 0))))

-- Of a list and an item that is put into it, the first eight and the others: where the item is among the first eight, and where it is behind them.
pub lower_with : {X : Type 0} (xs : List X) (place : ℕ) (e : X) → 8 ≤ length xs → place < 8 → insert (take 7 xs) place e ≡ take 8 (insert xs place e)
lower_with xs place e long h =
    let seven = length-take-le 7 xs (omega arith) in let eight = length-insert (take 7 xs) place e (omega arith) in
    sym (take_at (insert (take 7 xs) place e) (drop 7 xs) 8 (omega arith)) ∙ ap (take 8) (sym (insert-append_left (take 7 xs) (drop 7 xs) place e (omega arith)) ∙ ap (λ ys. insert ys place e) (take-append-drop 7 xs))

pub upper_without : {X : Type 0} (xs : List X) (place : ℕ) (e : X) → 8 ≤ length xs → place < 8 → drop 7 xs ≡ drop 8 (insert xs place e)
upper_without xs place e long h =
    let seven = length-take-le 7 xs (omega arith) in let eight = length-insert (take 7 xs) place e (omega arith) in
    sym (drop_at (insert (take 7 xs) place e) (drop 7 xs) 8 (omega arith)) ∙ ap (drop 8) (sym (insert-append_left (take 7 xs) (drop 7 xs) place e (omega arith)) ∙ ap (λ ys. insert ys place e) (take-append-drop 7 xs))

pub lower_without : {X : Type 0} (xs : List X) (place : ℕ) (e : X) → 8 ≤ place → place ≤ length xs → take 8 xs ≡ take 8 (insert xs place e)
lower_without xs place e h inside =
    let eight = length-take-le 8 xs (omega arith) in
    sym (take_at (take 8 xs) (insert (drop 8 xs) (place - 8) e) 8 eight) ∙ ap (take 8) (sym (insert-append_right (take 8 xs) (drop 8 xs) 8 place e eight h) ∙ ap (λ ys. insert ys place e) (take-append-drop 8 xs))

pub upper_with : {X : Type 0} (xs : List X) (place : ℕ) (e : X) → 8 ≤ place → place ≤ length xs → insert (drop 8 xs) (place - 8) e ≡ drop 8 (insert xs place e)
upper_with xs place e h inside =
    let eight = length-take-le 8 xs (omega arith) in
    sym (drop_at (take 8 xs) (insert (drop 8 xs) (place - 8) e) 8 eight) ∙ ap (drop 8) (sym (insert-append_right (take 8 xs) (drop 8 xs) 8 place e eight h) ∙ ap (λ ys. insert ys place e) (take-append-drop 8 xs))
