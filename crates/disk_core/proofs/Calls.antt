-- One more entry in the record of the change calls.
use Rattle.std.proofs.Common.{◌≡◌, ℕ, ◌+◌, ◌<◌, ◌≤◌, List, [], ◌∷◌, ◌++◌, length, get_or, take, drop, refl, sym, ◌∙◌, ap, arith}
use Rattle.std.proofs.lemmas.List.{length-drop, take_all, take-append-le, drop-append-le, drop-drop, take_more, take-append-drop, nil_from_length}
use Rattle.disk_core.specs.declared.history.Entry.{Entry}
use Rattle.disk_core.specs.Entries.{change_of, len_of, total_len, calls_of}
use Rattle.disk_core.specs.History.{Change}

pub total_len-push : (entries : List Entry) (entry : Entry) → total_len (entries ++ entry ∷ []) ≡ total_len entries + len_of entry
total_len-push [] entry = omega arith
total_len-push (e ∷ entries) entry = omega (arith, total_len-push entries entry)

-- the new call comes first
pub calls_of-push : (entries : List Entry) (entry : Entry) (bytes new : List ℕ) (earlier : List Change) → total_len entries ≡ length bytes → len_of entry ≡ length new → calls_of (entries ++ entry ∷ []) (bytes ++ new) earlier ≡ change_of entry new ∷ calls_of entries bytes earlier
calls_of-push [] entry bytes new earlier total len =
    let none : bytes ≡ [] = nil_from_length bytes (sym total) in
    let all : take (len_of entry) (bytes ++ new) ≡ new = ap (λ (l : List ℕ). take (len_of entry) (l ++ new)) none ∙ take_all (len_of entry) new (omega (arith, len)) in
    ap (λ (l : List ℕ). change_of entry l ∷ earlier) all
calls_of-push (e ∷ entries) entry bytes new earlier total len =
    let within : len_of e ≤ length bytes = omega (arith, total) in
    let front = take-append-le (len_of e) bytes new within in
    let back = drop-append-le (len_of e) bytes new within in
    ap (λ (l : List ℕ). calls_of (entries ++ entry ∷ []) l (change_of e (take (len_of e) (bytes ++ new)) ∷ earlier)) back
    ∙ ap (λ (l : List ℕ). calls_of (entries ++ entry ∷ []) (drop (len_of e) bytes ++ new) (change_of e l ∷ earlier)) front
    ∙ calls_of-push entries entry (drop (len_of e) bytes) new (change_of e (take (len_of e) bytes) ∷ earlier) (omega (arith, total, length-drop (len_of e) bytes)) len

-- the same, where the bytes of the new entry stand behind those of the others already
pub calls_of-more : (entries : List Entry) (entry : Entry) (bytes : List ℕ) (earlier : List Change) → calls_of (entries ++ entry ∷ []) bytes earlier ≡ change_of entry (take (len_of entry) (drop (total_len entries) bytes)) ∷ calls_of entries bytes earlier
calls_of-more [] entry bytes earlier = refl
calls_of-more (e ∷ entries) entry bytes earlier =
    calls_of-more entries entry (drop (len_of e) bytes) (change_of e (take (len_of e) bytes) ∷ earlier)
    ∙ ap (λ (l : List ℕ). change_of entry (take (len_of entry) l) ∷ calls_of entries (drop (len_of e) bytes) (change_of e (take (len_of e) bytes) ∷ earlier)) (drop-drop (total_len entries) (len_of e) bytes)

total_len-append : (entries more : List Entry) → total_len (entries ++ more) ≡ total_len entries + total_len more
total_len-append [] more = omega arith
total_len-append (e ∷ entries) more = omega (arith, total_len-append entries more)

module _ (entries : List Entry) (i : ℕ) (d : Entry) (within : i < length entries) where
  upto : total_len (take (i + 1) entries) ≡ total_len (take i entries) + len_of (get_or entries i d)
  upto = ap total_len (take_more entries i d within) ∙ total_len-push (take i entries) (get_or entries i d)

  whole : total_len (take (i + 1) entries) + total_len (drop (i + 1) entries) ≡ total_len entries
  whole = sym (total_len-append (take (i + 1) entries) (drop (i + 1) entries)) ∙ ap total_len (take-append-drop (i + 1) entries)

  -- its bytes stand at the front of those that are left
  pub front_fits : (bytes : List ℕ) → total_len entries ≡ length bytes → len_of (get_or entries i d) ≤ length (drop (total_len (take i entries)) bytes)
  front_fits bytes total = omega (arith, upto, whole, total, length-drop (total_len (take i entries)) bytes)

  pub rest_more : (bytes : List ℕ) → drop (len_of (get_or entries i d)) (drop (total_len (take i entries)) bytes) ≡ drop (total_len (take (i + 1) entries)) bytes
  rest_more bytes = drop-drop (len_of (get_or entries i d)) (total_len (take i entries)) bytes ∙ ap (λ n. drop n bytes) (sym upto)

  pub calls_more : (bytes : List ℕ) → calls_of (take (i + 1) entries) bytes [] ≡ change_of (get_or entries i d) (take (len_of (get_or entries i d)) (drop (total_len (take i entries)) bytes)) ∷ calls_of (take i entries) bytes []
  calls_more bytes = ap (λ (l : List Entry). calls_of l bytes []) (take_more entries i d within) ∙ calls_of-more (take i entries) (get_or entries i d) bytes []
