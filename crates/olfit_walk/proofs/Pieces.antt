-- What the entries of a leaf between two keys say of the keys between them.
use Rattle.std.proofs.Common.{◌≡◌, ◌≢◌, ℕ, zero, suc, ◌+◌, ◌<◌, ◌≤◌, Bool, true, false, cond, eqb, List, [], ◌∷◌, ◌++◌, length, map, Option, Some, None, sym, refl, ap, ◌∙◌, subst, arith}
use Rattle.std.specs.Option.{ForSome}
use Rattle.std.specs.List.{All, filter, range_with_len}
use Rattle.std.proofs.lemmas.Bool.{and_from, and_left, and_right, and_parts, ne_eqb, true≢false, le-leb, lt-leb, leb-true}
use Rattle.std.proofs.lemmas.List.{map-append, append-nil}
use Rattle.std.proofs.lemmas.List.Elements.{filter_passes}
use Rattle.std.proofs.lemmas.List.FromFn.{filter_of_map_range_with_len_more}
use Rattle.std.proofs.lemmas.List.Kept.{AllPairs-filter}
use Rattle.key_space.specs.declared.key.Key.{Key}
use Rattle.key_space.specs.declared.range.Range.{Range}
use Rattle.olfit_nodes.specs.declared.head.Link.{Link}
use Rattle.olfit_nodes.specs.Nodes.{Entry, entries_of, entry_at, right_of, Rises}
use Rattle.olfit_rule.specs.Maps.{map_of}
use Rattle.olfit_rule.specs.Tree.{node_of, low, Good, IsAt, Covers}
use Rattle.olfit_walk.specs.declared.answers.Piece.{Piece}
use Rattle.olfit_walk.specs.Looks.{Reading, IsPiece, end_in, entries_of_keys, is_between}

-- one place more, whose entry is between the keys
pub taken : (words : List ℕ) (from upto place : ℕ) (got : List (Key × ℕ)) (e : Entry) → entries_of_keys got ≡ filter (is_between from upto) (map (entry_at words) (range_with_len 0 place)) → e ≡ entry_at words place → from ≤ e.0 → e.0 ≤ upto
    → entries_of_keys (got ++ (record { number = e.0 }, e.1) ∷ []) ≡ filter (is_between from upto) (map (entry_at words) (range_with_len 0 (place + 1)))
taken words from upto place got e so is above below =
    let yes : is_between from upto (entry_at words place) ≡ true = ap (is_between from upto) (sym is) ∙ and_from _ _ (le-leb from e.0 above) (le-leb e.0 upto below) in
    let more = filter_of_map_range_with_len_more (is_between from upto) (entry_at words) 0 place place (omega arith) in
    map-append (λ (x : Key × ℕ). (x.0.number, x.1)) got ((record { number = e.0 }, e.1) ∷ []) ∙ ((λ j. so j ++ cond (sym yes j) (is j ∷ []) []) ∙ sym more)

-- one place more, whose entry isn't
left : (words : List ℕ) (from upto place : ℕ) (got : List (Key × ℕ)) → entries_of_keys got ≡ filter (is_between from upto) (map (entry_at words) (range_with_len 0 place)) → is_between from upto (entry_at words place) ≡ false
    → entries_of_keys got ≡ filter (is_between from upto) (map (entry_at words) (range_with_len 0 (place + 1)))
left words from upto place got so out =
    let more = filter_of_map_range_with_len_more (is_between from upto) (entry_at words) 0 place place (omega arith) in
    so ∙ (sym (append-nil (filter (is_between from upto) (map (entry_at words) (range_with_len 0 place)))) ∙ ((λ j. filter (is_between from upto) (map (entry_at words) (range_with_len 0 place)) ++ cond (sym out j) (entry_at words place ∷ []) []) ∙ sym more))

pub left_below : (words : List ℕ) (from upto place : ℕ) (got : List (Key × ℕ)) (e : Entry) → entries_of_keys got ≡ filter (is_between from upto) (map (entry_at words) (range_with_len 0 place)) → e ≡ entry_at words place → e.0 < from
    → entries_of_keys got ≡ filter (is_between from upto) (map (entry_at words) (range_with_len 0 (place + 1)))
left_below words from upto place got e so is below = left words from upto place got so (ap (is_between from upto) (sym is) ∙ and_left _ _ (lt-leb from e.0 below))

pub left_above : (words : List ℕ) (from upto place : ℕ) (got : List (Key × ℕ)) (e : Entry) → entries_of_keys got ≡ filter (is_between from upto) (map (entry_at words) (range_with_len 0 place)) → e ≡ entry_at words place → upto < e.0
    → entries_of_keys got ≡ filter (is_between from upto) (map (entry_at words) (range_with_len 0 (place + 1)))
left_above words from upto place got e so is above = left words from upto place got so (ap (is_between from upto) (sym is) ∙ and_right _ _ (lt-leb e.0 upto above))

-- of a key between, the entries between say what all entries say
pub map_between : (xs : List Entry) (from upto key : ℕ) → from ≤ key → key ≤ upto → map_of (filter (is_between from upto) xs) key ≡ map_of xs key
map_between [] from upto key above below = refl
map_between (x ∷ xs) from upto key above below = by_test (map_between xs from upto key above below) (is_between from upto x) refl
  where
    rest : List Entry
    rest = filter (is_between from upto) xs

    by_test : map_of rest key ≡ map_of xs key → (b : Bool) → is_between from upto x ≡ b → map_of (cond b (x ∷ rest) rest) key ≡ map_of (x ∷ xs) key
    by_test same true is = ap (λ (o : Option ℕ). cond (eqb x.0 key) (Some x.1) o) same
    by_test same false is =
        let other : x.0 ≢ key = λ e. true≢false (sym (and_from _ _ (le-leb from x.0 (omega arith)) (le-leb x.0 upto (omega arith))) ∙ is) in
        same ∙ sym (ap (λ (b : Bool). cond b (Some x.1) (map_of xs key)) (ne_eqb x.0 key other))

-- each key lies between
pub only_between : (rows : List (Key × ℕ)) (xs : List Entry) (from upto : ℕ) → entries_of_keys rows ≡ filter (is_between from upto) xs
    → All (λ (e : Key × ℕ). (from ≤ e.0.number) × (e.0.number ≤ upto)) rows
only_between rows xs from upto is = of_keys rows (subst (All (λ (x : Entry). is_between from upto x ≡ true)) (sym is) (filter_passes (is_between from upto) xs))
  where
    of_keys : (rows : List (Key × ℕ)) → All (λ (x : Entry). is_between from upto x ≡ true) (entries_of_keys rows) → All (λ (e : Key × ℕ). (from ≤ e.0.number) × (e.0.number ≤ upto)) rows
    of_keys [] all i d h = absurd (omega arith)
    of_keys (r ∷ rows) all zero d h = let parts = and_parts _ _ (all 0 (0, 0) (omega arith)) in (leb-true from r.0.number parts.0, leb-true r.0.number upto parts.1)
    of_keys (r ∷ rows) all (suc i) d h = of_keys rows (λ k e l. all (suc k) e (omega arith)) i d (omega arith)

-- a piece of a leaf: how far it goes
pub ends_inside : (right : Option Link) (lo hi low : ℕ) → lo ≤ hi → low ≤ lo → ForSome right (λ (link : Link). lo < link.key) → (lo ≤ end_in right hi) × (end_in right hi ≤ hi)
ends_inside None lo hi low le above below = (le, omega arith)
ends_inside (Some link) lo hi low le above below = let b = below link refl in (omega arith, omega arith)

-- a key up to the end of a piece belongs into the leaf
pub below_end : (right : Option Link) (lo hi key : ℕ) → ForSome right (λ (link : Link). lo < link.key) → key ≤ end_in right hi → ForSome right (λ (link : Link). key < link.key)
below_end None lo hi key below le link is = absurd (none_is link is)
  where
    none_is : (link : Link) → None ≡ Some link → ⊥
    none_is link is = cc
below_end (Some l) lo hi key below le link is =
    let b = below l refl in
    subst (λ (z : ℕ). key < z) (ap key_in is) (omega arith)
  where
    key_in : Option Link → ℕ
    key_in None = 0
    key_in (Some m) = m.key

-- the piece of a leaf is one of the index
pub piece_is : (range : Range) (p : Piece) (r : Reading) (node : ℕ) → Good r.base r.seen → IsAt r.seen 0 node → Covers r.seen node range.lo.number → range.lo.number ≤ range.hi.number
    → p.from ≡ range.lo → p.upto.number ≡ end_in (right_of (node_of r.seen.image node)) range.hi.number
    → entries_of_keys p.entries.items ≡ filter (is_between range.lo.number p.upto.number) (entries_of (node_of r.seen.image node)) → p.known ≡ length r.told
    → IsPiece range p r
piece_is range p r node good at covers some from upto entries known =
    let n = good.nodes 0 node at in
    let lo : ℕ = range.lo.number in
    let words : List ℕ = node_of r.seen.image node in
    let ends = ends_inside (right_of words) lo range.hi.number (low r.seen node) some covers.above covers.below in
    record {
      known = known;
      from = from;
      upto = (subst (λ (z : ℕ). lo ≤ z) (sym upto) ends.0, subst (λ (z : ℕ). z ≤ range.hi.number) (sym upto) ends.1);
      leaf = (node, at, covers, upto);
      rises = subst Rises (sym entries) (AllPairs-filter (λ (a b : Entry). a.0 < b.0) (is_between lo p.upto.number) (entries_of words) n.rises);
      each = λ key above below. record {
        says = let inside : Covers r.seen node key = record {
          above = let a = covers.above in omega arith;
          below = below_end (right_of words) lo range.hi.number key covers.below (subst (λ (z : ℕ). key ≤ z) upto below);
        } in
            sym (ap (λ (xs : List Entry). map_of xs key) entries ∙ (map_between (entries_of words) lo p.upto.number key above below ∙ n.leaf refl key inside));
        legal = good.legal;
      };
      only = only_between p.entries.items (entries_of words) lo p.upto.number entries;
    }
