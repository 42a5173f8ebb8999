-- Pieces of a list of entries with rising keys.
use Rattle.std.proofs.Common.{◌≡◌, ◌≢◌, ℕ, zero, suc, ◌+◌, ◌-◌, ◌<◌, ◌≤◌, Bool, cond, List, [], ◌∷◌, length, get_or, take, drop, Option, Some, None, refl, sym, ap, ◌∙◌, subst, arith, ⊎_elim, get_or-take, get_or-drop, length-drop}
use Rattle.std.specs.Prelude.{slice_get, IfSome, min}
use Rattle.std.proofs.lemmas.Bool.{cases_eq, cases_lt, ne_eqb}
use Rattle.std.proofs.lemmas.List.{length-take, take_all}
use Rattle.olfit_nodes.specs.declared.head.Link.{Link}
use Rattle.olfit_nodes.specs.Nodes.{Entry, Rises}
use Rattle.olfit_rule.specs.Maps.{map_of}
use Rattle.olfit_change.proofs.Entries.{map_lower, map_upper, rises_drop}
use Rattle.olfit_tree.specs.Build.{low_at, right_at}

abbrev pub key : List Entry → ℕ → ℕ
key es k = (get_or es k (0, 0)).0

pub low_zero : (es : List Entry) (p : ℕ) → p ≡ 0 → low_at es p ≡ 0
low_zero es p z = ap (low_at es) z

pub low_key : (es : List Entry) (p : ℕ) → p ≢ 0 → low_at es p ≡ key es p
low_key es p not = ap (λ (b : Bool). cond b 0 (key es p)) (ne_eqb p 0 not)

pub key_less : (es : List Entry) (i j : ℕ) → Rises es → i < j → j < length es → key es i < key es j
key_less es i j r less inside = r i j (0, 0) less inside

pub low_less : (es : List Entry) (a b : ℕ) → Rises es → a < b → b < length es → low_at es a < key es b
low_less es a b r less inside = ⊎_elim
    (λ (z : a ≡ 0). let l = low_zero es a z in let k = key_less es a b r less inside in omega (arith, l, k))
    (λ (not : a ≢ 0). let l = low_key es a not in let k = key_less es a b r less inside in omega (arith, l, k))
    (cases_eq a 0)

pub low_most : (es : List Entry) (a b : ℕ) → Rises es → a ≤ b → b < length es → low_at es a ≤ key es b
low_most es a b r most inside = ⊎_elim
    (λ (less : a < b). let l = low_less es a b r less inside in omega (arith, l))
    (λ (other : b ≤ a). let e : a ≡ b = omega (arith, most, other) in ⊎_elim
    (λ (z : a ≡ 0). let l = low_zero es a z in omega (arith, l))
    (λ (not : a ≢ 0). let l = low_key es a not in let k = ap (key es) e in omega (arith, l, k))
    (cases_eq a 0))
    (cases_lt a b)

-- the right neighbour

abbrev key_in : Option Link → ℕ
key_in None = 0
key_in (Some m) = m.key

abbrev node_in : Option Link → ℕ
node_in None = 0
node_in (Some m) = m.node

pub right_some : (es : List Entry) (p next : ℕ) (link : Link) → right_at es p next ≡ Some link → (p < length es) × (key es p ≡ link.key) × (next ≡ link.node)
right_some [] p next link e = absurd (lost e)
  where
    lost : None ≡ Some link → ⊥
    lost e = cc
right_some (x ∷ es) zero next link e = (omega arith, ap key_in e, ap node_in e)
right_some (x ∷ es) (suc p) next link e = let r = right_some es p next link e in (let h = r.0 in omega (arith, h), r.1, r.2)

pub right_is : (es : List Entry) (p next : ℕ) → p < length es → right_at es p next ≡ Some record { key = key es p; node = next }
right_is [] p next h = absurd (omega (arith, h))
right_is (x ∷ es) zero next h = refl
right_is (x ∷ es) (suc p) next h = right_is es p next (omega (arith, h))

-- the entries of a piece

pub piece_long : (es : List Entry) (a n : ℕ) → length (take n (drop a es)) ≡ min n (length es - a)
piece_long es a n = let l = length-take n (drop a es) in let d = length-drop a es in omega (arith, l, d)

pub piece_at : (es : List Entry) (a n k : ℕ) (d : Entry) → k < n → get_or (take n (drop a es)) k d ≡ get_or es (a + k) d
piece_at es a n k d h = get_or-take n (drop a es) k d h ∙ get_or-drop a es k d

pub first_is : (xs : List Entry) (P : Entry → Type 0) → (0 < length xs → P (get_or xs 0 (0, 0))) → IfSome (slice_get xs 0) P
first_is [] P p = tt
first_is (x ∷ xs) P p = p (omega arith)

pub piece_rises : (es : List Entry) (a n : ℕ) → Rises es → Rises (take n (drop a es))
piece_rises es a n r i j d less inside =
    let l = piece_long es a n in
    let x = piece_at es a n i d (omega (arith, less, inside, l)) in let y = piece_at es a n j d (omega (arith, inside, l)) in
    let s = r (a + i) (a + j) d (omega (arith, less)) (omega (arith, inside, l)) in
    subst (λ (e : Entry). e.0 < (get_or (take n (drop a es)) j d).0) (sym x) (subst (λ (e : Entry). (get_or es (a + i) d).0 < e.0) (sym y) s)

-- the map of a piece, for keys that belong there
pub piece_map : (es : List Entry) (a n q : ℕ) → Rises es → low_at es a ≤ q → (a ≢ 0 → a < length es) → (a + n < length es → q < key es (a + n)) → map_of (take n (drop a es)) q ≡ map_of es q
piece_map es a n q r above inside below = cut ∙ begun
  where
    begun : map_of (drop a es) q ≡ map_of es q
    begun = ⊎_elim
        (λ (z : a ≡ 0). ap (λ (k : ℕ). map_of (drop k es) q) z)
        (λ (not : a ≢ 0). let l = low_key es a not in map_upper es a q r (inside not) (omega (arith, l, above)))
        (cases_eq a 0)

    cut : map_of (take n (drop a es)) q ≡ map_of (drop a es) q
    cut = let d = length-drop a es in ⊎_elim
        (λ (more : a + n < length es). let b = below more in let e = ap (λ (x : Entry). x.0) (get_or-drop a es n (0, 0)) in
        map_lower (drop a es) n q (rises_drop a es r) (omega (arith, d, more)) (omega (arith, b, e)))
        (λ (end : length es ≤ a + n). ap (λ (xs : List Entry). map_of xs q) (take_all n (drop a es) (omega (arith, d, end))))
        (cases_lt (a + n) (length es))
