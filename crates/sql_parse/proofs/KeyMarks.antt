-- The numbers of marked columns, one column more.
use Rattle.std.proofs.Common.{◌≡◌, ℕ, ◌+◌, ◌<◌, min, Bool, true, false, cond, List, [], ◌∷◌, ◌++◌, length, take, get_or, refl, sym, ap, ◌∙◌, arith}
use Rattle.std.proofs.lemmas.List.{length-take-le}
use Rattle.std.proofs.lemmas.Grind.{take_at_read}
use Rattle.row_types.specs.declared.definition.Column.{Column}
use Rattle.sql_parse.specs.Grammar.{marks_of}

abbrev Marked : Type 0
Marked = Column × Bool

marks_first : (n : ℕ) (x : Marked) (xs ys : List Marked) (b : Bool) → marks_of (n + 1) xs ≡ marks_of (n + 1) ys → cond b (min n 255 ∷ marks_of (n + 1) xs) (marks_of (n + 1) xs) ≡ cond b (min n 255 ∷ marks_of (n + 1) ys) (marks_of (n + 1) ys)
marks_first n x xs ys true e = ap (λ l. min n 255 ∷ l) e
marks_first n x xs ys false e = e

marks_front : (n : ℕ) (b : Bool) (us vs : List ℕ) → cond b (min n 255 ∷ (us ++ vs)) (us ++ vs) ≡ cond b (min n 255 ∷ us) us ++ vs
marks_front n true us vs = refl
marks_front n false us vs = refl

pub marks_push : (n : ℕ) (xs : List Marked) (x : Marked) → marks_of n (xs ++ x ∷ []) ≡ marks_of n xs ++ marks_of (n + length xs) (x ∷ [])
marks_push n [] x = let same : n + 0 ≡ n = omega arith in ap (λ m. marks_of m (x ∷ [])) (sym same)
marks_push n (y ∷ ys) x =
    let same : n + 1 + length ys ≡ n + length (y ∷ ys) = omega arith in
    ap (λ l. cond y.1 (min n 255 ∷ l) l) (marks_push (n + 1) ys x) ∙ marks_front n y.1 (marks_of (n + 1) ys) (marks_of (n + 1 + length ys) (x ∷ [])) ∙ ap (λ m. marks_of n (y ∷ ys) ++ marks_of m (x ∷ [])) same

-- the marks up to one column more
pub marks_more : (xs : List Marked) (i : ℕ) (x : Marked) → i < length xs → x ≡ get_or xs i x → marks_of 0 (take (i + 1) xs) ≡ marks_of 0 (take i xs) ++ marks_of i (x ∷ [])
marks_more xs i x inside is =
    let len : 0 + length (take i xs) ≡ i = omega (arith, length-take-le i xs (omega arith)) in
    ap (marks_of 0) ((take_at_read xs i x inside).1 ∙ ap (λ (c : Marked). take i xs ++ c ∷ []) (sym is)) ∙ marks_push 0 (take i xs) x ∙ ap (λ m. marks_of 0 (take i xs) ++ marks_of m (x ∷ [])) len

pub marks_yes : (i : ℕ) (x : Marked) → x.1 ≡ true → marks_of i (x ∷ []) ≡ min i 255 ∷ []
marks_yes i x e = rw e refl

pub marks_no : (i : ℕ) (x : Marked) → x.1 ≡ false → marks_of i (x ∷ []) ≡ []
marks_no i x e = rw e refl
