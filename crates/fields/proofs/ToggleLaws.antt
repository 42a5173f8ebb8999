-- Laws of toggled bytes, each by the byte at each place.
use Rattle.std.proofs.Common.{◌≡◌, ℕ, ◌+◌, ◌-◌, ◌^◌, ◌<◌, ◌≤◌, ◌⊎◌, inl, inr, Bool, true, false, cond, nat_le, List, length, get_or, take, drop, bit_xor, All, sym, ap, ◌∙◌, arith, subst}
use Rattle.std.proofs.lemmas.List.{get_or-take, get_or-drop, get_or_past, get_or_append_left, get_or-append_right}
use Rattle.std.proofs.lemmas.List.FromFn.{fill_by_all, get_or-map-range_with_len, length-map-range_with_len}
use Rattle.std.proofs.lemmas.List.Elements.{All-from_get_or}
use Rattle.std.proofs.lemmas.Bool.{cases_lt, le-leb, lt-leb}
use Rattle.std.proofs.lemmas.Grind.{common_steps}
use Rattle.std.proofs.lemmas.Nat.{xor_of_8}
use Rattle.std.specs.Int.Bits.{xor_zero_r}
use borrow.Rule.Slice.PartMut.{put_mid}
use Rattle.fields.specs.Toggle.{byte_at, byte_from, toggled}

pub length-toggled : {X : Type 0} (at : X → ℕ → ℕ) (start : List ℕ) (x : X) → length (toggled at start x) ≡ length start
unfolding toggled
length-toggled at start x = length-map-range_with_len _ 0 (length start)

pub toggled_at : {X : Type 0} (at : X → ℕ → ℕ) (start : List ℕ) (x : X) (i : ℕ) → i < length start → get_or (toggled at start x) i 0 ≡ bit_xor (get_or start i 0) (at x i)
unfolding toggled
toggled_at at start x i l = get_or-map-range_with_len _ 0 (length start) i i 0 l (omega arith)

-- bytes that are the XOR at each place are the toggled ones
pub toggled_from : {X : Type 0} (at : X → ℕ → ℕ) (start : List ℕ) (x : X) (xs : List ℕ) → length xs ≡ length start → ((i : ℕ) → i < length start → get_or xs i 0 ≡ bit_xor (get_or start i 0) (at x i)) → xs ≡ toggled at start x
unfolding toggled
toggled_from at start x xs e h = fill_by_all _ xs (length start) 0 e h

-- things that have the same byte at each place toggle the same, and what has 0 everywhere toggles nothing
pub toggled_same : {X Y : Type 0} (at : X → ℕ → ℕ) (bt : Y → ℕ → ℕ) (start : List ℕ) (x : X) (y : Y) → ((i : ℕ) → at x i ≡ bt y i) → toggled at start x ≡ toggled bt start y
toggled_same at bt start x y h = toggled_from bt start y (toggled at start x) (length-toggled at start x) (λ i l. toggled_at at start x i l ∙ ap (bit_xor (get_or start i 0)) (h i))

pub toggled_zero : {X : Type 0} (at : X → ℕ → ℕ) (start : List ℕ) (x : X) → ((i : ℕ) → at x i ≡ 0) → start ≡ toggled at start x
toggled_zero at start x h = toggled_from at start x start refl_length (λ i l. sym (xor_zero_r (get_or start i 0)) ∙ ap (bit_xor (get_or start i 0)) (sym (h i)))
  where
    refl_length : length start ≡ length start
    refl_length = omega arith

-- toggled bytes are bytes
pub toggled_lt : {X : Type 0} (at : X → ℕ → ℕ) (start : List ℕ) (x : X) → All (λ x. x < 2 ^ 8) start → ((i : ℕ) → at x i < 2 ^ 8) → All (λ x. x < 2 ^ 8) (toggled at start x)
toggled_lt at start x p q = All-from_get_or (λ x. x < 2 ^ 8) _ 0 (λ i l.
    let m : i < length start = subst (λ n. i < n) (length-toggled at start x) l in
    subst (λ x. x < 2 ^ 8) (sym (toggled_at at start x i m)) (xor_of_8 _ _ (p i 0 m) (q i)))

pub byte_from_lt : (offset : ℕ) (bytes : List ℕ) (i : ℕ) → All (λ x. x < 2 ^ 8) bytes → byte_from offset bytes i < 2 ^ 8
byte_from_lt offset bytes i q = go (nat_le offset i) (cases_lt (i - offset) (length bytes))
  where
    go : (b : Bool) → (i - offset < length bytes) ⊎ (length bytes ≤ i - offset) → cond b (get_or bytes (i - offset) 0) 0 < 2 ^ 8
    go true (inl l) = q (i - offset) 0 l
    go true (inr l) = subst (λ x. x < 2 ^ 8) (sym (get_or_past bytes (i - offset) 0 l)) (omega arith)
    go false _ = omega arith

-- a part of the bytes toggled is the whole toggled there
pub part_toggled : (a k : ℕ) (page bytes part : List ℕ) → k ≡ length bytes → a + k ≤ length page → part ≡ toggled byte_at (take k (drop a page)) bytes
    → put_mid a k page part ≡ toggled (byte_from a) page bytes
part_toggled a k page bytes part e f h = toggled_from (byte_from a) page bytes (put_mid a k page part) whole (λ i l. go i l (cases_lt i a) (cases_lt i (a + k)))
  where
    mid : length (take k (drop a page)) ≡ k
    mid = grind (arith, common_steps, f)

    long : length part ≡ k
    long = ap length h ∙ length-toggled byte_at (take k (drop a page)) bytes ∙ mid

    front : length (take a page) ≡ a
    front = grind (arith, common_steps, f)

    whole : length (put_mid a k page part) ≡ length page
    whole = grind (arith, common_steps, f, long, front)

    go : (i : ℕ) → i < length page → (i < a) ⊎ (a ≤ i) → (i < a + k) ⊎ (a + k ≤ i) → get_or (put_mid a k page part) i 0 ≡ bit_xor (get_or page i 0) (byte_from a bytes i)
    go i l (inl b) _ =
        let n : i < length (take a page) = subst (λ m. i < m) (sym front) b in
        get_or_append_left (take a page) _ 0 i n ∙ get_or-take a page i 0 b ∙ sym (xor_zero_r (get_or page i 0)) ∙ ap (λ t. bit_xor (get_or page i 0) (cond t (get_or bytes (i - a) 0) 0)) (sym (lt-leb a i b))
    go i l (inr b) (inl c) =
        let j = i - a in
        let n : j < k = omega (arith, b, c) in
        let at : a + j ≡ i = omega (arith, b) in
        get_or-append_right (take a page) _ a i 0 front b ∙ get_or_append_left part _ 0 j (subst (λ m. j < m) (sym long) n)
        ∙ ap (λ p. get_or p j 0) h ∙ toggled_at byte_at (take k (drop a page)) bytes j (subst (λ m. j < m) (sym mid) n)
        ∙ ap (λ x. bit_xor x (get_or bytes j 0)) (get_or-take k (drop a page) j 0 n ∙ get_or-drop a page j 0 ∙ ap (λ m. get_or page m 0) at)
        ∙ ap (λ t. bit_xor (get_or page i 0) (cond t (get_or bytes j 0) 0)) (sym (le-leb a i b))
    go i l (inr b) (inr c) =
        let j = i - a in
        let n : k ≤ j = omega (arith, b, c) in
        let at : a + (k + (j - k)) ≡ i = omega (arith, b, c) in
        let past : length bytes ≤ j = omega (arith, n, e) in
        get_or-append_right (take a page) _ a i 0 front b ∙ get_or-append_right part _ k j 0 long n
        ∙ get_or-drop k (drop a page) (j - k) 0 ∙ get_or-drop a page (k + (j - k)) 0 ∙ ap (λ m. get_or page m 0) at
        ∙ sym (xor_zero_r (get_or page i 0)) ∙ ap (bit_xor (get_or page i 0)) (sym (get_or_past bytes j 0 past)) ∙ ap (λ t. bit_xor (get_or page i 0) (cond t (get_or bytes j 0) 0)) (sym (le-leb a i b))
