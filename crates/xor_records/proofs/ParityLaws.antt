-- Laws of flipped bytes, each by the bits of each place.
use Rattle.std.proofs.Common.{◌≡◌, ℕ, zero, suc, ◌+◌, ◌*◌, ◌/◌, ◌%◌, ◌^◌, ◌<◌, cond, List, [], ◌∷◌, ◌++◌, map, length, get_or, fold, bit_xor, All, refl, sym, ap, ap₂, ◌∙◌, arith, add-one, IsPermutation, subst, ext_get_or, replicate, zero-add, Fits, w8}
use Rattle.std.specs.Int.{bit_at}
use Rattle.std.specs.Int.Bits.{xor_zero_r}
use Rattle.std.proofs.lemmas.Nat.Bits.{bit_at_lowest, bit_at-suc, bit_at_xor, bit_at-lt, bit_at-zero, same_from_bits_below}
use Rattle.std.proofs.lemmas.List.FromFn.{fill_by_all, get_or-map-range_with_len, length-map-range_with_len}
use Rattle.std.proofs.lemmas.List.Sums.{sum_by-cons, sum_by-append}
use Rattle.std.proofs.lemmas.List.Sorted.{sum_by-IsPermutation, IsPermutation-to_front}
use Rattle.std.proofs.lemmas.List.Elements.{All-from_get_or}
use Rattle.std.proofs.lemmas.Nat.{xor_of_8}
use Rattle.std.proofs.lemmas.List.{length-replicate, get_or-replicate}
use Rattle.fields.specs.Toggle.{byte_at, toggled}
use Rattle.fields.proofs.ToggleLaws.{length-toggled, toggled_at, toggled_lt, toggled_from, toggled_same, toggled_zero}
use Rattle.xor_records.specs.Parity.{is_set, joined, flips, bit_after, number_of, flipped}

-- a set bit counts as the bit itself
bit_counts : (n b : ℕ) → cond (is_set n b) 1 0 ≡ bit_at n b
bit_counts n b = grind (arith, bit_at-lt n b)

below_two : (n : ℕ) → n % 2 < 2
below_two n = omega arith

number_lt : (n : ℕ) (f : ℕ → ℕ) → ((b : ℕ) → f b < 2) → number_of n f < 2 ^ n
number_lt zero f h = omega arith
number_lt (suc n) f h = grind (arith, h 0, number_lt n (λ b. f (b + 1)) (λ b. h (b + 1)))

number_bit : (n b : ℕ) (f : ℕ → ℕ) → ((b : ℕ) → f b < 2) → b < n → bit_at (number_of n f) b ≡ f b
number_bit zero b f h l = grind arith
number_bit (suc n) zero f h l = bit_at_lowest _ ∙ omega (arith, h 0)
number_bit (suc n) (suc b) f h l =
    let rest = number_of n (λ b. f (b + 1)) in
    let half : (f 0 + rest * 2) / 2 ≡ rest = omega (arith, h 0) in
    bit_at-suc _ b ∙ ap (λ x. bit_at x b) half ∙ number_bit n b (λ b. f (b + 1)) (λ b. h (b + 1)) (omega arith) ∙ ap f (add-one b)

number_same : (n : ℕ) (f g : ℕ → ℕ) → ((b : ℕ) → b < n → f b ≡ g b) → number_of n f ≡ number_of n g
number_same zero f g h = refl
number_same (suc n) f g h = ap₂ (λ x y. x + y * 2) (h 0 (omega arith)) (number_same n (λ b. f (b + 1)) (λ b. g (b + 1)) (λ b l. h (b + 1) (omega arith)))

pub length-flipped : {X : Type 0} (at : X → ℕ → ℕ) (start : List ℕ) (xs : List X) → length (flipped at start xs) ≡ length start
unfolding flipped
length-flipped at start xs = length-map-range_with_len _ 0 (length start)

-- the meaning, read back: a bit of the bytes is the one that the definition says
pub flipped_bit : {X : Type 0} (at : X → ℕ → ℕ) (start : List ℕ) (xs : List X) (i b : ℕ) → i < length start → b < 8 → bit_at (get_or (flipped at start xs) i 0) b ≡ bit_after at start xs i b
unfolding flipped
flipped_bit at start xs i b l m = ap (λ x. bit_at x b) (get_or-map-range_with_len _ 0 (length start) i i 0 l (omega arith)) ∙ number_bit 8 b (bit_after at start xs i) (λ c. below_two _) m

pub flipped_same : {X Y : Type 0} (at : X → ℕ → ℕ) (bt : Y → ℕ → ℕ) (start other : List ℕ) (xs : List X) (ys : List Y) → length start ≡ length other
    → ((i b : ℕ) → i < length start → b < 8 → bit_after at start xs i b ≡ bit_after bt other ys i b)
    → flipped at start xs ≡ flipped bt other ys
unfolding flipped
flipped_same at bt start other xs ys e h = fill_by_all (λ i. number_of 8 (bit_after bt other ys i)) _ (length other) 0 (length-map-range_with_len _ 0 (length start) ∙ e) (λ k l.
    let m : k < length start = omega (arith, e) in
    get_or-map-range_with_len _ 0 (length start) k k 0 m (omega arith) ∙ number_same 8 (bit_after at start xs k) (bit_after bt other ys k) (λ b c. h k b m c))

same_bytes : (xs ys : List ℕ) → length xs ≡ length ys → All (λ x. x < 2 ^ 8) xs → All (λ x. x < 2 ^ 8) ys
    → ((i b : ℕ) → i < length xs → b < 8 → bit_at (get_or xs i 0) b ≡ bit_at (get_or ys i 0) b) → xs ≡ ys
same_bytes xs ys e p q h = ext_get_or 0 xs ys e (λ i l. same_from_bits_below 8 _ _ (p i 0 l) (q i 0 (subst (λ n. i < n) e l)) (λ b m. h i b l m))

pub flipped_lt : {X : Type 0} (at : X → ℕ → ℕ) (start : List ℕ) (xs : List X) → All (λ x. x < 2 ^ 8) (flipped at start xs)
unfolding flipped
flipped_lt at start xs = All-from_get_or (λ x. x < 2 ^ 8) _ 0 (λ i l.
    let m : i < length start = subst (λ n. i < n) (length-map-range_with_len _ 0 (length start)) l in
    subst (λ x. x < 2 ^ 8) (sym (get_or-map-range_with_len _ 0 (length start) i i 0 m (omega arith))) (number_lt 8 (bit_after at start xs i) (λ c. below_two _)))

-- by twos, the sum of two counts needs each only by twos
twos : (s c d : ℕ) → ((s + c) % 2 + d) % 2 ≡ (s + (c + d)) % 2
twos s c d = omega arith

flips_cons : {X : Type 0} (at : X → ℕ → ℕ) (x : X) (xs : List X) (i b : ℕ) → flips at (x ∷ xs) i b ≡ bit_at (at x i) b + flips at xs i b
flips_cons at x xs i b = sum_by-cons (λ x. cond (is_set (at x i) b) 1 0) x xs ∙ ap (λ c. c + flips at xs i b) (bit_counts (at x i) b)

-- no item flips nothing
pub flipped_none : {X : Type 0} (at : X → ℕ → ℕ) (start : List ℕ) → All (λ x. x < 2 ^ 8) start → flipped at start [] ≡ start
flipped_none at start bytes = same_bytes (flipped at start []) start (length-flipped at start []) (flipped_lt at start []) bytes (λ i b l m.
    flipped_bit at start [] i b (subst (λ n. i < n) (length-flipped at start []) l) m ∙ twos_none _ (bit_at-lt _ b))
  where
    twos_none : (s : ℕ) → s < 2 → (s + 0) % 2 ≡ s
    twos_none s h = omega (arith, h)

-- one item after the others, and one list after another
pub flipped_append : {X : Type 0} (at : X → ℕ → ℕ) (start : List ℕ) (xs ys : List X) → flipped at (flipped at start xs) ys ≡ flipped at start (xs ++ ys)
flipped_append at start xs ys = flipped_same at at (flipped at start xs) start ys (xs ++ ys) (length-flipped at start xs) (λ i b l m.
    ap (λ s. (s + flips at ys i b) % 2) (flipped_bit at start xs i b (subst (λ n. i < n) (length-flipped at start xs) l) m)
    ∙ twos _ _ _ ∙ ap (λ c. (bit_at (get_or start i 0) b + c) % 2) (sym (sum_by-append (λ x. cond (is_set (at x i) b) 1 0) xs ys)))

-- the first item is a toggle
pub flipped_cons : {X : Type 0} (at : X → ℕ → ℕ) (start : List ℕ) (x : X) (xs : List X) → flipped at (toggled at start x) xs ≡ flipped at start (x ∷ xs)
flipped_cons at start x xs = flipped_same at at (toggled at start x) start xs (x ∷ xs) (length-toggled at start x) (λ i b l m.
    let n : i < length start = subst (λ n. i < n) (length-toggled at start x) l in
    ap (λ s. (s + flips at xs i b) % 2) (ap (λ y. bit_at y b) (toggled_at at start x i n) ∙ bit_at_xor _ _ b)
    ∙ twos _ _ _ ∙ ap (λ c. (bit_at (get_or start i 0) b + c) % 2) (sym (flips_cons at x xs i b)))

-- the items in another order
pub flipped_permuted : {X : Type 0} (at : X → ℕ → ℕ) (start : List ℕ) (xs ys : List X) → IsPermutation xs ys → flipped at start ys ≡ flipped at start xs
flipped_permuted at start xs ys p = flipped_same at at start start ys xs refl (λ i b l m. ap (λ c. (bit_at (get_or start i 0) b + c) % 2) (sum_by-IsPermutation (λ x. cond (is_set (at x i) b) 1 0) xs ys p))

-- an item that has no bit set, and two that have the same bits set, flip nothing
pub flipped_zero : {X : Type 0} (at : X → ℕ → ℕ) (start : List ℕ) (x : X) (xs : List X) → ((i : ℕ) → at x i ≡ 0) → flipped at start (x ∷ xs) ≡ flipped at start xs
flipped_zero at start x xs h = flipped_same at at start start (x ∷ xs) xs refl (λ i b l m. ap (λ c. (bit_at (get_or start i 0) b + c) % 2) (flips_cons at x xs i b ∙ ap (λ y. bit_at y b + flips at xs i b) (h i) ∙ ap (λ c. c + flips at xs i b) (bit_at-zero b) ∙ zero-add _))

pub flipped_twice : {X : Type 0} (at : X → ℕ → ℕ) (start : List ℕ) (x y : X) (xs : List X) → ((i : ℕ) → at x i ≡ at y i) → flipped at start (x ∷ y ∷ xs) ≡ flipped at start xs
flipped_twice at start x y xs h = flipped_same at at start start (x ∷ y ∷ xs) xs refl (λ i b l m.
    ap (λ c. (bit_at (get_or start i 0) b + c) % 2) (flips_cons at x (y ∷ xs) i b ∙ ap₂ (λ p q. bit_at p b + q) (h i) (flips_cons at y xs i b))
    ∙ twice (bit_at (get_or start i 0) b) (bit_at (at y i) b) (flips at xs i b))
  where
    twice : (s c d : ℕ) → (s + (c + (c + d))) % 2 ≡ (s + d) % 2
    twice s c d = omega arith

pub flipped_fold : {X : Type 0} (at : X → ℕ → ℕ) (start : List ℕ) (xs : List X) → All (λ x. x < 2 ^ 8) start → ((x : X) (i : ℕ) → at x i < 2 ^ 8) → fold (toggled at) start xs ≡ flipped at start xs
flipped_fold at start [] p q = sym (flipped_none at start p)
flipped_fold at start (x ∷ xs) p q = flipped_fold at (toggled at start x) xs (toggled_lt at start x p (q x)) q ∙ flipped_cons at start x xs

-- one item more, in front or behind, is a toggle
pub flipped_one : {X : Type 0} (at : X → ℕ → ℕ) (start : List ℕ) (x : X) → All (λ x. x < 2 ^ 8) start → ((i : ℕ) → at x i < 2 ^ 8) → flipped at start (x ∷ []) ≡ toggled at start x
flipped_one at start x p q = sym (flipped_cons at start x []) ∙ flipped_none at (toggled at start x) (toggled_lt at start x p q)

pub flipped_push : {X : Type 0} (at : X → ℕ → ℕ) (start : List ℕ) (xs : List X) (x : X) → ((i : ℕ) → at x i < 2 ^ 8) → flipped at start (xs ++ x ∷ []) ≡ toggled at (flipped at start xs) x
flipped_push at start xs x q = sym (flipped_append at start xs (x ∷ [])) ∙ flipped_one at (flipped at start xs) x (flipped_lt at start xs) q

pub flipped_more : {X : Type 0} (at : X → ℕ → ℕ) (start : List ℕ) (x : X) (xs : List X) → ((i : ℕ) → at x i < 2 ^ 8) → flipped at start (x ∷ xs) ≡ toggled at (flipped at start xs) x
flipped_more at start x xs q = flipped_permuted at start (xs ++ x ∷ []) (x ∷ xs) (IsPermutation-to_front xs x) ∙ flipped_push at start xs x q

-- The parts of a list, each by itself over zeros, and their bytes together, are the whole list's.
even_parts : {X : Type 0} (at : X → ℕ → ℕ) (n : ℕ) (parts : List (List X)) (i b : ℕ) → i < n → b < 8
    → flips byte_at (map (flipped at (replicate n 0)) parts) i b % 2 ≡ flips at (joined parts) i b % 2
even_parts at n [] i b l m = refl
even_parts at n (p ∷ parts) i b l m =
    let zeros = replicate n 0 in
    let within : i < length zeros = subst (λ n. i < n) (sym (length-replicate n 0)) l in
    ap (λ c. c % 2) (flips_cons byte_at (flipped at zeros p) (map (flipped at zeros) parts) i b ∙ ap (λ c. c + flips byte_at (map (flipped at zeros) parts) i b) (flipped_bit at zeros p i b within m
    ∙ ap (λ s. (s + flips at p i b) % 2) (ap (λ y. bit_at y b) (get_or-replicate n i 0 0 l) ∙ bit_at-zero b)))
    ∙ twos_both (flips at p i b) _ _ (even_parts at n parts i b l m)
    ∙ ap (λ c. c % 2) (sym (sum_by-append (λ x. cond (is_set (at x i) b) 1 0) p (joined parts)))
  where
    twos_both : (c d e : ℕ) → d % 2 ≡ e % 2 → ((0 + c) % 2 + d) % 2 ≡ (c + e) % 2
    twos_both c d e h = omega (arith, h)

pub flipped_parts : {X : Type 0} (at : X → ℕ → ℕ) (start : List ℕ) (parts : List (List X))
    → flipped byte_at start (map (flipped at (replicate (length start) 0)) parts) ≡ flipped at start (joined parts)
flipped_parts at start parts = flipped_same byte_at at start start (map (flipped at (replicate (length start) 0)) parts) (joined parts) refl (λ i b l m. onto _ _ _ (even_parts at (length start) parts i b l m))
  where
    onto : (s c d : ℕ) → c % 2 ≡ d % 2 → (s + c) % 2 ≡ (s + d) % 2
    onto s c d h = omega (arith, h)

-- a step of a loop that toggles: what it leaves are bytes
pub flipped_step : {X : Type 0} (at : X → ℕ → ℕ) (start now next : List ℕ) (xs : List X) (x : X) → now ≡ flipped at start xs → next ≡ toggled at now x → ((i : ℕ) → Fits w8 (get_or next i 0)) → next ≡ flipped at start (xs ++ x ∷ [])
flipped_step at start now next xs x e f q =
    let bytes : All (λ x. x < 2 ^ 8) next = All-from_get_or (λ x. x < 2 ^ 8) next 0 (λ i l. (q i).fits) in
    f ∙ sym (flipped_none at (toggled at now x) (subst (All (λ x. x < 2 ^ 8)) f bytes)) ∙ flipped_cons at now x [] ∙ ap (λ s. flipped at s (x ∷ [])) e ∙ flipped_append at start xs (x ∷ [])

-- all items after all others: an item's bits are those that one of the two has set
flips_both : {X : Type 0} (at bt ct : X → ℕ → ℕ) (i b : ℕ) → ((x : X) → ct x i ≡ bit_xor (at x i) (bt x i)) → (xs : List X) → flips ct xs i b % 2 ≡ (flips at xs i b + flips bt xs i b) % 2
flips_both at bt ct i b h [] = refl
flips_both at bt ct i b h (x ∷ xs) =
    ap (λ c. c % 2) (flips_cons ct x xs i b ∙ ap (λ y. y + flips ct xs i b) (ap (λ y. bit_at y b) (h x) ∙ bit_at_xor (at x i) (bt x i) b))
    ∙ apart (bit_at (at x i) b) (bit_at (bt x i) b) (flips at xs i b) (flips bt xs i b) (flips ct xs i b) (flips_both at bt ct i b h xs)
    ∙ ap₂ (λ c d. (c + d) % 2) (sym (flips_cons at x xs i b)) (sym (flips_cons bt x xs i b))
  where
    apart : (p q c d e : ℕ) → e % 2 ≡ (c + d) % 2 → ((p + q) % 2 + e) % 2 ≡ (p + c + (q + d)) % 2
    apart p q c d e r = omega (arith, r)

pub flipped_both : {X : Type 0} (at bt ct : X → ℕ → ℕ) (start : List ℕ) (xs : List X) → ((x : X) (i : ℕ) → ct x i ≡ bit_xor (at x i) (bt x i))
    → flipped bt (flipped at start xs) xs ≡ flipped ct start xs
flipped_both at bt ct start xs h = flipped_same bt ct (flipped at start xs) start xs xs (length-flipped at start xs) (λ i b l m.
    ap (λ s. (s + flips bt xs i b) % 2) (flipped_bit at start xs i b (subst (λ n. i < n) (length-flipped at start xs) l) m)
    ∙ onto _ _ _ _ (flips_both at bt ct i b (λ x. h x i) xs))
  where
    onto : (s c d e : ℕ) → e % 2 ≡ (c + d) % 2 → ((s + c) % 2 + d) % 2 ≡ (s + e) % 2
    onto s c d e r = omega (arith, r)
