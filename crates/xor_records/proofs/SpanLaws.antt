-- The XOR bytes of a span turn the one list into the other.
use Rattle.std.proofs.Common.{◌≡◌, ◌≢◌, ℕ, ◌+◌, ◌-◌, ◌^◌, ◌<◌, ◌≤◌, ◌⊎◌, inl, inr, cond, List, length, get_or, take, drop, bit_xor, refl, sym, ap, ap₂, ◌∙◌, subst, arith, All}
use Rattle.std.proofs.lemmas.Bool.{cases_lt, le-leb, lt-leb}
use Rattle.std.proofs.lemmas.List.{get_or-take, get_or-drop, get_or_past}
use Rattle.std.proofs.lemmas.Grind.{common_steps}
use Rattle.std.specs.Int.Bits.{xor_zero_r, xor_zero_l, xor_self, xor_assoc}
use Rattle.fields.specs.Fields.{bytes_at}
use Rattle.fields.specs.Toggle.{byte_at, byte_from, toggled}
use Rattle.fields.specs.Differ.{IsDiffSpan}
use Rattle.fields.proofs.ToggleLaws.{toggled_from, toggled_at, length-toggled}

-- x XOR (x XOR y) is y
back : (x y : ℕ) → bit_xor x (bit_xor x y) ≡ y
back x y = sym (xor_assoc x x y) ∙ ap (λ z. bit_xor z y) (xor_self x) ∙ xor_zero_l y

part_at : (at len : ℕ) (bytes : List ℕ) (i : ℕ) → at ≤ i → i < at + len → get_or (bytes_at at len bytes) (i - at) 0 ≡ get_or bytes i 0
part_at at len bytes i l m =
    let back : at + (i - at) ≡ i = omega (arith, l) in
    let inside : i - at < len = omega (arith, l, m) in
    get_or-take len (drop at bytes) (i - at) 0 inside ∙ get_or-drop at bytes (i - at) 0 ∙ ap (λ k. get_or bytes k 0) back

part_len : (at len : ℕ) (bytes : List ℕ) → at + len ≤ length bytes → length (bytes_at at len bytes) ≡ len
part_len at len bytes l = grind (arith, common_steps, l)

-- the byte of the XOR bytes at a place of the span
xor_at : (a b : List ℕ) (at len : ℕ) (xor : List ℕ) (i : ℕ) → at + len ≤ length a → xor ≡ toggled byte_at (bytes_at at len a) (bytes_at at len b) → at ≤ i → i < at + len
    → get_or xor (i - at) 0 ≡ bit_xor (get_or a i 0) (get_or b i 0)
xor_at a b at len xor i w h l m =
    let within : i - at < length (bytes_at at len a) = subst (λ n. i - at < n) (sym (part_len at len a w)) (omega (arith, l, m)) in
    ap (λ x. get_or x (i - at) 0) h ∙ toggled_at byte_at (bytes_at at len a) (bytes_at at len b) (i - at) within ∙ ap₂ bit_xor (part_at at len a i l m) (part_at at len b i l m)

xor_len : (a b : List ℕ) (at len : ℕ) (xor : List ℕ) → at + len ≤ length a → xor ≡ toggled byte_at (bytes_at at len a) (bytes_at at len b) → length xor ≡ len
xor_len a b at len xor w h = ap length h ∙ length-toggled byte_at (bytes_at at len a) (bytes_at at len b) ∙ part_len at len a w

pub turned : (a b : List ℕ) (at len : ℕ) (xor : List ℕ) → length a ≡ length b → IsDiffSpan a b at len → xor ≡ toggled byte_at (bytes_at at len a) (bytes_at at len b) → toggled (byte_from at) a xor ≡ b
turned a b at len xor e s h = sym (toggled_from (byte_from at) a xor b (sym e) (λ i l. go i l (cases_lt i at) (cases_lt i (at + len))))
  where
    go : (i : ℕ) → i < length a → (i < at) ⊎ (at ≤ i) → (i < at + len) ⊎ (at + len ≤ i) → get_or b i 0 ≡ bit_xor (get_or a i 0) (byte_from at xor i)
    go i l (inl m) _ =
        sym (get_or-take at b i 0 m) ∙ ap (λ x. get_or x i 0) (sym s.holds.before) ∙ get_or-take at a i 0 m ∙ sym (xor_zero_r (get_or a i 0))
        ∙ ap (λ t. bit_xor (get_or a i 0) (cond t (get_or xor (i - at) 0) 0)) (sym (lt-leb at i m))
    go i l (inr m) (inl n) =
        sym (back (get_or a i 0) (get_or b i 0)) ∙ ap (bit_xor (get_or a i 0)) (sym (xor_at a b at len xor i s.inside h m n))
        ∙ ap (λ t. bit_xor (get_or a i 0) (cond t (get_or xor (i - at) 0) 0)) (sym (le-leb at i m))
    go i l (inr m) (inr n) =
        let past : length xor ≤ i - at = omega (arith, xor_len a b at len xor s.inside h, m, n) in
        let there : at + len + (i - (at + len)) ≡ i = omega (arith, n) in
        ap (λ k. get_or b k 0) (sym there) ∙ sym (get_or-drop (at + len) b (i - (at + len)) 0) ∙ ap (λ x. get_or x (i - (at + len)) 0) (sym s.holds.behind)
        ∙ get_or-drop (at + len) a (i - (at + len)) 0 ∙ ap (λ k. get_or a k 0) there ∙ sym (xor_zero_r (get_or a i 0))
        ∙ ap (bit_xor (get_or a i 0)) (sym (get_or_past xor (i - at) 0 past))
        ∙ ap (λ t. bit_xor (get_or a i 0) (cond t (get_or xor (i - at) 0) 0)) (sym (le-leb at i m))

-- the XOR of two bytes that differ isn't 0
apart : (x y : ℕ) → x ≢ y → bit_xor x y ≢ 0
apart x y n e = n (sym (xor_zero_r x) ∙ ap (bit_xor x) (sym e) ∙ back x y)

pub first_apart : (a b : List ℕ) (at len : ℕ) (xor : List ℕ) → IsDiffSpan a b at len → xor ≡ toggled byte_at (bytes_at at len a) (bytes_at at len b) → get_or xor 0 0 ≢ 0
first_apart a b at len xor s h e =
    let some : 0 < len = s.some in
    apart (get_or a at 0) (get_or b at 0) s.first (sym (xor_at a b at len xor at s.inside h (omega arith) (omega (arith, some))) ∙ ap (λ k. get_or xor k 0) none ∙ e)
  where
    none : at - at ≡ 0
    none = omega arith

pub last_apart : (a b : List ℕ) (at len : ℕ) (xor : List ℕ) → IsDiffSpan a b at len → xor ≡ toggled byte_at (bytes_at at len a) (bytes_at at len b) → get_or xor (length xor - 1) 0 ≢ 0
last_apart a b at len xor s h e =
    let some : 0 < len = s.some in
    let place : length xor - 1 ≡ at + len - 1 - at = omega (arith, xor_len a b at len xor s.inside h, some) in
    apart (get_or a (at + len - 1) 0) (get_or b (at + len - 1) 0) s.last
    (sym (xor_at a b at len xor (at + len - 1) s.inside h (omega (arith, some)) (omega (arith, some))) ∙ ap (λ k. get_or xor k 0) (sym place) ∙ e)

-- a part up to the end of a span is the span's
pub part_is : (at len : ℕ) (bytes : List ℕ) → take (at + len - at) (drop at bytes) ≡ bytes_at at len bytes
part_is at len bytes = ap (λ k. take k (drop at bytes)) (omega arith)

-- the XOR bytes of a span, as they are made: the one list's part, XOR the other's
pub made : (at len : ℕ) (a b copied xor : List ℕ) → copied ≡ take (at + len - at) (drop at a) → xor ≡ toggled byte_at copied (take (at + len - at) (drop at b))
    → xor ≡ toggled byte_at (bytes_at at len a) (bytes_at at len b)
made at len a b copied xor e h = h ∙ ap₂ (toggled byte_at) (e ∙ part_is at len a) (part_is at len b)
