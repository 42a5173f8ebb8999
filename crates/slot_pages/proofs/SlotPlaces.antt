-- Where the slots of a page lie, and which are free.
use Rattle.std.proofs.Common.{◌≡◌, ◌⊎◌, inl, inr, ℕ, ◌+◌, ◌-◌, ◌*◌, ◌/◌, ◌<◌, ◌≤◌, Bool}
use Rattle.std.proofs.Common.{List, get_or, drop, sym, ap, ◌∙◌}
use Rattle.std.proofs.Common.{arith}
use Rattle.std.proofs.lemmas.Bool.{true≢false, cases_lt}
use Rattle.std.proofs.lemmas.Nat.{mul-le, div-add-mod', div_below}
use Rattle.std.proofs.lemmas.List.{get_or-take, get_or-drop, get_or-replicate}
use Rattle.row_types.specs.Page.{slot_at}
use Rattle.slot_pages.specs.State.{IsTaken}
use Rattle.slot_pages.specs.Slots.{IsFree}

pub slot_inside : (k len n : ℕ) → k < n / len → k * len + len ≤ n
slot_inside k len n l =
    omega (arith, mul-le (k + 1) len (n / len) len (omega (arith, l)) (omega arith), div-add-mod' n len)

pub few_slots : (k len : ℕ) → 16 ≤ len → k < 4096 / len → k < 256
few_slots k len w l = omega (arith, slot_inside k len 4096 l, mul-le k 16 k len (omega arith) w)

-- a taken slot isn't free
pub not_free : (bytes : List ℕ) (held : List Bool) (len k : ℕ) → 0 < len → IsTaken bytes held len k
    → ¬ (IsFree bytes held len k)
not_free bytes held len k w (inl h) f = true≢false (sym h ∙ f.open_to)
not_free bytes held len k w (inr n) f =
    n (sym (first ∙ ap (λ i. get_or bytes i 0) zero_more) ∙ ap
    (λ s. get_or s 0 0) f.empty ∙ get_or-replicate len 0 0 0 w)
  where
    first : get_or (slot_at len bytes k) 0 0 ≡ get_or bytes (k * len + 0) 0
    first = get_or-take len (drop (k * len) bytes) 0 0 w ∙ get_or-drop (k * len) bytes 0 0

    zero_more : k * len + 0 ≡ k * len
    zero_more = omega arith

-- a slot whose first byte lies in a range isn't before the
-- first that begins at the range's front or behind it
pub before_range : (k len offset count taken : ℕ) → 0 < len → k < taken
    → ((offset + len - 1) / len * len < offset + count → k < (offset + len - 1) / len) → (k * len < offset)
    ⊎ (offset + count ≤ k * len)
before_range k len offset count taken w l h =
    go (cases_lt (k * len) offset) (cases_lt (k * len) (offset + count))
  where
    go : (k * len < offset) ⊎ (offset ≤ k * len) → (k * len < offset + count)
        ⊎ (offset + count ≤ k * len) → (k * len < offset) ⊎ (offset + count ≤ k * len)
    go (inl m) _ = inl m
    go _ (inr n) = inr n
    go (inr m) (inl n) =
        let low : (offset + len - 1) / len < k + 1 =
        div_below (offset + len - 1) len (k + 1) w (omega (arith, m, w)) in
        let mult : (offset + len - 1) / len * len ≤ k * len =
        mul-le ((offset + len - 1) / len) len k len (omega (arith, low)) (omega arith) in
        absurd (omega (arith, h (omega (arith, mult, n)), low))
