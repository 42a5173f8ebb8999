-- What the writes of a step make of the file together.
use Rattle.std.proofs.Common.{◌≡◌, ℕ, ◌+◌, ◌-◌, ◌<◌, ◌≤◌, List, [], ◌∷◌, ◌++◌, length, take, drop, set, refl, sym, ◌∙◌, ap, arith, append_assoc}
use Rattle.std.proofs.lemmas.List.{length-drop, length-set, set-append_right, take_all, take_more_set}
use Rattle.std.specs.Int.{w16, w64, to_le_bytes}
use Rattle.disk_core.specs.Device.{written}
use Rattle.lane_format.specs.Lane.{header_text, emptied}

-- what stands behind the gate, and then the gate
pub header_then_gate : (generation lane : ℕ) (bytes : List ℕ) → 0 < length bytes
    → written 0 (1 ∷ []) (written 1 (to_le_bytes w64 generation ++ to_le_bytes w16 lane ++ 0 ∷ []) bytes) ≡ emptied generation lane bytes
unfolding header_text
header_then_gate generation lane [] some = absurd (omega arith)
header_then_gate generation lane (b ∷ bytes) some = refl

-- the last byte of a list written over
set_last : (xs : List ℕ) (n y : ℕ) → length xs ≡ n + 1 → set xs n y ≡ take n xs ++ y ∷ []
set_last xs n y size = sym (take_all (n + 1) (set xs n y) (omega (arith, length-set xs n y, size))) ∙ take_more_set xs n y (omega arith)

-- the length over the first four bytes of a frame, and a closed gate over its last
pub filled : (lengths frame : List ℕ) → length lengths ≡ 4 → 6 ≤ length frame → set (lengths ++ drop 4 frame) (length frame - 1) 0 ≡ lengths ++ take (length frame - 5) (drop 4 frame) ++ 0 ∷ []
filled lengths frame four room =
    let last : length frame - 1 - 4 ≡ length frame - 5 = omega arith in
    set-append_right lengths (drop 4 frame) 4 (length frame - 1) 0 four (omega arith)
    ∙ ap (λ (i : ℕ). lengths ++ set (drop 4 frame) i 0) last
    ∙ ap (λ (l : List ℕ). lengths ++ l) (set_last (drop 4 frame) (length frame - 5) 0 (omega (arith, length-drop 4 frame)))
    ∙ sym (append_assoc lengths (take (length frame - 5) (drop 4 frame)) (0 ∷ []))
