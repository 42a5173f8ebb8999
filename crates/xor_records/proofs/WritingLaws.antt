-- Bytes that are written one field after another.
use Rattle.std.proofs.Common.{◌≡◌, ℕ, ◌+◌, ◌-◌, ◌<◌, ◌≤◌, List, [], ◌∷◌, ◌++◌, length, take, drop, set, refl, sym, ap, ap₂, ◌∙◌, subst, arith}
use Rattle.std.proofs.lemmas.List.{append_assoc, take_at, drop-drop, drop_at, length-append}
use Rattle.std.proofs.lemmas.Grind.{common_steps}
use borrow.Rule.Slice.PartMut.{put_mid}
use Rattle.fields.specs.Fields.{with_bytes}

-- the first byte
pub first_set : (old : List ℕ) (k : ℕ) → 0 < length old → set old 0 k ≡ (k ∷ []) ++ drop 1 old
first_set [] k l = absurd (omega (arith, l))
first_set (b ∷ old) k l = refl

-- a field behind what was written
pub put_next : (text field old now : List ℕ) (at end : ℕ) → length text ≡ at → at + length field ≡ end → now ≡ text ++ drop at old → with_bytes at field now ≡ (text ++ field) ++ drop end old
put_next text field old now at end e f h =
    ap (with_bytes at field) h
    ∙ ap₂ (λ a b. a ++ field ++ b) (take_at text (drop at old) at e)
    (sym (drop-drop (length field) at (text ++ drop at old)) ∙ ap (drop (length field)) (drop_at text (drop at old) at e) ∙ drop-drop (length field) at old ∙ ap (λ n. drop n old) f)

-- the same for a part that is written at once
pub put_last : (text field old now : List ℕ) (at end : ℕ) → length text ≡ at → at + length field ≡ end → now ≡ text ++ drop at old → put_mid at (end - at) now field ≡ (text ++ field) ++ drop end old
put_last text field old now at end e f h =
    ap₂ (λ a b. a ++ (field ++ b)) (ap (take at) h ∙ take_at text (drop at old) at e)
    (ap (λ x. drop (end - at) (drop at x)) h ∙ ap (drop (end - at)) (drop_at text (drop at old) at e) ∙ drop-drop (end - at) at old ∙ ap (λ n. drop n old) (omega (arith, f)))
    ∙ sym (append_assoc text field (drop end old))
