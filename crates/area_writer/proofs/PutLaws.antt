-- Bytes that are written one field after another.
use Rattle.std.proofs.Common.{◌≡◌, ℕ, ◌+◌, ◌-◌, List, [], ◌++◌, length, take, drop, sym, ap, ap₂, ◌∙◌, arith}
use Rattle.std.proofs.lemmas.List.{append_assoc, append-nil, drop_all, take_at, drop-drop, drop_at, length-append, length-drop}
use borrow.Rule.Slice.PartMut.{put_mid}
use Rattle.fields.specs.Fields.{with_bytes}

-- a field behind what was written
pub put_next : (text field old now : List ℕ) (at end : ℕ) → length text ≡ at → at + length field ≡ end → now ≡ text ++ drop at old → with_bytes at field now ≡ (text ++ field) ++ drop end old
put_next text field old now at end e f h =
    ap (with_bytes at field) h
    ∙ ap₂ (λ a b. a ++ field ++ b) (take_at text (drop at old) at e)
    (sym (drop-drop (length field) at (text ++ drop at old)) ∙ ap (drop (length field)) (drop_at text (drop at old) at e) ∙ drop-drop (length field) at old ∙ ap (λ n. drop n old) f)

-- the same for a part that is written at once
pub put_last : (text field old now : List ℕ) (at end : ℕ) → length text ≡ at → at + length field ≡ end → now ≡ text ++ drop at old → put_mid at (end - at) now field ≡ (text ++ field) ++ drop end old
put_last text field old now at end e f h =
    ap₂ (λ a b. a ++ (field ++ b)) (ap (take at) h ∙ take_at text (drop at old) at e)
    (ap (λ x. drop (end - at) (drop at x)) h ∙ ap (drop (end - at)) (drop_at text (drop at old) at e) ∙ drop-drop (end - at) at old ∙ ap (λ n. drop n old) (omega (arith, f)))
    ∙ sym (append_assoc text field (drop end old))

-- the last part, up to the end
pub put_to_end : (text field old now : List ℕ) (at end : ℕ) → length text ≡ at → at + length field ≡ end → length old ≡ end → now ≡ text ++ drop at old → put_mid at (length now - at) now field ≡ text ++ field
put_to_end text field old now at end e f size h =
    let all : length now ≡ end = omega (arith, ap length h, length-append text (drop at old), length-drop at old, e, f, size) in
    let none : drop end old ≡ [] = drop_all end old (omega (arith, size)) in
    ap (λ (n : ℕ). put_mid at (n - at) now field) all ∙ put_last text field old now at end e f h ∙ ap (λ (l : List ℕ). (text ++ field) ++ l) none ∙ append-nil (text ++ field)
