-- A write of one byte inside an image leaves it as it was, or is done whole.
use Rattle.std.proofs.Common.{◌≡◌, ◌⊎◌, inl, inr, ⊎_elim, ℕ, ◌+◌, ◌<◌, List, [], ◌∷◌, ◌++◌, length, take, drop, get_or, refl, sym, ◌∙◌, ap, arith, append_assoc, take-append-drop}
use Rattle.std.proofs.lemmas.List.{drop_more}
use Rattle.disk_core.specs.Device.{written}
use Rattle.disk_core.specs.Crash.{Tears}

-- a list by one of its places
abbrev around : ℕ → ℕ → List ℕ → List ℕ
around at byte l = take at l ++ byte ∷ drop (at + 1) l

at_place : (at : ℕ) (l : List ℕ) → at < length l → l ≡ around at (get_or l at 0) l
at_place at l lt = sym (take-append-drop at l) ∙ ap (λ (rest : List ℕ). take at l ++ rest) (drop_more l at 0 lt)

pub lone_write : (at byte : ℕ) (old new : List ℕ) → at < length old → Tears at (byte ∷ []) old new → (new ≡ old) ⊎ (new ≡ written at (byte ∷ []) old)
lone_write at byte old new inside tears =
    let there : at < length new = omega (arith, tears.torn.no_shorter) in
    let parts : new ≡ around at (get_or new at 0) old =
    at_place at new there ∙ ap (λ (l : List ℕ). l ++ get_or new at 0 ∷ drop (at + 1) new) tears.torn.before ∙ ap (λ (l : List ℕ). take at old ++ get_or new at 0 ∷ l) tears.torn.after in
    ⊎_elim
    (λ is. inr (parts ∙ ap (λ b. around at b old) is ∙ sym (append_assoc (take at old) (byte ∷ []) (drop (at + 1) old))))
    (λ same. inl (parts ∙ ap (λ b. around at b old) same ∙ sym (at_place at old inside)))
    (tears.alone byte refl)
