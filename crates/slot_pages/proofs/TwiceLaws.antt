-- Bytes that are toggled twice by the same.
use Rattle.std.proofs.Common.{◌≡◌, ℕ, ◌<◌, List, length, get_or, bit_xor, ap, ◌∙◌, subst}
use Rattle.std.specs.Int.Bits.{xor_zero_r, xor_self, xor_assoc}
use Rattle.std.proofs.lemmas.List.{ext_get_or}
use Rattle.fields.specs.Toggle.{byte_from, toggled}
use Rattle.fields.proofs.ToggleLaws.{length-toggled, toggled_at}

pub twice : (bytes xor : List ℕ) (offset : ℕ)
    → toggled (byte_from offset) (toggled (byte_from offset) bytes xor) xor ≡ bytes
twice bytes xor offset =
    ext_get_or 0 (toggled (byte_from offset) (toggled (byte_from offset) bytes xor) xor) bytes long (λ i l.
    let m : i < length bytes = subst (λ n. i < n) long l in
    toggled_at (byte_from offset)
    (toggled (byte_from offset) bytes xor) xor i
    (subst (λ n. i < n) (length-toggled (byte_from offset) (toggled (byte_from offset) bytes xor) xor) l)
    ∙ ap (λ x. bit_xor x (byte_from offset xor i)) (toggled_at (byte_from offset) bytes xor i m)
    ∙ xor_assoc (get_or bytes i 0) (byte_from offset xor i)
    (byte_from offset xor i) ∙ ap (bit_xor (get_or bytes i 0))
    (xor_self (byte_from offset xor i)) ∙ xor_zero_r (get_or bytes i 0))
  where
    long : length (toggled (byte_from offset) (toggled (byte_from offset) bytes xor) xor) ≡ length bytes
    long =
        length-toggled (byte_from offset)
        (toggled (byte_from offset) bytes xor) xor ∙ length-toggled (byte_from offset) bytes xor
