-- What the first bytes of a file say, the file says.
use Rattle.std.proofs.Common.{◌≡◌, ℕ, zero, suc, ◌+◌, ◌≤◌, List, ◌∷◌, [], length, min, take, drop, refl, sym, ◌∙◌, ap, inl, inr, arith}
use Rattle.std.specs.Prelude.{nat_le, slice_index, Option, Some, None}
use Rattle.std.specs.Option.{ForSome, IfSome}
use Rattle.std.proofs.lemmas.Bool.{cases_lt, le-leb, lt-leb}
use Rattle.std.proofs.lemmas.List.{take-take, drop-take, length-take, take_all}
use Rattle.std.specs.Int.{w16, w32, w64, from_le_bytes}
use Rattle.fields.specs.Fields.{bytes_at}
use Rattle.area_format.specs.Area.{IsOpen}
use Rattle.area_format.specs.Places.{u16_at, u64_at, settings_at, count_at, schema_len_at}
use Rattle.area_format.specs.AreaRead.{start_fault, fields_fault}

-- a field within the first n bytes
pub field_of : (at k n : ℕ) (bytes : List ℕ) → at + k ≤ n → bytes_at at k (take n bytes) ≡ bytes_at at k bytes
field_of at k n bytes le = sym (drop-take at k (take n bytes)) ∙ ap (drop at) (take-take (at + k) n bytes le) ∙ drop-take at k bytes

pub first_of : (n : ℕ) (bytes : List ℕ) → 1 ≤ n → slice_index (take n bytes) 0 ≡ slice_index bytes 0
first_of zero bytes le = absurd (omega (arith, le))
first_of (suc n) [] le = refl
first_of (suc n) (b ∷ bytes) le = refl

-- n bytes are there, and m at most
pub long_of : (m n : ℕ) (bytes : List ℕ) → m ≤ n → nat_le m (length (take n bytes)) ≡ nat_le m (length bytes)
long_of m n bytes le = elim (cases_lt (length bytes) m) [
  | inl short ↦ lt-leb m (length (take n bytes)) (omega (arith, length-take n bytes, short)) ∙ sym (lt-leb m (length bytes) short)
  | inr long ↦ le-leb m (length (take n bytes)) (omega (arith, length-take n bytes, long, le)) ∙ sym (le-leb m (length bytes) long)
]

-- as many bytes as there are, and at most n, are the first n
pub front_of : (k n : ℕ) (bytes : List ℕ) → n ≡ min (length bytes) k → take n bytes ≡ take k bytes
front_of k n bytes is = elim (cases_lt (length bytes) k) [
  | inl short ↦ take_all n bytes (omega (arith, is, short)) ∙ sym (take_all k bytes (omega (arith, short)))
  | inr long ↦ let same : n ≡ k = omega (arith, is, long) in ap (λ m. take m bytes) same
]

pub for_some : (o : Option (List ℕ)) (P : List ℕ → Type 0) → IfSome o P → ForSome o P
for_some None P holds = λ x is. absurd (cc)
for_some (Some y) P holds = λ x is. let same : y ≡ x = cc in rw (← same) holds

-- what was read of a file's beginning, of so many bytes that it had to be
pub front_read : (k n : ℕ) (front bytes : List ℕ) → front ≡ take (length front) bytes → length front ≡ min n k → n ≡ length bytes → front ≡ take k bytes
front_read k n front bytes found len size = found ∙ front_of k (length front) bytes (len ∙ ap (λ m. min m k) size)

module _ (n : ℕ) (bytes : List ℕ) where
  pub generation_of : 11 ≤ n → u64_at 3 (take n bytes) ≡ u64_at 3 bytes
  generation_of le = ap (λ b. from_le_bytes w64 b) (field_of 3 8 n bytes le)

  pub format_of : 11 ≤ n → u16_at 1 (take n bytes) ≡ u16_at 1 bytes
  format_of le = ap (λ b. from_le_bytes w16 b) (field_of 1 2 n bytes (omega (arith, le)))

  pub start_of : 11 ≤ n → start_fault (take n bytes) ≡ start_fault bytes
  unfolding start_fault
  start_of le = rw (long_of 11 n bytes le, format_of le, generation_of le) refl

  pub settings_of : 29 ≤ n → settings_at (take n bytes) ≡ settings_at bytes
  unfolding settings_at
  settings_of le =
      rw (field_of 11 2 n bytes (omega (arith, le)), field_of 13 4 n bytes (omega (arith, le)), field_of 17 4 n bytes (omega (arith, le)), field_of 21 4 n bytes (omega (arith, le)), field_of 25 4 n bytes (omega (arith, le))) refl

  pub count_of : 33 ≤ n → count_at (take n bytes) ≡ count_at bytes
  count_of le = ap (λ b. from_le_bytes w32 b) (field_of 29 4 n bytes (omega (arith, le)))

  pub schema_len_of : 35 ≤ n → schema_len_at (take n bytes) ≡ schema_len_at bytes
  schema_len_of le = ap (λ b. from_le_bytes w16 b) (field_of 33 2 n bytes (omega (arith, le)))

  pub fields_of : 35 ≤ n → fields_fault (take n bytes) ≡ fields_fault bytes
  unfolding fields_fault
  fields_of le = rw (long_of 35 n bytes le, settings_of (omega (arith, le)), count_of (omega (arith, le))) refl

  pub opens : 1 ≤ n → IsOpen (take n bytes) → IsOpen bytes
  opens le open_gate = sym (first_of n bytes le) ∙ open_gate

  pub opens_front : 1 ≤ n → IsOpen bytes → IsOpen (take n bytes)
  opens_front le open_gate = first_of n bytes le ∙ open_gate
