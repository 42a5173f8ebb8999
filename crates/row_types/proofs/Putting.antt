-- Texts that are put one behind the other.
use Rattle.std.proofs.Common.{◌≡◌, ℕ, ◌+◌, ◌<◌, ◌≤◌, List, [], ◌∷◌, ◌++◌, length, get_or, set, take, drop, refl, sym, ◌∙◌, ap, append_assoc, arith}
use Rattle.std.specs.List.{flat_map}
use Rattle.std.proofs.lemmas.List.{length-append, length-take, length-drop, take-append-drop, take_more, drop-drop, append-nil}
use Rattle.std.proofs.lemmas.List.Concat.{flat_map-append}
use Rattle.std.proofs.lemmas.Slice.{take-put_mid, drop-put_mid}
use borrow.Rule.Slice.PartMut.{put_mid}
use Rattle.row_types.specs.SchemaText.{Puts}

pub puts_none : (into : List ℕ) (at : ℕ) → Puts [] into into at at
puts_none into at = record { ends = omega arith; len = refl; front = sym (append-nil (take at into)); rest = refl }

pub puts_bytes : (into bytes : List ℕ) (at k : ℕ) → at + length bytes ≤ length into → k ≡ length bytes → Puts bytes into (put_mid at k into bytes) at (at + length bytes)
puts_bytes into bytes at k room k-is = record {
  ends = refl;
  len =
      let back = drop k (drop at into) in
      omega (arith, length-append (take at into) (bytes ++ back), length-append bytes back, length-take at into, length-drop k (drop at into), length-drop at into);
  front = take-put_mid at k into bytes (at + length bytes) refl (omega arith);
  rest = drop-put_mid at k into bytes (at + length bytes) (omega arith) (omega arith) (sym k-is);
}

pub puts_first : (into : List ℕ) (b : ℕ) → 0 < length into → Puts (b ∷ []) into (set into 0 b) 0 1
puts_first [] b some = absurd (omega arith)
puts_first (x ∷ into) b some = record { ends = refl; len = refl; front = refl; rest = refl }

module _ (text more a b c : List ℕ) (p q r : ℕ) where
  pub puts_then : Puts text a b p q → Puts more b c q r → Puts (text ++ more) a c p r
  puts_then one two = record {
    ends = omega (arith, one.ends, two.ends, length-append text more);
    len = two.len ∙ one.len;
    front = two.front ∙ ap (λ (f : List ℕ). f ++ more) one.front ∙ append_assoc (take p a) text more;
    rest =
        let place : r ≡ q + length more = two.ends in
        two.rest ∙ ap (λ (n : ℕ). drop n b) place ∙ sym (drop-drop (length more) q b) ∙ ap (λ (d : List ℕ). drop (length more) d) one.rest ∙ drop-drop (length more) q a ∙ sym (ap (λ (n : ℕ). drop n a) place);
  }

-- texts of the items of a list, put in a loop
module _ {A : Type 0} (text : A → List ℕ) (xs : List A) (i : ℕ) (x : A) (inside : i < length xs) (is : x ≡ get_or xs i x) where
  pub flat_map_more : flat_map text (take (i + 1) xs) ≡ flat_map text (take i xs) ++ text x
  flat_map_more = rw (take_more xs i x inside, ← is) (flat_map-append text (take i xs) (x ∷ []) ∙ ap (λ (t : List ℕ). flat_map text (take i xs) ++ t) (append-nil (text x)))

  pub flat_map_room : length (flat_map text (take i xs)) + length (text x) ≤ length (flat_map text xs)
  flat_map_room =
      let parts : flat_map text (take (i + 1) xs) ++ flat_map text (drop (i + 1) xs) ≡ flat_map text xs = sym (flat_map-append text (take (i + 1) xs) (drop (i + 1) xs)) ∙ ap (flat_map text) (take-append-drop (i + 1) xs) in
      omega (arith, ap length parts, length-append (flat_map text (take (i + 1) xs)) (flat_map text (drop (i + 1) xs)), ap length flat_map_more, length-append (flat_map text (take i xs)) (text x))
