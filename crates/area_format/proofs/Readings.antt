-- How the parts of a reading make up the whole.
use Rattle.std.proofs.Common.{◌≡◌, ℕ, zero, suc, ◌+◌, ◌≤◌, ◌<◌, Bool, true, false, List, [], ◌∷◌, ◌++◌, refl, sym, ◌∙◌, ap, inl, inr, arith}
use Rattle.std.specs.Prelude.{Some, None, slice_index, if◌then◌else◌}
use Rattle.std.specs.Option.{option_or}
use Rattle.std.proofs.lemmas.Bool.{eq-eqb, ne_eqb, cases_eq}
use Rattle.area_format.specs.declared.head.Header.{Header}
use Rattle.area_format.specs.Area.{Image, IsOpen, IsNotOpen}
use Rattle.area_format.specs.Places.{count_at, image_bytes_at, image_head_at, image_place}
use Rattle.area_format.specs.AreaRead.{NotOpen, DamagedAt, Holding, area_fault, area_in, area_reads, generation_told, header_fault, images_fault, images_from, is_image_at, read_with}
use Rattle.area_format.specs.Results.{IsHeaderOf, image_fault}
use Rattle.area_format.proofs.Headers.{header_kept}

module _ (bytes : List ℕ) where
  pub reads_not_open : IsNotOpen bytes → area_reads bytes ≡ NotOpen
  unfolding area_reads
  reads_not_open shut = rw (ne_eqb (slice_index bytes 0) 1 shut) refl

  pub reads_open : IsOpen bytes → area_reads bytes ≡ read_with (area_fault bytes) bytes
  unfolding area_reads
  reads_open open_gate = rw (eq-eqb (slice_index bytes 0) 1 open_gate) refl

  pub reads_damaged : (at : ℕ) → IsOpen bytes → header_fault bytes ≡ Some at → area_reads bytes ≡ DamagedAt at (generation_told bytes)
  reads_damaged at open_gate e =
      let fault : area_fault bytes ≡ Some at = ap (λ o. option_or o (images_fault bytes 0 (count_at bytes))) e in
      reads_open open_gate ∙ ap (λ o. read_with o bytes) fault

  pub image_kept : (k : ℕ) → image_fault bytes k ≡ None → is_image_at bytes k ≡ true
  image_kept k e = go (is_image_at bytes k) e
    where
      go : (b : Bool) → (if b then None else Some (image_place bytes k)) ≡ None → b ≡ true
      go true e = refl
      go false e = absurd (cc e)

  pub image_broken : (k at : ℕ) → image_fault bytes k ≡ Some at → (is_image_at bytes k ≡ false) × (image_place bytes k ≡ at)
  image_broken k at e = go (is_image_at bytes k) e
    where
      go : (b : Bool) → (if b then None else Some (image_place bytes k)) ≡ Some at → (b ≡ false) × (image_place bytes k ≡ at)
      go true e = absurd (cc e)
      go false e = (refl, cc e)

  pub no_fault : (k n : ℕ) → ((j : ℕ) → k ≤ j → j < k + n → is_image_at bytes j ≡ true) → images_fault bytes k n ≡ None
  no_fault k zero fine = refl
  no_fault k (suc n) fine = rw (fine k (omega arith) (omega arith)) (no_fault (suc k) n (λ j low high. fine j (omega (arith, low)) (omega (arith, high))))

  pub first_fault : (k n j : ℕ) → k ≤ j → j < k + n → ((i : ℕ) → k ≤ i → i < j → is_image_at bytes i ≡ true) → is_image_at bytes j ≡ false → images_fault bytes k n ≡ Some (image_place bytes j)
  first_fault k zero j low high fine bad = absurd (omega (arith, low, high))
  first_fault k (suc n) j low high fine bad = elim (cases_eq k j) [
    | inl same ↦ rw (same, bad) refl
    | inr other ↦ rw (fine k (omega arith) (omega (arith, low, other))) (first_fault (suc k) n j (omega (arith, low, other)) (omega (arith, high)) (λ i a b. fine i (omega (arith, a)) b) bad)
  ]

  pub reads_whole : IsOpen bytes → header_fault bytes ≡ None → images_fault bytes 0 (count_at bytes) ≡ None → area_reads bytes ≡ Holding (area_in bytes)
  reads_whole open_gate head images =
      let fault : area_fault bytes ≡ None = ap (λ o. option_or o (images_fault bytes 0 (count_at bytes))) head ∙ images in
      reads_open open_gate ∙ ap (λ o. read_with o bytes) fault

  module _ (header : Header) (is : IsHeaderOf bytes header) where
    pub all_fine : ((k : ℕ) → k < header.count → image_fault bytes k ≡ None) → area_reads bytes ≡ Holding (area_in bytes)
    all_fine fine = reads_whole is.open_gate is.fine (no_fault 0 (count_at bytes) (λ j low high. image_kept j (fine j (omega (arith, high, is.count)))))

    pub one_bad : (k at : ℕ) → k < header.count → ((j : ℕ) → j < k → image_fault bytes j ≡ None) → image_fault bytes k ≡ Some at → area_reads bytes ≡ DamagedAt at (Some header.generation)
    one_bad k at inside fine bad =
        let broken = image_broken k at bad in
        let images = first_fault 0 (count_at bytes) k (omega arith) (omega (arith, inside, is.count)) (λ i low high. image_kept i (fine i high)) broken.0 in
        let fault : area_fault bytes ≡ Some at = ap (λ o. option_or o (images_fault bytes 0 (count_at bytes))) is.fine ∙ images ∙ ap Some broken.1 in
        let told : generation_told bytes ≡ Some header.generation = rw ((header_kept bytes is.fine).0) (ap Some (sym is.generation)) in
        reads_open is.open_gate ∙ ap (λ o. read_with o bytes) fault ∙ ap (DamagedAt at) told

abbrev image_at : List ℕ → ℕ → Image
image_at bytes k = record { head = image_head_at bytes k; bytes = image_bytes_at bytes k }

-- one image more, at the end
pub image_more : (bytes : List ℕ) (k n : ℕ) → images_from bytes k (n + 1) ≡ images_from bytes k n ++ record { head = image_head_at bytes (k + n); bytes = image_bytes_at bytes (k + n) } ∷ []
image_more bytes k zero =
    let none : k ≡ k + 0 = omega arith in
    ap (λ (j : ℕ). image_at bytes j ∷ []) none
image_more bytes k (suc n) =
    let next : suc k + n ≡ k + suc n = omega arith in
    let longer : suc n + 1 ≡ suc (n + 1) = omega arith in
    ap (images_from bytes k) longer
    ∙ ap (λ (l : List Image). record { head = image_head_at bytes k; bytes = image_bytes_at bytes k } ∷ l)
    (image_more bytes (suc k) n ∙ ap (λ (j : ℕ). images_from bytes (suc k) n ++ record { head = image_head_at bytes j; bytes = image_bytes_at bytes j } ∷ []) next)

pub next_image : (bytes : List ℕ) (k : ℕ) → images_from bytes 0 (k + 1) ≡ images_from bytes 0 k ++ record { head = image_head_at bytes k; bytes = image_bytes_at bytes k } ∷ []
next_image bytes k =
    let same : 0 + k ≡ k = omega arith in
    image_more bytes 0 k ∙ ap (λ (j : ℕ). images_from bytes 0 k ++ record { head = image_head_at bytes j; bytes = image_bytes_at bytes j } ∷ []) same

pub all_images : (bytes : List ℕ) (header : Header) → IsHeaderOf bytes header → images_from bytes 0 (count_at bytes) ≡ images_from bytes 0 header.count
all_images bytes header is = ap (images_from bytes 0) (sym is.count)
