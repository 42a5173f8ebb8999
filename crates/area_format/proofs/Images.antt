-- The images of a file whose head breaks no rule.
use Rattle.std.proofs.Common.{◌≡◌, ℕ, zero, suc, ◌+◌, ◌-◌, ◌≤◌, true, false, List, length, take, drop, refl, sym, ◌∙◌, ap, arith}
use Rattle.std.specs.Prelude.{◌&&◌, nat_lt, Some, None}
use Rattle.std.proofs.lemmas.Bool.{lt-ltb, ltb-true, and_parts, false_from_ne_true}
use Rattle.std.proofs.lemmas.List.{take-take, drop-drop}
use Rattle.fields.specs.Fields.{bytes_at}
use Rattle.area_format.specs.declared.head.Header.{Header}
use Rattle.area_format.specs.declared.head.ImageHead.{ImageHead}
use Rattle.area_format.specs.Places.{image_head_at, image_place, u16_at, u32_at, u64_at}
use Rattle.area_format.specs.AreaRead.{is_image_at, is_in_order, precedes}
use Rattle.area_format.specs.Results.{IsHeaderOf, IsUnder, image_fault}
use Rattle.area_format.proofs.Bodies.{body_kept}
use Rattle.area_format.proofs.Fronts.{field_of}
use Rattle.area_format.proofs.Headers.{header_kept}

-- a field of a piece that was read
piece_of : (place n at k : ℕ) (bytes : List ℕ) → at + k ≤ n → bytes_at at k (bytes_at place n bytes) ≡ bytes_at (place + at) k bytes
piece_of place n at k bytes le = field_of at k n (drop place bytes) le ∙ ap (take k) (drop-drop at place bytes)

pub head_of : (table page stamp : ℕ) (text : List ℕ) → table ≡ u16_at 0 text → page ≡ u32_at 2 text → stamp ≡ u64_at 6 text
    → ◌≡◌ {A = ImageHead} (record { table = table; page = page; stamp = stamp }) (record { table = u16_at 0 text; page = u32_at 2 text; stamp = u64_at 6 text })
head_of table page stamp text a b d = rw (a, b, d) refl

pub head_read : (bytes text : List ℕ) (k : ℕ) → text ≡ bytes_at (image_place bytes k) 14 bytes
    → ◌≡◌ {A = ImageHead} (record { table = u16_at 0 text; page = u32_at 2 text; stamp = u64_at 6 text }) (image_head_at bytes k)
unfolding image_head_at
head_read bytes text k is =
    let place = image_place bytes k in
    let table : bytes_at 0 2 text ≡ bytes_at place 2 bytes = ap (bytes_at 0 2) is ∙ take-take 2 14 (drop place bytes) (omega arith) in
    let page : bytes_at 2 4 text ≡ bytes_at (place + 2) 4 bytes = ap (bytes_at 2 4) is ∙ piece_of place 14 2 4 bytes (omega arith) in
    let stamp : bytes_at 6 8 text ≡ bytes_at (place + 6) 8 bytes = ap (bytes_at 6 8) is ∙ piece_of place 14 6 8 bytes (omega arith) in
    rw (table, page, stamp) refl

pub after_first : (bytes : List ℕ) (k : ℕ) → 1 ≤ k → is_in_order bytes k ≡ precedes (image_head_at bytes (k - 1)) (image_head_at bytes k)
after_first bytes zero some = absurd (omega (arith, some))
after_first bytes (suc k) some =
    let before : suc k - 1 ≡ k = omega arith in
    ap (λ j. precedes (image_head_at bytes j) (image_head_at bytes (suc k))) (sym before)

module _ (bytes : List ℕ) (header : Header) (is : IsHeaderOf bytes header) where
  pub inside : (j : ℕ) → j ≤ header.count → image_place bytes j ≤ length bytes
  inside j le = omega (arith, le, is.count, (body_kept bytes (header_kept bytes is.fine).2).0)

  module _ (k : ℕ) (head : ImageHead) (here : head ≡ image_head_at bytes k) where
    image_tests : is_image_at bytes k ≡ (nat_lt head.table (length header.schema) && nat_lt head.page header.settings.pages && is_in_order bytes k)
    unfolding is_image_at
    image_tests = rw (here, is.schema, is.settings) refl

    pub ordered : IsUnder header head → is_image_at bytes k ≡ is_in_order bytes k
    ordered under = image_tests ∙ rw (lt-ltb head.table (length header.schema) under.table, lt-ltb head.page header.settings.pages under.page) refl

    pub refused : (IsUnder header head → ⊥) → is_image_at bytes k ≡ false
    refused not_under = false_from_ne_true (is_image_at bytes k) (λ fine. not_under (under (sym image_tests ∙ fine)))
      where
        under : (nat_lt head.table (length header.schema) && nat_lt head.page header.settings.pages && is_in_order bytes k) ≡ true → IsUnder header head
        under e =
            let both = and_parts (nat_lt head.table (length header.schema) && nat_lt head.page header.settings.pages) (is_in_order bytes k) e in
            let each = and_parts (nat_lt head.table (length header.schema)) (nat_lt head.page header.settings.pages) both.0 in
            record { table = ltb-true head.table (length header.schema) each.0; page = ltb-true head.page header.settings.pages each.1 }

pub image_refused : (bytes : List ℕ) (k : ℕ) → is_image_at bytes k ≡ false → image_fault bytes k ≡ Some (image_place bytes k)
image_refused bytes k e = rw e refl

pub image_fine : (bytes : List ℕ) (k : ℕ) → is_image_at bytes k ≡ true → image_fault bytes k ≡ None
image_fine bytes k e = rw e refl
