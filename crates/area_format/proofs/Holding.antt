-- A file that is read as an area holds it.
use Rattle.std.proofs.Common.{◌≡◌, ℕ, zero, suc, ◌+◌, ◌^◌, ◌≤◌, ◌<◌, true, List, [], ◌∷◌, ◌++◌, length, take, drop, get_or, append_assoc, refl, sym, ◌∙◌, ap, ap₂, subst, inl, inr, arith}
use Rattle.std.specs.Prelude.{Option, Some, None, slice_index, ◌&&◌, ◌==◌, nat_lt, nat_le, is_some}
use Rattle.std.specs.Int.{w16, w32, w64, from_le_bytes, to_le_bytes}
use Rattle.std.specs.List.{AllByRecursion, flat_map}
use Rattle.std.proofs.lemmas.Bool.{cases_eq, cases_lt, eqb-true, ltb-true, leb-true, or_cases, and_parts}
use Rattle.std.proofs.lemmas.List.{take-append-drop, take-take, drop-take, drop-drop, length-take, length-drop, get_or-take, get_or-drop, get_or_past}
use Rattle.std.proofs.lemmas.Nat.{le_bytes_2, le_bytes_4, le_bytes_8}
use Rattle.fields.specs.Fields.{bytes_at}
use Rattle.row_types.specs.declared.definition.TableDef.{TableDef}
use Rattle.row_types.specs.Schema.{IsSchema}
use Rattle.row_types.specs.SchemaText.{schema_text}
use Rattle.row_types.specs.SchemaReading.{schema_at}
use Rattle.row_types.proofs.SchemaTextLaws.{schema_takes}
use Rattle.area_format.specs.declared.head.ImageHead.{ImageHead}
use Rattle.area_format.specs.Settings.{IsSettings}
use Rattle.area_format.specs.Area.{Area, AreInOrder, Holds, Image, IsImage, IsOpen, Precedes, area_text, fields_text, header_text, image_text}
use Rattle.area_format.specs.Places.{count_at, image_bytes_at, image_head_at, image_place, schema_len_at, schema_text_at, settings_at, u16_at, u32_at, u64_at}
use Rattle.area_format.specs.AreaRead.{DamagedAt, Holding, NotOpen, area_fault, area_in, area_reads, fields_fault, first_broken, generation_told, header_fault, images_fault, images_from, is_image_at, is_in_order, precedes, read_with, schema_in, settings_rules, start_fault, within}
use Rattle.area_format.proofs.Bodies.{body_kept, schema_is}
use Rattle.area_format.proofs.Headers.{header_kept}
use Rattle.area_format.proofs.Readings.{reads_not_open, reads_open}
use Rattle.area_format.proofs.Rules.{both_none, in_limits, kept, settings_kept}

-- ---- numbers in bytes

abbrev pub IsBytes : List ℕ → Type 0
IsBytes bytes = (i : ℕ) → get_or bytes i 0 < 256

field_len : (at k : ℕ) (bytes : List ℕ) → at + k ≤ length bytes → length (bytes_at at k bytes) ≡ k
field_len at k bytes l = omega (arith, length-take k (drop at bytes), length-drop at bytes, l)

field_bytes : (at k : ℕ) (bytes : List ℕ) → IsBytes bytes → IsBytes (bytes_at at k bytes)
field_bytes at k bytes h i = elim (cases_lt i k) [
  | inl l ↦ subst (λ n. n < 256) (sym (get_or-take k (drop at bytes) i 0 l ∙ get_or-drop at bytes i 0)) (h (at + i))
  | inr l ↦ subst (λ n. n < 256) (sym (get_or_past (bytes_at at k bytes) i 0 (omega (arith, length-take k (drop at bytes), l)))) (omega arith)
]

-- one field more of the front
front_more : (at k : ℕ) (bytes : List ℕ) → take (at + k) bytes ≡ take at bytes ++ bytes_at at k bytes
front_more at k bytes = sym (take-append-drop at (take (at + k) bytes)) ∙ ap₂ (λ a b. a ++ b) (take-take at (at + k) bytes (omega arith)) (drop-take at k bytes)

number_8 : (at : ℕ) (bytes : List ℕ) → IsBytes bytes → at + 8 ≤ length bytes → to_le_bytes w64 (u64_at at bytes) ≡ bytes_at at 8 bytes
number_8 at bytes h l = le_bytes_8 (bytes_at at 8 bytes) (u64_at at bytes) (field_len at 8 bytes l) (field_bytes at 8 bytes h) cc

number_4 : (at : ℕ) (bytes : List ℕ) → IsBytes bytes → at + 4 ≤ length bytes → to_le_bytes w32 (u32_at at bytes) ≡ bytes_at at 4 bytes
number_4 at bytes h l = le_bytes_4 (bytes_at at 4 bytes) (u32_at at bytes) (field_len at 4 bytes l) (field_bytes at 4 bytes h) cc

number_2 : (at : ℕ) (bytes : List ℕ) → IsBytes bytes → at + 2 ≤ length bytes → to_le_bytes w16 (u16_at at bytes) ≡ bytes_at at 2 bytes
number_2 at bytes h l = le_bytes_2 (bytes_at at 2 bytes) (u16_at at bytes) (field_len at 2 bytes l) (field_bytes at 2 bytes h) cc

below_8 : (at : ℕ) (bytes : List ℕ) → IsBytes bytes → at + 8 ≤ length bytes → u64_at at bytes < 2 ^ 64
below_8 at bytes h l = number_lt_8 (bytes_at at 8 bytes) (field_len at 8 bytes l) (field_bytes at 8 bytes h)
  where
    number_lt_8 : (bs : List ℕ) → length bs ≡ 8 → IsBytes bs → from_le_bytes w64 bs < 2 ^ 64
    number_lt_8 bs e q = omega (arith, q 0, q 1, q 2, q 3, q 4, q 5, q 6, q 7)

first_byte : (bytes : List ℕ) → 1 ≤ length bytes → slice_index bytes 0 ≡ 1 → take 1 bytes ≡ 1 ∷ []
first_byte [] l e = absurd (omega (arith, l))
first_byte (b ∷ bytes) l e = ap (λ b. b ∷ []) e

-- ---- the head

start_kept : (bytes : List ℕ) → start_fault bytes ≡ None → (11 ≤ length bytes) × (u16_at 1 bytes ≡ 1) × ((1 ≤ u64_at 3 bytes) × (u64_at 3 bytes ≤ 2 ^ 63))
unfolding start_fault
start_kept bytes e =
    let a = kept 0 (nat_le 11 (length bytes)) _ e in
    let b = kept 1 (u16_at 1 bytes == 1) _ a.1 in
    let d = kept 3 (within 1 (2 ^ 63) (u64_at 3 bytes)) None b.1 in
    (leb-true 11 (length bytes) a.0, eqb-true (u16_at 1 bytes) 1 b.0, in_limits 1 (2 ^ 63) (u64_at 3 bytes) d.0)

fields_kept : (bytes : List ℕ) → fields_fault bytes ≡ None → (35 ≤ length bytes) × IsSettings (settings_at bytes) × (count_at bytes ≤ (settings_at bytes).pages)
unfolding fields_fault
fields_kept bytes e =
    let both = both_none (first_broken ((0, nat_le 35 (length bytes)) ∷ settings_rules (settings_at bytes))) (first_broken ((29, nat_le (count_at bytes) (settings_at bytes).pages) ∷ [])) e in
    let a = kept 0 (nat_le 35 (length bytes)) (first_broken (settings_rules (settings_at bytes))) both.0 in
    let b = kept 29 (nat_le (count_at bytes) (settings_at bytes).pages) None both.1 in
    (leb-true 35 (length bytes) a.0, settings_kept (settings_at bytes) a.1, leb-true (count_at bytes) (settings_at bytes).pages b.0)

-- ---- the order of the images

precedes_means : (a b : ImageHead) → precedes a b ≡ true → Precedes a b
precedes_means a b e = elim (or_cases (nat_lt a.table b.table) (a.table == b.table && nat_lt a.page b.page) e) [
  | inl less ↦ inl (ltb-true a.table b.table less)
  | inr same ↦ let parts = and_parts (a.table == b.table) (nat_lt a.page b.page) same in inr (eqb-true a.table b.table parts.0, ltb-true a.page b.page parts.1)
]

then_precedes : (a b d : ImageHead) → Precedes a b → Precedes b d → Precedes a d
then_precedes a b d (inl x) (inl y) = inl (omega (arith, x, y))
then_precedes a b d (inl x) (inr y) = inl (omega (arith, x, y.0))
then_precedes a b d (inr x) (inl y) = inl (omega (arith, x.0, y))
then_precedes a b d (inr x) (inr y) = inr (omega (arith, x.0, y.0), omega (arith, x.1, y.1))

module _ (bytes : List ℕ) where
  image_tests : (k : ℕ) → is_image_at bytes k ≡ true → ((image_head_at bytes k).table < length (schema_in bytes)) × ((image_head_at bytes k).page < (settings_at bytes).pages) × (is_in_order bytes k ≡ true)
  unfolding is_image_at
  image_tests k e =
      let both = and_parts (nat_lt (image_head_at bytes k).table (length (schema_in bytes)) && nat_lt (image_head_at bytes k).page (settings_at bytes).pages) (is_in_order bytes k) e in
      let each = and_parts (nat_lt (image_head_at bytes k).table (length (schema_in bytes))) (nat_lt (image_head_at bytes k).page (settings_at bytes).pages) both.0 in
      (ltb-true (image_head_at bytes k).table (length (schema_in bytes)) each.0, ltb-true (image_head_at bytes k).page (settings_at bytes).pages each.1, both.1)

  step : (k n : ℕ) → images_fault bytes k (suc n) ≡ None → (is_image_at bytes k ≡ true) × (images_fault bytes (suc k) n ≡ None)
  step k n e = kept (image_place bytes k) (is_image_at bytes k) (images_fault bytes (suc k) n) e

  next_in_order : (k n : ℕ) → 1 ≤ n → images_fault bytes (suc k) n ≡ None → Precedes (image_head_at bytes k) (image_head_at bytes (suc k))
  next_in_order k zero some e = absurd (omega (arith, some))
  next_in_order k (suc n) some e = precedes_means (image_head_at bytes k) (image_head_at bytes (suc k)) (image_tests (suc k) (step (suc k) n e).0).2

  before_all : (a : ImageHead) (k n : ℕ) → (1 ≤ n → Precedes a (image_head_at bytes k)) → images_fault bytes k n ≡ None → AllByRecursion (λ later. Precedes a later.head) (images_from bytes k n)
  before_all a k zero first e = tt
  before_all a k (suc n) first e =
      let rest = (step k n e).1 in
      let here = first (omega arith) in
      (here, before_all a (suc k) n (λ some. then_precedes a (image_head_at bytes k) (image_head_at bytes (suc k)) here (next_in_order k n some rest)) rest)

  all_in_order : (k n : ℕ) → images_fault bytes k n ≡ None → AreInOrder (images_from bytes k n)
  all_in_order k zero e = tt
  all_in_order k (suc n) e =
      let rest = (step k n e).1 in
      (before_all (image_head_at bytes k) (suc k) n (λ some. next_in_order k n some rest) rest, all_in_order (suc k) n rest)

  many : (k n : ℕ) → length (images_from bytes k n) ≡ n
  many k zero = refl
  many k (suc n) = ap suc (many (suc k) n)

-- ---- the images

module _ (bytes : List ℕ) (fits : IsBytes bytes) where
  image_here : (k : ℕ) → image_place bytes (suc k) ≤ length bytes → is_image_at bytes k ≡ true → IsImage (settings_at bytes) (schema_in bytes) (record { head = image_head_at bytes k; bytes = image_bytes_at bytes k })
  unfolding image_head_at
  image_here k whole fine =
      let tests = image_tests bytes k fine in
      record { table = tests.0; page = tests.1; stamp = below_8 (image_place bytes k + 6) bytes fits (omega (arith, whole)); size = field_len (image_place bytes k + 14) 4096 bytes (omega (arith, whole)) }

  all_images : (k n : ℕ) → image_place bytes (k + n) ≤ length bytes → images_fault bytes k n ≡ None → AllByRecursion (IsImage (settings_at bytes) (schema_in bytes)) (images_from bytes k n)
  all_images k zero whole e = tt
  all_images k (suc n) whole e =
      let s = step bytes k n e in
      (image_here k (omega (arith, whole)) s.0, all_images (suc k) n (omega (arith, whole)) s.1)

  image_split : (k : ℕ) → image_place bytes (suc k) ≤ length bytes → drop (image_place bytes k) bytes ≡ image_text (record { head = image_head_at bytes k; bytes = image_bytes_at bytes k }) ++ drop (image_place bytes (suc k)) bytes
  unfolding image_text image_head_at
  image_split k whole =
      let place = image_place bytes k in
      let xs = drop place bytes in
      let table : take 2 xs ≡ to_le_bytes w16 (u16_at place bytes) = sym (number_2 place bytes fits (omega (arith, whole))) in
      let page : bytes_at 2 4 xs ≡ to_le_bytes w32 (u32_at (place + 2) bytes) = ap (take 4) (drop-drop 2 place bytes) ∙ sym (number_4 (place + 2) bytes fits (omega (arith, whole))) in
      let stamp : bytes_at 6 8 xs ≡ to_le_bytes w64 (u64_at (place + 6) bytes) = ap (take 8) (drop-drop 6 place bytes) ∙ sym (number_8 (place + 6) bytes fits (omega (arith, whole))) in
      let body : bytes_at 14 4096 xs ≡ image_bytes_at bytes k = ap (take 4096) (drop-drop 14 place bytes) in
      let front : take 4110 xs ≡ ((to_le_bytes w16 (u16_at place bytes) ++ to_le_bytes w32 (u32_at (place + 2) bytes)) ++ to_le_bytes w64 (u64_at (place + 6) bytes)) ++ image_bytes_at bytes k =
      front_more 14 4096 xs ∙ ap₂ (λ a b. a ++ b) (front_more 6 8 xs ∙ ap₂ (λ a b. a ++ b) (front_more 2 4 xs ∙ ap₂ (λ a b. a ++ b) table page) stamp) body in
      let next : place + 4110 ≡ image_place bytes (suc k) = omega arith in
      let behind : drop 4110 xs ≡ drop (image_place bytes (suc k)) bytes = drop-drop 4110 place bytes ∙ ap (λ n. drop n bytes) next in
      sym (take-append-drop 4110 xs) ∙ ap₂ (λ a b. a ++ b) front behind

  images_split : (k n : ℕ) → image_place bytes (k + n) ≤ length bytes → drop (image_place bytes k) bytes ≡ flat_map image_text (images_from bytes k n) ++ drop (image_place bytes (k + n)) bytes
  images_split k zero whole = let none : k ≡ k + 0 = omega arith in ap (λ j. drop (image_place bytes j) bytes) none
  images_split k (suc n) whole =
      let image : Image = record { head = image_head_at bytes k; bytes = image_bytes_at bytes k } in
      let images = flat_map image_text (images_from bytes (suc k) n) in
      let rest = drop (image_place bytes (k + suc n)) bytes in
      let next : suc k + n ≡ k + suc n = omega arith in
      let others : drop (image_place bytes (suc k)) bytes ≡ images ++ rest = images_split (suc k) n (omega (arith, whole)) ∙ ap (λ j. images ++ drop (image_place bytes j) bytes) next in
      image_split k (omega (arith, whole)) ∙ ap (λ b. image_text image ++ b) others ∙ sym (append_assoc (image_text image) images rest)

  -- ---- the whole file

  front_text : 35 ≤ length bytes → IsOpen bytes → u16_at 1 bytes ≡ 1 → take 35 bytes ≡ 1 ∷ (fields_text (u64_at 3 bytes) (settings_at bytes) (count_at bytes) ++ to_le_bytes w16 (schema_len_at bytes))
  unfolding fields_text settings_at
  front_text long open_gate format =
      let join = λ (a b : List ℕ). a ++ b in
      front_more 33 2 bytes ∙ ap₂ join
      (front_more 29 4 bytes ∙ ap₂ join
      (front_more 25 4 bytes ∙ ap₂ join
      (front_more 21 4 bytes ∙ ap₂ join
      (front_more 17 4 bytes ∙ ap₂ join
      (front_more 13 4 bytes ∙ ap₂ join
      (front_more 11 2 bytes ∙ ap₂ join
      (front_more 3 8 bytes ∙ ap₂ join
      (front_more 1 2 bytes ∙ ap₂ join (first_byte bytes (omega (arith, long)) open_gate) (sym (number_2 1 bytes fits (omega (arith, long))) ∙ ap (to_le_bytes w16) format))
      (sym (number_8 3 bytes fits (omega (arith, long)))))
      (sym (number_2 11 bytes fits (omega (arith, long)))))
      (sym (number_4 13 bytes fits (omega (arith, long)))))
      (sym (number_4 17 bytes fits (omega (arith, long)))))
      (sym (number_4 21 bytes fits (omega (arith, long)))))
      (sym (number_4 25 bytes fits (omega (arith, long)))))
      (sym (number_4 29 bytes fits (omega (arith, long)))))
      (sym (number_2 33 bytes fits long))

  is_schema : is_some (schema_at (schema_text_at bytes)) ≡ true → IsSchema (schema_in bytes) × (schema_text_at bytes ≡ schema_text (schema_in bytes))
  is_schema some = go (schema_at (schema_text_at bytes)) refl some
    where
      go : (found : Option (List TableDef)) → schema_at (schema_text_at bytes) ≡ found → is_some found ≡ true → IsSchema (schema_in bytes) × (schema_text_at bytes ≡ schema_text (schema_in bytes))
      go None e some = absurd (cc some)
      go (Some tables) e some =
          let is = schema_takes (schema_text_at bytes) tables (field_bytes 35 (schema_len_at bytes) bytes fits) e in
          subst (λ (ts : List TableDef). IsSchema ts × (schema_text_at bytes ≡ schema_text ts)) (sym (schema_is bytes tables e)) is

  module _ (open_gate : IsOpen bytes) (head : header_fault bytes ≡ None) (images : images_fault bytes 0 (count_at bytes) ≡ None) where
    whole_text : (rest : List ℕ) → rest ≡ drop (image_place bytes (0 + count_at bytes)) bytes → bytes ≡ 1 ∷ area_text (area_in bytes) ++ rest
    unfolding header_text
    whole_text rest rest_is =
        let parts = header_kept bytes head in
        let start = start_kept bytes parts.0 in
        let fields = fields_kept bytes parts.1 in
        let body = body_kept bytes parts.2 in
        let schema = is_schema body.1 in
        let len = schema_len_at bytes in
        let long : 35 + len ≤ length bytes = omega (arith, body.0) in
        let first = fields_text (u64_at 3 bytes) (settings_at bytes) (count_at bytes) in
        let text = schema_text (schema_in bytes) in
        let all = flat_map image_text (images_from bytes 0 (count_at bytes)) in
        let length_is : len ≡ length text = sym (field_len 35 len bytes long) ∙ ap length schema.1 in
        let count_is : count_at bytes ≡ length (images_from bytes 0 (count_at bytes)) = sym (many bytes 0 (count_at bytes)) in
        let place : 35 + len ≡ image_place bytes 0 = omega arith in
        let tail : drop len (drop 35 bytes) ≡ all ++ rest =
        drop-drop len 35 bytes ∙ ap (λ n. drop n bytes) place ∙ images_split 0 (count_at bytes) (omega (arith, body.0)) ∙ ap (λ b. all ++ b) (sym rest_is) in
        let behind : drop 35 bytes ≡ text ++ (all ++ rest) = sym (take-append-drop len (drop 35 bytes)) ∙ ap₂ (λ a b. a ++ b) schema.1 tail in
        let front = front_text fields.0 open_gate start.1 in
        sym (take-append-drop 35 bytes) ∙ ap₂ (λ a b. a ++ b) front behind
        ∙ ap (λ (l : List ℕ). 1 ∷ l) (sym (append_assoc (first ++ to_le_bytes w16 len) text (all ++ rest)) ∙ sym (append_assoc (first ++ to_le_bytes w16 len ++ text) all rest))
        ∙ ap₂ (λ (n k : ℕ). 1 ∷ (fields_text (u64_at 3 bytes) (settings_at bytes) k ++ to_le_bytes w16 n ++ text ++ all ++ rest)) length_is count_is

    holds_in : Holds (area_in bytes) bytes
    holds_in =
        let parts = header_kept bytes head in
        let start = start_kept bytes parts.0 in
        let fields = fields_kept bytes parts.1 in
        let body = body_kept bytes parts.2 in
        record {
          fits = record {
            generation = start.2;
            settings = fields.1;
            schema = (is_schema body.1).0;
            images = all_images 0 (count_at bytes) (omega (arith, body.0)) images;
            order = all_in_order bytes 0 (count_at bytes) images;
            count = omega (arith, fields.2, many bytes 0 (count_at bytes));
          };
          rest = drop (image_place bytes (0 + count_at bytes)) bytes;
          text = whole_text (drop (image_place bytes (0 + count_at bytes)) bytes) refl;
        }

no_area : (at : ℕ) (told : Option ℕ) (area : Area) → DamagedAt at told ≡ Holding area → ⊥
no_area at told area e = cc e

not_an_area : (area : Area) → NotOpen ≡ Holding area → ⊥
not_an_area area e = cc e

same_area : (a b : Area) → Holding a ≡ Holding b → a ≡ b
same_area a b e = cc e

without_fault : (fault : Option ℕ) (bytes : List ℕ) (area : Area) → read_with fault bytes ≡ Holding area → (fault ≡ None) × (area_in bytes ≡ area)
without_fault None bytes area e = (refl, same_area (area_in bytes) area e)
without_fault (Some at) bytes area e = absurd (no_area at (generation_told bytes) area e)

pub holds_read : (area : Area) (bytes : List ℕ) → IsBytes bytes → area_reads bytes ≡ Holding area → Holds area bytes
holds_read area bytes fits e = elim (cases_eq (slice_index bytes 0) 1) [
  | inl open_gate ↦
      let read = without_fault (area_fault bytes) bytes area (sym (reads_open bytes open_gate) ∙ e) in
      let parts = both_none (header_fault bytes) (images_fault bytes 0 (count_at bytes)) read.0 in
      subst (λ (a : Area). Holds a bytes) read.1 (holds_in bytes fits open_gate parts.0 parts.1)
  | inr shut ↦ absurd (not_an_area area (sym (reads_not_open bytes shut) ∙ e))
]
