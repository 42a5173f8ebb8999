-- A file that holds an area is read as that area.
use Rattle.std.proofs.Common.{◌≡◌, ℕ, suc, ◌+◌, ◌*◌, ◌^◌, ◌≤◌, ◌<◌, true, List, [], ◌∷◌, ◌++◌, length, take, drop, append_assoc, refl, sym, ◌∙◌, ap, ap₂, subst, inl, inr, arith}
use Rattle.std.specs.Prelude.{Some, None, slice_index, ◌&&◌, ◌==◌, nat_lt, nat_le}
use Rattle.std.specs.Int.{w16, w32, w64, from_le_bytes, to_le_bytes}
use Rattle.std.specs.List.{AllByRecursion, flat_map}
use Rattle.std.proofs.lemmas.Bool.{eq-eqb, lt-ltb, le-leb, or_left, or_right, and_from}
use Rattle.std.proofs.lemmas.List.{take_at, drop_at, length-drop, drop-drop, length-append}
use Rattle.std.proofs.lemmas.Nat.{from_le_bytes-to_le_bytes_2, from_le_bytes-to_le_bytes_4, from_le_bytes-to_le_bytes_8}
use Rattle.fields.specs.Fields.{bytes_at}
use Rattle.row_types.specs.declared.definition.TableDef.{TableDef}
use Rattle.row_types.specs.SchemaText.{schema_text}
use Rattle.row_types.specs.SchemaReading.{schema_at}
use Rattle.row_types.proofs.SchemaLaws.{table_count}
use Rattle.row_types.proofs.SchemaTextLaws.{schema_again, schema_short}
use Rattle.area_format.specs.Settings.{IsSettings}
use Rattle.area_format.proofs.Bodies.{body_fine, schema_is}
use Rattle.area_format.proofs.Headers.{header_body}
use Rattle.area_format.proofs.Readings.{reads_whole}
use Rattle.area_format.proofs.Rules.{from_limits, none_of_both, passed, settings_fine}
use Rattle.area_format.specs.declared.settings.Settings.{Settings}
use Rattle.area_format.specs.declared.head.ImageHead.{ImageHead}
use Rattle.area_format.specs.Area.{Area, AreInOrder, Holds, Image, IsImage, Precedes, fields_text, header_text, image_text}
use Rattle.area_format.specs.Places.{count_at, image_bytes_at, image_head_at, image_place, schema_len_at, schema_text_at, settings_at, u16_at, u32_at, u64_at}
use Rattle.area_format.specs.AreaRead.{Holding, area_in, area_reads, body_fault, fields_fault, first_broken, header_fault, images_fault, images_from, is_image_at, is_in_order, precedes, schema_in, settings_rules, start_fault, within}

-- ---- the head

module _ (generation : ℕ) (settings : Settings) (count len : ℕ) (behind : List ℕ) where
  -- the first 35 bytes, and what stands behind them
  abbrev begun : List ℕ
  begun = 1 ∷ (fields_text generation settings count ++ to_le_bytes w16 len ++ behind)

  long_text : 35 ≤ length begun
  unfolding fields_text
  long_text = omega arith

start_fine : (bytes : List ℕ) → 11 ≤ length bytes → u16_at 1 bytes ≡ 1 → (1 ≤ u64_at 3 bytes) × (u64_at 3 bytes ≤ 2 ^ 63) → start_fault bytes ≡ None
unfolding start_fault
start_fine bytes long format generation =
    passed 0 (nat_le 11 (length bytes)) _ (le-leb 11 (length bytes) long)
    (passed 1 (u16_at 1 bytes == 1) _ (eq-eqb (u16_at 1 bytes) 1 format)
    (passed 3 (within 1 (2 ^ 63) (u64_at 3 bytes)) None (from_limits 1 (2 ^ 63) (u64_at 3 bytes) generation) refl))

fields_fine : (bytes : List ℕ) → 35 ≤ length bytes → IsSettings (settings_at bytes) → count_at bytes ≤ (settings_at bytes).pages → fields_fault bytes ≡ None
unfolding fields_fault
fields_fine bytes long settings count =
    none_of_both (first_broken ((0, nat_le 35 (length bytes)) ∷ settings_rules (settings_at bytes))) (first_broken ((29, nat_le (count_at bytes) (settings_at bytes).pages) ∷ []))
    (passed 0 (nat_le 35 (length bytes)) (first_broken (settings_rules (settings_at bytes))) (le-leb 35 (length bytes) long) (settings_fine (settings_at bytes) settings))
    (passed 29 (nat_le (count_at bytes) (settings_at bytes).pages) None (le-leb (count_at bytes) (settings_at bytes).pages count) refl)

header_fine : (bytes : List ℕ) → start_fault bytes ≡ None → fields_fault bytes ≡ None → body_fault bytes ≡ None → header_fault bytes ≡ None
header_fine bytes start fields body = header_body bytes start fields ∙ body

-- ---- the images

abbrev pub HasRoom : Image → Type 0
HasRoom image = (image.head.table < 2 ^ 16) × (image.head.page < 2 ^ 32) × (image.head.stamp < 2 ^ 64) × (length image.bytes ≡ 4096)

length-image_text : (image : Image) → length image.bytes ≡ 4096 → length (image_text image) ≡ 4110
unfolding image_text
length-image_text image size = omega (arith, size)

precedes_from : (a b : ImageHead) → Precedes a b → precedes a b ≡ true
precedes_from a b (inl less) = or_left (nat_lt a.table b.table) (a.table == b.table && nat_lt a.page b.page) (lt-ltb a.table b.table less)
precedes_from a b (inr same) =
    or_right (nat_lt a.table b.table) (a.table == b.table && nat_lt a.page b.page)
    (and_from (a.table == b.table) (nat_lt a.page b.page) (eq-eqb a.table b.table same.0) (lt-ltb a.page b.page same.1))

module _ (bytes : List ℕ) where
  module _ (k : ℕ) (image : Image) (more : List ℕ) (room : HasRoom image) (text : drop (image_place bytes k) bytes ≡ image_text image ++ more) where
    head_written : image_head_at bytes k ≡ image.head
    unfolding image_head_at image_text
    head_written =
        let place = image_place bytes k in
        let table : u16_at place bytes ≡ image.head.table = ap (λ b. from_le_bytes w16 (take 2 b)) text ∙ from_le_bytes-to_le_bytes_2 image.head.table room.0 in
        let page : u32_at (place + 2) bytes ≡ image.head.page = ap (λ b. from_le_bytes w32 (take 4 b)) (sym (drop-drop 2 place bytes) ∙ ap (drop 2) text) ∙ from_le_bytes-to_le_bytes_4 image.head.page room.1 in
        let stamp : u64_at (place + 6) bytes ≡ image.head.stamp = ap (λ b. from_le_bytes w64 (take 8 b)) (sym (drop-drop 6 place bytes) ∙ ap (drop 6) text) ∙ from_le_bytes-to_le_bytes_8 image.head.stamp room.2 in
        rw (table, page, stamp) refl

    bytes_written : image_bytes_at bytes k ≡ image.bytes
    unfolding image_text
    bytes_written =
        let place = image_place bytes k in
        ap (take 4096) (sym (drop-drop 14 place bytes) ∙ ap (drop 14) text) ∙ take_at image.bytes more 4096 room.3

    next_written : drop (image_place bytes (suc k)) bytes ≡ more
    next_written =
        let place = image_place bytes k in
        let next : image_place bytes (suc k) ≡ place + 4110 = omega arith in
        ap (λ n. drop n bytes) next ∙ sym (drop-drop 4110 place bytes) ∙ ap (drop 4110) text ∙ drop_at (image_text image) more 4110 (length-image_text image room.3)

    image_written : ◌≡◌ {A = Image} (record { head = image_head_at bytes k; bytes = image_bytes_at bytes k }) image
    image_written = ap₂ (λ (h : ImageHead) (b : List ℕ). record { head = h; bytes = b }) head_written bytes_written

  split_off : (image : Image) (images : List Image) (rest : List ℕ) (k : ℕ) → drop (image_place bytes k) bytes ≡ flat_map image_text (image ∷ images) ++ rest → drop (image_place bytes k) bytes ≡ image_text image ++ (flat_map image_text images ++ rest)
  split_off image images rest k text = text ∙ append_assoc (image_text image) (flat_map image_text images) rest

  images_written : (images : List Image) (rest : List ℕ) (k : ℕ) → AllByRecursion HasRoom images → drop (image_place bytes k) bytes ≡ flat_map image_text images ++ rest → images_from bytes k (length images) ≡ images
  images_written [] rest k room text = refl
  images_written (image ∷ images) rest k room text =
      let here = split_off image images rest k text in
      let more = flat_map image_text images ++ rest in
      ap₂ (λ (i : Image) (l : List Image). i ∷ l) (image_written k image more room.0 here) (images_written images rest (suc k) room.1 (next_written k image more room.0 here))

  -- the first of them is in order
  abbrev Follows : ℕ → List Image → Type 0
  Follows k [] = Unit {0}
  Follows k (image ∷ images) = image_head_at bytes k ≡ image.head → is_in_order bytes k ≡ true

  follows_on : (k : ℕ) (image : Image) (images : List Image) → image_head_at bytes k ≡ image.head → AllByRecursion (λ later. Precedes image.head later.head) images → Follows (suc k) images
  follows_on k image [] here all = tt
  follows_on k image (next ∷ images) here all = λ there. ap₂ precedes here there ∙ precedes_from image.head next.head all.0

  image_is_fine : (k : ℕ) (image : Image) (schema : List TableDef) (settings : Settings) → schema_in bytes ≡ schema → settings_at bytes ≡ settings → IsImage settings schema image → image_head_at bytes k ≡ image.head → is_in_order bytes k ≡ true → is_image_at bytes k ≡ true
  unfolding is_image_at
  image_is_fine k image schema settings schema_is settings_are is here order =
      rw (here, schema_is, settings_are, lt-ltb image.head.table (length schema) is.table, lt-ltb image.head.page settings.pages is.page, order) refl

  module _ (schema : List TableDef) (settings : Settings) (schema_is : schema_in bytes ≡ schema) (settings_are : settings_at bytes ≡ settings) where
    images_fine : (images : List Image) (rest : List ℕ) (k : ℕ) → AllByRecursion HasRoom images → AllByRecursion (IsImage settings schema) images → AreInOrder images → Follows k images
        → drop (image_place bytes k) bytes ≡ flat_map image_text images ++ rest → images_fault bytes k (length images) ≡ None
    images_fine [] rest k room fit order follows text = refl
    images_fine (image ∷ images) rest k room fit order follows text =
        let split = split_off image images rest k text in
        let more = flat_map image_text images ++ rest in
        let here = head_written k image more room.0 split in
        let fine = image_is_fine k image schema settings schema_is settings_are fit.0 here (follows here) in
        rw fine (images_fine images rest (suc k) room.1 fit.1 order.1 (follows_on k image images here order.0) (next_written k image more room.0 split))

all_have_room : (settings : Settings) (schema : List TableDef) → settings.pages ≤ 65536 → length schema ≤ 16 → (images : List Image) → AllByRecursion (IsImage settings schema) images → AllByRecursion HasRoom images
all_have_room settings schema few_pages few [] fit = tt
all_have_room settings schema few_pages few (image ∷ images) fit =
    ((omega (arith, fit.0.table, few), omega (arith, fit.0.page, few_pages), fit.0.stamp, fit.0.size), all_have_room settings schema few_pages few images fit.1)

-- ---- the whole file

length-images : (images : List Image) → AllByRecursion HasRoom images → length (flat_map image_text images) ≡ 4110 * length images
length-images [] room = refl
length-images (image ∷ images) room =
    omega (arith, length-append (image_text image) (flat_map image_text images), length-image_text image room.0.3, length-images images room.1)

module _ (area : Area) (bytes : List ℕ) (holds : Holds area bytes) where
  whole_text : bytes ≡ begun area.generation area.settings (length area.images) (length (schema_text area.schema)) (schema_text area.schema ++ (flat_map image_text area.images ++ holds.rest))
  unfolding header_text
  whole_text =
      let first = fields_text area.generation area.settings (length area.images) ++ to_le_bytes w16 (length (schema_text area.schema)) in
      let schema = schema_text area.schema in
      let images = flat_map image_text area.images in
      holds.text ∙ ap (λ (l : List ℕ). 1 ∷ l) (append_assoc (first ++ schema) images holds.rest ∙ append_assoc first schema (images ++ holds.rest))

  image_count : length area.images < 2 ^ 32
  image_count = omega (arith, holds.fits.count, holds.fits.settings.pages)

  format_is : u16_at 1 bytes ≡ 1
  unfolding fields_text
  format_is = ap (λ b. from_le_bytes w16 (bytes_at 1 2 b)) whole_text ∙ from_le_bytes-to_le_bytes_2 1 (omega arith)

  generation_is : u64_at 3 bytes ≡ area.generation
  unfolding fields_text
  generation_is = ap (λ b. from_le_bytes w64 (bytes_at 3 8 b)) whole_text ∙ from_le_bytes-to_le_bytes_8 area.generation (omega (arith, holds.fits.generation))

  settings_are : settings_at bytes ≡ area.settings
  unfolding settings_at fields_text
  settings_are =
      let s = area.settings in
      let is = holds.fits.settings in
      let lanes : u16_at 11 bytes ≡ s.lanes = ap (λ b. from_le_bytes w16 (bytes_at 11 2 b)) whole_text ∙ from_le_bytes-to_le_bytes_2 s.lanes (omega (arith, is.lanes)) in
      let pages : u32_at 13 bytes ≡ s.pages = ap (λ b. from_le_bytes w32 (bytes_at 13 4 b)) whole_text ∙ from_le_bytes-to_le_bytes_4 s.pages (omega (arith, is.pages)) in
      let nodes : u32_at 17 bytes ≡ s.nodes = ap (λ b. from_le_bytes w32 (bytes_at 17 4 b)) whole_text ∙ from_le_bytes-to_le_bytes_4 s.nodes (omega (arith, is.nodes)) in
      let txn : u32_at 21 bytes ≡ s.txn = ap (λ b. from_le_bytes w32 (bytes_at 21 4 b)) whole_text ∙ from_le_bytes-to_le_bytes_4 s.txn (omega (arith, is.txn)) in
      let segment : u32_at 25 bytes ≡ s.segment = ap (λ b. from_le_bytes w32 (bytes_at 25 4 b)) whole_text ∙ from_le_bytes-to_le_bytes_4 s.segment (omega (arith, is.segment)) in
      rw (lanes, pages, nodes, txn, segment) refl

  count_is : count_at bytes ≡ length area.images
  unfolding fields_text
  count_is = ap (λ b. from_le_bytes w32 (bytes_at 29 4 b)) whole_text ∙ from_le_bytes-to_le_bytes_4 (length area.images) image_count

  schema_len_is : schema_len_at bytes ≡ length (schema_text area.schema)
  unfolding fields_text
  schema_len_is = ap (λ b. from_le_bytes w16 (bytes_at 33 2 b)) whole_text ∙ from_le_bytes-to_le_bytes_2 (length (schema_text area.schema)) (omega (arith, schema_short area.schema holds.fits.schema))

  behind_is : drop 35 bytes ≡ schema_text area.schema ++ (flat_map image_text area.images ++ holds.rest)
  unfolding fields_text
  behind_is = ap (drop 35) whole_text

  schema_text_is : schema_text_at bytes ≡ schema_text area.schema
  schema_text_is = ap₂ (λ n b. take n b) schema_len_is behind_is ∙ take_at (schema_text area.schema) (flat_map image_text area.images ++ holds.rest) (length (schema_text area.schema)) refl

  schema_read_is : schema_at (schema_text_at bytes) ≡ Some area.schema
  schema_read_is = ap schema_at schema_text_is ∙ schema_again area.schema holds.fits.schema

  schema_in_is : schema_in bytes ≡ area.schema
  schema_in_is = schema_is bytes area.schema schema_read_is

  images_text : drop (image_place bytes 0) bytes ≡ flat_map image_text area.images ++ holds.rest
  images_text =
      let place : image_place bytes 0 ≡ 35 + length (schema_text area.schema) = omega (arith, schema_len_is) in
      ap (λ n. drop n bytes) place ∙ sym (drop-drop (length (schema_text area.schema)) 35 bytes) ∙ ap (drop (length (schema_text area.schema))) behind_is
      ∙ drop_at (schema_text area.schema) (flat_map image_text area.images ++ holds.rest) (length (schema_text area.schema)) refl

  room : AllByRecursion HasRoom area.images
  room = all_have_room area.settings area.schema holds.fits.settings.pages.1 (table_count area.schema holds.fits.schema) area.images holds.fits.images

  long_enough : 35 + length (schema_text area.schema) + 4110 * length area.images ≤ length bytes
  long_enough =
      omega (arith, ap length behind_is, length-drop 35 bytes, length-append (schema_text area.schema) (flat_map image_text area.images ++ holds.rest), length-append (flat_map image_text area.images) holds.rest, length-images area.images room, at_least) where
        at_least : 35 ≤ length bytes
        at_least = subst (λ b. 35 ≤ length b) (sym whole_text) (long_text area.generation area.settings (length area.images) (length (schema_text area.schema)) (schema_text area.schema ++ (flat_map image_text area.images ++ holds.rest)))

  open_is : slice_index bytes 0 ≡ 1
  open_is = ap (λ b. slice_index b 0) whole_text

  head_is_fine : header_fault bytes ≡ None
  head_is_fine =
      header_fine bytes
      (start_fine bytes (omega (arith, long_enough)) format_is (omega (arith, generation_is, holds.fits.generation.0), omega (arith, generation_is, holds.fits.generation.1)))
      (fields_fine bytes (omega (arith, long_enough)) (subst IsSettings (sym settings_are) holds.fits.settings) (subst (λ (s : Settings). count_at bytes ≤ s.pages) (sym settings_are) (omega (arith, count_is, holds.fits.count))))
      (body_fine bytes area.schema (omega (arith, long_enough, schema_len_is)) schema_read_is (omega (arith, long_enough, schema_len_is, count_is)))

  first_in_order : (images : List Image) → Follows bytes 0 images
  first_in_order [] = tt
  first_in_order (image ∷ images) = λ here. refl

  images_are_fine : images_fault bytes 0 (count_at bytes) ≡ None
  images_are_fine =
      ap (images_fault bytes 0) count_is
      ∙ images_fine bytes area.schema area.settings schema_in_is settings_are area.images holds.rest 0 room holds.fits.images holds.fits.order (first_in_order area.images) images_text

  images_are : images_from bytes 0 (count_at bytes) ≡ area.images
  images_are = ap (images_from bytes 0) count_is ∙ images_written bytes area.images holds.rest 0 room images_text

  area_is : area_in bytes ≡ area
  area_is = rw (generation_is, settings_are, schema_in_is, images_are) refl

  pub reads_written : area_reads bytes ≡ Holding area
  reads_written = reads_whole bytes open_is head_is_fine images_are_fine ∙ ap Holding area_is
