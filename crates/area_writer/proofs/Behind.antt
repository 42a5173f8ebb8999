-- What stands behind a closed gate, as it is written piece by piece, and what a file is once the gate is open.
use Rattle.std.proofs.Common.{◌≡◌, ◌⊎◌, inl, inr, ⊎_elim, ℕ, ◌+◌, ◌≤◌, List, [], ◌∷◌, ◌++◌, length, take, drop, slice_index, refl, sym, ◌∙◌, ap, subst, arith, append_assoc, length-append}
use Rattle.std.proofs.lemmas.List.{append-nil, take_at}
use Rattle.std.proofs.lemmas.List.Concat.{flat_map-append}
use Rattle.std.specs.List.{flat_map}
use Rattle.std.specs.Int.{w16, to_le_bytes}
use Rattle.disk_core.specs.Crash.{Only, Tears}
use Rattle.disk_core.specs.Device.{written}
use Rattle.disk_core.proofs.Lone.{lone_write}
use Rattle.row_types.specs.declared.definition.TableDef.{TableDef}
use Rattle.row_types.specs.SchemaText.{schema_text}
use Rattle.area_format.specs.Area.{Area, Holds, Image, IsArea, IsNotOpen, area_text, fields_text, header_text, image_text}
use Rattle.area_format.specs.declared.settings.Settings.{Settings}
use Rattle.area_writer.specs.Crash.{NotOpenOrHolds, TornFrom}
use Rattle.area_writer.specs.Put.{HasText, new_area, text_so_far, with_gate, with_image}

-- the file reaches up to the end of the text
pub has_room : (text bytes : List ℕ) (at : ℕ) → at ≡ 1 + length text → HasText text bytes → at ≤ length bytes
has_room text bytes at place is = omega (arith, place, ap length is.whole, length-append text is.rest)

-- a piece behind it
pub text_grown : (text piece bytes : List ℕ) (at : ℕ) → at ≡ 1 + length text → HasText text bytes → HasText (text ++ piece) (written at piece bytes)
text_grown text piece bytes at place is =
    let front : take at bytes ≡ 0 ∷ text = ap (take at) is.whole ∙ take_at (0 ∷ text) is.rest at (omega (arith, place)) in
    record { rest = drop (at + length piece) bytes; whole = ap (λ (l : List ℕ). l ++ piece ++ drop (at + length piece) bytes) front }

-- such a file isn't open
pub text_shut : (text bytes : List ℕ) → HasText text bytes → IsNotOpen bytes
text_shut text bytes is = λ one. let no_one : 0 ≡ 1 = sym (ap (λ (l : List ℕ). slice_index l 0) is.whole) ∙ one in omega (arith, no_one)

-- and with its gate opened it holds the area whose text it has
pub opened_holds : (area : Area) (bytes : List ℕ) → IsArea area → HasText (area_text area) bytes → Holds area (with_gate 1 bytes)
opened_holds area bytes fits is = record { fits = fits; rest = is.rest; text = ap (λ (l : List ℕ). 1 ∷ drop 1 l) is.whole }

-- a file that is closed has no text yet
pub nothing_behind : (bytes : List ℕ) → HasText [] (with_gate 0 bytes)
nothing_behind bytes = record { rest = drop 1 bytes; whole = refl }

-- the head alone
pub head_so_far : (generation : ℕ) (settings : Settings) (schema : List TableDef) (count : ℕ)
    → fields_text generation settings count ++ to_le_bytes w16 (length (schema_text schema)) ++ schema_text schema ≡ text_so_far (new_area generation settings schema) count
unfolding header_text
head_so_far generation settings schema count =
    let same : count ≡ 0 + count = omega arith in
    let whole : header_text generation settings schema count ≡ text_so_far (new_area generation settings schema) count =
    sym (append-nil (header_text generation settings schema count)) ∙ ap (λ (n : ℕ). header_text generation settings schema n ++ []) same in
    whole

-- one image more
pub image_so_far : (area : Area) (image : Image) (left : ℕ) → text_so_far area (left + 1) ++ image_text image ≡ text_so_far (with_image area image) left
image_so_far area image left =
    let images = area.images in
    let head = λ (n : ℕ). header_text area.generation area.settings area.schema n in
    let count : length images + (left + 1) ≡ length (images ++ image ∷ []) + left = omega (arith, length-append images (image ∷ [])) in
    let pieces : flat_map image_text (images ++ image ∷ []) ≡ flat_map image_text images ++ image_text image =
    flat_map-append image_text images (image ∷ []) ∙ ap (λ (l : List ℕ). flat_map image_text images ++ l) (append-nil (image_text image)) in
    ap (λ (n : ℕ). head n ++ flat_map image_text images ++ image_text image) count
    ∙ append_assoc (head (length (images ++ image ∷ []) + left)) (flat_map image_text images) (image_text image)
    ∙ ap (λ (l : List ℕ). head (length (images ++ image ∷ []) + left) ++ l) (sym pieces)

-- no image more
pub all_so_far : (area : Area) → text_so_far area 0 ≡ area_text area
all_so_far area =
    let same : length area.images + 0 ≡ length area.images = omega arith in
    ap (λ (n : ℕ). header_text area.generation area.settings area.schema n ++ flat_map image_text area.images) same

-- a crash in the write that opens the gate leaves the file as it was, or with the gate open
pub opened_or_shut : (area : Area) (file image : List ℕ) (may_leave : List ℕ → Type 0) → IsArea area → HasText (area_text area) file → Only file may_leave → TornFrom may_leave 0 (1 ∷ []) image → NotOpenOrHolds area image
opened_or_shut area file image may_leave fits is only torn =
    ⊎_elim
    (λ same. inl (subst IsNotOpen (sym same) (text_shut (area_text area) file is)))
    (λ done. inr (subst (Holds area) (sym done) (opened_holds area file fits is)))
    (lone_write 0 1 file image (omega (arith, has_room (area_text area) file (1 + length (area_text area)) refl is)) (subst (λ f. Tears 0 (1 ∷ []) f image) (only torn.0 torn.1) torn.2))

-- the lengths of what is written
pub length-image_text : (image : Image) → length image.bytes ≡ 4096 → length (image_text image) ≡ 4110
unfolding image_text
length-image_text image page = omega (arith, page)

pub length-fields_text : (generation : ℕ) (settings : Settings) (count : ℕ) → length (fields_text generation settings count) ≡ 32
unfolding fields_text
length-fields_text generation settings count = refl

pub length-so_far : (area : Area) (image : Image) (left at : ℕ) → length image.bytes ≡ 4096 → at ≡ 1 + length (text_so_far area (left + 1)) → at + 4110 ≡ 1 + length (text_so_far (with_image area image) left)
length-so_far area image left at page place =
    omega (arith, place, sym (ap length (image_so_far area image left)), length-append (text_so_far area (left + 1)) (image_text image), length-image_text image page)

pub length-head : (generation : ℕ) (settings : Settings) (schema : List TableDef) (count : ℕ) → 35 + length (schema_text schema) ≡ 1 + length (text_so_far (new_area generation settings schema) count)
length-head generation settings schema count =
    let fields = fields_text generation settings count in
    let size = to_le_bytes w16 (length (schema_text schema)) in
    let two : length size ≡ 2 = refl in
    omega (arith, sym (ap length (head_so_far generation settings schema count)), length-append (fields ++ size) (schema_text schema), length-append fields size, length-fields_text generation settings count, two)

-- a crash in the write that closes the gate leaves the file as it was, or one that isn't open
same_or_shut : (before image : List ℕ) → Tears 0 (0 ∷ []) before image → (image ≡ before) ⊎ IsNotOpen image
same_or_shut [] image tears = inr (λ one. ⊎_elim (λ zero. omega (arith, zero, one)) (λ same. let zero : slice_index image 0 ≡ 0 = same in omega (arith, zero, one)) (tears.alone 0 refl))
same_or_shut (b ∷ before) image tears =
    ⊎_elim (λ same. inl same) (λ done. inr (λ one. let no_one : 0 ≡ 1 = sym (ap (λ (l : List ℕ). slice_index l 0) done) ∙ one in omega (arith, no_one)))
    (lone_write 0 0 (b ∷ before) image (omega arith) tears)

pub closed_or_old : (may_leave : List ℕ → Type 0) (image : List ℕ) → TornFrom may_leave 0 (0 ∷ []) image → may_leave image ⊎ IsNotOpen image
closed_or_old may_leave image torn = ⊎_elim (λ same. inl (subst may_leave (sym same) torn.1)) (λ shut. inr shut) (same_or_shut torn.0 image torn.2)
