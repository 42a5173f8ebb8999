-- The schema of a file, and the place of its last image.
use Rattle.std.proofs.Common.{◌≡◌, ℕ, ◌≤◌, ◌<◌, List, length, [], refl, sym, ◌∙◌, ap, true, inl, inr, ◌⊎◌}
use Rattle.std.specs.Prelude.{nat_le, get_or, Option, Some, None, is_some, Result, Ok, Err, IsErr, IfOk, IfSome}
use Rattle.std.specs.Option.{unwrap_or}
use Rattle.std.proofs.lemmas.Bool.{false≢true, le-leb, lt-leb, leb-true}
use Rattle.row_types.specs.declared.definition.TableDef.{TableDef}
use Rattle.row_types.specs.Schema.{IsSchema}
use Rattle.row_types.specs.SchemaText.{schema_text}
use Rattle.row_types.specs.SchemaReading.{schema_at}
use Rattle.row_types.proofs.SchemaTextLaws.{schema_takes, schema_again}
use Rattle.area_format.specs.Places.{count_at, image_place, schema_text_at}
use Rattle.area_format.specs.AreaRead.{body_fault, schema_in}
use Rattle.area_format.proofs.Rules.{kept}

schema_found : (text : List ℕ) (tables : List TableDef) → IsSchema tables × (text ≡ schema_text tables) → Some tables ≡ schema_at text
schema_found text tables is = sym (ap schema_at is.1 ∙ schema_again tables is.0)

schema_missing : (text : List ℕ) → ((i : ℕ) → get_or text i 0 < 256) → ((tables : List TableDef) → IsSchema tables → text ≡ schema_text tables → ⊥) → None ≡ schema_at text
schema_missing text fits none = go (schema_at text) refl
  where
    go : (found : Option (List TableDef)) → schema_at text ≡ found → None ≡ schema_at text
    go None e = sym e
    go (Some tables) e = let is = schema_takes text tables fits e in absurd (none tables is.0 is.1)

-- what is read of a text is the schema that it spells, and nothing where it spells none
pub schema_read : {E : Type 0} (text : List ℕ) (r : Result (Option (List TableDef)) E) → ((i : ℕ) → get_or text i 0 < 256)
    → IfOk r (λ found. IfSome found (λ schema. IsSchema schema × (text ≡ schema_text schema)))
    → ((tables : List TableDef) → IsSchema tables → text ≡ schema_text tables → (r ≡ Ok (Some tables)) ⊎ IsErr r)
    → IfOk r (λ found. found ≡ schema_at text)
schema_read text (Err e) fits found only = tt
schema_read text (Ok (Some tables)) fits found only = schema_found text tables found
schema_read {E} text (Ok None) fits found only = schema_missing text fits (λ tables is spelled. go tables (only tables is spelled))
  where
    go : (tables : List TableDef) → (◌≡◌ {A = Result (Option (List TableDef)) E} (Ok None) (Ok (Some tables))) ⊎ (IsErr {T = Option (List TableDef)} {E = E} (Ok None)) → ⊥
    go tables (inl e) = cc e
    go tables (inr none) = false≢true none

module _ (bytes : List ℕ) where
  pub schema_is : (tables : List TableDef) → schema_at (schema_text_at bytes) ≡ Some tables → schema_in bytes ≡ tables
  schema_is tables e = ap (λ o. unwrap_or o []) e

  pub body_cut : length bytes < image_place bytes 0 → body_fault bytes ≡ Some 0
  unfolding body_fault
  body_cut short = rw (lt-leb (image_place bytes 0) (length bytes) short) refl

  pub body_bad : image_place bytes 0 ≤ length bytes → schema_at (schema_text_at bytes) ≡ None → body_fault bytes ≡ Some 35
  unfolding body_fault
  body_bad long none = rw (le-leb (image_place bytes 0) (length bytes) long, none) refl

  module _ (tables : List TableDef) (long : image_place bytes 0 ≤ length bytes) (found : schema_at (schema_text_at bytes) ≡ Some tables) where
    pub body_short : length bytes < image_place bytes (count_at bytes) → body_fault bytes ≡ Some 0
    unfolding body_fault
    body_short short = rw (le-leb (image_place bytes 0) (length bytes) long, found, lt-leb (image_place bytes (count_at bytes)) (length bytes) short) refl

    pub body_fine : image_place bytes (count_at bytes) ≤ length bytes → body_fault bytes ≡ None
    unfolding body_fault
    body_fine whole = rw (le-leb (image_place bytes 0) (length bytes) long, found, le-leb (image_place bytes (count_at bytes)) (length bytes) whole) refl

  pub body_kept : body_fault bytes ≡ None → (image_place bytes (count_at bytes) ≤ length bytes) × (is_some (schema_at (schema_text_at bytes)) ≡ true)
  unfolding body_fault
  body_kept e =
      let a = kept 0 (nat_le (image_place bytes 0) (length bytes)) _ e in
      let b = kept 35 (is_some (schema_at (schema_text_at bytes))) _ a.1 in
      let d = kept 0 (nat_le (image_place bytes (count_at bytes)) (length bytes)) None b.1 in
      (leb-true (image_place bytes (count_at bytes)) (length bytes) d.0, b.0)
