use Rattle.std.proofs.Common.{◌≡◌, None, Some, sym, ◌∙◌, ap, arith}
use Rattle.row_types.specs.SchemaReading.{schema_at}
use Rattle.area_format.specs.AreaRead.{body_fault, schema_in}
use Rattle.area_format.specs.Places.{count_at, schema_len_at, schema_text_at}
use Rattle.fields.specs.Fields.{bytes_at}
use Rattle.area_format.proofs.Fronts.{schema_len_of, count_of}
use Rattle.area_format.proofs.Bodies.{body_bad, body_cut, body_fine, body_short, schema_is}
use Rattle.area_format.proofs.Stops.{named, stopped}
use Rattle.area_format.proofs.read.read_schema.Goals as goal

pub returns-then-size-images-clause-schema : goal.returns-then-size-images-clause-schema
returns-then-size-images-clause-schema g c = λ bytes known.
    let is = c.requires.front bytes known in
    let len : c.from.result ≡ schema_len_at bytes = c.from.ensures ∙ c.schema_len_at-len.ensures ∙ ap schema_len_at is ∙ schema_len_of 35 bytes (omega arith) in
    let size = c.requires.size bytes known in
    body_cut bytes (omega (arith, len, size, c.if-size-images.true))

pub returns-in_err-text-clause-schema : goal.returns-in_err-text-clause-schema
returns-in_err-text-clause-schema g c = λ bytes known.
    stopped (body_fault bytes) (λ schema. schema ≡ schema_in bytes) c.in_err-text.field-0.0 c.from_residual.result c.from_residual.ensures.1
    (λ at is. absurd (cc (named None c.in_err-text.field-0.0 (c.in_err-text.ensures.text bytes known) at is)))

pub returns-in_default-clause-schema : goal.returns-in_default-clause-schema
returns-in_default-clause-schema g c = λ bytes known.
    let is = c.requires.front bytes known in
    let len : c.schema_len_at-len.result ≡ schema_len_at bytes = c.schema_len_at-len.ensures ∙ ap schema_len_at is ∙ schema_len_of 35 bytes (omega arith) in
    let size = c.requires.size bytes known in
    let text : c.deref.result.now ≡ schema_text_at bytes = c.deref.ensures.value ∙ (c.in_ok-text.ensures.text bytes known).1 ∙ ap (λ n. bytes_at 35 n bytes) len in
    body_bad bytes (omega (arith, len, c.from.ensures, size, c.if-size-images.false)) (ap schema_at (sym text) ∙ sym c.in_ok-schema.ensures ∙ c.in_default.is)

pub returns-then-size-images-2-clause-schema : goal.returns-then-size-images-2-clause-schema
returns-then-size-images-2-clause-schema g c = λ bytes known.
    let is = c.requires.front bytes known in
    let len : c.schema_len_at-len.result ≡ schema_len_at bytes = c.schema_len_at-len.ensures ∙ ap schema_len_at is ∙ schema_len_of 35 bytes (omega arith) in
    let count : c.from-2.result ≡ count_at bytes = c.from-2.ensures ∙ c.count_at.ensures ∙ ap count_at is ∙ count_of 35 bytes (omega arith) in
    let size = c.requires.size bytes known in
    let text : c.deref.result.now ≡ schema_text_at bytes = c.deref.ensures.value ∙ (c.in_ok-text.ensures.text bytes known).1 ∙ ap (λ n. bytes_at 35 n bytes) len in
    let found : schema_at (schema_text_at bytes) ≡ Some c.in-Some.schema = ap schema_at (sym text) ∙ sym c.in_ok-schema.ensures ∙ c.in-Some.is in
    body_short bytes c.in-Some.schema (omega (arith, len, c.from.ensures, size, c.if-size-images.false)) found (omega (arith, len, count, c.from.ensures, size, c.if-size-images-2.true))

pub returns-clause-schema : goal.returns-clause-schema
returns-clause-schema g c = λ bytes known.
    let is = c.requires.front bytes known in
    let len : c.schema_len_at-len.result ≡ schema_len_at bytes = c.schema_len_at-len.ensures ∙ ap schema_len_at is ∙ schema_len_of 35 bytes (omega arith) in
    let count : c.from-2.result ≡ count_at bytes = c.from-2.ensures ∙ c.count_at.ensures ∙ ap count_at is ∙ count_of 35 bytes (omega arith) in
    let size = c.requires.size bytes known in
    let text : c.deref.result.now ≡ schema_text_at bytes = c.deref.ensures.value ∙ (c.in_ok-text.ensures.text bytes known).1 ∙ ap (λ n. bytes_at 35 n bytes) len in
    let found : schema_at (schema_text_at bytes) ≡ Some c.in-Some.schema = ap schema_at (sym text) ∙ sym c.in_ok-schema.ensures ∙ c.in-Some.is in (
      body_fine bytes c.in-Some.schema (omega (arith, len, c.from.ensures, size, c.if-size-images.false)) found (omega (arith, len, count, c.from.ensures, size, c.if-size-images-2.false)),
      sym (schema_is bytes c.in-Some.schema found),
    )
