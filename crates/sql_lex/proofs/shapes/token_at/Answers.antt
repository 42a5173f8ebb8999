use Rattle.std.proofs.Common.{◌≡◌, ◌≢◌, Some, ℕ, eqb, ◌-◌, List, false, take, length, get_or, drop, ap, sym, ◌∙◌, arith}
use Rattle.std.proofs.lemmas.Bool.Decides.{nat_tests}
use Rattle.std.specs.Char.{is_ascii_alphabetic, is_ascii_digit}
use Rattle.sql_lex.specs.Reading.{number_front, sign_front}
use Rattle.sql_lex.proofs.Fronts.{word_in_front, number_in_front, literal_in_front, sign_in_front, slice_rest}
use Rattle.sql_lex.proofs.Runs.{found_within}
use Rattle.sql_lex.proofs.shapes.token_at.Goals as goal

rest_of : (text bytes : List ℕ) (at : ℕ) → bytes ≡ text → take (length bytes - at) (drop at bytes) ≡ drop at text
rest_of text bytes at e = ap (λ (l : List ℕ). take (length l - at) (drop at l)) e ∙ slice_rest text at

byte_of : (text bytes : List ℕ) (at : ℕ) → bytes ≡ text → get_or text at 0 ≡ get_or bytes at 0
byte_of text bytes at e = ap (λ (l : List ℕ). get_or l at 0) (sym e)

not_quote : (b : ℕ) → b ≢ 39 → eqb b 39 ≡ false
not_quote b other = grind (arith, nat_tests)

pub returns-then-is_ascii_alphabetic-clause-token : goal.returns-then-is_ascii_alphabetic-clause-token
returns-then-is_ascii_alphabetic-clause-token c =
    let byte = byte_of c.args.text.now _ c.args.at c.as_bytes.ensures.value in
    c.word_at.ensures ∙ sym (word_in_front c.args.text.now c.args.at c.requires (ap is_ascii_alphabetic byte ∙ sym c.is_ascii_alphabetic.ensures.value ∙ c.if-is_ascii_alphabetic.true))

pub returns-then-is_ascii_digit-clause-token : goal.returns-then-is_ascii_digit-clause-token
returns-then-is_ascii_digit-clause-token c =
    let byte = byte_of c.args.text.now _ c.args.at c.as_bytes.ensures.value in
    c.number_at.ensures ∙ ap number_front (rest_of c.args.text.now _ c.args.at c.as_bytes-then-is_ascii_digit.ensures.value) ∙ sym (number_in_front c.args.text.now c.args.at c.requires (ap is_ascii_alphabetic byte ∙ sym c.is_ascii_alphabetic.ensures.value ∙ c.if-is_ascii_alphabetic.false) (ap is_ascii_digit byte ∙ sym c.is_ascii_digit.ensures.value ∙ c.if-is_ascii_digit.true))

pub returns-then-byte-eq39-clause-token : goal.returns-then-byte-eq39-clause-token
returns-then-byte-eq39-clause-token c =
    let byte = byte_of c.args.text.now _ c.args.at c.as_bytes.ensures.value in
    c.literal_at.ensures ∙ sym (literal_in_front c.args.text.now c.args.at c.requires (byte ∙ c.if-byte-eq39.true))

pub returns-else-byte-eq39-clause-token : goal.returns-else-byte-eq39-clause-token
returns-else-byte-eq39-clause-token c =
    let byte = byte_of c.args.text.now _ c.args.at c.as_bytes.ensures.value in
    c.sign_at.ensures ∙ ap sign_front (rest_of c.args.text.now _ c.args.at c.as_bytes-else-byte-eq39.ensures.value) ∙ sym (sign_in_front c.args.text.now c.args.at c.requires (ap is_ascii_alphabetic byte ∙ sym c.is_ascii_alphabetic.ensures.value ∙ c.if-is_ascii_alphabetic.false) (ap is_ascii_digit byte ∙ sym c.is_ascii_digit.ensures.value ∙ c.if-is_ascii_digit.false) (ap (λ b. eqb b 39) byte ∙ not_quote _ c.if-byte-eq39.false))

pub returns-then-is_ascii_alphabetic-clause-within : goal.returns-then-is_ascii_alphabetic-clause-within
returns-then-is_ascii_alphabetic-clause-within c = found_within (Some c.word_at.result) c.args.text.now c.args.at (returns-then-is_ascii_alphabetic-clause-token c) c.requires

pub returns-then-is_ascii_digit-clause-within : goal.returns-then-is_ascii_digit-clause-within
returns-then-is_ascii_digit-clause-within c = found_within (Some c.number_at.result) c.args.text.now c.args.at (returns-then-is_ascii_digit-clause-token c) c.requires

pub returns-then-byte-eq39-clause-within : goal.returns-then-byte-eq39-clause-within
returns-then-byte-eq39-clause-within c = found_within c.literal_at.result c.args.text.now c.args.at (returns-then-byte-eq39-clause-token c) c.requires

pub returns-else-byte-eq39-clause-within : goal.returns-else-byte-eq39-clause-within
returns-else-byte-eq39-clause-within c = found_within c.sign_at.result c.args.text.now c.args.at (returns-else-byte-eq39-clause-token c) c.requires
