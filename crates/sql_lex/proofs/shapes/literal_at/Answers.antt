use Rattle.std.proofs.Common.{◌≡◌, ℕ, ◌+◌, ◌-◌, List, false, Some, take, length, drop, ap, sym, ◌∙◌, arith}
use Rattle.std.proofs.lemmas.Str.{IsCharBoundary-after_ascii}
use Rattle.sql_lex.specs.Reading.{closes}
use Rattle.sql_lex.proofs.Fronts.{slice_rest, slice_is}
use Rattle.sql_lex.proofs.Literals.{literal_boundary, literal_read}
use Rattle.sql_lex.proofs.shapes.literal_at.Goals as goal
use Rattle.sql_lex.proofs.shapes.literal_at.Goals.{In_ok-len}

closes_is : (c : In_ok-len) → closes false (drop (c.args.at + 1) c.args.text.now) ≡ Some c.in_ok-len.len
closes_is c =
    ap (closes false) (sym (slice_rest c.args.text.now (c.args.at + 1)) ∙ ap (λ (l : List ℕ). take (length l - (c.args.at + 1)) (drop (c.args.at + 1) l)) (sym c.as_bytes.ensures.value)) ∙ sym c.in_ok-len.ensures.len

pub range-requires-clause-start_boundary : goal.range-requires-clause-start_boundary
range-requires-clause-start_boundary c = λ _. IsCharBoundary-after_ascii c.args.text.now c.args.at c.utf8.text c.requires.inside (omega (arith, c.requires.quote))

pub range-requires-clause-end_boundary : goal.range-requires-clause-end_boundary
range-requires-clause-end_boundary c = literal_boundary c.args.text.now (c.args.at + 1) _ (closes_is c)

pub returns : goal.returns
returns c = literal_read (drop (c.args.at + 1) c.args.text.now) c.range.result.now c.in_ok-len.len (closes_is (goal.at.returns c).In_ok-len) (c.range.ensures.value ∙ slice_is c.args.text.now (c.args.at + 1) _)
