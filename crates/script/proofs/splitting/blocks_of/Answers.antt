use Rattle.std.proofs.Common.{◌≡◌, ◌+◌, ◌∷◌, ◌++◌, List, ℕ, take, drop, sym, ap, subst, ◌∙◌, arith}
use Rattle.std.specs.Prelude.{IfOk}
use Rattle.std.specs.Str.{IsCharBoundary}
use Rattle.std.proofs.lemmas.List.{length-drop}
use Rattle.std.proofs.lemmas.Str.{IsCharBoundary-start}
use Rattle.script.specs.Reading.{end_of}
use Rattle.script.specs.Statements.{IsEmpty, IsWhole}
use Rattle.script.specs.declared.scanning.Inside.TheVariants.{Neither}
use Rattle.script.specs.declared.scanning.StatementEnd.TheVariants.{Semicolon, LineEnd, TextEnd}
use Rattle.script.proofs.LineLaws.{slice_rest}
use Rattle.script.proofs.SectionLaws.{all_read_so, break_so, breaks_in_literal, cut_before_semicolon, cut_behind_semicolon, line_end_within, next_is, nothing_read, one_read, slice_is}
use Rattle.script.proofs.splitting.blocks_of.Goals as goal

pub loop-at-init : goal.loop-at-init
loop-at-init c = record {
  read = nothing_read c.args.base c.args.text.now c.new-builder.result c.new-builder.ensures;
  within = omega arith;
  cut = IsCharBoundary-start c.args.text.now c.utf8.text;
}

pub overflow_add-at : goal.overflow_add-at
overflow_add-at c =
    let text = c.args.text.now in
    let at = c.loop-at.at in
    let len = c.in-Semicolon.len in
    let found : Semicolon len ≡ end_of Neither (drop at text) = c.in-Semicolon.ensures ∙ ap (end_of Neither) (slice_rest _ at ∙ ap (λ (l : List ℕ). drop at l) c.as_bytes.ensures.value) in
    let next = next_is text at len c.loop-at.invariant.within found in
    omega (arith, next.within, c.requires)

pub range-requires-clause-end_boundary : goal.range-requires-clause-end_boundary
range-requires-clause-end_boundary c =
    let text = c.args.text.now in
    let at = c.loop-at.at in
    let len = c.in-Semicolon.len in
    let found : Semicolon len ≡ end_of Neither (drop at text) = c.in-Semicolon.ensures ∙ ap (end_of Neither) (slice_rest _ at ∙ ap (λ (l : List ℕ). drop at l) c.as_bytes.ensures.value) in
    let next = next_is text at len c.loop-at.invariant.within found in
    cut_before_semicolon text (at + len) next.semicolon (omega (arith, next.within))

pub loop-at-preserved : goal.loop-at-preserved
loop-at-preserved c =
    let text = c.args.text.now in
    let at = c.loop-at.at in
    let len = c.in-Semicolon.len in
    let found : Semicolon len ≡ end_of Neither (drop at text) = c.in-Semicolon.ensures ∙ ap (end_of Neither) (slice_rest _ at ∙ ap (λ (l : List ℕ). drop at l) c.as_bytes.ensures.value) in
    let next = next_is text at len c.loop-at.invariant.within found in
    let range : c.range.result.now ≡ take len (drop at text) = c.range.ensures.value ∙ slice_is text at len in
    let after = drop (at + (len + 1)) text in
    let cut : at + len + 1 ≡ at + (len + 1) = omega arith in
    record {
      read = one_read c.args.base text (drop at text) after c.loop-at.builder c.in_ok-builder-in-Semicolon.builder (record { base = c.args.base + at; text = c.range.result.now }) c.loop-at.invariant.read (subst (λ (l : List ℕ). drop at text ≡ l ++ 59 ∷ after) (sym range) next.split) (subst (λ (l : List ℕ). IsWhole l (59 ∷ after)) (sym range) next.whole) (omega (arith, length-drop at text, c.loop-at.invariant.within)) c.in_ok-builder-in-Semicolon.ensures;
      within = next.within;
      cut = subst (IsCharBoundary text) cut (cut_behind_semicolon text (at + len) c.utf8.text next.semicolon (omega (arith, next.within)));
    }

pub overflow_add-result : goal.overflow_add-result
overflow_add-result c =
    let text = c.args.text.now in
    let at = c.loop-at.at in
    let found : LineEnd c.in-LineEnd.len ≡ end_of Neither (drop at text) = c.in-LineEnd.ensures ∙ ap (end_of Neither) (slice_rest _ at ∙ ap (λ (l : List ℕ). drop at l) c.as_bytes.ensures.value) in
    omega (arith, line_end_within text at c.in-LineEnd.len c.loop-at.invariant.within found, c.requires)

pub overflow_add-result-in-LineEnd : goal.overflow_add-result-in-LineEnd
overflow_add-result-in-LineEnd c =
    let text = c.args.text.now in
    let at = c.loop-at.at in
    let found : LineEnd c.in-LineEnd.len ≡ end_of Neither (drop at text) = c.in-LineEnd.ensures ∙ ap (end_of Neither) (slice_rest _ at ∙ ap (λ (l : List ℕ). drop at l) c.as_bytes.ensures.value) in
    omega (arith, line_end_within text at c.in-LineEnd.len c.loop-at.invariant.within found, c.requires)

pub returns-in-LineEnd-clause-fault : goal.returns-in-LineEnd-clause-fault
returns-in-LineEnd-clause-fault c =
    let text = c.args.text.now in
    let at = c.loop-at.at in
    let found : LineEnd c.in-LineEnd.len ≡ end_of Neither (drop at text) = c.in-LineEnd.ensures ∙ ap (end_of Neither) (slice_rest _ at ∙ ap (λ (l : List ℕ). drop at l) c.as_bytes.ensures.value) in
    breaks_in_literal c.args.base at c.in-LineEnd.len text c.loop-at.builder c.loop-at.invariant.within c.loop-at.invariant.read found

pub returns-in-TextEnd-clause-blocks : goal.returns-in-TextEnd-clause-blocks
returns-in-TextEnd-clause-blocks c =
    let text = c.args.text.now in
    let at = c.loop-at.at in
    all_read_so c.args.base text (drop at text) c.loop-at.builder c.last_blocks.result c.loop-at.invariant.read (subst (λ l. IfOk c.last_blocks.result (λ _. IsEmpty l)) c.range_from.ensures.value c.last_blocks.ensures.empty) c.last_blocks.ensures.blocks

pub returns-in-TextEnd-clause-fault : goal.returns-in-TextEnd-clause-fault
returns-in-TextEnd-clause-fault c =
    let text = c.args.text.now in
    let at = c.loop-at.at in
    let found : TextEnd ≡ end_of Neither (drop at text) = c.in-TextEnd.ensures ∙ ap (end_of Neither) (slice_rest _ at ∙ ap (λ (l : List ℕ). drop at l) c.as_bytes.ensures.value) in
    break_so c.args.base at text c.range_from.result.now c.loop-at.builder c.last_blocks.result c.range_from.ensures.value c.loop-at.invariant.read found c.last_blocks.ensures.fault
