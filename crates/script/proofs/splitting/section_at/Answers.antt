use Rattle.std.proofs.Common.{◌+◌, List, ℕ, take, drop, refl, ap, subst, ◌∙◌}
use Rattle.std.proofs.lemmas.Result.{err_from_is_err_and}
use Rattle.script.specs.Lines.{SectionText}
use Rattle.script.specs.Reached.{BreaksSection}
use Rattle.script.specs.Statements.{BreaksAt}
use Rattle.script.proofs.LineLaws.{slice_rest}
use Rattle.script.proofs.SectionLaws.{FrontFacts, LineFacts, bad_weaker, has_blocks, section_facts, slice_is}
use Rattle.script.proofs.splitting.section_at.Goals as goal

pub range-requires-clause-start_boundary : goal.range-requires-clause-start_boundary
range-requires-clause-start_boundary c some =
    let text = c.args.text.now in
    let at = c.args.at in
    let n = c.line_len.result in
    let m = c.front_len.result in
    let first = slice_rest _ at ∙ ap (λ (l : List ℕ). drop at l) c.as_bytes.ensures.value in
    let second = slice_rest _ (at + n) ∙ ap (λ (l : List ℕ). drop (at + n) l) c.as_bytes-2.ensures.value in
    let line : LineFacts (drop at text) n = subst (λ l. LineFacts l n) first (record { line = c.line_len.ensures.line; some = c.line_len.ensures.some; within = c.line_len.ensures.within; ended = c.line_len.ensures.ended }) in
    let front : FrontFacts (drop (at + n) text) m = subst (λ l. FrontFacts l m) second (record { parts = c.front_len.ensures.parts; header = c.front_len.ensures.header; within = c.front_len.ensures.within; ended = c.front_len.ensures.ended }) in
    let facts = section_facts text at n m c.utf8.text c.requires.inside line front in
    facts.cut_base

pub range-requires-clause-end_boundary : goal.range-requires-clause-end_boundary
range-requires-clause-end_boundary c =
    let text = c.args.text.now in
    let at = c.args.at in
    let n = c.line_len.result in
    let m = c.front_len.result in
    let first = slice_rest _ at ∙ ap (λ (l : List ℕ). drop at l) c.as_bytes.ensures.value in
    let second = slice_rest _ (at + n) ∙ ap (λ (l : List ℕ). drop (at + n) l) c.as_bytes-2.ensures.value in
    let line : LineFacts (drop at text) n = subst (λ l. LineFacts l n) first (record { line = c.line_len.ensures.line; some = c.line_len.ensures.some; within = c.line_len.ensures.within; ended = c.line_len.ensures.ended }) in
    let front : FrontFacts (drop (at + n) text) m = subst (λ l. FrontFacts l m) second (record { parts = c.front_len.ensures.parts; header = c.front_len.ensures.header; within = c.front_len.ensures.within; ended = c.front_len.ensures.ended }) in
    let facts = section_facts text at n m c.utf8.text c.requires.inside line front in
    facts.cut_end

pub returns-in_err-blocks-clause-fault : goal.returns-in_err-blocks-clause-fault
returns-in_err-blocks-clause-fault c header begins =
    let text = c.args.text.now in
    let at = c.args.at in
    let n = c.line_len.result in
    let m = c.front_len.result in
    let first = slice_rest _ at ∙ ap (λ (l : List ℕ). drop at l) c.as_bytes.ensures.value in
    let second = slice_rest _ (at + n) ∙ ap (λ (l : List ℕ). drop (at + n) l) c.as_bytes-2.ensures.value in
    let line : LineFacts (drop at text) n = subst (λ l. LineFacts l n) first (record { line = c.line_len.ensures.line; some = c.line_len.ensures.some; within = c.line_len.ensures.within; ended = c.line_len.ensures.ended }) in
    let front : FrontFacts (drop (at + n) text) m = subst (λ l. FrontFacts l m) second (record { parts = c.front_len.ensures.parts; header = c.front_len.ensures.header; within = c.front_len.ensures.within; ended = c.front_len.ensures.ended }) in
    let facts = section_facts text at n m c.utf8.text c.requires.inside line front in
    let read : SectionText = record { header = header; at = at; base = at + n; text = take m (drop (at + n) text) } in
    let same = c.range.ensures.value ∙ slice_is text (at + n) m in
    let p = err_from_is_err_and c.from_residual.result c.from_residual.ensures.1 in
    rw (p.1, p.2) (bad_weaker _ (BreaksAt (at + n) c.range.result.now) (BreaksSection text at header) (λ place breaks. record { read = read; after = _; stands = facts.stands header begins; header_is = refl; breaks = subst (λ (l : List ℕ). BreaksAt (at + n) l place) same breaks }) c.in_err-blocks.ensures.fault)

pub returns-clause-section : goal.returns-clause-section
returns-clause-section c header begins =
    let text = c.args.text.now in
    let at = c.args.at in
    let n = c.line_len.result in
    let m = c.front_len.result in
    let first = slice_rest _ at ∙ ap (λ (l : List ℕ). drop at l) c.as_bytes.ensures.value in
    let second = slice_rest _ (at + n) ∙ ap (λ (l : List ℕ). drop (at + n) l) c.as_bytes-2.ensures.value in
    let line : LineFacts (drop at text) n = subst (λ l. LineFacts l n) first (record { line = c.line_len.ensures.line; some = c.line_len.ensures.some; within = c.line_len.ensures.within; ended = c.line_len.ensures.ended }) in
    let front : FrontFacts (drop (at + n) text) m = subst (λ l. FrontFacts l m) second (record { parts = c.front_len.ensures.parts; header = c.front_len.ensures.header; within = c.front_len.ensures.within; ended = c.front_len.ensures.ended }) in
    let facts = section_facts text at n m c.utf8.text c.requires.inside line front in
    let read : SectionText = record { header = header; at = at; base = at + n; text = take m (drop (at + n) text) } in
    record {
      read = read;
      stands = facts.stands header begins;
      header_is = refl;
      blocks = has_blocks read c.range.result.now c.in_ok-blocks.blocks (c.range.ensures.value ∙ slice_is text (at + n) m) c.in_ok-blocks.ensures.blocks;
      starts = facts.starts;
      longer = facts.longer;
      within = facts.within;
    }
