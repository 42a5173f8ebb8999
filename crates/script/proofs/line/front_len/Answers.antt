use Rattle.std.proofs.Common.{◌≡◌, ◌-◌, ◌<◌, ◌≤◌, List, ℕ, ◌∷◌, get_or, length, take, drop, sym, ap, subst, ◌∙◌, arith}
use Rattle.std.specs.Prelude.{not}
use Rattle.std.proofs.lemmas.List.{length-drop}
use Rattle.script.specs.Lines.{lines}
use Rattle.script.specs.Headers.{StartsSection, first_header}
use Rattle.script.proofs.LineLaws.{ended_at, front_more, none_from, slice_rest, starts_end, starts_from}
use Rattle.script.proofs.line.front_len.Goals as goal

pub loop-at-preserved : goal.loop-at-preserved
loop-at-preserved c =
    let bytes = c.args.bytes.now in
    let at = c.loop-at.at in
    let n = c.line_len-at.result in
    let rest = slice_rest bytes at in
    let some_left : 0 < length (take (length bytes - at) (drop at bytes)) = omega (arith, ap length rest, length-drop at bytes, c.loop-at-test.true) in
    let line : lines (drop at bytes) ≡ take n (drop at bytes) ∷ lines (drop n (drop at bytes)) = subst (λ (l : List ℕ). lines l ≡ take n l ∷ lines (drop n l)) rest (c.line_len-at.ensures.line some_left) in
    let within : n ≤ length (drop at bytes) = subst (λ (l : List ℕ). n ≤ length l) rest c.line_len-at.ensures.within in
    let none = none_from _ _ (c.is_none.ensures ∙ ap not c.if-is_none.true) c.first_header.ensures in
    record {
      parts = λ base. front_more bytes at n base within line (ap (λ (l : List ℕ). first_header (lines l)) (sym rest) ∙ none) (c.loop-at.invariant.parts base);
      within = omega (arith, within, length-drop at bytes, c.loop-at-test.true);
      ended = λ some inside. ended_at bytes at n some (c.line_len-at.ensures.some some_left) (subst (λ (l : List ℕ). n < length l → get_or l (n - 1) 0 ≡ 10) rest c.line_len-at.ensures.ended) inside;
    }

pub returns-else-is_none-clause-header : goal.returns-else-is_none-clause-header
returns-else-is_none-clause-header c = subst (λ (l : List ℕ). StartsSection (lines l)) (slice_rest c.args.bytes.now c.loop-at.at) (starts_from _ _ (c.is_none.ensures ∙ ap not c.if-is_none.false) c.first_header.ensures)

pub returns-after-loop-at-clause-header : goal.returns-after-loop-at-clause-header
returns-after-loop-at-clause-header c = starts_end c.args.bytes.now c.loop-at.at c.loop-at-test.false
