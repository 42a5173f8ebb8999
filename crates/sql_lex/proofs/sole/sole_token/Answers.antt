use Rattle.std.proofs.Common.{◌≡◌, ℕ, ◌+◌, List, [], ◌∷◌, length, drop, Option, None, Some, sym, ap, ◌∙◌, arith}
use Rattle.std.specs.Prelude.{IfNone}
use Rattle.std.proofs.lemmas.List.{length-drop, drop_all}
use Rattle.sql_lex.specs.Seen.{lexeme_of}
use Rattle.sql_lex.specs.Reading.{from_token, front}
use Rattle.sql_lex.specs.Tokens.{Item, AreTokens}
use Rattle.sql_lex.proofs.Runs.{left_behind}
use Rattle.sql_lex.proofs.Lone.{left_at, not_one-from_gap, one_from_front, not_one-from_no_token, not_one-from_more, rest_len}
use Rattle.sql_lex.proofs.sole.sole_token.Goals as goal

if_none : {X : Type 0} (P : Type 0) (o : Option X) → P → IfNone o P
if_none P None p = p
if_none P (Some x) p = tt

pub returns-then-at-text-clause-none : goal.returns-then-at-text-clause-none
returns-then-at-text-clause-none c base item =
    let text = c.args.text.now in
    let at = c.gap_len-at.result in
    not_one-from_gap base text item (left_at at text _ c.as_bytes.ensures.value c.gap_len-at.ensures.left ∙ drop_all at text (omega (arith, c.if-at-text.true)))

pub returns-in_err-found-clause-none : goal.returns-in_err-found-clause-none
returns-in_err-found-clause-none c =
    let text = c.args.text.now in
    let left = left_at (c.gap_len-at.result) text _ c.as_bytes.ensures.value c.gap_len-at.ensures.left in
    let none : (base : ℕ) (item : Item) → AreTokens base text (item ∷ []) → ⊥ = λ base item. not_one-from_no_token base text item (ap front left ∙ sym c.in_err-found.ensures.token) in
    if_none _ _ none

pub returns-then-gap_len-rest-clause-some : goal.returns-then-gap_len-rest-clause-some
returns-then-gap_len-rest-clause-some c base =
    let text = c.args.text.now in
    let at = c.gap_len-at.result in
    let n = c.in_ok-found.found.len in
    let left = left_at at text _ c.as_bytes.ensures.value c.gap_len-at.ensures.left in
    let behind = left_behind text _ at n c.gap_len.result c.as_bytes-2.ensures.value c.gap_len.ensures.left in
    let len = rest_len text _ (at + n) c.as_bytes-2.ensures.value in
    let nothing = drop_all (at + n + c.gap_len.result) text (omega (arith, len, c.if-gap_len-rest.true)) in
    (base + at, one_from_front base (base + at) n text (drop at text) (lexeme_of c.in_ok-found.found.kind) left (sym c.in_ok-found.ensures.token) (sym behind ∙ nothing) (omega (arith, length-drop at text, c.gap_len-at.ensures.within, ap length c.as_bytes.ensures.value)))

pub returns-else-gap_len-rest-clause-none : goal.returns-else-gap_len-rest-clause-none
returns-else-gap_len-rest-clause-none c base item =
    let text = c.args.text.now in
    let at = c.gap_len-at.result in
    let n = c.in_ok-found.found.len in
    let left = left_at at text _ c.as_bytes.ensures.value c.gap_len-at.ensures.left in
    let behind = left_behind text _ at n c.gap_len.result c.as_bytes-2.ensures.value c.gap_len.ensures.left in
    let len = rest_len text _ (at + n) c.as_bytes-2.ensures.value in
    let within = c.gap_len.ensures.within in
    not_one-from_more base n text item (lexeme_of c.in_ok-found.found.kind) (ap front left ∙ sym c.in_ok-found.ensures.token) (λ e. let none : length (drop (at + n + c.gap_len.result) text) ≡ 0 = ap length (behind ∙ ap (λ (l : List ℕ). from_token (drop n l)) (sym left) ∙ e) in c.if-gap_len-rest.false (omega (arith, none, len, length-drop (at + n + c.gap_len.result) text, within, c.in_ok-found.ensures.within.1)))
