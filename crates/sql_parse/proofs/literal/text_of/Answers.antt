use Rattle.std.proofs.Common.{◌≡◌, ℕ, ◌+◌, List, ◌++◌, length, drop, not, eqb, ap, sym, ◌∙◌, arith, append_assoc}
use Rattle.std.specs.Prelude.{string_bytes}
use Rattle.std.specs.List.{prefix_len}
use Rattle.std.proofs.lemmas.Str.{IsCharBoundary-after_ascii}
use Rattle.sql_parse.specs.Quotes.{unquoted, behind_quote}
use Rattle.sql_parse.proofs.Quotes.{unquoted_next, unquoted_end, quote_found}
use Rattle.sql_parse.proofs.literal.text_of.Goals as goal

pub overflow_add-at : goal.overflow_add-at
overflow_add-at c = omega (arith, c.loop-at.invariant.4)

pub split_at-requires : goal.split_at-requires
split_at-requires c = IsCharBoundary-after_ascii c.loop-at.rest.now c.loop-at.at c.loop-at.invariant.0 c.loop-at-test.true (omega (arith, quote_found c.loop-at.rest.now c.loop-at.at c.loop-at.invariant.2 c.loop-at-test.true))

pub loop-at-preserved : goal.loop-at-preserved
loop-at-preserved c =
    let rest = c.loop-at.rest.now in
    let text = string_bytes c.loop-at.text in
    let left = c.behind_quote-rest.result.now in
    let after : left ≡ behind_quote (drop (c.loop-at.at + 1) rest) = c.behind_quote-rest.ensures ∙ ap behind_quote c.split_at.ensures.back in
    let next : c.split_at.result.0.now ++ unquoted left ≡ unquoted rest = (λ i. c.split_at.ensures.front i ++ unquoted (after i)) ∙ sym (unquoted_next rest c.loop-at.at c.loop-at.invariant.2 c.loop-at-test.true) in (
      c.behind_quote-rest.utf8,
      ap (λ (l : List ℕ). l ++ unquoted left) c.in_ok-push_str.ensures.bytes ∙ append_assoc text c.split_at.result.0.now (unquoted left) ∙ ap (λ (l : List ℕ). text ++ l) next ∙ c.loop-at.invariant.1,
      c.plain_len-at-in-loop-at.ensures.len ∙ ap (prefix_len (λ (b : ℕ). not (eqb b 39))) c.as_bytes-in-loop-at.ensures.value,
      omega (arith, c.plain_len-at-in-loop-at.ensures.within, ap length c.as_bytes-in-loop-at.ensures.value),
      omega (arith, c.plain_len-at-in-loop-at.ensures.within, c.as_bytes-in-loop-at.type_inv),
    )

pub returns : goal.returns
returns c =
    let text = string_bytes c.loop-at.text in
    let rest = c.loop-at.rest.now in
    c.from_string.ensures ∙ c.in_ok-push_str-2.ensures.bytes ∙ ap (λ (l : List ℕ). text ++ l) (sym (unquoted_end rest (omega (arith, c.loop-at.invariant.2, c.loop-at-test.false)))) ∙ c.loop-at.invariant.1
