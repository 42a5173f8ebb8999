use Rattle.std.proofs.Common.{arith, sym, ap, ◌∙◌, get_or, List, ℕ}
use Rattle.std.proofs.lemmas.Str.{IsCharBoundary-after_ascii}
use Rattle.sql_parse.proofs.Quotes.{nonempty}
use Rattle.sql_parse.proofs.literal.behind_quote.Goals as goal

pub range_from-requires : goal.range_from-requires
range_from-requires c = λ _.
    let quote = ap (λ (l : List ℕ). get_or l 0 0) (sym c.as_bytes.ensures.value) ∙ c.if-as_bytes-eq39.true in
    IsCharBoundary-after_ascii c.args.text.now 0 c.utf8.text (nonempty c.args.text.now (sym c.is_empty.ensures ∙ c.if-not-is_empty.true)) (omega (arith, quote))
