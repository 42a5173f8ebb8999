use Rattle.std.proofs.Common.{◌≡◌, ◌+◌, ◌≤◌, [], ◌∷◌, ◌++◌, length, drop, ap, sym, subst, ◌∙◌, arith}
use Rattle.std.proofs.lemmas.List.{length-drop, map-append, drop_all}
use Rattle.sql_lex.specs.Seen.{item_of, items_of, lexeme_of}
use Rattle.sql_lex.proofs.Runs.{SoFar, SoFar-next, SoFar-stops, left_behind, gap_within, tokens_from_so, up_to_from_so}
use Rattle.sql_lex.proofs.scanning.scan_tokens.Goals as goal

pub returns-in-None : goal.returns-in-None
returns-in-None c =
    let text = c.args.text.now in
    up_to_from_so c.args.base text (items_of c.loop-at.tokens.items) _ (SoFar-stops c.args.base _ text _ (drop c.loop-at.at text) c.loop-at.invariant.so_far (sym c.in-None.ensures.token) (omega (arith, length-drop c.loop-at.at text)) (omega (arith, length-drop c.loop-at.at text)))

pub loop-at-preserved : goal.loop-at-preserved
loop-at-preserved c =
    let text = c.args.text.now in
    let at = c.loop-at.at in
    let found = c.in-Some.found in
    let end = c.args.base + length text in
    let next = SoFar-next end text (items_of c.loop-at.tokens.items) (drop at text) (lexeme_of found.kind) (c.args.base + at) found.len c.loop-at.invariant.so_far (sym c.in-Some.ensures.token) (omega (arith, length-drop at text)) in
    let pushed : items_of c.push.new.self.items ≡ items_of c.loop-at.tokens.items ++ (record { lexeme = lexeme_of found.kind; at = c.args.base + at }) ∷ [] = ap items_of c.in_ok-push-in-Some.ensures.items ∙ map-append item_of c.loop-at.tokens.items _ in
    let left = left_behind text _ at found.len c.gap_len.result c.as_bytes-in-Some.ensures.value c.gap_len.ensures.left in
    let within : at + found.len + c.gap_len.result ≤ length text = gap_within text _ (at + found.len) _ c.as_bytes-in-Some.ensures.value c.gap_len.ensures.within c.in-Some.ensures.within.1 in
    record {
      so_far = subst (λ l. SoFar end text l (drop (at + found.len + c.gap_len.result) text)) (sym pushed) (subst (SoFar end text _) (sym left) next);
      within = within;
    }

pub returns : goal.returns
returns c =
    let text = c.args.text.now in
    let so_far = c.loop-at.invariant.so_far in
    let all : drop c.loop-at.at text ≡ [] = drop_all c.loop-at.at text (omega arith) in
    tokens_from_so c.args.base text (items_of c.loop-at.tokens.items) (record { rest = so_far.rest; begins = so_far.begins; ends = so_far.left_is ∙ all })
