use Rattle.std.proofs.Common.{◌≡◌, ℕ, ◌-◌, List, length, take, drop, ap, ◌∙◌, arith}
use Rattle.std.specs.List.{prefix_len}
use Rattle.std.proofs.lemmas.List.{length-drop}
use Rattle.sql_lex.specs.Spelling.{is_word_byte}
use Rattle.sql_lex.proofs.Fronts.{word_boundary, word_of_keyword, word_of_name, word_read, slice_rest, slice_is}
use Rattle.sql_lex.proofs.shapes.word_at.Goals as goal
use Rattle.sql_lex.proofs.shapes.word_at.Goals.{After-word_len-len}

len_is : (c : After-word_len-len) → c.word_len-len.result ≡ prefix_len is_word_byte (drop c.args.at c.args.text.now)
len_is c =
    c.word_len-len.ensures.len ∙ ap (λ (l : List ℕ). prefix_len is_word_byte (take (length l - c.args.at) (drop c.args.at l))) c.as_bytes.ensures.value ∙ ap (prefix_len is_word_byte) (slice_rest c.args.text.now c.args.at)

pub range-word-requires-clause-end_boundary : goal.range-word-requires-clause-end_boundary
range-word-requires-clause-end_boundary c =
    let within = rw (c.as_bytes.ensures.value, slice_rest c.args.text.now c.args.at, length-drop) at c.word_len-len.ensures.within in
    word_boundary c.args.text.now c.args.at _ c.utf8.text c.requires.inside c.requires.letter (len_is c) (omega (arith, c.requires.inside))

pub returns-in-Some : goal.returns-in-Some
returns-in-Some c = word_read (drop c.args.at c.args.text.now) c.range-word.result.now _ _ (len_is (goal.at.returns-in-Some c).After-word_len-len) (c.range-word.ensures.value ∙ slice_is c.args.text.now c.args.at _) (word_of_keyword _ _ c.in-Some.ensures.some)

pub returns-in-None : goal.returns-in-None
returns-in-None c = word_read (drop c.args.at c.args.text.now) c.range-word.result.now _ _ (len_is (goal.at.returns-in-None c).After-word_len-len) (c.range-word.ensures.value ∙ slice_is c.args.text.now c.args.at _) (word_of_name _ c.in-None.ensures.none)
