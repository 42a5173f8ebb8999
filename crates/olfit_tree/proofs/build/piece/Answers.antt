use Rattle.std.proofs.Common.{rules, ◌≡◌, ◌∙◌, ◌-◌, ◌*◌, ℕ, length, take, drop, arith, ap, get_or-set_same, length-set}
use Rattle.olfit_change.proofs.Words.{clear_renewed, entries_renewed, level_renewed, low_renewed, right_renewed}
use Rattle.olfit_tree.proofs.Pieces.{rows_of}
use Rattle.olfit_tree.proofs.build.piece.Goals as goal

pub returns : goal.returns
returns c =
    let long : length c.made-words.result ≡ 64 = search (rules, c.made-words.type_inv) in record {
      wide = length-set c.made-words.result 0 0 ∙ long;
      version = get_or-set_same c.made-words.result 0 0 0 (omega (arith, long));
      clear = clear_renewed c.made-words.result 0 c.made-words.ensures.clear;
      height = level_renewed c.made-words.result 0 ∙ c.made-words.ensures.level;
      low = low_renewed c.made-words.result 0 ∙ (c.made-words.ensures.low ∙ c.low_of_piece.ensures);
      right = right_renewed c.made-words.result 0 ∙ (c.made-words.ensures.right ∙ c.right_of_piece-right.ensures);
      rows = entries_renewed c.made-words.result 0 ∙ (c.made-words.ensures.entries
          ∙ (ap (λ (n : ℕ). take (n - c.args.i * c.args.each) (drop (c.args.i * c.args.each) c.args.entries.now)) c.min-end.ensures
          ∙ rows_of c.args.entries.now (c.args.i * c.args.each) c.args.each));
    }
