use Rattle.std.proofs.Common.{ℕ, List, [], sym, subst}
use Rattle.atomic_table.specs.Table.{opening}
use Rattle.olfit_rule.specs.Rule.{Kept, opener}
use Rattle.olfit_rule.proofs.Opens.{opens}
use Rattle.olfit_rule.proofs.open.opened.Goals as goal

pub of_words-requires : goal.of_words-requires
of_words-requires c = subst (λ (ws : List ℕ). Kept (opening ws [] (opener c.args.words.now.items))) (sym c.as_slice.ensures.value) (opens c.args.words.now.items c.requires)
