use Rattle.std.proofs.Common.{◌≡◌, ◌-◌, length, List, refl, subst}
use Rattle.std.specs.Prelude.{slice_get}
use Rattle.std.specs.Option.{option_copied}
use Rattle.txn_rows.specs.declared.undo.Step.{Step}
use Rattle.txn_rows.proofs.States.{ends_read}
use Rattle.txn_rows.proofs.undo.Undo.pop_from.Goals as goal

pub returns-then-branch-count-clause-none : goal.returns-then-branch-count-clause-none
returns-then-branch-count-clause-none c = λ none.
    let value = subst (λ (xs : List Step). option_copied c.last.result ≡ slice_get xs (length xs - 1)) c.deref.ensures.value c.last.ensures.value in
    (refl, ends_read c.args.count c.args.self.now.steps.items c.in_ok-last.field-0 c.last.result c.in_ok-last.was value c.if-branch-count.true)
