use Rattle.std.proofs.Common.{◌++◌, sym, ap, ◌∙◌, subst}
use Rattle.std.specs.Prelude.{Some}
use Rattle.turnstile.specs.History.{entries, MayAdd}
use Rattle.turnstile.specs.Words.{at, history, pass_of}
use Rattle.turnstile.specs.Passes.{number}
use Rattle.test_threads.proofs.Own.{may_mark}
use Rattle.test_threads.proofs.marks.leave_mark.Goals as goal

pub leave-requires-clause-value : goal.leave-requires-clause-value
leave-requires-clause-value g c = let v = c.requires.value in
    (v.0, v.1, v.2 ∙ ap (λ es. (at c.args.turn).first.items.items ++ (entries (history c.args.turn) ++ es)) (sym c.requires.added))

pub leave-requires-clause-may : goal.leave-requires-clause-may
leave-requires-clause-may g c = subst (λ es. MayAdd (λ e. Some e.0) (number (pass_of c.args.turn)) es) (sym c.requires.added) (may_mark (number (pass_of c.args.turn)) c.args.mark c.requires.own)
