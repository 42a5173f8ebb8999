use Rattle.std.proofs.Common.{◌≡◌, ◌==◌, false, length, subst}
use Rattle.std.specs.List.{AllWithin, IsAnyAnswer}
use Rattle.sql_exec.proofs.Moving.{others_stay}
use Rattle.sql_exec.proofs.values.next_value.Goals as goal

pub returns-clause-later : goal.returns-clause-later
returns-clause-later c =
    let later = c.args.later.now in
    let none = subst (IsAnyAnswer (λ y b. y == c.args.column ≡ b) later) c.if-contains.false c.contains.ensures.cases in
    others_stay c.args.column later _ _ none c.taken.ensures.others
