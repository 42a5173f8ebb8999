use Rattle.std.proofs.Common.{◌+◌, ◌-◌, ◌≤◌, ap, ap₂, sym, ◌∙◌, arith}
use Rattle.std.proofs.lemmas.Bool.{both_ways}
use Rattle.area_format.specs.AreaRead.{is_in_order, precedes}
use Rattle.area_format.proofs.Images.{after_first, inside, ordered, refused}
use Rattle.area_format.proofs.image.is_fine.Goals as goal

pub returns-then-not-admits-clause-fine : goal.returns-then-not-admits-clause-fine
returns-then-not-admits-clause-fine g c = λ bytes known.
    sym (refused bytes c.args.header.now (c.requires.header bytes known) c.args.k c.args.head (c.requires.head bytes known) (λ under. both_ways c.admits.result c.if-not-admits.true (c.admits.ensures.1 under)))

pub returns-then-k-eq0-clause-fine : goal.returns-then-k-eq0-clause-fine
returns-then-k-eq0-clause-fine g c = λ bytes known.
    let under = c.admits.ensures.0 c.if-not-admits.false in
    sym (ordered bytes c.args.header.now (c.requires.header bytes known) c.args.k c.args.head (c.requires.head bytes known) under ∙ ap (is_in_order bytes) c.if-k-eq0.true)

pub read_head-requires-clause-inside : goal.read_head-requires-clause-inside
read_head-requires-clause-inside g c = λ bytes known.
    inside bytes c.args.header.now (c.requires.header bytes known) (c.args.k - 1 + 1) (omega (arith, c.requires.inside, c.if-k-eq0.false))

pub returns-clause-fine : goal.returns-clause-fine
returns-clause-fine g c = λ bytes known.
    let under = c.admits.ensures.0 c.if-not-admits.false in
    let some : 1 ≤ c.args.k = omega (arith, c.if-k-eq0.false) in
    c.precedes.ensures
    ∙ ap₂ precedes (c.in_ok-before.ensures.head bytes known) (c.requires.head bytes known)
    ∙ sym (ordered bytes c.args.header.now (c.requires.header bytes known) c.args.k c.args.head (c.requires.head bytes known) under ∙ after_first bytes c.args.k some)
