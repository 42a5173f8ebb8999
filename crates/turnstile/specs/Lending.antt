-- A turn lends the value.
use Rattle.std.specs.Borrow.{Lends, MutBor, Fml}
use Rattle.std.specs.Prelude.{[], Some}
use denote.RattleType.{RattleType}
use mir.Syntax.{named}
use Rattle.atomic_table.specs.Lent.{seat_with}
use Rattle.turnstile.specs.declared.told.Told.{Ghosts}
use Rattle.turnstile.specs.declared.turnstile.Turn.{Turn}
use Rattle.turnstile.specs.declared.pass.PassWith.{PassWith}
use Rattle.turnstile.specs.contracts.pass.PassWith.{the_row as pass_row}
use Rattle.turnstile.specs.contracts.turnstile.Turn.{the_row}

-- the pass ends with the value that was left behind r
abbrev pub LendsSlot : (R S : RattleType) → MutBor (PassWith R.Denot S.Denot) → MutBor R.Denot → Fml
LendsSlot R S s r = Lends (pass_row R S) R s r (λ w. record s.now { seat = seat_with s.now.seat 0 (Some w) })

-- the turn ends with the value that was left behind r
abbrev pub LendsValue : (R S : RattleType) → Ghosts R.Denot S.Denot → MutBor (Turn R.Denot S.Denot)
    → MutBor R.Denot → Fml
LendsValue R S t s r =
    Lends (the_row (record { mir = named 1; lft = [] }) (record { mir = named 2; lft = [] }) R S t) R s r
    (λ w. record s.now {
      pass = record s.now.pass {
        now = record s.now.pass.now { seat = seat_with s.now.pass.now.seat 0 (Some w) };
      };
    })
