use Rattle.std.proofs.Common.{rules, ◌≡◌, ◌∙◌, ◌<◌, List, sym, ap, subst, arith, length}
use Rattle.olfit_rule.specs.declared.view.Change.{Change}
use Rattle.olfit_rule.specs.declared.view.View.{View}
use Rattle.olfit_rule.specs.Maps.{StartsWith}
use Rattle.olfit_rule.specs.Rule.{Sat, informed, reader_of}
use Rattle.olfit_rule.proofs.Keeps.{splits, joins, own_loads}
use Rattle.olfit_rule.proofs.steps.agree.Goals as goal

pub split_seat-note-requires : goal.split_seat-note-requires
split_seat-note-requires c = (search rules, search rules, splits _ _)

pub join_seat-requires : goal.join_seat-requires
join_seat-requires c = (search rules, search rules, search rules, search rules, joins _ _ _ _)

pub load-requires : goal.load-requires
load-requires c =
    let me : Sat = c.join_seat.new.seat.me in
    let is = c.join_seat.ensures.2 in
    (search rules, omega arith, own_loads _ _ me 0 0 (subst (λ (m : Sat). 0 < length m.0.words) (sym is) c.requires.inside.1) (omega arith) (ap (λ (m : Sat). m.0.writes) is ∙ c.requires.own.2))

pub returns-clause-writer : goal.returns-clause-writer
returns-clause-writer c =
    let same = c.load.ensures.2.0 in let is = c.join_seat.ensures.2 in let note = c.split_seat-note.ensures.4 in (
      (search rules, search rules, ap (λ (m : Sat). m.1) same ∙ ap (λ (m : Sat). m.1) is),
      ap (λ (m : Sat). m.0) same ∙ (ap (λ (m : Sat). m.0) is ∙ ap (λ (m : Sat). informed c.args.writer.now.me.0 m.0) note),
    )

pub returns-clause-agree : goal.returns-clause-agree
returns-clause-agree c =
    let same = c.load.ensures.2.0 in let is = c.join_seat.ensures.2 in let note = c.split_seat-note.ensures.4 in let kept = c.split_seat-note.ensures.2 in
    let view : c.load.new.seat.me.0 ≡ informed c.args.writer.now.me.0 (reader_of c.args.me.now.me.0) = ap (λ (m : Sat). m.0) same ∙ (ap (λ (m : Sat). m.0) is ∙ ap (λ (m : Sat). informed c.args.writer.now.me.0 m.0) note) in
    let found : StartsWith c.join_seat.new.seat.me.0.seen.log c.join_seat.new.seat.me.0.told = c.load.ensures.2.3 in
    subst (λ (z : List Change × List Change). StartsWith z.0 z.1)
    (λ y. ((ap (λ (m : Sat). m.0.seen.log) (sym same)) y, ((ap (λ (m : Sat). m.0.told) (sym same)) ∙ (ap (λ (u : View). u.told) view ∙ ap (λ (m : Sat). m.0.seen.log) (sym kept))) y)) found
