use Rattle.std.proofs.Common.{◌+◌, ◌++◌, ◌<◌, sym, ap, ◌∙◌, subst, length}
use Rattle.turnstile.specs.Passes.{parts_of, made_by}
use Rattle.turnstile.specs.Whole.{Hears}
use Rattle.turnstile.proofs.Gathering.{all_front, last_is, whole, parts_length, sums}
use Rattle.turnstile.proofs.turnstile.Turnstile.finish.Goals as goal

pub join_all-seat-requires-clause-table : goal.join_all-seat-requires-clause-table
join_all-seat-requires-clause-table g c = let is = last_is _ _ _ c.in-Some.last c.in-Some.ensures.items c.requires.passes in ap (λ t. t.table_id) c.into_seat.ensures ∙ is.table_is

pub join_all-seat-requires-clause-idle : goal.join_all-seat-requires-clause-idle
join_all-seat-requires-clause-idle g c = let is = last_is _ _ _ c.in-Some.last c.in-Some.ensures.items c.requires.passes in let z = c.into_seat.ensures in (ap (λ t. t.me.0.stage) z ∙ is.stage_is, ap (λ t. t.me.1) z ∙ is.holds)

pub join_all-seat-requires-clause-passes : goal.join_all-seat-requires-clause-passes
join_all-seat-requires-clause-passes g c = all_front _ _ _ _ c.in-Some.ensures.items c.requires.passes

pub end-requires-clause-all : goal.end-requires-clause-all
end-requires-clause-all g c = let e = c.in-Some.ensures.items in let is = last_is _ _ _ c.in-Some.last e c.requires.passes in let j = c.join_all-seat.ensures in let all = c.requires.all in let some_passes = all.0 in let z = c.into_seat.ensures in
    let s = sums c.pop.new.self.items c.args.passes.items c.in-Some.last c.join_all-seat.result.me.0 _ e is
    (j.parts ∙ ap (λ t. parts_of c.pop.new.self.items ++ t.me.0.parts) z) (j.made ∙ ap (λ t. made_by c.pop.new.self.items + t.me.0.made) z) in
    let made = s.1 ∙ all.1 in (subst (λ n. 0 < n) (sym made) some_passes, made ∙ sym (parts_length c.args.passes.items) ∙ ap (λ x. length x) (sym s.0))

pub returns : goal.returns
returns g c = let e = c.in-Some.ensures.items in let is = last_is _ _ _ c.in-Some.last e c.requires.passes in let j = c.join_all-seat.ensures in let w = c.end.ensures in let z = c.into_seat.ensures in
    let s = sums c.pop.new.self.items c.args.passes.items c.in-Some.last c.join_all-seat.result.me.0 _ e is
    (j.parts ∙ ap (λ t. parts_of c.pop.new.self.items ++ t.me.0.parts) z) (j.made ∙ ap (λ t. made_by c.pop.new.self.items + t.me.0.made) z) in
    let made = s.1 ∙ c.requires.all.1 in (
      w.0,
      whole g.M.Told.leads g.M.Told.owner c.args.self.table.shared.key c.pop.new.self.items c.args.passes.items c.in-Some.last c.join_all-seat.result.me.0 w.0 _ _ e is s.0 made j.heard
          (λ h x. j.kept h (subst (λ t. Hears t.me.0 h) (sym z) x)) w.1,
    )
