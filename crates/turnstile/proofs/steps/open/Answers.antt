use Rattle.std.proofs.Common.{◌++◌, [], ◌∷◌, sym, ap, ◌∙◌, subst, arith}
use Rattle.std.specs.Prelude.{Some}
use Rattle.atomic_table.specs.Table.{rest}
use Rattle.turnstile.specs.History.{entries}
use Rattle.turnstile.proofs.Keeps.{opens_keep}
use Rattle.turnstile.proofs.steps.open.Goals as goal

pub load-requires : goal.load-requires
load-requires g c = let q = c.requires.seat in let e = q.1 in
    (q.0, omega arith, opens_keep g.M.Told.leads g.M.Told.owner c.args.door.now.key c.args.door.now.table_id.slots c.args.seat.now.id c.args.seat.now.me q.2 c.requires.empty)

pub serve-requires-clause-value : goal.serve-requires-clause-value
serve-requires-clause-value g c = let x = c.exchange.ensures.3 in let y = c.load.ensures.2 in let v = c.requires.value in (
  c.args.value,
  ap (λ m. m.1) x ∙ ap (λ m. (0, Some c.args.value) ∷ rest m.1) y,
  subst (λ h. g.M.Told.leads c.args.door.now.key (entries h ++ []) c.args.value) (sym (ap (λ m. m.0.seen) x ∙ ap (λ m. m.0.seen) y ∙ v.0)) v.1,
)
