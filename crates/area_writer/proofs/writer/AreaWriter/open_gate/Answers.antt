use Rattle.std.proofs.Common.{Ok, not, subst, sym}
use Rattle.area_writer.specs.Writer.{KeepsFault}
use Rattle.area_writer.specs.declared.writer.AreaWriter.{AreaWriter}
use Rattle.area_writer.specs.declared.writer.Stage.TheVariants.{Adopted}
use Rattle.area_writer.proofs.Opened.{opened_so}
use Rattle.area_writer.proofs.writer.AreaWriter.open_gate.Goals as goal

pub returns-clause-fault : goal.returns-clause-fault
returns-clause-fault g c =
    let old = c.args.self.now in
    let mid = c.open_spare.new.self in
    let new : AreaWriter g.row.D.Denot = record { spare = c.swap.new.x; other = c.swap.new.y; is_b = not mid.is_b; stage = Adopted } in
    subst (λ x. KeepsFault g.D.Disk old new x (Ok tt)) (sym c.swap.ensures.y_after) (opened_so g.D.Disk old mid new mid.spare c.in_ok-open_spare.field-0 tt c.in_ok-open_spare.ensures.fault)
