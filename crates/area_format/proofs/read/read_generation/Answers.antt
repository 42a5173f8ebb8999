use Rattle.std.proofs.Common.{◌≡◌, length, min, take, sym, ◌∙◌, ap, subst, arith}
use Rattle.std.proofs.lemmas.Grind.{common_steps}
use Rattle.area_format.specs.Area.{IsOpen}
use Rattle.area_format.specs.Places.{u64_at}
use Rattle.area_format.specs.AreaRead.{start_fault}
use Rattle.area_format.proofs.Fronts.{for_some, front_read, generation_of, opens, start_of}
use Rattle.area_format.proofs.read.read_generation.Goals as goal

pub returns-in-Some-clause-generation : goal.returns-in-Some-clause-generation
returns-in-Some-clause-generation g c = λ bytes known.
    let front = c.read_at.new.into in
    let len : length front ≡ min c.in_ok-size.size 11 = grind (arith, common_steps) in
    let size = for_some (g.D.Disk.content c.args.disk.now) _ c.in_ok-size.ensures.size bytes known in
    let found = for_some (g.D.Disk.content c.size.new.self) _ c.in_ok-read_at.ensures.bytes bytes (c.size.ensures.same ∙ known) in
    let is : front ≡ take 11 bytes = front_read 11 c.in_ok-size.size front bytes found len size in
    let open_gate : IsOpen front = grind (arith, common_steps) in (
      opens 11 bytes (omega arith) (subst IsOpen is open_gate),
      sym (start_of 11 bytes (omega arith)) ∙ ap start_fault (sym is) ∙ sym c.start_fault.ensures.fault ∙ c.in-Some.is,
    )

pub returns-in-None-clause-generation : goal.returns-in-None-clause-generation
returns-in-None-clause-generation g c = λ bytes known.
    let front = c.read_at.new.into in
    let len : length front ≡ min c.in_ok-size.size 11 = grind (arith, common_steps) in
    let size = for_some (g.D.Disk.content c.args.disk.now) _ c.in_ok-size.ensures.size bytes known in
    let found = for_some (g.D.Disk.content c.size.new.self) _ c.in_ok-read_at.ensures.bytes bytes (c.size.ensures.same ∙ known) in
    let is : front ≡ take 11 bytes = front_read 11 c.in_ok-size.size front bytes found len size in
    let open_gate : IsOpen front = grind (arith, common_steps) in (
      opens 11 bytes (omega arith) (subst IsOpen is open_gate),
      sym (start_of 11 bytes (omega arith)) ∙ ap start_fault (sym is) ∙ sym c.start_fault.ensures.fault ∙ c.in-None.is,
      c.generation_at.ensures ∙ ap (u64_at 3) is ∙ generation_of 11 bytes (omega arith),
    )
