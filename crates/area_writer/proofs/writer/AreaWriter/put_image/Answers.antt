use Rattle.std.proofs.Common.{◌≡◌, ◌+◌, ◌-◌, ◌++◌, List, ℕ, length, ⊎_elim, sym, ◌∙◌, ap, subst, arith}
use Rattle.std.specs.Option.{ForSome}
use Rattle.area_format.specs.Area.{Image}
use Rattle.area_writer.specs.Put.{HasText, text_so_far, with_image}
use Rattle.area_writer.specs.declared.writer.Stage.TheVariants.{Filling}
use Rattle.area_writer.proofs.Behind.{has_room, image_so_far, length-so_far}
use Rattle.area_writer.proofs.Told.{at_done}
use Rattle.area_writer.proofs.writer.AreaWriter.put_image.Goals as goal

pub put_behind-done-requires-clause-inside : goal.put_behind-done-requires-clause-inside
put_behind-done-requires-clause-inside g c = λ x told. ⊎_elim
    (λ filling.
    let is = filling.2 in
    let stage : Filling (filling.1 + 1) is.at ≡ Filling c.in-Filling.left c.in-Filling.at = sym is.stage ∙ c.in-Filling.is in
    let same : is.at ≡ c.in-Filling.at = cc in
    has_room (text_so_far filling.0 (filling.1 + 1)) x c.in-Filling.at (sym same ∙ is.place) (is.file x told))
    (λ failed. absurd (let both = sym failed.1 ∙ c.in-Filling.is in cc))
    c.requires.filling

pub returns-clause-filling : goal.returns-clause-filling
returns-clause-filling g c = at_done _ _ c.put_behind-done.result c.finish.result c.put_behind-done.ensures.text c.finish.ensures.ok c.finish.ensures.err (λ put ok.
    λ area left is.
    let content = g.D.Disk.content in
    let image : Image = record { head = c.args.head.now; bytes = c.args.bytes.now } in
    let at = c.in-Filling.at in
    let before = text_so_far area (left + 1) in
    let mid = c.put_behind-done.new.disk in
    let stage : Filling (left + 1) is.at ≡ Filling c.in-Filling.left at = sym is.stage ∙ c.in-Filling.is in
    let same : is.at ≡ at = cc in
    let same_left : left + 1 ≡ c.in-Filling.left = cc in
    let one_less : c.in-Filling.left - 1 ≡ left = omega (arith, same_left) in
    let place : at ≡ 1 + length before = sym same ∙ is.place in
    let spelled : before ++ c.lay_image.new.into ≡ text_so_far (with_image area image) left = ap (λ (l : List ℕ). before ++ l) c.lay_image.ensures ∙ image_so_far area image left in
    let file = subst (λ (l : List ℕ). ForSome (content mid) (HasText l)) spelled (put before place is.file) in
    record {
      at = at + 4110;
      stage = ok.1 ∙ ap (λ (n : ℕ). Filling n (at + 4110)) one_less;
      place = length-so_far area image left at c.requires.page place;
      near = omega (arith, same, is.near);
      file = subst (λ disk. ForSome (content disk) (HasText (text_so_far (with_image area image) left))) (sym c.finish.ensures.spare) file;
    })
