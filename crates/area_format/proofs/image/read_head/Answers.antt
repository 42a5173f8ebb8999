use Rattle.std.proofs.Common.{◌≡◌, length, take, drop, ◌∙◌, ap, arith}
use Rattle.std.proofs.lemmas.Grind.{common_steps}
use Rattle.fields.specs.Fields.{bytes_at}
use Rattle.area_format.specs.Places.{image_place}
use Rattle.area_format.proofs.Fronts.{for_some}
use Rattle.area_format.proofs.Images.{head_read, head_of}
use Rattle.area_format.proofs.image.read_head.Goals as goal

pub returns-clause-head : goal.returns-clause-head
returns-clause-head g c = λ bytes known.
    let text = c.read_at.new.into in
    let len : length text ≡ 14 = grind (arith, common_steps) in
    let place : c.place_of.result ≡ image_place bytes c.args.k = omega (arith, c.place_of.ensures, c.requires.place bytes known) in
    let found = for_some (g.D.Disk.content c.args.disk.now) _ c.in_ok-read_at.ensures.bytes bytes known in
    let is : text ≡ bytes_at (image_place bytes c.args.k) 14 bytes = found ∙ ap (λ n. take n (drop c.place_of.result bytes)) len ∙ ap (λ n. take 14 (drop n bytes)) place in
    head_of c.get_u16.result c.get_u32.result c.get_u64.result text c.get_u16.ensures c.get_u32.ensures c.get_u64.ensures ∙ head_read bytes text c.args.k is
