use Rattle.std.proofs.Common.{◌≡◌, ◌+◌, length, take, drop, sym, ◌∙◌, ap, true, Some, arith}
use Rattle.std.proofs.lemmas.Grind.{common_steps}
use Rattle.area_format.specs.AreaRead.{is_image_at}
use Rattle.area_format.specs.Places.{image_place}
use Rattle.area_format.proofs.Fronts.{for_some}
use Rattle.area_format.proofs.Images.{inside, image_fine, image_refused}
use Rattle.area_format.proofs.image.read_image.Goals as goal

pub read_images_place-requires : goal.read_images_place-requires
read_images_place-requires g c = λ bytes known.
    let first = inside bytes c.args.header.now (c.requires.header bytes known) 0 (omega arith) in
    omega (arith, first)

pub read_head-requires-clause-inside : goal.read_head-requires-clause-inside
read_head-requires-clause-inside g c = λ bytes known.
    let here = sym c.read_images_place.ensures.only_reads.same ∙ known in
    inside bytes c.args.header.now (c.requires.header bytes here) (c.args.k + 1) (omega (arith, c.requires.inside))

pub is_fine-requires-clause-header : goal.is_fine-requires-clause-header
is_fine-requires-clause-header g c = λ bytes known.
    c.requires.header bytes (sym (c.read_head.ensures.only_reads.same ∙ c.read_images_place.ensures.only_reads.same) ∙ known)

pub returns-then-not-branch-clause-image : goal.returns-then-not-branch-clause-image
returns-then-not-branch-clause-image g c = λ bytes known.
    let second = c.read_head.ensures.only_reads.same ∙ c.read_images_place.ensures.only_reads.same ∙ known in
    let place : c.place_of.result ≡ image_place bytes c.args.k = omega (arith, c.place_of.ensures, c.in_ok-images.ensures.place bytes known) in
    image_refused bytes c.args.k (sym (c.in_ok-is_fine.ensures.fine bytes second) ∙ c.if-not-branch.true) ∙ ap Some (sym place)

pub read_at-requires : goal.read_at-requires
read_at-requires g c = λ bytes known.
    let here = sym (c.is_fine.ensures.only_reads.same ∙ c.read_head.ensures.only_reads.same ∙ c.read_images_place.ensures.only_reads.same) ∙ known in
    let next = inside bytes c.args.header.now (c.requires.header bytes here) (c.args.k + 1) (omega (arith, c.requires.inside)) in
    omega (arith, next, c.place_of-2.ensures, c.in_ok-images.ensures.place bytes here, c.requires.page)

pub returns-clause-image : goal.returns-clause-image
returns-clause-image g c = λ bytes known.
    let first = c.read_images_place.ensures.only_reads.same ∙ known in
    let second = c.read_head.ensures.only_reads.same ∙ first in
    let third = c.is_fine.ensures.only_reads.same ∙ second in
    let fine : is_image_at bytes c.args.k ≡ true = sym (c.in_ok-is_fine.ensures.fine bytes second) ∙ c.if-not-branch.false in
    let found = for_some (g.D.Disk.content c.is_fine.new.disk) _ c.in_ok-read_at.ensures.bytes bytes third in
    let len : length c.read_at.new.into ≡ 4096 = grind (arith, common_steps, c.requires.page) in
    let place : c.place_of-2.result + 14 ≡ image_place bytes c.args.k + 14 = omega (arith, c.place_of-2.ensures, c.in_ok-images.ensures.place bytes known) in (
      image_fine bytes c.args.k fine,
      (
        c.in_ok-head.ensures.head bytes first,
        found ∙ ap (λ n. take n (drop (c.place_of-2.result + 14) bytes)) len ∙ ap (λ n. take 4096 (drop n bytes)) place,
      ),
    )
