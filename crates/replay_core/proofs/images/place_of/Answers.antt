use Rattle.std.proofs.Common.{◌<◌, length, rules, arith}
use Rattle.std.proofs.lemmas.List.Sorted.{answers_always}
use Rattle.replay_core.specs.Pages.{key_of}
use Rattle.replay_core.proofs.PageLaws.{image_found, searchable, unshown}
use Rattle.replay_core.proofs.images.place_of.Goals as goal

pub returns-in-Ok-clause-found : goal.returns-in-Ok-clause-found
returns-in-Ok-clause-found c = λ d.
    let position = c.in-Ok.ensures.position key_of (answers_always _ _ _ (λ f a r q k. search rules)) in
    let within : c.in-Ok.place < length c.args.images.now = search (rules, c.in-Ok.ensures.bound) in
    image_found c.args.images.now c.args.key c.in-Ok.place d c.requires within (position d)

pub returns-in-Err-clause-none : goal.returns-in-Err-clause-none
returns-in-Err-clause-none c =
    let position = c.in-Err.ensures.position key_of (answers_always _ _ _ (λ f a r q k. search rules)) in
    let parts = position (searchable c.args.images.now c.args.key c.requires) in
    unshown c.args.images.now c.args.key c.in-Err.field-0 (λ k d l. parts.0 k d (omega arith) l) parts.1
