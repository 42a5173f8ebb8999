use Rattle.std.proofs.Common.{◌≡◌, List, [], ◌∷◌, ◌++◌, ◌<◌, ◌^◌, All, sym, ap₂, ◌∙◌, subst}
use Rattle.std.proofs.lemmas.List.{map-append}
use Rattle.std.proofs.lemmas.List.Elements.{All-push}
use Rattle.xor_records.specs.Replay.{PageImage}
use Rattle.replay_core.specs.Pages.{page_at}
use Rattle.replay_core.proofs.page_names.PageNames.into_pages.Goals as goal

pub loop-key-preserved : goal.loop-key-preserved
loop-key-preserved c =
    let images = c.args.images.now in
    let pages : List PageImage = c.loop-key.pages.items in
    let page : PageImage = c.in_ok-page_at.field-0 in
    let pushed : c.push.new.self.items ≡ pages ++ page ∷ [] = c.in_ok-push.ensures.items in
    let bytes : PageImage → Type 0 = λ p. All (λ x. x < 2 ^ 8) p.bytes in
    record {
      so_far = pushed ∙ ap₂ (λ xs x. xs ++ x ∷ []) c.loop-key.invariant.so_far c.in_ok-page_at.ensures.page
          ∙ sym (map-append (page_at images) c.loop-key.yielded (c.in-Some.key ∷ []));
      bytes = subst (All bytes) (sym pushed)
          (All-push bytes pages page c.loop-key.invariant.bytes c.in_ok-page_at.ensures.bytes);
    }
