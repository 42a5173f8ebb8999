use Rattle.std.proofs.Common.{◌≡◌, ℕ, List, ◌||◌, ◌<◌, ◌^◌, All, map, length, get_or, sym, ap, ◌∙◌, subst}
use Rattle.std.proofs.Math.Bool.{or-false}
use Rattle.std.proofs.lemmas.List.{with_items_is}
use Rattle.std.specs.List.{list_any}
use Rattle.xor_records.specs.Replay.{PageImage, PageName, shows}
use Rattle.replay_core.specs.Pages.{IsWhole, has_key, page_at}
use Rattle.replay_core.specs.Deltas.{combined, has_delta}
use Rattle.replay_core.proofs.RestartLaws.{call_step, each_changed, pages_of, pages_whole, restart_is}
use Rattle.replay_core.proofs.restarted.combine.Goals as goal

pub par_for_each_mut-requires-after_bounds : goal.par_for_each_mut-requires-after_bounds
par_for_each_mut-requires-after_bounds g c κs within = λ i p l e.
    let images = c.args.images.now in
    let old : List PageImage = c.as_mut_slice.result.now in
    let bytes : PageImage → Type 0 = λ page. All (λ x. x < 2 ^ 8) page.bytes in
    let whole : All IsWhole old =
    subst (All IsWhole) (sym (c.as_mut_slice.ensures.value ∙ c.in_ok-pages.ensures.pages))
    (pages_whole images c.put_parts.new.self c.requires.whole) in
    let all : All bytes old = subst (All bytes) (sym c.as_mut_slice.ensures.value) c.in_ok-pages.ensures.bytes in
    (subst IsWhole (sym e) (whole i p.now l), subst bytes (sym e) (all i p.now l))

pub returns : goal.returns
returns g c = λ records a.
    let images = c.args.images.now in
    let parts = c.args.parts.now in
    let keys : List (ℕ × ℕ) = c.put_parts.new.self in
    let old : List PageImage = c.as_mut_slice.result.now in
    let new : List PageImage = c.par_for_each_mut.new.s in
    let long : length new ≡ length old = c.par_for_each_mut.auto.s in
    let names : (name : PageName)
    → has_key keys name ≡ (list_any (λ ds. has_delta ds name) parts || list_any (shows name) images) = λ name.
    c.in_ok-put_parts.ensures name ∙ ap (λ b. list_any (λ ds. has_delta ds name) parts || b)
    (c.in_ok-put_images.ensures name
    ∙ ap (λ (ks : List (ℕ × ℕ)). list_any (shows name) images || has_key ks name) c.empty-names.ensures
    ∙ or-false (list_any (shows name) images)) in
    let each : (i : ℕ) (d : PageImage) → i < length old → get_or new i d ≡ combined parts (get_or old i d) = λ i d l.
    let at = (c.par_for_each_mut.ensures i d l).1 in
    call_step (combined parts) (get_or old i d) at.argument.now at.after_call.now (get_or new i d)
    at.argument_is at.call at.left in
    let was : old ≡ c.in_ok-pages.pages.items = c.as_mut_slice.ensures.value in
    let first : old ≡ map (page_at images) keys = was ∙ c.in_ok-pages.ensures.pages in
    let pages : new ≡ pages_of images parts keys =
    each_changed (combined parts) old new long each ∙ ap (map (combined parts)) first in
    let kept : length new ≡ c.in_ok-pages.pages.len = long ∙ ap length was ∙ sym c.in_ok-pages.pages.ok.0 in
    restart_is images records parts keys _ c.requires a c.in_ok-pages.ensures.rising names
    (with_items_is c.in_ok-pages.pages new kept ∙ pages)
