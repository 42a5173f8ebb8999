use Rattle.std.proofs.Common.{◌≡◌, ◌<◌, ◌^◌, All, map}
use Rattle.replay_core.specs.Pages.{page_at}
use Rattle.replay_core.proofs.page_names.PageNames.into_pages.Given as goal

abbrev pub invariant-loop-key : goal.invariant-loop-key
invariant-loop-key l = record {
  so_far : l.pages.items ≡ map (page_at l.images) l.yielded;
  bytes : All (λ page. All (λ x. x < 2 ^ 8) page.bytes) l.pages.items;
}
