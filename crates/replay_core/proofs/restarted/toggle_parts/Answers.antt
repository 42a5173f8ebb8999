use Rattle.std.proofs.Common.{ℕ, List, [], ◌∷◌, ◌++◌, ◌<◌, ◌^◌, All, map, take, length, sym, ap, ◌∙◌, subst}
use Rattle.std.proofs.lemmas.List.{map_more}
use Rattle.fields.specs.Toggle.{byte_at, toggled}
use Rattle.fields.proofs.ToggleLaws.{length-toggled}
use Rattle.xor_records.specs.Parity.{flipped}
use Rattle.xor_records.specs.Replay.{PageImage}
use Rattle.xor_records.proofs.ParityLaws.{flipped_none, flipped_push}
use Rattle.replay_core.specs.Pages.{key_of, name_of}
use Rattle.replay_core.specs.Deltas.{PageDelta, xor_of, combined}
use Rattle.replay_core.proofs.DeltaLaws.{byte_lt_at}
use Rattle.replay_core.proofs.restarted.toggle_parts.Goals as goal

pub loop-part-init : goal.loop-part-init
loop-part-init c =
    let page : PageImage = c.args.page.now in
    record {
      so_far = ap {B = PageImage} (λ (b : List ℕ). record page { bytes = b })
          (sym (flipped_none byte_at page.bytes c.requires.bytes));
      whole = c.requires.whole;
    }

pub loop-part-preserved : goal.loop-part-preserved
loop-part-preserved c =
    let page : PageImage = c.args.page.now in
    let now : PageImage = c.loop-part.page in
    let parts = c.args.parts.now in
    let i = c.loop-part.part-index in
    let part : List PageDelta = c.part-item.result in
    let before : PageImage = combined (take i parts) page in
    let f : List PageDelta → List ℕ = λ ds. xor_of ds (name_of (key_of page)) in
    let xors = map f (take i parts) in
    let once : PageImage → PageImage = λ p. record p { bytes = toggled byte_at p.bytes (xor_of part (name_of (key_of p))) } in
    let bytes : All (λ x. x < 2 ^ 8) (f part) =
    subst (λ (p : PageImage). All (λ x. x < 2 ^ 8)
    (xor_of part (name_of (key_of p)))) c.loop-part.invariant.so_far c.toggle.ensures.bytes in
    record {
      so_far = c.toggle.ensures.toggled ∙ ap once c.loop-part.invariant.so_far
          ∙ ap {B = PageImage} (λ (b : List ℕ). record page { bytes = b })
          (sym (flipped_push byte_at page.bytes xors (f part) (λ j. byte_lt_at (f part) j bytes))
          ∙ ap (flipped byte_at page.bytes)
          (ap (λ d. xors ++ f d ∷ []) c.part-item.is ∙ sym (map_more f parts i part c.loop-part-test.true)));
      whole = ap (λ (p : PageImage). length p.bytes) c.toggle.ensures.toggled
          ∙ length-toggled byte_at now.bytes (xor_of part (name_of (key_of now))) ∙ c.loop-part.invariant.whole;
    }
