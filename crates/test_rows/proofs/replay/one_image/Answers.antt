use Rattle.std.proofs.Common.{[], ◌∷◌, ◌++◌, length, sym, ap, ◌∙◌, subst}
use Rattle.xor_records.specs.Replay.{PageImage}
use Rattle.replay_core.specs.Pages.{AreImages}
use Rattle.test_rows.proofs.OneImage.{one}
use Rattle.test_rows.proofs.replay.one_image.Goals as goal

pub returns : goal.returns
returns c =
    subst AreImages (sym (c.in_ok-push.ensures.items ∙ ap (λ xs. xs ++ c.new.result ∷ []) c.new-images.ensures.items))
    (one c.new.result (ap (λ (x : PageImage). length x.bytes) c.new.ensures ∙ c.in_ok-bytes.ensures))
