use Rattle.std.proofs.Common.{ℕ, List, ◌<◌, ◌^◌, All, sym, ap₂, ◌∙◌, subst}
use Rattle.xor_records.specs.Replay.{PageImage}
use Rattle.replay_core.specs.Pages.{name_of}
use Rattle.replay_core.proofs.PageLaws.{stamp_absent, bytes_absent}
use Rattle.replay_core.proofs.DeltaLaws.{zeros_lt}
use Rattle.replay_core.proofs.page_names.page_at.Goals as goal

pub returns-in_default-clause-page : goal.returns-in_default-clause-page
returns-in_default-clause-page c =
    let images = c.args.images.now in
    let name = name_of c.args.key in
    c.new.ensures
    ∙ ap₂ {C = PageImage}
    (λ (s : ℕ) (b : List ℕ). record { table = c.args.key.0; page = c.args.key.1; stamp = s; bytes = b })
    (sym (stamp_absent images name c.in_default.ensures.none))
    (c.in_ok-zeros.ensures ∙ sym (bytes_absent images name c.in_default.ensures.none))

pub returns-in_default-clause-bytes : goal.returns-in_default-clause-bytes
returns-in_default-clause-bytes c =
    subst (λ (p : PageImage). All (λ x. x < 2 ^ 8) p.bytes) (sym c.new.ensures)
    (subst (All (λ x. x < 2 ^ 8)) (sym c.in_ok-zeros.ensures) zeros_lt)

pub returns-clause-bytes : goal.returns-clause-bytes
returns-clause-bytes c =
    subst (λ (p : PageImage). All (λ x. x < 2 ^ 8) p.bytes) (sym c.new-2.ensures)
    (subst (All (λ x. x < 2 ^ 8)) (sym c.in_ok-bytes.ensures.same) c.in_ok-bytes.ensures.bytes)
