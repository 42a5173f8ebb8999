use Rattle.std.proofs.Common.{◌≡◌, ℕ, List, Some, None, ◌<◌, ◌^◌, All, sym, ap, ◌∙◌, subst}
use Rattle.fields.specs.Toggle.{byte_at, toggled}
use Rattle.xor_records.specs.Replay.{PageImage, zeros}
use Rattle.replay_core.specs.Pages.{key_of, name_of}
use Rattle.replay_core.specs.Deltas.{PageDelta, xor_of}
use Rattle.replay_core.specs.Views.{Entry}
use Rattle.replay_core.proofs.DeltaLaws.{zeros_lt, toggled_by_zeros}
use Rattle.replay_core.proofs.EntryLaws.{found, xor_at, xor_found}
use Rattle.replay_core.proofs.page_deltas.PageDeltas.toggle.Goals as goal

pub returns-in_default-clause-toggled : goal.returns-in_default-clause-toggled
returns-in_default-clause-toggled c =
    let es : List Entry = c.self.inside.pages.entries in
    let page : PageImage = c.args.page.now in
    let name = name_of (key_of page) in
    let none : xor_of c.args.self.now name ≡ zeros =
    ap (λ (ds : List PageDelta). xor_of ds name) (sym c.self.view_is) ∙ xor_found es name
    ∙ ap xor_at (subst (λ k. found es k ≡ None) c.key_of.ensures (sym c.in_default.ensures.value)) in
    ap {B = PageImage} (λ (b : List ℕ). record page { bytes = b })
    (toggled_by_zeros page.bytes (xor_of c.args.self.now name) none)

pub returns-in_default-clause-bytes : goal.returns-in_default-clause-bytes
returns-in_default-clause-bytes c =
    let es : List Entry = c.self.inside.pages.entries in
    let name = name_of (key_of c.args.page.now) in
    let none : xor_of c.args.self.now name ≡ zeros =
    ap (λ (ds : List PageDelta). xor_of ds name) (sym c.self.view_is) ∙ xor_found es name
    ∙ ap xor_at (subst (λ k. found es k ≡ None) c.key_of.ensures (sym c.in_default.ensures.value)) in
    subst (All (λ x. x < 2 ^ 8)) (sym none) zeros_lt

pub returns-clause-toggled : goal.returns-clause-toggled
returns-clause-toggled c =
    let es : List Entry = c.self.inside.pages.entries in
    let page : PageImage = c.args.page.now in
    let name = name_of (key_of page) in
    let is : xor_of c.args.self.now name ≡ c.in-Some.xor.now.items =
    ap (λ (ds : List PageDelta). xor_of ds name) (sym c.self.view_is) ∙ xor_found es name
    ∙ ap xor_at (subst (λ k. found es k ≡ Some c.in-Some.xor.now) c.key_of.ensures (sym c.in-Some.ensures.value)) in
    c.toggle_all.ensures.toggled
    ∙ ap {B = PageImage} (λ (x : List ℕ). record page { bytes = toggled byte_at page.bytes x }) (c.deref.ensures.value ∙ sym is)

pub returns-clause-bytes : goal.returns-clause-bytes
returns-clause-bytes c =
    let es : List Entry = c.self.inside.pages.entries in
    let name = name_of (key_of c.args.page.now) in
    let is : xor_of c.args.self.now name ≡ c.in-Some.xor.now.items =
    ap (λ (ds : List PageDelta). xor_of ds name) (sym c.self.view_is) ∙ xor_found es name
    ∙ ap xor_at (subst (λ k. found es k ≡ Some c.in-Some.xor.now) c.key_of.ensures (sym c.in-Some.ensures.value)) in
    subst (All (λ x. x < 2 ^ 8)) (c.deref.ensures.value ∙ sym is) c.toggle_all.ensures.bytes
