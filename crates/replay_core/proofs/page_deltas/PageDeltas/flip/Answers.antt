use Rattle.std.proofs.Common.{◌≡◌, ℕ, List, Vec, Global, is_some, IsSome, All, map, cond, length, sym, ap, ◌∙◌, subst, rules}
use Rattle.std.proofs.lemmas.List.{with_items_is}
use Rattle.std.proofs.lemmas.Map.Views.{All-values-set_value}
use Rattle.std.specs.BTreeMap.{is_at}
use Rattle.std.specs.Map.{values_of}
use Rattle.std.specs.Vec.{with_items}
use Rattle.fields.specs.Toggle.{byte_from, toggled}
use Rattle.fields.proofs.ToggleLaws.{length-toggled}
use Rattle.replay_core.specs.Pages.{page_cmp, name_of, is_named}
use Rattle.replay_core.specs.Deltas.{PageDelta, has_delta, xor_of}
use Rattle.replay_core.specs.Views.{Entry, delta_at}
use Rattle.replay_core.proofs.PageLaws.{true_not}
use Rattle.replay_core.proofs.EntryLaws.{found, flip_has, flip_xor, has_found}
use Rattle.replay_core.proofs.page_deltas.PageDeltas.flip.Goals as goal

pub returns-in_default-clause-xor : goal.returns-in_default-clause-xor
returns-in_default-clause-xor c =
    let es : List Entry = c.self.inside.pages.entries in
    let there = ap (λ (ds : List PageDelta). has_delta ds (name_of c.args.key)) c.self.view_is ∙ c.requires.there in
    absurd (true_not (sym there ∙ has_found es (name_of c.args.key) ∙ ap is_some (sym c.in_default.ensures.value)))

pub invariant_of-self-2 : goal.invariant_of-self-2
invariant_of-self-2 c =
    let es : List Entry = c.self.inside.pages.entries in
    let old : Vec ℕ Global = c.in-Some.page.now in
    let new : Vec ℕ Global = with_items old c.toggle.new.bytes in
    let whole : Vec ℕ Global → Type 0 = λ v. length v.items ≡ 4096 in
    let h = c.get_mut.follows.holds new in
    let had : length old.items ≡ 4096 = search rules in
    let long : length c.toggle.new.bytes ≡ length old.items =
    ap length c.toggle.ensures ∙ length-toggled (byte_from c.args.offset) c.deref_mut.result.now c.args.xor.now
    ∙ ap length c.deref_mut.ensures.value in
    subst (λ (fs : List Entry). All whole (values_of fs)) (sym h.0)
    (All-values-set_value (is_at (page_cmp c.args.key)) whole es new c.self.invariant
    (ap length (with_items_is old c.toggle.new.bytes (long ∙ sym old.ok.0)) ∙ long ∙ had))

pub returns-clause-there : goal.returns-clause-there
returns-clause-there c = λ name.
    let es : List Entry = c.self.inside.pages.entries in
    let new : Vec ℕ Global = with_items c.in-Some.page.now c.toggle.new.bytes in
    let h = c.get_mut.follows.holds new in
    let some : IsSome (found es c.args.key) = search (rules, c.in-Some.ensures.value) in
    let fs : List Entry = (c.get_mut.follows.lender new).entries in
    flip_has es fs c.args.key c.in-Some.page.now new (h.3 some).0 (sym c.in-Some.ensures.value) name
    ∙ ap (λ (ds : List PageDelta). has_delta ds name) c.self.view_is

pub returns-clause-xor : goal.returns-clause-xor
returns-clause-xor c = λ name.
    let es : List Entry = c.self.inside.pages.entries in
    let old : Vec ℕ Global = c.in-Some.page.now in
    let new : Vec ℕ Global = with_items old c.toggle.new.bytes in
    let h = c.get_mut.follows.holds new in
    let some : IsSome (found es c.args.key) = search (rules, c.in-Some.ensures.value) in
    let fs : List Entry = (c.get_mut.follows.lender new).entries in
    let f : List ℕ → List ℕ = λ bytes. toggled (byte_from c.args.offset) bytes c.args.xor.now in
    let is : c.toggle.new.bytes ≡ f old.items = c.toggle.ensures ∙ ap f c.deref_mut.ensures.value in
    let long : length c.toggle.new.bytes ≡ old.len =
    ap length is ∙ length-toggled (byte_from c.args.offset) old.items c.args.xor.now ∙ sym old.ok.0 in
    subst (λ (ds : List PageDelta). xor_of (map delta_at fs) name
    ≡ cond (is_named c.args.key name) (f (xor_of ds name)) (xor_of ds name)) c.self.view_is
    (flip_xor es fs c.args.key old new f (h.3 some).0 (sym c.in-Some.ensures.value)
    (with_items_is old c.toggle.new.bytes long ∙ is) name)
