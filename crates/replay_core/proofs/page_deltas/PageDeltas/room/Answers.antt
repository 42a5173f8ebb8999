use Rattle.std.proofs.Common.{◌≡◌, ℕ, List, Vec, Global, All, ◌||◌, length, sym, ap, ◌∙◌, subst}
use Rattle.std.proofs.lemmas.Map.Views.{All-values-insert_entry}
use Rattle.std.specs.Map.{values_of}
use Rattle.replay_core.specs.Pages.{page_cmp, is_named}
use Rattle.replay_core.specs.Deltas.{PageDelta, has_delta, xor_of}
use Rattle.replay_core.specs.Views.{Entry}
use Rattle.replay_core.proofs.DeltaLaws.{length-zeros}
use Rattle.replay_core.proofs.EntryLaws.{put_has, room_xor, held, none_of}
use Rattle.replay_core.proofs.page_deltas.PageDeltas.room.Goals as goal

pub returns-then-contains_key-clause-there : goal.returns-then-contains_key-clause-there
returns-then-contains_key-clause-there c = λ name.
    let es : List Entry = c.self.inside.pages.entries in
    subst (λ (ds : List PageDelta). has_delta ds name ≡ (is_named c.args.key name || has_delta ds name)) c.self.view_is
    (held es c.args.key (sym c.contains_key.ensures ∙ c.if-contains_key.true) name)

pub invariant_of-self-2 : goal.invariant_of-self-2
invariant_of-self-2 c =
    let es : List Entry = c.self.inside.pages.entries in
    let whole : Vec ℕ Global → Type 0 = λ v. length v.items ≡ 4096 in
    subst (λ (fs : List Entry). All whole (values_of fs)) (sym c.in_ok-insert.ensures.entries)
    (All-values-insert_entry page_cmp c.args.key c.in_ok-xor.xor whole es c.self.invariant
    (ap length c.in_ok-xor.ensures ∙ length-zeros))

pub returns-clause-there : goal.returns-clause-there
returns-clause-there c = λ name.
    put_has c.self.inside.pages.entries c.insert.new.self.entries c.args.key c.in_ok-xor.xor c.in_ok-insert.ensures.updates.0 name
    ∙ ap (λ (ds : List PageDelta). is_named c.args.key name || has_delta ds name) c.self.view_is

pub returns-clause-xor : goal.returns-clause-xor
returns-clause-xor c = λ name.
    room_xor c.self.inside.pages.entries c.insert.new.self.entries c.args.key c.in_ok-xor.xor
    c.in_ok-insert.ensures.updates.0 c.in_ok-xor.ensures
    (none_of _ (sym c.contains_key.ensures ∙ c.if-contains_key.false)) name
    ∙ ap (λ (ds : List PageDelta). xor_of ds name) c.self.view_is
