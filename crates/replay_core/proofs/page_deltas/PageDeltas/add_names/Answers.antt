use Rattle.std.proofs.Common.{◌≡◌, List, ◌||◌, map, ap, ◌∙◌, rules}
use Rattle.std.specs.Map.{keys_of}
use Rattle.std.specs.Map.Iter.{deref}
use Rattle.std.proofs.lemmas.Map.Iter.{iter_end}
use Rattle.replay_core.specs.Pages.{has_key}
use Rattle.replay_core.specs.Deltas.{PageDelta, has_delta}
use Rattle.replay_core.specs.Views.{Entry}
use Rattle.replay_core.proofs.EntryLaws.{entry_names}
use Rattle.replay_core.proofs.page_deltas.PageDeltas.add_names.Goals as goal

pub returns : goal.returns
returns c = λ name.
    let es : List Entry = c.self.inside.pages.entries in
    let all : map deref c.loop-key.yielded ≡ keys_of es = search (rules, iter_end) in
    c.loop-key.invariant name
    ∙ ap (λ b. b || has_key c.args.names.now name)
    (ap (λ ks. has_key ks name) all ∙ entry_names es name ∙ ap (λ (ds : List PageDelta). has_delta ds name) c.self.view_is)
