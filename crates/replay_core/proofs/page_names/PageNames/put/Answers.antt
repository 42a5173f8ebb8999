use Rattle.std.proofs.Common.{ℕ, List, ◌||◌, ap, ◌∙◌}
use Rattle.replay_core.specs.Pages.{has_key, is_named}
use Rattle.replay_core.proofs.EntryLaws.{put_name}
use Rattle.replay_core.proofs.page_names.PageNames.put.Goals as goal

pub returns : goal.returns
returns c = λ name.
    put_name c.self.inside.keys.keys c.insert.new.self.keys c.args.key c.in_ok-insert.ensures.updates.0 name
    ∙ ap (λ (ks : List (ℕ × ℕ)). is_named c.args.key name || has_key ks name) c.self.view_is
