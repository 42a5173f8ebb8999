use Rattle.std.proofs.Common.{◌≡◌, ◌+◌, List, [], ◌∷◌, ◌++◌, length, Some, append_assoc, refl, sym, ◌∙◌, ap, arith}
use Rattle.std.proofs.lemmas.List.{length-append}
use Rattle.plain_model.specs.declared.reply.Reply.{Reply}
use Rattle.section_runs.specs.declared.section.ReadySection.{ReadySection}
use Rattle.shell.specs.Ready.{numbered}
use Rattle.shell.proofs.ReadyLaws.{numbered-push}
use Rattle.shell.proofs.ready.add_sessions.Goals as goal

pub loop-session-preserved : goal.loop-session-preserved
loop-session-preserved c =
    let now = c.loop-session in
    let session = c.in-Some.session in
    let Ready : List Reply → ReadySection = λ leads. record { number = Some now.number; leads = leads; blocks = session.blocks } in
    let start = c.args.sections.now.items in
    let before = numbered 1 now.yielded in
    let pushed : c.push.new.self.items ≡ now.sections.items ++ Ready c.new.result ∷ [] = c.in_ok-push.ensures.items in
    let with_none : now.sections.items ++ Ready c.new.result ∷ [] ≡ now.sections.items ++ Ready [] ∷ [] = ap (λ (l : List Reply). now.sections.items ++ Ready l ∷ []) c.new.ensures in
    let so_far : now.sections.items ++ Ready [] ∷ [] ≡ (start ++ before) ++ Ready [] ∷ [] = ap (λ (l : List ReadySection). l ++ Ready [] ∷ []) now.invariant.2 in
    let one_more : before ++ Ready [] ∷ [] ≡ numbered 1 (now.yielded ++ session ∷ []) = sym (numbered-push 1 now.yielded session now.number now.invariant.3) in (
      tt,
      tt,
      pushed ∙ with_none ∙ so_far ∙ append_assoc start before (Ready [] ∷ []) ∙ ap (λ (l : List ReadySection). start ++ l) one_more,
      omega (arith, now.invariant.3, length-append now.yielded (session ∷ [])),
    )
