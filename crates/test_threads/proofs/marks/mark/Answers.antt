use Rattle.std.proofs.Common.{◌++◌, [], ◌∷◌, List, ℕ, sym, ap, ◌∙◌, refl, append_assoc}
use Rattle.std.specs.Prelude.{if◌then◌else◌}
use Rattle.turnstile.specs.History.{entries}
use Rattle.turnstile.specs.Words.{at, history}
use Rattle.test_threads.proofs.Some.{some_same}
use Rattle.test_threads.proofs.marks.mark.Goals as goal

pub leave_same-requires-clause-value : goal.leave_same-requires-clause-value
leave_same-requires-clause-value g c = let e = c.enter-turn.ensures.value in let t = c.enter-turn.ensures.turnstile in let v : List (ℕ × ℕ) = c.value.result.now.items.items in
    let same = some_same c.value.result.now e.0 (sym c.value.ensures.value ∙ e.1) in (
      record { items = c.push.new.self },
      refl,
      c.push.ensures.items ∙ ap (λ b. if b then (v ++ (c.number-number.result, c.args.what) ∷ []) else v) c.if-is_err.ensures.negation ∙ ap (λ n. n.items.items) same ∙ e.2
          ∙ ap (λ n. n.first.items.items ++ entries (history c.enter-turn.result)) (sym t),
    )

pub leave_mark-requires-clause-value : goal.leave_mark-requires-clause-value
leave_mark-requires-clause-value g c = let e = c.enter-turn.ensures.value in let t = c.enter-turn.ensures.turnstile in let v : List (ℕ × ℕ) = c.value.result.now.items.items in
    let same = some_same c.value.result.now e.0 (sym c.value.ensures.value ∙ e.1) in let h : List (ℕ × ℕ) = entries (history c.enter-turn.result) in (
      record { items = c.push.new.self },
      refl,
      c.push.ensures.items ∙ ap (λ b. if b then (v ++ (c.number-number.result, c.args.what) ∷ []) else v) c.if-is_err.ensures.negation
          ∙ ap (λ l. l ++ (c.number-number.result, c.args.what) ∷ []) (ap (λ n. n.items.items) same ∙ e.2 ∙ ap (λ n. n.first.items.items ++ h) (sym t))
          ∙ append_assoc (at c.enter-turn.result).first.items.items h ((c.number-number.result, c.args.what) ∷ []),
    )
