use Rattle.std.proofs.Common.{◌++◌, [], ◌∷◌, List, ℕ, sym, ap, ◌∙◌, refl, append_assoc}
use Rattle.turnstile.specs.History.{entries}
use Rattle.turnstile.specs.Words.{at, history}
use Rattle.test_threads.proofs.Some.{some_same}
use Rattle.test_threads.proofs.marks.mark_two.Goals as goal

pub leave_same-requires-clause-value : goal.leave_same-requires-clause-value
leave_same-requires-clause-value g c = let e = c.enter-turn.ensures.value in let t = c.enter-turn.ensures.turnstile in let same = some_same c.value-list.result.now e.0 (sym c.value-list.ensures.value ∙ e.1) in
    (record { items = c.reserve.new.self }, refl, c.reserve.ensures.items ∙ ap (λ n. n.items.items) same ∙ e.2 ∙ ap (λ n. n.first.items.items ++ entries (history c.enter-turn.result)) (sym t))

pub leave_marks-requires-clause-value : goal.leave_marks-requires-clause-value
leave_marks-requires-clause-value g c = let e = c.enter-turn.ensures.value in let t = c.enter-turn.ensures.turnstile in let h : List (ℕ × ℕ) = entries (history c.enter-turn.result) in
    let same = some_same c.value-list.result.now e.0 (sym c.value-list.ensures.value ∙ e.1) in let k = (at c.enter-turn.result).first.items.items in let n : ℕ = c.number-number.result in
    let old = c.reserve.ensures.items ∙ ap (λ n. n.items.items) same ∙ e.2 ∙ ap (λ n. n.first.items.items ++ h) (sym t) in (
      record { items = c.push_reserved-2.new.self },
      refl,
      c.push_reserved-2.ensures.items ∙ ap (λ l. l ++ (n, c.args.two) ∷ []) (c.push_reserved.ensures.items ∙ ap (λ l. l ++ (n, c.args.one) ∷ []) old)
          ∙ append_assoc (k ++ h) ((n, c.args.one) ∷ []) ((n, c.args.two) ∷ []) ∙ append_assoc k h ((n, c.args.one) ∷ (n, c.args.two) ∷ []),
    )
