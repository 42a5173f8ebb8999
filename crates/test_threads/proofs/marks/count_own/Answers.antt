use Rattle.std.proofs.Common.{◌≡◌, ◌++◌, ℕ, sym, ap, ◌∙◌, refl, length, rules, ◌==◌}
use Rattle.std.specs.Prelude.{count_by}
use Rattle.turnstile.specs.History.{entries}
use Rattle.turnstile.specs.Words.{history, pass_of}
use Rattle.turnstile.specs.Passes.{number}
use Rattle.test_threads.proofs.Own.{own_count}
use Rattle.test_threads.proofs.Some.{some_same}
use Rattle.test_threads.proofs.marks.count_own.Goals as goal

pub leave_same-requires-clause-value : goal.leave_same-requires-clause-value
leave_same-requires-clause-value g c = let e = c.enter-turn.ensures.value in let same = some_same e.0 c.value.result.now (sym e.1 ∙ c.value.ensures.value) in
    (c.value.result.now, refl, ap (λ n. n.items.items) (sym same) ∙ e.2 ∙ ap (λ n. n.first.items.items ++ entries (history c.enter-turn.result)) (sym c.enter-turn.ensures.turnstile))

pub returns-clause-own : goal.returns-clause-own
returns-clause-own g c = let e = c.enter-turn.ensures.value in let same = some_same e.0 c.value.result.now (sym e.1 ∙ c.value.ensures.value) in let p = c.enter-turn.ensures.pass in
    let h = history c.enter-turn.result in let n : ℕ = number (pass_of c.enter-turn.result) in
    let num : c.number-number.result ≡ n = c.number-number.ensures ∙ sym p.1.0 in
    let list : c.as_slice.result.now ≡ entries h = c.as_slice.ensures.value ∙ ap (λ m. m.items.items) (sym same) ∙ e.2 ∙ ap (λ l. l ++ entries h) c.requires.empty in
    (search rules, c.count_of-found.ensures ∙ (λ k. count_by (λ (x : ℕ × ℕ). x.0 == num k) (list k)) ∙ own_count n h c.enter-turn.ensures.owned ∙ ap (λ l. length l) (p.0.knows ∙ p.1.1))
