-- What a change of the entries alone leaves as it was.
use Rattle.std.proofs.Common.{◌≡◌, ℕ, ◌-◌, ◌<◌, List, get_or, sym, ap, ◌∙◌, arith, eqb, cond, Option, None, Some, get_or-take}
use Rattle.olfit_nodes.specs.declared.head.Link.{Link}
use Rattle.olfit_nodes.specs.Nodes.{number_of, low_of, right_of, SameFrame}

pub same_word : (old new : List ℕ) (k : ℕ) → SameFrame old new → k < 6 → get_or new k 0 ≡ get_or old k 0
same_word old new k f h = sym (get_or-take 6 new k 0 h) ∙ (ap (λ (xs : List ℕ). get_or xs k 0) f.head ∙ get_or-take 6 old k 0 h)

pub same_low : (old new : List ℕ) → SameFrame old new → low_of new ≡ low_of old
same_low old new f = λ j. number_of (same_word old new 1 f (omega arith) j) (same_word old new 2 f (omega arith) j)

abbrev shown : ℕ → ℕ → ℕ → Option Link
shown high low next = cond (eqb next 0) None (Some record { key = number_of high low; node = next - 1 })

pub same_right : (old new : List ℕ) → SameFrame old new → right_of new ≡ right_of old
same_right old new f = λ j. shown (same_word old new 3 f (omega arith) j) (same_word old new 4 f (omega arith) j) (same_word old new 5 f (omega arith) j)
