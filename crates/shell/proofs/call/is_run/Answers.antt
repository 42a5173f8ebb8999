use Rattle.std.proofs.Common.{rules, ◌≡◌, ℕ, ◌≤◌, ◌<◌, List, [], ◌∷◌, length, slice_index_or, codes, arith, sym, ◌∙◌, ap, subst}
use Rattle.shell.specs.Call.{NamesFolder}
use Rattle.shell.proofs.call.is_run.Goals as goal

two_words : (l : List (List ℕ)) (a b : List ℕ) → a ≡ slice_index_or l 0 a → b ≡ slice_index_or l 1 b → 2 ≤ length l → length l < 3 → l ≡ a ∷ b ∷ []
two_words [] a b first second some few = absurd (omega (arith, some))
two_words (x ∷ []) a b first second some few = absurd (omega (arith, some))
two_words (x ∷ y ∷ []) a b first second some few = let p : a ≡ x = first in let q : b ≡ y = second in cc
two_words (x ∷ y ∷ z ∷ l) a b first second some few = absurd (omega (arith, few))

same_words : (a b c d : List ℕ) → a ∷ b ∷ [] ≡ c ∷ d ∷ [] → b ≡ d
same_words a b c d is = cc

pub returns-then-eq : goal.returns-then-eq
returns-then-eq c =
    let words : c.args.words.now ≡ c.command-item.result ∷ c.folder-item.result ∷ [] = two_words c.args.words.now c.command-item.result c.folder-item.result c.command-item.is c.folder-item.is c.in-len2.len_at_least c.in-len2.len_below in
    let command : c.command-item.result ≡ codes "run" = search (rules, c.eq.ensures, c.if-eq.true, c.as_str.ensures) in
    let folder : c.as_bytes.result.now ≡ c.folder-item.result = c.as_bytes.ensures.value ∙ c.as_str-then-eq.ensures in (
      λ yes. (c.folder-item.result, words ∙ ap (λ (w : List ℕ). w ∷ c.folder-item.result ∷ []) command, subst NamesFolder folder (c.names_folder.ensures.0 yes)),
      λ run. c.names_folder.ensures.1 (subst NamesFolder (same_words (codes "run") run.0 c.command-item.result c.folder-item.result (sym run.1 ∙ words) ∙ sym folder) run.2),
    )
