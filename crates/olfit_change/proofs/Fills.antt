-- The words of a node to which no link leads are replaced.
use Rattle.std.proofs.Common.{◌≡◌, ◌≢◌, ℕ, ◌+◌, ◌<◌, List, [], length, sym, ap, ◌∙◌, subst, append-nil}
use Rattle.std.specs.Prelude.{slice_index}
use Rattle.std.specs.Option.{ForSome}
use Rattle.olfit_nodes.specs.declared.head.Link.{Link}
use Rattle.olfit_nodes.specs.Nodes.{Entry, level_of, low_of, right_of}
use Rattle.olfit_rule.specs.declared.view.Moment.{Moment}
use Rattle.olfit_rule.specs.Maps.{map_of, IsLegal}
use Rattle.olfit_rule.specs.Tree.{node_of, version, Good, Lasts, IsAt, Covers, linked_to}
use Rattle.olfit_rule.specs.Rule.{rewritten}
use Rattle.olfit_change.proofs.Words.{right_renewed, level_renewed}
use Rattle.olfit_change.proofs.Kept.{covers_by, node_kept, says_same}
use Rattle.olfit_change.proofs.Rewrites.{node_there, size, linked_still}

module _ (base : List Entry) (t : Moment) (n : ℕ) (ws : List ℕ) (good : Good base t) (within : n < length t.image) (free : (l : ℕ) → IsAt t l n → ⊥)
    (right : ForSome (right_of ws) (λ (link : Link). IsAt t (level_of ws) link.node)) where
  abbrev u : Moment
  u = rewritten n ws [] t

  pub levels_filled : u.levels ≡ t.levels
  levels_filled = (λ j. linked_to t.levels (level_renewed ws (version t.image n + 2) j) (right_renewed ws (version t.image n + 2) j)) ∙ linked_still t (level_of ws) (right_of ws) right

  pub at_filled : (l j : ℕ) → IsAt t l j → IsAt u l j
  at_filled l j h = (subst (λ (z : ℕ). j < z) (sym (size t n ws [] within)) h.0, ap (λ (xs : List ℕ). slice_index xs j) levels_filled ∙ h.1)

  pub at_before : (l j : ℕ) → IsAt u l j → IsAt t l j
  at_before l j h = (subst (λ (z : ℕ). j < z) (size t n ws [] within) h.0, sym (ap (λ (xs : List ℕ). slice_index xs j) levels_filled) ∙ h.1)

  pub not_new : (l j : ℕ) → IsAt t l j → j ≢ n
  not_new l j h e = free l (subst (IsAt t l) e h)

  pub words_filled : (l j : ℕ) → IsAt t l j → node_of u.image j ≡ node_of t.image j
  words_filled l j h = node_there t n ws [] within j (not_new l j h)

  pub lasts_filled : Lasts t u
  lasts_filled = record { at = at_filled; low = λ l j h. ap low_of (words_filled l j h) }

  pub covers_before : (l j q : ℕ) → IsAt t l j → Covers u j q → Covers t j q
  covers_before l j q h c = covers_by u t j q (ap low_of (sym (words_filled l j h))) (ap right_of (sym (words_filled l j h))) c

  pub good_filled : Good base u
  good_filled = record {
    sized = ap length levels_filled ∙ (good.sized ∙ sym (size t n ws [] within));
    first = (at_filled 0 0 good.first.0, lasts_filled.low 0 0 good.first.0 ∙ good.first.1);
    root = (good.root.0, at_filled _ _ good.root.1, lasts_filled.low _ _ good.root.1 ∙ good.root.2);
    nodes = λ l j h. let h' = at_before l j h in node_kept base t u l j (good.nodes l j h') (words_filled l j h') lasts_filled (λ z q c. says_same base t.log q);
    alone = λ l j k q hj hk cj ck. let aj = at_before l j hj in let ak = at_before l k hk in good.alone l j k q aj ak (covers_before l j q aj cj) (covers_before l k q ak ck);
    legal = subst (IsLegal (map_of base)) (sym (append-nil t.log)) good.legal;
  }
