-- A node is written word by word.
use Rattle.std.proofs.Common.{◌≡◌, ℕ, ◌+◌, ◌%◌, ◌<◌, ◌≤◌, List, [], length, get_or, set, refl, sym, ap, ◌∙◌, subst, arith, length-set, get_or-set_other, get_or-set_same}
use mathlib.Core.Logic.{dite}
use native.Mathlib.Decide.{ℕ_discrete}
use Rattle.std.proofs.lemmas.List.{set-set}
use Rattle.olfit_rule.specs.declared.view.Change.{Change}
use Rattle.olfit_rule.specs.declared.view.View.{View}
use Rattle.olfit_rule.specs.Tree.{Nodes, node_of, version}
use Rattle.olfit_rule.specs.Rule.{IsAtRest, put, renewed, after_change, after_rewrite, after_end, Partly}
use Rattle.olfit_rule.proofs.Keeps.{same_words, node_put, node_else}

pub partly_latched : (i : ℕ) (ws : List ℕ) (v w : View) → IsAtRest v → i < length v.seen.image → w ≡ record v { words = put v.words i 0 (version v.seen.image i + 1) } → Partly i 1 ws v w
partly_latched i ws v w rest h is =
    let b : ℕ = version v.seen.image i + 1 in
    let nodes : w.words ≡ put v.words i 0 b = ap (λ (u : View). u.words) is in
    let h' : i < length v.words = subst (λ (a : Nodes). i < length a) (sym rest.same) h in
    let here : node_of w.words i ≡ set (node_of v.words i) 0 b = ap (λ (a : Nodes). node_of a i) nodes ∙ node_put v.words i 0 b h' in
    let wide : length (node_of v.words i) ≡ 64 = ap (λ (a : Nodes). length (node_of a i)) rest.same ∙ rest.wide i h in record {
      same = is ∙ ap (λ (a : Nodes). record v { words = a }) (sym nodes);
      nodes = nodes ∙ ap (λ (x : List ℕ). set v.words i x) (sym here);
      wide = ap (λ (x : List ℕ). length x) here ∙ (length-set (node_of v.words i) 0 b ∙ wide);
      odd = ap (λ (x : List ℕ). get_or x 0 0) here ∙ (get_or-set_same (node_of v.words i) 0 b 0 (omega arith) ∙ ap (λ (a : Nodes). version a i + 1) (sym rest.same));
      done = λ j p q. absurd (omega arith);
    }

pub inside_still : (i k : ℕ) (ws : List ℕ) (v w : View) → Partly i k ws v w → i < length v.words → i < length w.words
inside_still i k ws v w p h = let e = ap (λ (a : Nodes). length a) p.nodes ∙ length-set v.words i (node_of w.words i) in omega arith

-- the node stays latched
pub still_latched : (i k b n : ℕ) (ws : List ℕ) (v w : View) → Partly i n ws v w → i < length w.words → 0 < k → version v.words i % 2 ≡ 0 → (version w.words i ≤ version (put w.words i k b) i) × (version (put w.words i k b) i % 2 ≡ 1)
still_latched i k b n ws v w p h some even =
    let e : version (put w.words i k b) i ≡ version w.words i = ap (λ (x : List ℕ). get_or x 0 0) (node_put w.words i k b h) ∙ get_or-set_other (node_of w.words i) k 0 b 0 (λ z. omega arith) in
    let odd = p.odd in (omega arith, omega arith)

pub partly_more : (i k b : ℕ) (ws : List ℕ) (v w x : View) → Partly i k ws v w → i < length w.words → 0 < k → k < 64 → b ≡ get_or ws k 0 → x ≡ record w { words = put w.words i k b } → Partly i (k + 1) ws v x
partly_more i k b ws v w x p h some small right is =
    let nodes : x.words ≡ put w.words i k b = ap (λ (u : View). u.words) is in
    let here : node_of x.words i ≡ set (node_of w.words i) k b = ap (λ (a : Nodes). node_of a i) nodes ∙ node_put w.words i k b h in
    let wide = p.wide in record {
      same = is ∙ ap (λ (u : View). record u { words = put w.words i k b }) p.same ∙ ap (λ (a : Nodes). record v { words = a }) (sym nodes);
      nodes = nodes ∙ (ap (λ (a : Nodes). set a i (set (node_of w.words i) k b)) p.nodes ∙ (set-set v.words i (node_of w.words i) (set (node_of w.words i) k b) ∙ ap (λ (y : List ℕ). set v.words i y) (sym here)));
      wide = ap (λ (y : List ℕ). length y) here ∙ (length-set (node_of w.words i) k b ∙ wide);
      odd = ap (λ (y : List ℕ). get_or y 0 0) here ∙ (get_or-set_other (node_of w.words i) k 0 b 0 (λ z. omega arith) ∙ p.odd);
      done = λ j a l. ap (λ (y : List ℕ). get_or y j 0) here ∙ dite (ℕ_discrete j k)
          (λ e. ap (λ (z : ℕ). get_or (set (node_of w.words i) k b) z 0) e ∙ (get_or-set_same (node_of w.words i) k b 0 (omega arith) ∙ (right ∙ ap (λ (z : ℕ). get_or ws z 0) (sym e))))
          (λ n. get_or-set_other (node_of w.words i) k j b 0 n ∙ p.done j a (omega arith));
    }

pub partly_end : (i : ℕ) (ws : List ℕ) (changes : List Change) (v w : View) → IsAtRest v → Partly i 64 ws v w → length ws ≡ 64 → after_end i (version v.seen.image i + 2) changes w ≡ after_rewrite i ws changes v
partly_end i ws changes v w rest p long =
    let b : ℕ = version v.seen.image i + 2 in let wide = p.wide in
    let words : set (node_of w.words i) 0 b ≡ set ws 0 b = same_words _ _ (length-set (node_of w.words i) 0 b ∙ (wide ∙ sym (length-set ws 0 b ∙ long)))
    (λ k l. let n = length-set (node_of w.words i) 0 b in dite (ℕ_discrete k 0)
    (λ e. ap (λ (z : ℕ). get_or (set (node_of w.words i) 0 b) z 0) e ∙ (get_or-set_same (node_of w.words i) 0 b 0 (omega arith) ∙ sym (ap (λ (z : ℕ). get_or (set ws 0 b) z 0) e ∙ get_or-set_same ws 0 b 0 (omega arith))))
    (λ n'. get_or-set_other (node_of w.words i) 0 k b 0 n' ∙ (p.done k (omega arith) (omega arith) ∙ sym (get_or-set_other ws 0 k b 0 n')))) in
    let nodes : put w.words i 0 b ≡ set v.seen.image i (set ws 0 b) = ap (λ (a : Nodes). set a i (set (node_of w.words i) 0 b)) p.nodes
    ∙ (set-set v.words i (node_of w.words i) (set (node_of w.words i) 0 b) ∙ (λ y. set (rest.same y) i (words y))) in
    let seen : after_change i (set (node_of w.words i) 0 b) changes w.seen ≡ after_change i (set ws 0 b) changes v.seen = λ y. after_change i (words y) changes ((ap (λ (u : View). u.seen) p.same) y) in
    (λ y. record (p.same y) { words = nodes y; seen = seen y })

pub at_rest_again : (i : ℕ) (ws : List ℕ) (changes : List Change) (v w : View) → IsAtRest v → length ws ≡ 64 → i < length v.seen.image → w ≡ after_rewrite i ws changes v → IsAtRest w
at_rest_again i ws changes v w rest long h is =
    let a : Nodes = v.seen.image in let b : ℕ = version a i + 2 in let image : Nodes = set a i (set ws 0 b) in
    subst IsAtRest (sym is) record {
      writes = rest.writes;
      same = refl;
      wide = λ j l. dite (ℕ_discrete j i)
          (λ e. ap (λ (z : ℕ). length (node_of image z)) e ∙ (ap (λ (y : List ℕ). length y) (get_or-set_same a i (set ws 0 b) [] h) ∙ (length-set ws 0 b ∙ long)))
          (λ n. ap (λ (y : List ℕ). length y) (node_else a i (set ws 0 b) j n) ∙ rest.wide j (subst (λ (z : ℕ). j < z) (length-set a i (set ws 0 b)) l));
      even = λ j l. dite (ℕ_discrete j i)
          (λ e. ap (λ (z : ℕ). version image z % 2) e ∙ (ap (λ (y : List ℕ). get_or y 0 0 % 2) (get_or-set_same a i (set ws 0 b) [] h) ∙ (ap (λ (z : ℕ). z % 2) (get_or-set_same ws 0 b 0 (omega arith)) ∙ (let x = rest.even i h in omega arith))))
          (λ n. ap (λ (y : List ℕ). get_or y 0 0 % 2) (node_else a i (set ws 0 b) j n) ∙ rest.even j (subst (λ (z : ℕ). j < z) (length-set a i (set ws 0 b)) l));
    }

pub version_renewed : (a : Nodes) (i : ℕ) (ws : List ℕ) (j : ℕ) → i < length a → 0 < length ws → version (set a i (renewed a i ws)) j ≤ version a j + 2
version_renewed a i ws j h some = let b : ℕ = version a i + 2 in dite (ℕ_discrete j i)
    (λ e. let x : version (set a i (set ws 0 b)) j ≡ b = ap (λ (z : ℕ). version (set a i (set ws 0 b)) z) e ∙ (ap (λ (y : List ℕ). get_or y 0 0) (get_or-set_same a i (set ws 0 b) [] h) ∙ get_or-set_same ws 0 b 0 some) in
    let y = ap (λ (z : ℕ). version a z) e in omega arith)
    (λ n. let x = ap (λ (y : List ℕ). get_or y 0 0) (node_else a i (set ws 0 b) j n) in omega arith)
