-- What changes of nodes do to their weights.
use Rattle.std.proofs.Common.{◌≡◌, ◌≢◌, ℕ, ◌+◌, ◌-◌, ◌*◌, ◌<◌, ◌≤◌, Bool, cond, eqb, List, [], length, set, refl, sym, ap, ◌∙◌, arith, ⊎_elim, eq-eqb, length-set, get_or-set_other}
use Rattle.std.specs.Prelude.{slice_index, sum_by, min}
use Rattle.std.proofs.lemmas.Bool.{ne_eqb, cases_eq}
use Rattle.std.proofs.lemmas.List.Sums.{sum_by-set}
use Rattle.olfit_nodes.specs.declared.head.Link.{Link}
use Rattle.olfit_nodes.specs.Nodes.{count_of, level_of}
use Rattle.olfit_rule.specs.declared.view.Change.{Change}
use Rattle.olfit_rule.specs.declared.view.Moment.{Moment}
use Rattle.olfit_rule.specs.declared.view.View.{View}
use Rattle.olfit_rule.specs.Tree.{node_of, Good, IsAt}
use Rattle.olfit_rule.specs.Rule.{renewed, rewritten}
use Rattle.olfit_change.specs.Room.{weight, weights, IsPaid, IsOwed}
use Rattle.olfit_change.specs.States.{IsChangedAt, IsSplitAt, IsGrown}
use Rattle.olfit_change.proofs.Rewrites.{node_here}
use Rattle.olfit_change.proofs.Words.{count_renewed}

pub weight_leaf : (ws : List ℕ) → level_of ws ≡ 0 → weight ws ≡ count_of ws - 9
weight_leaf ws z = let e : weight ws ≡ (count_of ws - 9) * 1 = ap (λ (b : Bool). (count_of ws - 9) * cond {A = ℕ} b 1 2) (eq-eqb (level_of ws) 0 z) in omega (arith, e)

pub weight_inner : (ws : List ℕ) → level_of ws ≢ 0 → weight ws ≡ (count_of ws - 9) * 2
weight_inner ws more = ap (λ (b : Bool). (count_of ws - 9) * cond {A = ℕ} b 1 2) (ne_eqb (level_of ws) 0 more)

-- a node with up to nine entries weighs nothing
pub weight_none : (ws : List ℕ) → count_of ws ≤ 9 → weight ws ≡ 0
weight_none ws few =
    let e : count_of ws - 9 ≡ 0 = omega (arith, few) in
    let f : weight ws ≡ 0 * cond {A = ℕ} (eqb (level_of ws) 0) 1 2 = ap (λ (z : ℕ). z * cond {A = ℕ} (eqb (level_of ws) 0) 1 2) e in omega (arith, f)

-- one node's words are replaced
pub weights_set : (t : Moment) (i : ℕ) (ws : List ℕ) (changes : List Change) → i < length t.image
    → weights (rewritten i ws changes t) + weight (node_of t.image i) ≡ weights t + weight (node_of (rewritten i ws changes t).image i)
weights_set t i ws changes within = sum_by-set weight t.image i (renewed t.image i ws) [] within ∙ ap (λ (r : List ℕ). weights t + weight r) (sym (node_here t i ws changes within))

pub weights_light : (t : Moment) (i : ℕ) (ws : List ℕ) (changes : List Change) → i < length t.image → count_of ws ≤ 9 → weights (rewritten i ws changes t) + weight (node_of t.image i) ≡ weights t
weights_light t i ws changes within few =
    let e = weights_set t i ws changes within in
    let n : count_of (node_of (rewritten i ws changes t).image i) ≡ count_of ws = ap count_of (node_here t i ws changes within) ∙ count_renewed ws _ in
    let z = weight_none (node_of (rewritten i ws changes t).image i) (omega (arith, n, few)) in omega (arith, e, z)

-- An entry was put in.

pub heavier_leaf : (a b : List ℕ) → level_of a ≡ 0 → level_of b ≡ 0 → count_of b ≡ count_of a + 1 → weight b ≤ weight a + 1
heavier_leaf a b x y n = let e = weight_leaf a x in let f = weight_leaf b y in omega (arith, e, f, n)

pub heavier : (a b : List ℕ) → level_of b ≡ level_of a → count_of b ≡ count_of a + 1 → weight b ≤ weight a + 2
heavier a b same n = ⊎_elim
    (λ (z : level_of a ≡ 0). let h = heavier_leaf a b z (same ∙ z) n in omega (arith, h))
    (λ more. let e = weight_inner a more in let f = weight_inner b (λ z. more (sym same ∙ z)) in omega (arith, e, f, n))
    (cases_eq (level_of a) 0)

pub lighter_leaf : (a b : List ℕ) → level_of a ≡ 0 → level_of b ≡ 0 → count_of b ≤ count_of a → weight b ≤ weight a
lighter_leaf a b x y n = let e = weight_leaf a x in let f = weight_leaf b y in omega (arith, e, f, n)

-- Full nodes pay for new ones: the nodes of the levels so far, with the words of those seen taken away.
pub record Stripped (level : ℕ) (t : Moment) : Type 0 where
  pub rest : List (List ℕ)
  pub long : length rest ≡ length t.image
  pub same : (l i : ℕ) → level ≤ l → IsAt t l i → node_of rest i ≡ node_of t.image i
  pub sums : sum_by weight rest + 14 * level ≤ weights t + 7 * min level 1

pub stripped_none : (t : Moment) → Stripped 0 t
stripped_none t = record { rest = t.image; long = refl; same = λ l i high h. refl; sums = omega arith }

pub stripped_on : (base : List (ℕ × ℕ)) (t : Moment) (level i : ℕ) → Good base t → Stripped level t → IsAt t level i → count_of (node_of t.image i) ≡ 16 → Stripped (level + 1) t
stripped_on base t level i good s at full = record {
  rest = set s.rest i [];
  long = length-set s.rest i [] ∙ s.long;
  same = λ l j high h. get_or-set_other s.rest i j [] [] (λ e. let a = at.1 in let b = h.1 in let c = ap (λ (k : ℕ). slice_index t.levels k) e in omega (arith, a, b, c, high)) ∙ s.same l j (omega (arith, high)) h;
  sums =
      let within : i < length s.rest = (let a = at.0 in let l = s.long in omega (arith, a, l)) in
      let less = sum_by-set weight s.rest i [] [] within in
      let empty = weight_none [] (omega arith) in
      let is = ap weight (s.same level i (omega arith) at) in
      let old = s.sums in
      let height = (good.nodes level i at).height in ⊎_elim
      (λ (z : level ≡ 0). let w = weight_leaf (node_of t.image i) (height ∙ z) in omega (arith, less, empty, is, old, w, full, z))
      (λ more. let w = weight_inner (node_of t.image i) (λ z. more (sym height ∙ z)) in omega (arith, less, empty, is, old, w, full, more))
      (cases_eq level 0);
}

-- the levels' nodes that are full pay for as many new ones and a root
pub stripped_pays : (t : Moment) (level : ℕ) → Stripped level t → 6 * level ≤ weights t
stripped_pays t level s = let e = s.sums in omega (arith, e)

pub stripped_root : (t : Moment) (top : ℕ) → Stripped (top + 1) t → 6 * (top + 2) ≤ weights t + 5
stripped_root t top s = let e = s.sums in omega (arith, e)

-- a leaf got an entry
pub paid_put : (v w : View) (leaf used keys : ℕ) (changes : List Change) → IsChangedAt leaf changes v w → level_of (node_of v.seen.image leaf) ≡ 0 → level_of (node_of w.seen.image leaf) ≡ 0
    → count_of (node_of w.seen.image leaf) ≡ count_of (node_of v.seen.image leaf) + 1 → IsPaid used keys v.seen → IsPaid used (keys + 1) w.seen
paid_put v w leaf used keys changes c x y n p =
    let e = c.cost in let h = heavier_leaf (node_of v.seen.image leaf) (node_of w.seen.image leaf) x y n in
    let root : slice_index w.seen.levels w.seen.root ≡ slice_index v.seen.levels v.seen.root = (λ j. slice_index (c.levels j) (c.root j)) in record {
      nodes = let q = p.nodes in omega (arith, e, h, q);
      leaf = λ is. let q = p.leaf (sym root ∙ is) in omega (arith, e, h, q);
    }

-- an entry was put above a split
pub paid_linked : (v w : View) (node used keys top : ℕ) (changes : List Change) → IsChangedAt node changes v w → level_of (node_of w.seen.image node) ≡ level_of (node_of v.seen.image node) → count_of (node_of w.seen.image node) ≡ count_of (node_of v.seen.image node) + 1
    → IsAt v.seen top v.seen.root → 1 ≤ top → 6 * used + weights v.seen + 2 ≤ keys + 25 → IsPaid used keys w.seen
paid_linked v w node used keys top changes c same n root high q =
    let e = c.cost in let h = heavier (node_of v.seen.image node) (node_of w.seen.image node) same n in
    let roots : slice_index w.seen.levels w.seen.root ≡ slice_index v.seen.levels v.seen.root = (λ j. slice_index (c.levels j) (c.root j)) in let at = root.1 in record {
      nodes = omega (arith, e, h, q);
      leaf = λ is. absurd (omega (arith, is, roots, at, high));
    }

-- a leaf was split
pub owed_split : (v w : View) (leaf used keys : ℕ) (link : Link) (changes : List Change) → IsSplitAt leaf link changes v w → level_of (node_of v.seen.image leaf) ≡ 0 → count_of (node_of v.seen.image leaf) ≡ 16
    → slice_index w.seen.levels w.seen.root ≡ slice_index v.seen.levels v.seen.root → IsPaid used keys v.seen → IsOwed (used + 1) (keys + 1) w.seen
owed_split v w leaf used keys link changes s x full root p =
    let e = s.lighter in let f = weight_leaf (node_of v.seen.image leaf) x in record {
      entry = let q = p.nodes in omega (arith, e, f, full, q);
      leaf = λ is. let q = p.leaf (sym root ∙ is) in omega (arith, e, f, full, q);
    }

-- a node above the leaves was split
pub paid_split : (v w : View) (node used keys : ℕ) (link : Link) (changes : List Change) → IsSplitAt node link changes v w → level_of (node_of v.seen.image node) ≢ 0 → count_of (node_of v.seen.image node) ≡ 16
    → 6 * used + weights v.seen + 2 ≤ keys + 25 → 6 * (used + 1) + weights w.seen + 6 ≤ keys + 25
paid_split v w node used keys link changes s more full q = let e = s.lighter in let f = weight_inner (node_of v.seen.image node) more in omega (arith, e, f, full, q)

-- a root was made
pub paid_grown : (v w : View) (top fresh used keys : ℕ) → IsGrown top fresh v w → slice_index w.seen.levels w.seen.root ≡ top + 2 → 6 * used + weights v.seen + 6 ≤ keys + 25 → IsPaid (used + 1) keys w.seen
paid_grown v w top fresh used keys g root q = let e = g.lighter in record { nodes = omega (arith, e, q); leaf = λ is. absurd (omega (arith, is, root)) }

-- a leaf lost an entry
pub paid_taken : (v w : View) (leaf used keys : ℕ) (changes : List Change) → IsChangedAt leaf changes v w → weights w.seen ≤ weights v.seen → IsPaid used keys v.seen → IsPaid used keys w.seen
paid_taken v w leaf used keys changes c less p =
    let roots : slice_index w.seen.levels w.seen.root ≡ slice_index v.seen.levels v.seen.root = (λ j. slice_index (c.levels j) (c.root j)) in record {
      nodes = let q = p.nodes in omega (arith, less, q);
      leaf = λ is. let q = p.leaf (sym roots ∙ is) in omega (arith, less, q);
    }

-- what is paid at a level of the way up
pub record Pays (above top used keys : ℕ) (t : Moment) : Type 0 where
  pub entry : 6 * used + weights t + 2 ≤ keys + 25
  pub high : 1 < above → 6 * used + weights t + 6 ≤ keys + 25
  pub leaf : top ≡ 0 → 6 * used + weights t + 6 ≤ keys + 25

pub pays_first : (t : Moment) (top used keys : ℕ) → IsAt t top t.root → IsOwed used keys t → Pays 1 top used keys t
pays_first t top used keys root o = record {
  entry = o.entry;
  high = λ more. absurd (omega arith);
  leaf = λ z. let a = root.1 in o.leaf (omega (arith, a, z));
}

pub pays_split : (v w : View) (above top node used keys : ℕ) (link : Link) (changes : List Change) → IsSplitAt node link changes v w → level_of (node_of v.seen.image node) ≢ 0 → count_of (node_of v.seen.image node) ≡ 16 → Pays above top used keys v.seen
    → Pays (above + 1) top (used + 1) keys w.seen
pays_split v w above top node used keys link changes s more full p =
    let q = paid_split v w node used keys link changes s more full p.entry in record { entry = omega (arith, q); high = λ _. q; leaf = λ _. q }

pub pays_root : (t : Moment) (above top used keys : ℕ) → above ≡ top + 1 → Pays above top used keys t → 6 * used + weights t + 6 ≤ keys + 25
pays_root t above top used keys end p = ⊎_elim (λ (z : top ≡ 0). p.leaf z) (λ more. p.high (omega (arith, end, more))) (cases_eq top 0)
