-- What the writer knows when it is ready.
use Rattle.std.proofs.Common.{◌≡◌, ◌∙◌, ◌≤◌, ◌<◌, ◌+◌, ℕ, List, length, length-set, refl, sym, subst, arith, ap}
use Rattle.atomic_table.specs.Seated.{TableId}
use Rattle.atomic_table.specs.declared.shared.Seat.{Seat}
use Rattle.std.specs.List.{All, Contains}
use Rattle.olfit_nodes.specs.Nodes.{Entry, count_of, entries_of, level_of, low_of, right_of, IsClear, Rises}
use Rattle.olfit_rule.specs.declared.view.Change.{Change}
use Rattle.olfit_rule.specs.declared.view.View.{View}
use Rattle.olfit_rule.specs.Tree.{node_of, low, version, Good, IsAt}
use Rattle.olfit_rule.specs.Rule.{IsAtRest, IsSame, after_rewrite, after_root, rewritten}
use Rattle.olfit_change.specs.States.{IsReady, IsChangedAt, Stays}
use Rattle.olfit_change.proofs.Weights.{weights_set}
use Rattle.olfit_change.proofs.Rewrites.{clear_here, count_here, entries_here, level_here, low_here, node_here, size, node_there, right_here, version_here}

pub ready_still : (table : TableId) (nodes : ℕ) (p q : Seat ℕ View) → IsReady table nodes p → Stays p q → IsReady table nodes q
ready_still table nodes p q r s = record {
  table_is = s.0.0 ∙ r.table_is;
  rest = subst IsAtRest (sym s.1) r.rest;
  good = subst (λ (v : View). Good v.base v.seen) (sym s.1) r.good;
  count = subst (λ (v : View). length v.seen.image ≡ nodes) (sym s.1) r.count;
  sized = r.sized;
}

pub few_at : (table : TableId) (nodes : ℕ) (p : Seat ℕ View) (level i : ℕ) (ws : List ℕ) → IsReady table nodes p → IsAt p.me.0.seen level i → ws ≡ node_of p.me.0.seen.image i → count_of ws ≤ 16
few_at table nodes p level i ws r at is = subst (λ (x : List ℕ). count_of x ≤ 16) (sym is) (r.good.nodes level i at).few

pub rises_at : (table : TableId) (nodes : ℕ) (p : Seat ℕ View) (level i : ℕ) (ws : List ℕ) → IsReady table nodes p → IsAt p.me.0.seen level i → ws ≡ node_of p.me.0.seen.image i → Rises (entries_of ws)
rises_at table nodes p level i ws r at is = subst (λ (x : List ℕ). Rises (entries_of x)) (sym is) (r.good.nodes level i at).rises

pub level_at : (table : TableId) (nodes : ℕ) (p : Seat ℕ View) (level i : ℕ) (ws : List ℕ) → IsReady table nodes p → IsAt p.me.0.seen level i → ws ≡ node_of p.me.0.seen.image i → level_of ws ≡ level
level_at table nodes p level i ws r at is = ap level_of is ∙ (r.good.nodes level i at).height

pub stays_on : (p q r : Seat ℕ View) → Stays p q → Stays q r → Stays p r
stays_on p q r s t = ((t.0.0 ∙ s.0.0, t.0.1 ∙ s.0.1, t.0.2 ∙ s.0.2), t.1 ∙ s.1)

-- a node's words are those that it had
pub words_still : (p q : Seat ℕ View) (i : ℕ) (ws : List ℕ) → Stays p q → ws ≡ node_of q.me.0.seen.image i → ws ≡ node_of p.me.0.seen.image i
words_still p q i ws s is = is ∙ ap (λ (v : View). node_of v.seen.image i) s.1

-- a node's words were replaced

pub ready_rewritten : (table : TableId) (nodes : ℕ) (p q : Seat ℕ View) (node : ℕ) (ws : List ℕ) (changes : List Change) → IsReady table nodes p → IsSame p q → IsAtRest q.me.0 → length q.me.0.seen.image ≡ length p.me.0.seen.image
    → q.me.0 ≡ after_rewrite node ws changes p.me.0 → Good p.me.0.base (rewritten node ws changes p.me.0.seen) → IsReady table nodes q
ready_rewritten table nodes p q node ws changes r same rest size view good = record {
  table_is = same.0 ∙ r.table_is;
  rest = rest;
  good = subst (λ (v : View). Good v.base v.seen) (sym view) good;
  count = size ∙ r.count;
  sized = r.sized;
}

pub changed_by : (v w : View) (node : ℕ) (ws : List ℕ) (changes : List Change) → node < length v.seen.image → 0 < length ws → w ≡ after_rewrite node ws changes v → (rewritten node ws changes v.seen).levels ≡ v.seen.levels → right_of ws ≡ right_of (node_of v.seen.image node)
    → low_of ws ≡ low v.seen node → ((below : ℕ) → IsAt v.seen (below + 1) node → All (Contains (entries_of ws)) (entries_of (node_of v.seen.image node))) → (IsClear (node_of v.seen.image node) → IsClear ws) → IsChangedAt node changes v w
changed_by v w node ws changes within long view levels right lows kept clear = subst (IsChangedAt node changes v) (sym view) record {
  base = refl;
  log = refl;
  levels = levels;
  root = refl;
  low = low_here v.seen node ws changes within ∙ lows;
  right = right_here v.seen node ws changes within ∙ right;
  kept = λ below at. subst (λ (xs : List Entry). All (Contains xs) (entries_of (node_of v.seen.image node))) (sym (entries_here v.seen node ws changes within)) (kept below at);
  clear = λ h. clear_here v.seen node ws changes within (clear h);
  others = λ i not. node_there v.seen node ws changes within i not;
  version = version_here v.seen node ws changes within long;
  cost = weights_set v.seen node ws changes within;
}

pub same_on : (p q r : Seat ℕ View) → IsSame p q → IsSame q r → IsSame p r
same_on p q r s t = (t.0 ∙ s.0, t.1 ∙ s.1, t.2 ∙ s.2)

pub ready_twice : (table : TableId) (nodes : ℕ) (p q r : Seat ℕ View) → IsReady table nodes p → IsSame p q → IsSame q r → IsAtRest r.me.0 → length q.me.0.seen.image ≡ length p.me.0.seen.image → length r.me.0.seen.image ≡ length q.me.0.seen.image
    → Good r.me.0.base r.me.0.seen → IsReady table nodes r
ready_twice table nodes p q r ready same same' rest size size' good = record {
  table_is = same'.0 ∙ (same.0 ∙ ready.table_is);
  rest = rest;
  good = good;
  count = size' ∙ (size ∙ ready.count);
  sized = ready.sized;
}

rest_grown : (v w : View) (fresh : ℕ) → IsAtRest v → w ≡ record v { seen = after_root fresh v.seen } → IsAtRest w
rest_grown v w fresh rest view = subst IsAtRest (sym view) record { writes = rest.writes; same = rest.same; wide = rest.wide; even = rest.even }

pub ready_grown : (table : TableId) (nodes : ℕ) (p q r s : Seat ℕ View) (fresh : ℕ) → IsReady table nodes p → IsSame p q → q.me.0 ≡ p.me.0 → IsSame q r → IsAtRest r.me.0 → length r.me.0.seen.image ≡ length q.me.0.seen.image → IsSame r s
    → s.me.0 ≡ record r.me.0 { seen = after_root fresh r.me.0.seen } → Good r.me.0.base (after_root fresh r.me.0.seen) → IsReady table nodes s
ready_grown table nodes p q r s fresh ready a still b rest size d view good = record {
  table_is = d.0 ∙ (b.0 ∙ (a.0 ∙ ready.table_is));
  rest = rest_grown r.me.0 s.me.0 fresh rest view;
  good = subst (λ (w : View). Good w.base w.seen) (sym view) good;
  count = ap (λ (w : View). length w.seen.image) view ∙ (size ∙ (ap (λ (w : View). length w.seen.image) still ∙ ready.count));
  sized = ready.sized;
}

-- a node that was written has words
pub long_from : (v w : View) (node : ℕ) (ws : List ℕ) (changes : List Change) → node < length v.seen.image → w ≡ after_rewrite node ws changes v → IsAtRest w → 0 < length ws
long_from v w node ws changes within view rest =
    let size' : length w.seen.image ≡ length v.seen.image = ap (λ (x : View). length x.seen.image) view ∙ size v.seen node ws changes within in
    let wide = rest.wide node (omega (arith, size', within)) in
    let is = ap (λ (x : View). length (node_of x.seen.image node)) view in
    let here = ap (λ (x : List ℕ). length x) (node_here v.seen node ws changes within) in
    let same = length-set ws 0 (version v.seen.image node + 2) in omega (arith, wide, is, here, same)

-- the count and the level of a node after its words were replaced
pub count_by : (v w : View) (node : ℕ) (ws : List ℕ) (changes : List Change) → node < length v.seen.image → w ≡ after_rewrite node ws changes v → (count_of (node_of w.seen.image node) ≡ count_of ws) × (level_of (node_of w.seen.image node) ≡ level_of ws)
count_by v w node ws changes within view =
    let is = ap (λ (x : View). node_of x.seen.image node) view in
    (ap count_of is ∙ count_here v.seen node ws changes within, ap level_of is ∙ level_here v.seen node ws changes within)
