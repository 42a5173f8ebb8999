-- A full node is split for an entry: a new node is filled with the upper entries, and then the old one is cut.
use Rattle.std.proofs.Common.{◌≡◌, ◌≢◌, ℕ, append-nil, ◌+◌, ◌<◌, ◌≤◌, List, ◌++◌, [], length, take, drop, get_or, set, Option, Some, refl, sym, ap, ◌∙◌, subst, arith, length-drop, get_or-drop}
use Rattle.std.specs.Prelude.{slice_index, IfSome}
use Rattle.std.specs.Option.{ForSome}
use Rattle.std.specs.List.{All, Contains, insert}
use Rattle.std.proofs.lemmas.List.{length-take-le, take-append-drop}
use Rattle.std.proofs.lemmas.List.Edits.{length-insert}
use Rattle.std.proofs.lemmas.List.Elements.{All-take, All-drop}
use Rattle.std.proofs.lemmas.Option.{slice_get-get_or}
use Rattle.olfit_nodes.specs.declared.head.Link.{Link}
use Rattle.olfit_nodes.specs.Nodes.{Entry, entries_of, count_of, level_of, low_of, right_of, IsClear, Rises, SameFrame}
use Rattle.olfit_nodes.proofs.Frames.{same_low, same_right}
use Rattle.olfit_nodes.proofs.Places.{length-entries}
use Rattle.olfit_rule.specs.declared.view.Change.{Change}
use Rattle.olfit_rule.specs.declared.view.Moment.{Moment}
use Rattle.olfit_rule.specs.declared.view.View.{View}
use Rattle.olfit_rule.specs.Maps.{map_of, map_after, IsLegal}
use Rattle.olfit_rule.specs.Tree.{node_of, low, Good, Lasts, IsAt, IsInner, Covers}
use Rattle.olfit_rule.specs.Rule.{rewritten, after_rewrite}
use Rattle.olfit_change.specs.Room.{weight}
use Rattle.olfit_change.specs.States.{MayPut, IsSplitAt, both_entries}
use Rattle.olfit_change.proofs.Weights.{weights_light}
use Rattle.olfit_change.proofs.Entries.{place, place_most, rises_take, rises_drop, map_lower, map_upper, below_cut, above_cut, first_take, contains_new, kept_insert}
use Rattle.olfit_change.proofs.Kept.{covers_by, inner_on, says_same}
use Rattle.olfit_change.proofs.Puts.{notes, more_rises, more_inside, more_says, more_inner}
use Rattle.olfit_change.proofs.Rewrites.{clear_here, node_there, low_here, right_here, entries_here, level_here, version_here, size}
use Rattle.olfit_change.proofs.Fills.{good_filled, lasts_filled, levels_filled, at_filled, at_before, words_filled, covers_before}
use Rattle.olfit_change.proofs.Cuts.{good_cut, lasts_cut, levels_cut}

-- the entries of a node with a new one in its place
abbrev pub with_entry : List ℕ → ℕ → ℕ → List Entry
with_entry ws key value = insert (entries_of ws) (place key (entries_of ws)) (key, value)

-- the words of the two halves
pub record AreHalves (old : List ℕ) (key value : ℕ) (link : Link) (new cut : List ℕ) : Type 0 where
  pub new_low : low_of new ≡ link.key
  pub new_right : right_of new ≡ right_of old
  pub new_level : level_of new ≡ level_of old
  pub new_entries : entries_of new ≡ drop 8 (with_entry old key value)
  pub cut_low : low_of cut ≡ low_of old
  pub cut_right : right_of cut ≡ Some link
  pub cut_level : level_of cut ≡ level_of old
  pub cut_entries : entries_of cut ≡ take 8 (with_entry old key value)
  pub new_clear : IsClear new
  pub cut_clear : IsClear old → IsClear cut
  pub key_is : link.key ≡ (get_or (with_entry old key value) 8 (0, 0)).0

module _ (v : View) (changes : List Change) (node key value : ℕ) (link : Link) (new cut : List ℕ) (good : Good v.base v.seen) (may : MayPut changes node key value v)
    (within : link.node < length v.seen.image) (free : (l : ℕ) → IsAt v.seen l link.node → ⊥) (full : count_of (node_of v.seen.image node) ≡ 16)
    (halves : AreHalves (node_of v.seen.image node) key value link new cut) where
  abbrev level : ℕ
  level = may.at.0

  at : IsAt v.seen level node
  at = may.at.1

  abbrev all : List Entry
  all = with_entry (node_of v.seen.image node) key value

  long : length all ≡ 17
  long = let xs : List Entry = entries_of (node_of v.seen.image node) in
      let a = length-entries (node_of v.seen.image node) in let b = length-insert xs (place key xs) (key, value) (place_most key xs) in omega (arith, a, b, full)

  rises : Rises all
  rises = more_rises v changes level node key value good at may

  inside : All (λ (e : Entry). Covers v.seen node e.0) all
  inside = more_inside v changes level node key value good at may

  mid : 8 < length all
  mid = omega (arith, long)

  -- the new node is filled

  right_at : ForSome (right_of new) (λ (l : Link). IsAt v.seen (level_of new) l.node)
  right_at l is =
      let r = (good.nodes level node at).right l (sym halves.new_right ∙ is) in
      subst (λ (z : ℕ). IsAt v.seen z l.node) (sym (halves.new_level ∙ (good.nodes level node at).height)) r.0

  abbrev u : Moment
  u = rewritten link.node new [] v.seen

  pub good_first : Good v.base u
  good_first = good_filled v.base v.seen link.node new good within free right_at

  pub lasts_first : Lasts v.seen u
  lasts_first = lasts_filled v.base v.seen link.node new good within free right_at

  back : (l j : ℕ) → IsAt u l j → IsAt v.seen l j
  back l j h = at_before v.base v.seen link.node new good within free right_at l j h

  still : (l j : ℕ) → IsAt v.seen l j → node_of u.image j ≡ node_of v.seen.image j
  still l j h = words_filled v.base v.seen link.node new good within free right_at l j h

  same : node_of u.image node ≡ node_of v.seen.image node
  same = still level node at

  at1 : IsAt u level node
  at1 = at_filled v.base v.seen link.node new good within free right_at level node at

  free1 : (l : ℕ) → IsAt u l link.node → ⊥
  free1 l h = free l (back l link.node h)

  within1 : link.node < length u.image
  within1 = subst (λ (z : ℕ). link.node < z) (sym (size v.seen link.node new [] within)) within

  low1 : low u link.node ≡ link.key
  low1 = low_here v.seen link.node new [] within ∙ halves.new_low

  right1 : right_of (node_of u.image link.node) ≡ right_of (node_of u.image node)
  right1 = right_here v.seen link.node new [] within ∙ (halves.new_right ∙ ap right_of (sym same))

  entries1 : entries_of (node_of u.image link.node) ≡ drop 8 all
  entries1 = entries_here v.seen link.node new [] within ∙ halves.new_entries

  height1 : level_of (node_of u.image link.node) ≡ level
  height1 = level_here v.seen link.node new [] within ∙ (halves.new_level ∙ (good.nodes level node at).height)

  -- the old node is cut

  pub key_covers : Covers v.seen node link.key
  key_covers = subst (Covers v.seen node) (sym halves.key_is) (inside 8 (0, 0) mid)

  pub key_above : low v.seen node < link.key
  key_above = let a = (inside 0 (0, 0) (omega (arith, long))).above in let b = rises 0 8 (0, 0) (omega arith) mid in let e = halves.key_is in omega (arith, a, b, e)

  covers1 : (q : ℕ) → Covers v.seen node q → Covers u node q
  covers1 q c = covers_by v.seen u node q (ap low_of same) (ap right_of same) c

  uncovers1 : (q : ℕ) → Covers u node q → Covers v.seen node q
  uncovers1 q c = covers_by u v.seen node q (ap low_of (sym same)) (ap right_of (sym same)) c

  height2 : level_of cut ≡ level
  height2 = halves.cut_level ∙ (good.nodes level node at).height

  lows2 : low_of cut ≡ low u node
  lows2 = halves.cut_low ∙ ap low_of (sym same)

  above2 : low u node < link.key
  above2 = subst (λ (z : ℕ). z < link.key) (ap low_of (sym same)) key_above

  logs : (q : ℕ) → map_after (map_of v.base) (v.seen.log ++ changes) q ≡ map_after (map_of v.base) (u.log ++ changes) q
  logs q = ap (λ (l : List Change). map_after (map_of v.base) (l ++ changes) q) (sym (append-nil v.seen.log))

  few2 : count_of cut ≤ 16
  few2 = let a = length-entries cut in let b = ap length halves.cut_entries in let c = length-take-le 8 all (omega (arith, long)) in omega (arith, a, b, c)

  few1 : count_of (node_of u.image link.node) ≤ 16
  few1 = let a = length-entries (node_of u.image link.node) in let b = ap length entries1 in let c = length-drop 8 all in omega (arith, a, b, c, long)

  inside2 : All (λ (e : Entry). Covers u node e.0 × (e.0 < link.key)) (entries_of cut)
  inside2 = subst (All (λ (e : Entry). Covers u node e.0 × (e.0 < link.key))) (sym halves.cut_entries)
      (λ k d h. (covers1 _ (All-take (λ (e : Entry). Covers v.seen node e.0) 8 all inside k d h), subst (λ (z : ℕ). (get_or (take 8 all) k d).0 < z) (sym halves.key_is) (below_cut all 8 rises mid k d h)))

  inside1 : All (λ (e : Entry). Covers u node e.0 × (link.key ≤ e.0)) (entries_of (node_of u.image link.node))
  inside1 = subst (All (λ (e : Entry). Covers u node e.0 × (link.key ≤ e.0))) (sym entries1)
      (λ k d h. (covers1 _ (All-drop (λ (e : Entry). Covers v.seen node e.0) 8 all inside k d h), subst (λ (z : ℕ). z ≤ (get_or (drop 8 all) k d).0) (sym halves.key_is) (above_cut all 8 rises mid k d h)))

  here2 : level ≡ 0 → (q : ℕ) → Covers u node q → q < link.key → map_of (entries_of cut) q ≡ map_after (map_of v.base) (u.log ++ changes) q
  here2 z q c less = ap (λ (xs : List Entry). map_of xs q) halves.cut_entries
      ∙ (map_lower all 8 q rises mid (subst (λ (k : ℕ). q < k) halves.key_is less) ∙ (more_says v changes level node key value good at may z q (uncovers1 q c) ∙ logs q))

  here1 : level ≡ 0 → (q : ℕ) → Covers u node q → link.key ≤ q → map_of (entries_of (node_of u.image link.node)) q ≡ map_after (map_of v.base) (u.log ++ changes) q
  here1 z q c most = ap (λ (xs : List Entry). map_of xs q) entries1
      ∙ (map_upper all 8 q rises mid (subst (λ (k : ℕ). k ≤ q) halves.key_is most) ∙ (more_says v changes level node key value good at may z q (uncovers1 q c) ∙ logs q))

  inner2 : (below : ℕ) → level ≡ below + 1 → IsInner u below node (entries_of cut)
  inner2 b is =
      let n = more_inner v changes level node key value good at may b is in
      let len = length-take-le 8 all (omega (arith, long)) in
      subst (IsInner u b node) (sym halves.cut_entries) (inner_on v.seen u b node node (take 8 all) lasts_first (ap low_of same) record {
        first = first_take all 8 (λ (e : Entry). e.0 ≡ low v.seen node) (omega arith) n.first;
        some = omega (arith, len);
        children = All-take (λ (e : Entry). IsAt v.seen b e.1 × (low v.seen e.1 ≡ e.0)) 8 all n.children;
      })

  inner1 : (below : ℕ) → level ≡ below + 1 → IsInner u below link.node (entries_of (node_of u.image link.node))
  inner1 b is =
      let n = more_inner v changes level node key value good at may b is in
      let len = length-drop 8 all in
      let first : (get_or (drop 8 all) 0 (0, 0)).0 ≡ low u link.node = ap (λ (e : Entry). e.0) (get_or-drop 8 all 0 (0, 0)) ∙ (sym halves.key_is ∙ sym low1) in
      subst (IsInner u b link.node) (sym entries1) record {
        first = subst (λ (o : Option Entry). IfSome o (λ (e : Entry). e.0 ≡ low u link.node)) (sym (slice_get-get_or (drop 8 all) 0 (0, 0) (omega (arith, len, long)))) first;
        some = omega (arith, len, long);
        children = λ k d h. let c = All-drop (λ (e : Entry). IsAt v.seen b e.1 × (low v.seen e.1 ≡ e.0)) 8 all n.children k d h in (lasts_first.at b _ c.0, lasts_first.low b _ c.0 ∙ c.1);
      }

  there2 : (j q : ℕ) → j ≢ node → IsAt u 0 j → Covers u j q → map_after (map_of v.base) u.log q ≡ map_after (map_of v.base) (u.log ++ changes) q
  there2 j q not h c =
      let h' = back 0 j h in
      let c' = covers_before v.base v.seen link.node new good within free right_at 0 j q h' c in
      sym (says_same v.base v.seen.log q) ∙ ((notes v changes level node key value good at may).others j q not h' c' ∙ logs q)

  legal2 : IsLegal (map_of v.base) (u.log ++ changes)
  legal2 = subst (λ (l : List Change). IsLegal (map_of v.base) (l ++ changes)) (sym (append-nil v.seen.log)) (notes v changes level node key value good at may).legal

  abbrev w : Moment
  w = rewritten node cut changes u

  pub lasts_second : Lasts u w
  lasts_second = lasts_cut v.base u level node link cut changes good_first at1 within1 free1 low1 right1 height2 lows2 halves.cut_right above2 (covers1 link.key key_covers)

  pub good_second : Good v.base w
  good_second = good_cut v.base u level node link cut changes good_first at1 within1 free1 low1 right1 height2 lows2 halves.cut_right above2 (covers1 link.key key_covers)
      few2 (subst Rises (sym halves.cut_entries) (rises_take 8 all (omega (arith, long)) rises)) inside2 here2 inner2
      few1 height1 (subst Rises (sym entries1) (rises_drop 8 all rises)) inside1 here1 inner1 there2 legal2

  apart : link.node ≢ node
  apart e = free level (subst (IsAt v.seen level) (sym e) at)

  few_new : count_of new ≤ 9
  few_new = let a = length-entries new in let b = ap length halves.new_entries in let c = length-drop 8 all in omega (arith, a, b, c, long)

  few_cut : count_of cut ≤ 9
  few_cut = let a = length-entries cut in let b = ap length halves.cut_entries in let c = length-take-le 8 all (omega (arith, long)) in omega (arith, a, b, c)

  abbrev done : View
  done = after_rewrite node cut changes (after_rewrite link.node new [] v)

  both_are : both_entries done.seen node link ≡ all
  both_are =
      let lower = entries_here u node cut changes at1.0 ∙ halves.cut_entries in
      let upper = ap entries_of (node_there u node cut changes at1.0 link.node apart) ∙ entries1 in
      (λ j. lower j ++ upper j) ∙ take-append-drop 8 all

  pub split_entry : Contains (both_entries done.seen node link) (key, value)
  split_entry = subst (λ (xs : List Entry). Contains xs (key, value)) (sym both_are) (contains_new (entries_of (node_of v.seen.image node)) (place key (entries_of (node_of v.seen.image node))) (key, value))

  pub split_done : 0 < length new → 0 < length cut → IsSplitAt node link changes v done
  split_done some some' = record {
    base = refl;
    log = ap (λ (l : List Change). l ++ changes) (append-nil v.seen.log);
    levels = levels_cut v.base u level node link cut changes good_first at1 within1 free1 low1 right1 height2 lows2 halves.cut_right above2 (covers1 link.key key_covers)
        ∙ (λ j. set (levels_filled v.base v.seen link.node new good within free right_at j) link.node (sym at.1 j));
    root = refl;
    covers = key_covers;
    above = key_above;
    low = (low_here u node cut changes at1.0 ∙ halves.cut_low, ap low_of (node_there u node cut changes at1.0 link.node apart) ∙ low1);
    right = (right_here u node cut changes at1.0 ∙ halves.cut_right, ap right_of (node_there u node cut changes at1.0 link.node apart) ∙ (right1 ∙ ap right_of same));
    kept = subst (λ (xs : List Entry). All (Contains xs) (entries_of (node_of v.seen.image node))) (sym both_are) (kept_insert (entries_of (node_of v.seen.image node)) (place key (entries_of (node_of v.seen.image node))) (key, value));
    clear = λ h. (
      clear_here u node cut changes at1.0 (halves.cut_clear h),
      subst IsClear (sym (node_there u node cut changes at1.0 link.node apart)) (clear_here v.seen link.node new [] within halves.new_clear),
    );
    others = λ i a b. node_there u node cut changes at1.0 i a ∙ node_there v.seen link.node new [] within i b;
    lighter =
        let a = weights_light v.seen link.node new [] within few_new in
        let b = weights_light u node cut changes at1.0 few_cut in
        let e = ap weight same in omega (arith, a, b, e);
    versions = (
      version_here u node cut changes at1.0 some' ∙ ap (λ (x : List ℕ). slice_index x 0 + 2) same,
      ap (λ (x : List ℕ). slice_index x 0) (node_there u node cut changes at1.0 link.node apart) ∙ version_here v.seen link.node new [] within some,
    );
  }

-- the halves as the functions on words make them

pub halves_are : (old ws lower new cut : List ℕ) (upper : List Entry) (p key value : ℕ) (link : Link) → ws ≡ old → p ≡ place key (entries_of ws) → SameFrame ws lower
    → entries_of lower ≡ take 8 (insert (entries_of ws) p (key, value)) → upper ≡ drop 8 (insert (entries_of ws) p (key, value)) → count_of ws ≡ 16 → link.key ≡ (get_or upper 0 (0, 0)).0
    → low_of new ≡ link.key → right_of new ≡ right_of lower → level_of new ≡ level_of lower → entries_of new ≡ upper
    → right_of cut ≡ Some link → low_of cut ≡ low_of lower → level_of cut ≡ level_of lower → entries_of cut ≡ entries_of lower
    → IsClear new → (IsClear lower → IsClear cut) → AreHalves old key value link new cut
halves_are old ws lower new cut upper p key value link is at frame lowers uppers full first nlow nright nlevel nentries cright clow clevel centries nclear cclear =
    subst (λ (o : List ℕ). AreHalves o key value link new cut) is record {
      new_low = nlow;
      new_right = nright ∙ same_right ws lower frame;
      new_level = nlevel ∙ frame.level;
      new_entries = nentries ∙ (uppers ∙ ap (λ (z : ℕ). drop 8 (insert (entries_of ws) z (key, value))) at);
      cut_low = clow ∙ same_low ws lower frame;
      cut_right = cright;
      cut_level = clevel ∙ frame.level;
      cut_entries = centries ∙ (lowers ∙ ap (λ (z : ℕ). take 8 (insert (entries_of ws) z (key, value))) at);
      new_clear = nclear;
      cut_clear = λ h. cclear (frame.rest ∙ h);
      key_is = first ∙ (ap (λ (xs : List Entry). (get_or xs 0 (0, 0)).0) (uppers ∙ ap (λ (z : ℕ). drop 8 (insert (entries_of ws) z (key, value))) at) ∙ ap (λ (e : Entry). e.0) (get_or-drop 8 (with_entry ws key value) 0 (0, 0)));
    }

-- how many entries the upper half has
pub upper_some : (ws : List ℕ) (upper : List Entry) (p key value : ℕ) → p ≡ place key (entries_of ws) → upper ≡ drop 8 (insert (entries_of ws) p (key, value)) → count_of ws ≡ 16 → length upper ≡ 9
upper_some ws upper p key value at is full =
    let xs : List Entry = entries_of ws in
    let a = length-entries ws in let b = length-insert xs p (key, value) (let m = place_most key xs in omega (arith, m, at)) in
    let c = length-drop 8 (insert xs p (key, value)) in let d = ap length is in omega (arith, a, b, c, d, full)

-- the new node's right neighbour is one of its level
pub right_linked : (v : View) (level node : ℕ) (new : List ℕ) → Good v.base v.seen → IsAt v.seen level node → right_of new ≡ right_of (node_of v.seen.image node) → level_of new ≡ level_of (node_of v.seen.image node)
    → ForSome (right_of new) (λ (l : Link). IsAt v.seen (level_of new) l.node)
right_linked v level node new good at rights levels l is =
    let r = (good.nodes level node at).right l (sym rights ∙ is) in
    subst (λ (z : ℕ). IsAt v.seen z l.node) (sym (levels ∙ (good.nodes level node at).height)) r.0
