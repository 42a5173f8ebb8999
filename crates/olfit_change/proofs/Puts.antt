-- An entry is put into a node, or taken out.
use Rattle.std.proofs.Common.{◌≡◌, ◌≢◌, ℕ, zero, suc, append-nil, ◌+◌, ◌<◌, ◌≤◌, List, ◌∷◌, ◌++◌, [], length, get_or, Option, Some, None, refl, sym, ap, ◌∙◌, subst, arith}
use Rattle.std.specs.List.{All, Contains, insert, remove}
use Rattle.std.proofs.lemmas.List.Edits.{length-insert, length-remove}
use Rattle.olfit_nodes.specs.Nodes.{Entry, entries_of, entry_at, count_of, level_of, low_of, right_of, IsClear, Rises, SameFrame}
use Rattle.olfit_nodes.proofs.Frames.{same_low, same_right}
use Rattle.olfit_nodes.proofs.Places.{length-entries, get_or-entries}
use Rattle.olfit_rule.specs.declared.view.Change.{Change}
use Rattle.olfit_rule.specs.declared.view.Change.TheVariants.{Add, Drop}
use Rattle.olfit_rule.specs.declared.view.View.{View}
use Rattle.olfit_rule.specs.Maps.{map_of, map_after, IsLegal}
use Rattle.olfit_rule.specs.Tree.{node_of, low, Good, Lasts, IsAt, IsInner, Covers}
use Rattle.olfit_rule.specs.Rule.{rewritten}
use Rattle.olfit_change.specs.States.{MayPut}
use Rattle.olfit_change.proofs.Entries.{place, place_most, place_some, with_key, with_other, map_insert, map_remove, map_some, rises_insert, all_insert, all_remove, first_insert, first_weaker, kept_insert}
use Rattle.olfit_change.proofs.Histories.{after_one, legal_one}
use Rattle.olfit_change.proofs.Kept.{says_same}
use Rattle.olfit_change.proofs.Rewrites.{good_replaced, lasts_replaced, levels_same}
use Rattle.std.proofs.lemmas.List.Quantifiers.{all_pairs_remove}

-- what the map says after an entry was put into a node, or where an inner node got one
pub record Notes (base : List Entry) (changes : List Change) (level node key value : ℕ) (v : View) : Type 0 where
  pub legal : IsLegal (map_of base) (v.seen.log ++ changes)
  pub others : (j q : ℕ) → j ≢ node → IsAt v.seen 0 j → Covers v.seen j q → map_after (map_of base) v.seen.log q ≡ map_after (map_of base) (v.seen.log ++ changes) q
  pub here : level ≡ 0 → (q : ℕ) → Covers v.seen node q → with_key key (Some value) (map_of (entries_of (node_of v.seen.image node)) q) q ≡ map_after (map_of base) (v.seen.log ++ changes) q

module _ (v : View) (changes : List Change) (level node key value : ℕ) (good : Good v.base v.seen) (at : IsAt v.seen level node) (may : MayPut changes node key value v) where
  abbrev m : ℕ → Option ℕ
  m = map_of v.base

  abbrev xs : List Entry
  xs = entries_of (node_of v.seen.image node)

  leaf_notes : level ≡ 0 → Notes v.base changes level node key value v
  leaf_notes z =
      let at0 : IsAt v.seen 0 node = subst (λ (l : ℕ). IsAt v.seen l node) z at in
      let is : changes ≡ Add key value ∷ [] = may.leaf at0 in
      let n = good.nodes level node at in
      let absent : map_after m v.seen.log key ≡ None = sym (n.leaf z key may.covers) ∙ may.absent in
      let log : v.seen.log ++ Add key value ∷ [] ≡ v.seen.log ++ changes = ap (λ (c : List Change). v.seen.log ++ c) (sym is) in record {
        legal = subst (IsLegal m) log (legal_one m v.seen.log (Add key value) good.legal absent);
        others = λ j q not there c.
            let apart : key ≢ q = λ e. not (good.alone 0 j node key there at0 (subst (Covers v.seen j) (sym e) c) may.covers) in
            sym (with_other key q (Some value) (map_after m v.seen.log q) apart) ∙ (sym (after_one m v.seen.log (Add key value) q) ∙ ap (λ (l : List Change). map_after m l q) log);
        here = λ _ q c. ap (λ (o : Option ℕ). with_key key (Some value) o q) (n.leaf z q c) ∙ (sym (after_one m v.seen.log (Add key value) q) ∙ ap (λ (l : List Change). map_after m l q) log);
      }

  inner_notes : (below : ℕ) → level ≡ below + 1 → Notes v.base changes level node key value v
  inner_notes below is =
      let none : changes ≡ [] = (may.inner below (subst (λ (l : ℕ). IsAt v.seen l node) is at)).0 in record {
        legal = subst (λ (c : List Change). IsLegal m (v.seen.log ++ c)) (sym none) (subst (IsLegal m) (sym (append-nil v.seen.log)) good.legal);
        others = λ j q not there c. subst (λ (d : List Change). map_after m v.seen.log q ≡ map_after m (v.seen.log ++ d) q) (sym none) (says_same v.base v.seen.log q);
        here = λ z. absurd (omega (arith, z, is));
      }

  pub notes : Notes v.base changes level node key value v
  notes = by_level level refl
    where
      by_level : (l : ℕ) → level ≡ l → Notes v.base changes level node key value v
      by_level zero is = leaf_notes is
      by_level (suc below) is = inner_notes below (omega arith)

  -- the entries with the new one
  abbrev pub more : List Entry
  more = insert xs (place key xs) (key, value)

  pub more_rises : Rises more
  more_rises = rises_insert xs key value (good.nodes level node at).rises may.absent

  pub more_inside : All (λ (e : Entry). Covers v.seen node e.0) more
  more_inside = all_insert (λ (e : Entry). Covers v.seen node e.0) xs (place key xs) (key, value) (good.nodes level node at).inside may.covers

  pub more_says : level ≡ 0 → (q : ℕ) → Covers v.seen node q → map_of more q ≡ map_after m (v.seen.log ++ changes) q
  more_says z q c = map_insert xs (place key xs) key value q (place_most key xs) may.absent ∙ notes.here z q c

  pub more_inner : (below : ℕ) → level ≡ below + 1 → IsInner v.seen below node more
  more_inner below is =
      let n = (good.nodes level node at).inner below is in
      let put = may.inner below (subst (λ (l : ℕ). IsAt v.seen l node) is at) in
      let above = may.covers.above in
      let some : 0 < place key xs = place_some xs key n.some (first_weaker xs (low v.seen node) key above n.first) in
      let long = length-insert xs (place key xs) (key, value) (place_most key xs) in record {
        first = first_insert xs (place key xs) (key, value) (λ (e : Entry). e.0 ≡ low v.seen node) some n.some n.first;
        some = omega arith;
        children = all_insert (λ (e : Entry). IsAt v.seen below e.1 × (low v.seen e.1 ≡ e.0)) xs (place key xs) (key, value) n.children (put.1, put.2);
      }

  module _ (new : List ℕ) (frame : SameFrame (node_of v.seen.image node) new) (entries : entries_of new ≡ more) (room : count_of (node_of v.seen.image node) < 16) where
    height_put : level_of new ≡ level
    height_put = frame.level ∙ (good.nodes level node at).height

    lows_put : low_of new ≡ low v.seen node
    lows_put = same_low (node_of v.seen.image node) new frame

    pub rights_put : right_of new ≡ right_of (node_of v.seen.image node)
    rights_put = same_right (node_of v.seen.image node) new frame

    few_put : count_of new ≤ 16
    few_put = let a = length-entries new in let b = length-entries (node_of v.seen.image node) in let c = length-insert xs (place key xs) (key, value) (place_most key xs) in let d = ap length entries in omega arith

    pub good_put : Good v.base (rewritten node new changes v.seen)
    good_put = good_replaced v.base v.seen level node new changes good at height_put lows_put rights_put few_put
        (subst Rises (sym entries) more_rises) (subst (All (λ (e : Entry). Covers v.seen node e.0)) (sym entries) more_inside)
        (λ z q c. ap (λ (ys : List Entry). map_of ys q) entries ∙ more_says z q c) notes.others
        (λ b is. subst (IsInner v.seen b node) (sym entries) (more_inner b is)) notes.legal

    pub lasts_put : Lasts v.seen (rewritten node new changes v.seen)
    lasts_put = lasts_replaced v.base v.seen level node new changes good at height_put lows_put rights_put

    pub levels_put : (rewritten node new changes v.seen).levels ≡ v.seen.levels
    levels_put = levels_same v.base v.seen level node new changes good at height_put lows_put rights_put

-- an entry is taken out of a leaf

module _ (v : View) (leaf p : ℕ) (new : List ℕ) (good : Good v.base v.seen) (at : IsAt v.seen 0 leaf) (inside : p < count_of (node_of v.seen.image leaf))
    (frame : SameFrame (node_of v.seen.image leaf) new) (entries : entries_of new ≡ remove (entries_of (node_of v.seen.image leaf)) p) where
  abbrev ys : List Entry
  ys = entries_of (node_of v.seen.image leaf)

  abbrev key : ℕ
  key = (entry_at (node_of v.seen.image leaf) p).0

  abbrev changes : List Change
  changes = Drop key ∷ []

  within : p < length ys
  within = let n = length-entries (node_of v.seen.image leaf) in omega (arith, inside, n)

  key_at : (d : Entry) → (get_or ys p d).0 ≡ key
  key_at d = ap (λ (e : Entry). e.0) (get_or-entries (node_of v.seen.image leaf) p d inside)

  key_covers : Covers v.seen leaf key
  key_covers = subst (Covers v.seen leaf) (key_at (0, 0)) ((good.nodes 0 leaf at).inside p (0, 0) within)

  there_is : map_after (map_of v.base) v.seen.log key ≢ None
  there_is none = map_some ys p key within key_at (((good.nodes 0 leaf at).leaf refl key key_covers) ∙ none)

  says_dropped : (q : ℕ) → with_key key None (map_after (map_of v.base) v.seen.log q) q ≡ map_after (map_of v.base) (v.seen.log ++ changes) q
  says_dropped q = sym (after_one (map_of v.base) v.seen.log (Drop key) q)

  height_taken : level_of new ≡ 0
  height_taken = frame.level ∙ (good.nodes 0 leaf at).height

  lows_taken : low_of new ≡ low v.seen leaf
  lows_taken = same_low (node_of v.seen.image leaf) new frame

  pub rights_taken : right_of new ≡ right_of (node_of v.seen.image leaf)
  rights_taken = same_right (node_of v.seen.image leaf) new frame

  few_taken : count_of new ≤ 16
  few_taken = let a = length-entries new in let b = length-entries (node_of v.seen.image leaf) in let c = length-remove ys p within in let d = ap length entries in let e = (good.nodes 0 leaf at).few in omega arith

  pub good_taken : Good v.base (rewritten leaf new changes v.seen)
  good_taken = good_replaced v.base v.seen 0 leaf new changes good at height_taken lows_taken rights_taken few_taken
      (subst Rises (sym entries) (all_pairs_remove (λ (a b : Entry). a.0 < b.0) ys p within (good.nodes 0 leaf at).rises))
      (subst (All (λ (e : Entry). Covers v.seen leaf e.0)) (sym entries) (all_remove (λ (e : Entry). Covers v.seen leaf e.0) ys p (good.nodes 0 leaf at).inside))
      (λ z q c. ap (λ (xs : List Entry). map_of xs q) entries ∙ (map_remove ys p key q (good.nodes 0 leaf at).rises within key_at ∙ (ap (λ (o : Option ℕ). with_key key None o q) ((good.nodes 0 leaf at).leaf refl q c) ∙ says_dropped q)))
      (λ j q not there c. sym (with_other key q None (map_after (map_of v.base) v.seen.log q) (λ e. not (good.alone 0 j leaf key there at (subst (Covers v.seen j) (sym e) c) key_covers))) ∙ says_dropped q)
      (λ b is. absurd (omega arith))
      (legal_one (map_of v.base) v.seen.log (Drop key) good.legal there_is)

  pub lasts_taken : Lasts v.seen (rewritten leaf new changes v.seen)
  lasts_taken = lasts_replaced v.base v.seen 0 leaf new changes good at height_taken lows_taken rights_taken

  pub levels_taken : (rewritten leaf new changes v.seen).levels ≡ v.seen.levels
  levels_taken = levels_same v.base v.seen 0 leaf new changes good at height_taken lows_taken rights_taken

-- what the words of a call make of a node

pub record Replaces (v : View) (node : ℕ) (new : List ℕ) (changes : List Change) : Type 0 where
  pub good : Good v.base (rewritten node new changes v.seen)
  pub lasts : Lasts v.seen (rewritten node new changes v.seen)
  pub levels : (rewritten node new changes v.seen).levels ≡ v.seen.levels
  pub right : right_of new ≡ right_of (node_of v.seen.image node)
  pub low : low_of new ≡ low v.seen node
  pub kept : (below : ℕ) → IsAt v.seen (below + 1) node → All (Contains (entries_of new)) (entries_of (node_of v.seen.image node))
  pub clear : IsClear (node_of v.seen.image node) → IsClear new

pub puts : (v : View) (changes : List Change) (node key value : ℕ) (ws new : List ℕ) (p : ℕ) → Good v.base v.seen → MayPut changes node key value v → ws ≡ node_of v.seen.image node → p ≡ place key (entries_of ws)
    → SameFrame ws new → entries_of new ≡ insert (entries_of ws) p (key, value) → count_of ws < 16 → Replaces v node new changes
puts v changes node key value ws new p good may is at frame entries room = record {
  good = good_put v changes may.at.0 node key value good may.at.1 may new frame' entries' room';
  lasts = lasts_put v changes may.at.0 node key value good may.at.1 may new frame' entries' room';
  levels = levels_put v changes may.at.0 node key value good may.at.1 may new frame' entries' room';
  right = rights_put v changes may.at.0 node key value good may.at.1 may new frame' entries' room';
  low = same_low (node_of v.seen.image node) new frame';
  kept = λ below at'. subst (λ (xs : List Entry). All (Contains xs) (entries_of (node_of v.seen.image node))) (sym entries') (kept_insert (entries_of (node_of v.seen.image node)) _ (key, value));
  clear = λ h. frame'.rest ∙ h;
}
  where
    frame' : SameFrame (node_of v.seen.image node) new
    frame' = subst (λ (w : List ℕ). SameFrame w new) is frame

    entries' : entries_of new ≡ insert (entries_of (node_of v.seen.image node)) (place key (entries_of (node_of v.seen.image node))) (key, value)
    entries' = entries ∙ (λ j. insert (entries_of (is j)) ((at ∙ ap (λ (w : List ℕ). place key (entries_of w)) is) j) (key, value))

    room' : count_of (node_of v.seen.image node) < 16
    room' = subst (λ (w : List ℕ). count_of w < 16) is room

pub takes : (v : View) (leaf p : ℕ) (ws new : List ℕ) (changes : List Change) → Good v.base v.seen → IsAt v.seen 0 leaf → ws ≡ node_of v.seen.image leaf → p < count_of ws → SameFrame ws new → entries_of new ≡ remove (entries_of ws) p
    → changes ≡ Drop (entry_at ws p).0 ∷ [] → Replaces v leaf new changes
takes v leaf p ws new changes good at is inside frame entries drops = subst (Replaces v leaf new) (sym drops') record {
  good = good_taken v leaf p new good at inside' frame' entries';
  lasts = lasts_taken v leaf p new good at inside' frame' entries';
  levels = levels_taken v leaf p new good at inside' frame' entries';
  right = rights_taken v leaf p new good at inside' frame' entries';
  low = same_low (node_of v.seen.image leaf) new frame';
  kept = λ below above. let a = at.1 in let b = above.1 in absurd (omega (arith, a, b));
  clear = λ h. frame'.rest ∙ h;
}
  where
    drops' : changes ≡ Drop (entry_at (node_of v.seen.image leaf) p).0 ∷ []
    drops' = drops ∙ ap (λ (w : List ℕ). Drop (entry_at w p).0 ∷ []) is

    frame' : SameFrame (node_of v.seen.image leaf) new
    frame' = subst (λ (w : List ℕ). SameFrame w new) is frame

    entries' : entries_of new ≡ remove (entries_of (node_of v.seen.image leaf)) p
    entries' = entries ∙ ap (λ (w : List ℕ). remove (entries_of w) p) is

    inside' : p < count_of (node_of v.seen.image leaf)
    inside' = subst (λ (w : List ℕ). p < count_of w) is inside
