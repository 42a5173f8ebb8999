-- Each step keeps the rule.
use Rattle.std.proofs.Common.{◌≡◌, ℕ, suc, ◌+◌, ◌*◌, ◌%◌, ◌<◌, ◌≤◌, ◌≢◌, List, [], ◌∷◌, length, get_or, set, true, false, true≢false, sym, refl, ap, ◌∙◌, subst, ⊎_elim, arith, le_refl, length-set, get_or-set_other, get_or-set_same, add-zero, Bool, cond, eq-eqb}
use Rattle.std.proofs.lemmas.Bool.{ne_eqb}
use mathlib.Core.Logic.{dite}
use mathlib.Core.Option.{none, some}
use native.Mathlib.Decide.{ℕ_discrete}
use lib.ListN.{get_elem?}
use lib.Seq.{set-get_or}
use Rattle.atomic_table.specs.Table.{State, step, keeps, stepped, Allows, Splits, Joins}
use Rattle.atomic_table.proofs.Lists.{at_set, set_again, at_snoc}
use Rattle.olfit_nodes.specs.Nodes.{Entry}
use Rattle.olfit_rule.specs.declared.view.Change.{Change}
use Rattle.olfit_rule.specs.declared.view.Moment.{Moment}
use Rattle.olfit_rule.specs.declared.view.View.{View}
use Rattle.olfit_rule.specs.Maps.{StartsWith}
use Rattle.olfit_rule.specs.Tree.{Nodes, node_of, word_of, version, Good, Lasts}
use Rattle.olfit_rule.specs.Rule.{put, Lies, Counts, Later, Knows, Kept, reader_of, nobody, informed, Sat, Moved, Looked, looked, Peeked, peeked, own_read, found_root, stored_root, wrote, after_change, after_end, after_root, ended}
use Rattle.olfit_rule.proofs.Lasting.{starts_same, starts_on, later_same, later_none, later_on}

abbrev pub St : Type 0
St = State ℕ View

-- the present word is that of the node that was seen, where the version is still the same
unchanged : (s : St) (r : Kept s) (a : Moment) → Later a r.now → (i k : ℕ) → i < length a.image → k < 64 → version a.image i % 2 ≡ 0 → version r.nodes i ≡ version a.image i → get_or s.words (i * 64 + k) 0 ≡ word_of a.image i k
unchanged s r a late i k inside small even still =
    let c = late.count (omega arith) in let d = r.counts.count in
    let x = late.older i inside in let y = r.counts.older i in
    let same : version a.image i ≡ version r.now.image i = omega arith in
    r.lies.each i k (omega arith) small ∙ (ap (λ (n : List ℕ). get_or n k 0) (r.counts.unlatched i (ap (λ (z : ℕ). z % 2) still ∙ even) ∙ sym (late.same i inside same)))

seats_stay : (K : ℕ → View → Type 0) (vs : List View) (me : ℕ) (w : View) → K me w → ((j : ℕ) (v : View) → j ≢ me → get_elem? vs j ≡ some v → K j v)
    → (j : ℕ) (v : View) → get_elem? (set vs me w) j ≡ some v → K j v
seats_stay K vs me w mine others j v e = ⊎_elim (λ (t : (j ≡ me) × (w ≡ v)). subst (λ (x : ℕ × View). K x.0 x.1) (λ i. (sym t.0 i, t.1 i)) mine)
    (λ (t : (j ≢ me) × (get_elem? vs j ≡ some v)). others j v t.0 t.1) (at_set vs me j w v e)

-- a step that changes no word
unmoved : (s : St) (r : Kept s) (q me : ℕ) (cs : List (ℕ × ℕ)) (w : View) → Knows r.nodes r.now r.base r.writer me w → Kept (stepped s q (get_or s.words q 0) me cs w keeps)
unmoved s r q me cs w mine = subst (λ (ws : List ℕ). Kept record { words = ws; homes = s.homes; views = set s.views me w }) (sym (set-get_or s.words q 0)) record {
  nodes = r.nodes;
  now = r.now;
  base = r.base;
  writer = r.writer;
  lies = r.lies;
  counts = r.counts;
  good = r.good;
  seats = seats_stay (Knows r.nodes r.now r.base r.writer) s.views me w mine (λ j v _. r.seats j v);
}

off : false ≡ true → ⊥
off e = true≢false (sym e)

at_version : (s : St) (r : Kept s) (i : ℕ) → i < length r.nodes → get_or s.words (i * 64) 0 ≡ version r.nodes i
at_version s r i inside = ap (λ (z : ℕ). get_or s.words z 0) (sym (add-zero (i * 64))) ∙ r.lies.each i 0 inside (omega arith)

-- Readers

-- a reader that moves to the present moment knows what is so, and what its step tells
moved_knows : (s : St) (r : Kept s) (id : ℕ) (v : View) (i n loads : ℕ) → get_elem? s.views id ≡ some v → v.writes ≡ false → 0 < length v.seen.image → n ≤ version r.nodes i
    → Knows r.nodes r.now r.base r.writer id record v { seen = r.now; node = i; last = n; loads = loads } × Moved v record v { seen = r.now; node = i; last = n; loads = loads }
moved_knows s r id v i n loads at reads there low = let mine = r.seats id v at in (
  record {
    own = λ h. absurd (off (sym reads ∙ h));
    built = λ _. mine.built there;
    later = later_same r.now;
    told = mine.told;
    last = low;
  },
  record {
    writes = refl;
    kept = (refl, refl, refl, refl);
    later = mine.later;
    told = mine.told;
    good = subst (λ (base : List Entry). Good base r.now) (sym (mine.built there).0) r.good;
  },
)

pub looks : (slots id : ℕ) (me : Sat) (i : ℕ) → i < length me.0.seen.image → me.0.writes ≡ false → Allows Kept slots id me (i * 64) (λ x. x) (looked (step slots (i * 64) 0 0 none) me)
looks slots id me i inside reads s r _ at _ =
    let v : View = me.0 in
    let mine = r.seats id v at in
    let c = mine.later.count (omega arith) in let d = r.counts.count in
    let found : get_or s.words (i * 64) 0 ≡ version r.nodes i = at_version s r i (omega arith) in
    let n : ℕ = get_or s.words (i * 64) 0 in
    let w : View = record v { seen = r.now; node = i; last = n; loads = v.loads + 1 } in
    let known = moved_knows s r id v i n (v.loads + 1) at reads (omega arith) (omega arith) in (
      w,
      keeps,
      tt,
      unmoved s r (i * 64) id me.1 w known.0,
      (
        refl,
        λ j is _. let e : i ≡ j = omega arith in subst (λ (z : ℕ). Looked z n v w) e record {
          moved = known.1;
          at = (refl, refl);
          found = λ even. let same = r.counts.unlatched i (ap (λ (z : ℕ). z % 2) (sym found) ∙ even) in
              (ap (λ (n : List ℕ). get_or n 0 0) (sym same) ∙ sym found, ap (λ (n : List ℕ). length n) (sym same) ∙ r.lies.wide i (omega arith));
          loads = refl;
        },
      ),
    )

pub peeks : (slots id : ℕ) (me : Sat) (i k : ℕ) → me.0.node ≡ i → i < length me.0.seen.image → k < 64 → me.0.writes ≡ false → Allows Kept slots id me (i * 64 + k) (λ x. x) (peeked (step slots (i * 64 + k) 0 0 none) me)
peeks slots id me i k at_node inside small reads s r _ at _ =
    let v : View = me.0 in
    let mine = r.seats id v at in
    let w : View = record v { last = version r.nodes v.node } in (
      w,
      keeps,
      tt,
      unmoved s r (i * 64 + k) id me.1 w record { own = λ h. absurd (off (sym reads ∙ h)); built = mine.built; later = mine.later; told = mine.told; last = le_refl _ },
      (
        refl,
        λ l is _. let e : k ≡ l = omega arith in subst (λ (z : ℕ). Peeked z (get_or s.words (i * 64 + k) 0) v w) e record {
          same = refl;
          later = mine.last;
          found = λ even still. subst (λ (n : ℕ). get_or s.words (n * 64 + k) 0 ≡ word_of v.seen.image v.node k) at_node (unchanged s r v.seen mine.later v.node k (omega arith) small even still);
          check = λ z. let c = mine.later.count (omega arith) in let d = r.counts.count in subst (λ (n : ℕ × ℕ). get_or s.words (n.0 * 64 + n.1) 0 ≡ version r.nodes v.node) (λ j. (at_node j, sym z j)) (r.lies.each v.node 0 (omega arith) (omega arith));
        },
      ),
    )

pub same_words : (a b : List ℕ) → length a ≡ length b → ((k : ℕ) → k < length a → get_or a k 0 ≡ get_or b k 0) → a ≡ b
same_words [] [] e h = refl
same_words [] (y ∷ ys) e h = absurd (omega arith)
same_words (x ∷ xs) [] e h = absurd (omega arith)
same_words (x ∷ xs) (y ∷ ys) e h = λ i. h 0 (omega arith) i ∷ same_words xs ys (omega arith) (λ k l. h (suc k) (omega arith)) i

-- The writer

pub one_place : (i k j l : ℕ) → k < 64 → l < 64 → i * 64 + k ≡ j * 64 + l → (i ≡ j) × (k ≡ l)
one_place i k j l a b e = (omega arith, omega arith)

pub node_put : (a : Nodes) (i k b : ℕ) → i < length a → node_of (put a i k b) i ≡ set (node_of a i) k b
node_put a i k b h = get_or-set_same a i (set (node_of a i) k b) [] h

pub node_else : (a : Nodes) (i : ℕ) (x : List ℕ) (j : ℕ) → j ≢ i → node_of (set a i x) j ≡ node_of a j
node_else a i x j n = get_or-set_other a i j x [] n

lies_put : (words : List ℕ) (a : Nodes) (root i k b : ℕ) → Lies words a root → i < length a → k < 64 → Lies (set words (i * 64 + k) b) (put a i k b) root
lies_put words a root i k b lies h small = let count = lies.count in let wide = lies.wide i h in
    let long : length (put a i k b) ≡ length a = length-set a i (set (node_of a i) k b) in record {
      count = length-set words (i * 64 + k) b ∙ (count ∙ ap (λ (z : ℕ). z * 64 + 1) (sym long));
      last = ap (λ (z : ℕ). get_or (set words (i * 64 + k) b) (z * 64) 0) long ∙ (get_or-set_other words (i * 64 + k) (length a * 64) b 0 (λ e. omega arith) ∙ lies.last);
      wide = λ j l. dite (ℕ_discrete j i)
          (λ e. ap (λ (z : ℕ). length (node_of (put a i k b) z)) e ∙ (ap (λ (x : List ℕ). length x) (node_put a i k b h) ∙ (length-set (node_of a i) k b ∙ wide)))
          (λ n. ap (λ (x : List ℕ). length x) (node_else a i (set (node_of a i) k b) j n) ∙ lies.wide j (omega arith));
      each = λ j m l s. dite (ℕ_discrete j i)
          (λ e. dite (ℕ_discrete m k)
          (λ f. (λ y. get_or (set words (i * 64 + k) b) (e y * 64 + f y) 0) ∙ (get_or-set_same words (i * 64 + k) b 0 (omega arith)
          ∙ sym ((λ y. word_of (put a i k b) (e y) (f y)) ∙ (ap (λ (x : List ℕ). get_or x k 0) (node_put a i k b h) ∙ get_or-set_same (node_of a i) k b 0 (omega arith)))))
          (λ g. get_or-set_other words (i * 64 + k) (j * 64 + m) b 0 (λ z. g (omega arith)) ∙ (lies.each j m (omega arith) s
          ∙ sym (ap (λ (z : ℕ). word_of (put a i k b) z m) e ∙ (ap (λ (x : List ℕ). get_or x m 0) (node_put a i k b h) ∙ (get_or-set_other (node_of a i) k m b 0 g ∙ ap (λ (z : ℕ). word_of a z m) (sym e)))))))
          (λ n. get_or-set_other words (i * 64 + k) (j * 64 + m) b 0 (λ z. n (one_place j m i k s small z).0) ∙ (lies.each j m (omega arith) s
          ∙ sym (ap (λ (x : List ℕ). get_or x m 0) (node_else a i (set (node_of a i) k b) j n))));
    }

-- versions after a word is put
version_else : (a : Nodes) (i k b j : ℕ) → j ≢ i → version (put a i k b) j ≡ version a j
version_else a i k b j n = ap (λ (x : List ℕ). get_or x 0 0) (node_else a i (set (node_of a i) k b) j n)

-- what a seat that is not the writer's still knows
others_know : (nodes nodes' : Nodes) (now now' : Moment) (base : List Entry) (writer j : ℕ) (v : View) → j ≢ writer → Later now now' → ((i : ℕ) → version nodes i ≤ version nodes' i)
    → Knows nodes now base writer j v → Knows nodes' now' base writer j v
others_know nodes nodes' now now' base writer j v other late up k = record {
  own = λ h. absurd (other (k.own h).0);
  built = k.built;
  later = later_on v.seen now now' k.later late;
  told = starts_on v.told now.log now'.log k.told late.begins;
  last = let a = k.last in let b = up v.node in omega arith;
}

-- the writer changes a word of a node, and the others know what they knew
wrote_one : (s : St) (r : Kept s) (me : ℕ) (cs : List (ℕ × ℕ)) (i k b : ℕ) (v w : View) (now : Moment)
    → get_elem? s.views me ≡ some v → v.writes ≡ true → i < length r.nodes → k < 64 → now.root ≡ r.now.root
    → (version r.nodes i ≤ version (put r.nodes i k b) i) → Later r.now now → Counts (put r.nodes i k b) now.image → Good r.base now → Knows (put r.nodes i k b) now r.base me me w
    → Kept (stepped s (i * 64 + k) b me cs w keeps)
wrote_one s r me cs i k b v w now at writes h small root up late counts good mine =
    let own = ((r.seats me v at).own writes).0 in record {
      nodes = put r.nodes i k b;
      now = now;
      base = r.base;
      writer = me;
      lies = subst (λ (z : ℕ). Lies (set s.words (i * 64 + k) b) (put r.nodes i k b) z) (sym root) (lies_put s.words r.nodes r.now.root i k b r.lies h small);
      counts = counts;
      good = good;
      seats = seats_stay (Knows (put r.nodes i k b) now r.base me) s.views me w mine
          (λ j u n e. subst (λ (z : ℕ). Knows (put r.nodes i k b) now r.base z j u) (sym own)
          (others_know r.nodes (put r.nodes i k b) r.now now r.base r.writer j u (λ is. n (is ∙ sym own)) late
          (λ l. dite (ℕ_discrete l i) (λ is. subst (λ (z : ℕ). version r.nodes z ≤ version (put r.nodes i k b) z) (sym is) up) (λ not. let x = version_else r.nodes i k b l not in omega arith))
          (r.seats j u e)));
    }

counts_latched : (nodes image : Nodes) (i k b : ℕ) → Counts nodes image → i < length nodes → version nodes i ≤ version (put nodes i k b) i → version (put nodes i k b) i % 2 ≡ 1 → Counts (put nodes i k b) image
counts_latched nodes image i k b c h up odd = record {
  count = c.count ∙ sym (length-set nodes i (set (node_of nodes i) k b));
  unlatched = λ j even. dite (ℕ_discrete j i) (λ is. let x : version (put nodes i k b) j % 2 ≡ 1 = ap (λ (z : ℕ). version (put nodes i k b) z % 2) is ∙ odd in absurd (omega arith))
      (λ not. node_else nodes i (set (node_of nodes i) k b) j not ∙ c.unlatched j (ap (λ (z : ℕ). z % 2) (sym (version_else nodes i k b j not)) ∙ even));
  older = λ j. let o = c.older j in dite (ℕ_discrete j i) (λ is. let x = subst (λ (z : ℕ). version nodes z ≤ version (put nodes i k b) z) (sym is) up in omega arith)
      (λ not. let x = version_else nodes i k b j not in omega arith);
}

-- a store by the writer after which the node is latched
pub writes : (slots id : ℕ) (me : Sat) (i k b : ℕ) → i < length me.0.words → k < 64 → me.0.writes ≡ true → version me.0.words i ≤ version (put me.0.words i k b) i → version (put me.0.words i k b) i % 2 ≡ 1
    → Allows Kept slots id me (i * 64 + k) (λ _. b) (λ _. wrote (step slots (i * 64 + k) b 0 none) me b)
writes slots id me i k b h small is_writer up odd s r _ at _ =
    let v : View = me.0 in
    let w : View = record v { words = put v.words i k b } in
    let known = r.seats id v at in
    let own = known.own is_writer in
    let same : v.words ≡ r.nodes = own.1 in
    let h' : i < length r.nodes = subst (λ (a : Nodes). i < length a) same h in
    let up' = subst (λ (a : Nodes). version a i ≤ version (put a i k b) i) same up in
    let odd' = subst (λ (a : Nodes). version (put a i k b) i % 2 ≡ 1) same odd in (
      w,
      keeps,
      tt,
      wrote_one s r id me.1 i k b v w r.now at is_writer h' small refl up' (later_same r.now) (counts_latched r.nodes r.now.image i k b r.counts h' up' odd') r.good record {
        own = λ _. (refl, ap (λ (a : Nodes). put a i k b) same, own.2);
        built = known.built;
        later = known.later;
        told = known.told;
        last = let x = known.last in dite (ℕ_discrete v.node i) (λ is. let y = subst (λ (z : ℕ). version r.nodes z ≤ version (put r.nodes i k b) z) (sym is) up' in omega arith)
            (λ not. let y = version_else r.nodes i k b v.node not in omega arith);
      },
      (refl, λ j l is small'. let p = one_place i k j l small small' is in subst (λ (z : ℕ × ℕ). w ≡ record v { words = put v.words z.0 z.1 b }) (λ y. (p.0 y, p.1 y)) refl),
    )

-- the moment after the end of a change
later_end : (nodes : Nodes) (t : Moment) (changes : List Change) (i b : ℕ) → Counts nodes t.image → i < length nodes → 0 < length (node_of nodes i) → version nodes i < b
    → Lasts t (after_change i (set (node_of nodes i) 0 b) changes t) → Later t (after_change i (set (node_of nodes i) 0 b) changes t)
later_end nodes t changes i b c h wide up lasts =
    let count = c.count in let image : Nodes = set t.image i (set (node_of nodes i) 0 b) in
    let here : version image i ≡ b = ap (λ (x : List ℕ). get_or x 0 0) (get_or-set_same t.image i (set (node_of nodes i) 0 b) [] (omega arith)) ∙ get_or-set_same (node_of nodes i) 0 b 0 wide in
    let below : version t.image i < b = let o = c.older i in omega arith in record {
      count = λ _. sym (length-set t.image i (set (node_of nodes i) 0 b));
      begins = (changes, refl);
      older = λ j _. dite (ℕ_discrete j i) (λ is. subst (λ (z : ℕ). version t.image z ≤ version image z) (sym is) (omega arith))
          (λ not. let x = ap (λ (y : List ℕ). get_or y 0 0) (node_else t.image i (set (node_of nodes i) 0 b) j not) in omega arith);
      same = λ j _ e. dite (ℕ_discrete j i) (λ is. let x : version t.image i ≡ version image i = subst (λ (z : ℕ). version t.image z ≡ version image z) is e in absurd (omega arith))
          (λ not. sym (node_else t.image i (set (node_of nodes i) 0 b) j not));
      lasts = lasts;
    }

counts_end : (nodes image : Nodes) (i b : ℕ) → Counts nodes image → i < length nodes → Counts (put nodes i 0 b) (set image i (set (node_of nodes i) 0 b))
counts_end nodes image i b c h = let count = c.count in
    let there : node_of (put nodes i 0 b) i ≡ node_of (set image i (set (node_of nodes i) 0 b)) i = node_put nodes i 0 b h ∙ sym (get_or-set_same image i (set (node_of nodes i) 0 b) [] (omega arith)) in record {
      count = length-set image i (set (node_of nodes i) 0 b) ∙ (count ∙ sym (length-set nodes i (set (node_of nodes i) 0 b)));
      unlatched = λ j even. dite (ℕ_discrete j i) (λ is. subst (λ (z : ℕ). node_of (put nodes i 0 b) z ≡ node_of (set image i (set (node_of nodes i) 0 b)) z) (sym is) there)
          (λ not. node_else nodes i (set (node_of nodes i) 0 b) j not ∙ (c.unlatched j (ap (λ (z : ℕ). z % 2) (sym (version_else nodes i 0 b j not)) ∙ even) ∙ sym (node_else image i (set (node_of nodes i) 0 b) j not)));
      older = λ j. dite (ℕ_discrete j i) (λ is. let x : version (set image i (set (node_of nodes i) 0 b)) j ≡ version (put nodes i 0 b) j = subst (λ (z : ℕ). version (set image i (set (node_of nodes i) 0 b)) z ≡ version (put nodes i 0 b) z) (sym is) (ap (λ (y : List ℕ). get_or y 0 0) (sym there)) in omega arith)
          (λ not. let o = c.older j in let x = version_else nodes i 0 b j not in let y = ap (λ (y : List ℕ). get_or y 0 0) (node_else image i (set (node_of nodes i) 0 b) j not) in omega arith);
    }

-- the store that ends a change
pub ends : (slots id : ℕ) (me : Sat) (i b : ℕ) (changes : List Change) → i < length me.0.words → me.0.writes ≡ true → version me.0.words i < b
    → Good me.0.base (after_end i b changes me.0).seen → Lasts me.0.seen (after_end i b changes me.0).seen
    → Allows Kept slots id me (i * 64) (λ _. b) (λ _. ended changes (step slots (i * 64) b 0 none) me b)
ends slots id me i b changes h is_writer up good lasts s r _ at _ =
    let v : View = me.0 in
    let w : View = after_end i b changes v in
    let known = r.seats id v at in
    let own = known.own is_writer in
    let same : v.words ≡ r.nodes = own.1 in
    let seen : v.seen ≡ r.now = own.2 in
    let h' : i < length r.nodes = subst (λ (a : Nodes). i < length a) same h in
    let count = r.counts.count in
    let more : 0 < length v.seen.image = subst (λ (t : Moment). 0 < length t.image) (sym seen) (omega arith) in
    let wide = r.lies.wide i h' in
    let here : version (put r.nodes i 0 b) i ≡ b = ap (λ (x : List ℕ). get_or x 0 0) (node_put r.nodes i 0 b h') ∙ get_or-set_same (node_of r.nodes i) 0 b 0 (omega arith) in
    let up' : version r.nodes i < b = subst (λ (a : Nodes). version a i < b) same up in
    let now : Moment = after_change i (set (node_of r.nodes i) 0 b) changes r.now in
    let is : w.seen ≡ now = λ y. after_change i (set (node_of (same y) i) 0 b) changes (seen y) in
    let late : Later r.now now = later_end r.nodes r.now changes i b r.counts h' (omega arith) up' (subst (λ (z : Moment × Moment). Lasts z.0 z.1) (λ y. (seen y, is y)) lasts) in
    let on : version r.nodes i ≤ version (put r.nodes i 0 b) i = omega arith in (
      w,
      keeps,
      tt,
      subst (λ (q : ℕ). Kept (stepped s q b id me.1 w keeps)) (add-zero (i * 64)) (wrote_one s r id me.1 i 0 b v w now at is_writer h' (omega arith) refl on late (counts_end r.nodes r.now.image i b r.counts h')
          (subst (λ (z : List Entry × Moment). Good z.0 z.1) (λ y. ((known.built more).0 y, is y)) good) record {
            own = λ _. (refl, ap (λ (a : Nodes). put a i 0 b) same, is);
            built = λ _. known.built more;
            later = subst (λ (z : Moment). Later z now) (sym is) (later_same now);
            told = starts_on v.told r.now.log now.log known.told late.begins;
            last = let x = known.last in dite (ℕ_discrete v.node i) (λ is. let y = subst (λ (z : ℕ). version r.nodes z ≤ version (put r.nodes i 0 b) z) (sym is) on in omega arith)
                (λ not. let y = version_else r.nodes i 0 b v.node not in omega arith);
          }),
      (refl, λ j is. let e : i ≡ j = omega arith in subst (λ (z : ℕ). w ≡ after_end z b changes v) e refl),
    )

-- what the writer met is of an index that was built of the same entries
same_base : (s : St) (r : Kept s) (id : ℕ) (v : View) → get_elem? s.views id ≡ some v → v.writes ≡ true → 0 < length r.nodes → v.met ≡ v.base
same_base s r id v at is_writer more =
    let known = r.seats id v at in let count = r.counts.count in
    let there : 0 < length v.seen.image = subst (λ (t : Moment). 0 < length t.image) (sym (known.own is_writer).2) (omega arith) in
    let b = known.built there in b.1 ∙ sym b.0

-- the writer loads what it left
pub own_loads : (slots id : ℕ) (me : Sat) (i k : ℕ) → i < length me.0.words → k < 64 → me.0.writes ≡ true → Allows Kept slots id me (i * 64 + k) (λ x. x) (own_read (step slots (i * 64 + k) 0 0 none) me)
own_loads slots id me i k h small is_writer s r _ at _ =
    let known = r.seats id me.0 at in let own = known.own is_writer in let same = own.1 in
    let h' : i < length r.nodes = subst (λ (a : Nodes). i < length a) same h in (
      me.0,
      keeps,
      tt,
      unmoved s r (i * 64 + k) id me.1 me.0 known,
      (
        refl,
        λ j l _ is small'. let p = one_place i k j l small small' is in r.lies.each i k h' small ∙ (λ y. word_of (sym same y) (p.0 y) (p.1 y)),
        λ is. absurd (omega arith),
        subst (λ (t : Moment). StartsWith t.log me.0.told) (sym own.2) known.told,
        λ _. same_base s r id me.0 at is_writer (omega arith),
      ),
    )

-- the writer loads the root word
pub own_loads_root : (slots id : ℕ) (me : Sat) → me.0.writes ≡ true → Allows Kept slots id me (length me.0.words * 64) (λ x. x) (own_read (step slots (length me.0.words * 64) 0 0 none) me)
own_loads_root slots id me is_writer s r _ at _ =
    let known = r.seats id me.0 at in let own = known.own is_writer in let same = own.1 in let q : ℕ = length me.0.words * 64 in
    let e : length r.nodes ≡ length me.0.words = ap (λ (a : Nodes). length a) (sym same) in (
      me.0,
      keeps,
      tt,
      unmoved s r q id me.1 me.0 known,
      (
        refl,
        λ j l inside is small'. absurd (omega arith),
        λ _. subst (λ (n : ℕ). get_or s.words (n * 64) 0 ≡ r.now.root) e r.lies.last ∙ ap (λ (t : Moment). t.root) (sym own.2),
        subst (λ (t : Moment). StartsWith t.log me.0.told) (sym own.2) known.told,
        λ some. same_base s r id me.0 at is_writer (subst (λ (a : Nodes). 0 < length a) same some),
      ),
    )

-- a reader is made, or a note for a meeting
pub splits : (id : ℕ) (v : View) → Splits Kept id v v (reader_of v)
splits id v s r at = let known = r.seats id v at in record {
  nodes = r.nodes;
  now = r.now;
  base = r.base;
  writer = r.writer;
  lies = r.lies;
  counts = r.counts;
  good = r.good;
  seats = λ j u e. ⊎_elim (λ was. r.seats j u (subst (λ l. get_elem? l j ≡ some u) (set_again s.views id v at) was))
      (λ (t : reader_of v ≡ u). subst (Knows r.nodes r.now r.base r.writer j) t record { own = λ h. absurd (off h); built = known.built; later = known.later; told = known.told; last = omega arith })
      (at_snoc (set s.views id v) (reader_of v) u j e);
}

-- a note is taken in
pub joins : (id : ℕ) (v : View) (other : ℕ) (u : View) → Joins Kept id v other u (informed v u) nobody
joins id v other u s r at apart there =
    let w : View = informed v u in
    let known = r.seats id v at in
    let theirs = ⊎_elim (λ (t : (other ≡ id) × (w ≡ u)). absurd (apart t.0)) (λ (t : (other ≢ id) × (get_elem? s.views other ≡ some u)). r.seats other u t.1) (at_set s.views id other w u there) in
    let met : 0 < length v.seen.image → w.met ≡ r.base = λ h. dite (ℕ_discrete (length u.seen.image) 0)
    (λ empty. ap (λ (b : Bool). cond b v.met u.base) (eq-eqb _ 0 empty) ∙ (known.built h).1)
    (λ full. ap (λ (b : Bool). cond b v.met u.base) (ne_eqb _ 0 full) ∙ (theirs.built (omega arith)).0) in
    let K = Knows r.nodes r.now r.base r.writer in record {
      nodes = r.nodes;
      now = r.now;
      base = r.base;
      writer = r.writer;
      lies = r.lies;
      counts = r.counts;
      good = r.good;
      seats = seats_stay K (set s.views id w) other nobody record { own = λ h. absurd (off h); built = λ h. absurd (omega arith); later = later_none r.now; told = (r.now.log, refl); last = omega arith }
          (λ j x _ e. seats_stay K s.views id w record { own = known.own; built = λ h. ((known.built h).0, met h); later = known.later; told = theirs.later.begins; last = known.last } (λ i y _ e'. r.seats i y e') j x e);
    }

-- The root word

pub finds_root : (slots id : ℕ) (me : Sat) → me.0.writes ≡ false → Allows Kept slots id me (length me.0.seen.image * 64) (λ x. x) (found_root (step slots (length me.0.seen.image * 64) 0 0 none) me)
finds_root slots id me reads s r _ at _ =
    let v : View = me.0 in
    let q : ℕ = length v.seen.image * 64 in
    dite (ℕ_discrete (length v.seen.image) 0)
    (λ empty. let w : View = v in (
      w,
      keeps,
      tt,
      unmoved s r q id me.1 w (r.seats id v at),
      (refl, λ _ more. absurd (omega arith)),
    ))
    (λ full. let w : View = record v { seen = r.now; node = 0; last = 0; loads = v.loads } in
    let known = moved_knows s r id v 0 0 v.loads at reads (omega arith) (omega arith) in (
      w,
      keeps,
      tt,
      unmoved s r q id me.1 w known.0,
      (
        refl,
        λ _ more. let c = (r.seats id v at).later.count more in let d = r.counts.count in let e : length r.nodes ≡ length v.seen.image = omega arith in record {
          moved = known.1;
          root = subst (λ (n : ℕ). get_or s.words (n * 64) 0 ≡ r.now.root) e r.lies.last;
          loads = refl;
        },
      ),
    ))

pub stores_root : (slots id : ℕ) (me : Sat) (b : ℕ) → me.0.writes ≡ true → 0 < length me.0.words → Good me.0.base (after_root b me.0.seen) → Lasts me.0.seen (after_root b me.0.seen)
    → Allows Kept slots id me (length me.0.words * 64) (λ _. b) (λ _. stored_root (step slots (length me.0.words * 64) b 0 none) me b)
stores_root slots id me b is_writer more good lasts s r _ at _ =
    let v : View = me.0 in
    let w : View = record v { seen = after_root b v.seen } in
    let known = r.seats id v at in
    let own = known.own is_writer in
    let q : ℕ = length v.words * 64 in
    let e : length v.words ≡ length r.nodes = ap (λ (a : Nodes). length a) own.1 in
    let count = r.lies.count in let images = r.counts.count in
    let now : Moment = after_root b r.now in
    let is : w.seen ≡ now = ap (after_root b) own.2 in
    let full : 0 < length v.seen.image = subst (λ (t : Moment). 0 < length t.image) (sym own.2) (omega arith) in
    let late : Later r.now now = record { count = λ _. refl; begins = starts_same r.now.log; older = λ i _. le_refl _; same = λ i _ _. refl; lasts = subst (λ (z : Moment × Moment). Lasts z.0 z.1) (λ y. (own.2 y, is y)) lasts } in (
      w,
      keeps,
      tt,
      record {
        nodes = r.nodes;
        now = now;
        base = r.base;
        writer = r.writer;
        lies = record {
          count = length-set s.words q b ∙ count;
          last = ap (λ (n : ℕ). get_or (set s.words q b) (n * 64) 0) (sym e) ∙ get_or-set_same s.words q b 0 (omega arith);
          wide = r.lies.wide;
          each = λ i k h small. get_or-set_other s.words q (i * 64 + k) b 0 (λ is. omega arith) ∙ r.lies.each i k h small;
        };
        counts = r.counts;
        good = subst (λ (z : List Entry × Moment). Good z.0 z.1) (λ y. ((known.built full).0 y, is y)) good;
        seats = seats_stay (Knows r.nodes now r.base r.writer) s.views id w record {
          own = λ _. (own.0, own.1, is);
          built = λ _. known.built full;
          later = subst (λ (z : Moment). Later z now) (sym is) (later_same now);
          told = known.told;
          last = known.last;
        }
            (λ j u n e'. others_know r.nodes r.nodes r.now now r.base r.writer j u (λ same. n (same ∙ sym own.0)) late (λ i. le_refl _) (r.seats j u e'));
      },
      (refl, λ _. refl),
    )
