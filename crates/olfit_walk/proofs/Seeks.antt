-- What the entries up to a key say of it.
use Rattle.std.proofs.Common.{◌≡◌, ◌≢◌, ◌∙◌, ◌⊎◌, ℕ, ◌+◌, ◌-◌, ◌%◌, ◌<◌, ◌≤◌, nat_le, List, length, get_or, Option, Some, None, sym, ap, subst, arith, ⊎_elim, inl, inr}
use Rattle.std.specs.Prelude.{min}
use Rattle.std.specs.Option.{ForSome}
use Rattle.std.proofs.lemmas.Bool.{cases_lt, cases_eq}
use Rattle.atomic_table.specs.Seated.{TableId}
use Rattle.atomic_table.specs.declared.shared.Seat.{Seat}
use Rattle.olfit_nodes.specs.declared.head.Link.{Link}
use Rattle.olfit_nodes.specs.Nodes.{Entry, child_in, count_of, entries_of, entry_at, right_of, Rises}
use Rattle.olfit_nodes.proofs.Places.{length-entries, get_or-entries}
use Rattle.olfit_nodes.proofs.Searches.{child_none, child_some, upto_is}
use Rattle.olfit_rule.specs.declared.view.Moment.{Moment}
use Rattle.olfit_rule.specs.declared.view.View.{View}
use Rattle.olfit_rule.specs.Maps.{map_of}
use Rattle.olfit_rule.specs.Rule.{IsReading, IsStill, Peeks}
use Rattle.olfit_rule.specs.Tree.{node_of, word_of}
use Rattle.olfit_rule.proofs.Peeking.{reading_on, seen_still, still_before}
use Rattle.olfit_walk.specs.Ways.{IsSaid, IsTurn, IsUpto, IsBelowRight}
use Rattle.olfit_walk.specs.declared.seek.Turn.{Turn}
use Rattle.olfit_walk.specs.declared.seek.Turn.TheVariants.{Next, Value, Again}
use Rattle.olfit_walk.proofs.Finds.{map_at, map_none}

module _ (words : List ℕ) (key p : ℕ) (few : count_of words ≤ 16) (rises : Rises (entries_of words)) (u : IsUpto words key p) where
  abbrev keys : ℕ → ℕ
  keys i = (entry_at words i).0

  rise : (i j : ℕ) → i < j → j < count_of words → keys i < keys j
  rise i j less inside =
      let n = length-entries words in
      let r = rises i j (0, 0) less (omega arith) in
      let a = ap (λ (e : Entry). e.0) (get_or-entries words i (0, 0) (omega arith)) in let b = ap (λ (e : Entry). e.0) (get_or-entries words j (0, 0) inside) in omega (arith, r, a, b)

  greater : (i : ℕ) → p ≤ i → i < count_of words → key < keys i
  greater i from inside = ⊎_elim
      (λ (is : i ≡ p). subst (λ (z : ℕ). key < keys z) (sym is) (u.above (omega (arith, is, inside))))
      (λ (not : i ≢ p). let a = u.above (omega (arith, from, inside)) in let b = rise p i (omega (arith, from, not)) inside in omega (arith, a, b))
      (cases_eq i p)

  counted : p ≡ Rattle.std.specs.List.count_by (λ (e : Entry). nat_le e.0 key) (entries_of words)
  counted = upto_is words key p rises u.within u.below u.above

  apart : ((i : ℕ) → i < count_of words → keys i ≢ key) → None ≡ map_of (entries_of words) key
  apart other = sym (map_none (entries_of words) key (0, 0) (λ k l. let n = length-entries words in
      subst (λ (e : Entry). e.0 ≢ key) (sym (get_or-entries words k (0, 0) (omega (arith, l, n)))) (other k (omega (arith, l, n)))))

  pub said_none : p ≡ 0 → IsSaid words key (Value None)
  said_none is = (
    inr (sym (child_none words key rises (sym counted ∙ is))),
    apart (λ i l e. let g = greater i (omega (arith, is)) l in omega (arith, g, e)),
  )

  pub said_child : (v : ℕ) → 0 < p → v ≡ (entry_at words (p - 1)).1 → child_in key (entries_of words) ≡ Some v
  said_child v some is = sym (child_some words key p rises counted some) ∙ ap Some (sym is)

  pub said_value : (v : ℕ) → 0 < p → keys (p - 1) ≡ key → v ≡ (entry_at words (p - 1)).1 → Some v ≡ map_of (entries_of words) key
  said_value v some here is =
      let n = length-entries words in let w = u.within in
      let at = get_or-entries words (p - 1) (0, 0) (omega (arith, w, some)) in
      sym (map_at (entries_of words) (p - 1) key (0, 0) (omega (arith, n, w, some)) (ap (λ (e : Entry). e.0) at ∙ here)
      (λ k l e. let r = rise k (p - 1) l (omega (arith, w, some)) in let a = ap (λ (x : Entry). x.0) (get_or-entries words k (0, 0) (omega (arith, l, w, some))) in omega (arith, r, a, e, here))
      ∙ (ap (λ (e : Entry). Some e.1) at ∙ ap Some (sym is)))

  pub said_other : 0 < p → keys (p - 1) ≢ key → None ≡ map_of (entries_of words) key
  said_other some other = apart (λ i l e. elim (cases_lt i p) [
    | inl less ↦ elim (cases_eq i (p - 1)) [
      | inl is ↦ other (sym (ap keys is) ∙ e)
      | inr not ↦ let r = rise i (p - 1) (omega (arith, less, not)) (let w = u.within in omega (arith, w, some)) in let b = u.below (p - 1) (omega (arith, some)) in omega (arith, r, b, e)
    ]
    | inr more ↦ let g = greater i more l in omega (arith, g, e)
  ])

-- what the right link leaves to the entries
pub turn_of_said : (words : List ℕ) (key : ℕ) (turn : Turn) → IsBelowRight words key → IsSaid words key turn → IsTurn words key turn
turn_of_said words key (Next node) below said = inr (below, said.0, said.1)
turn_of_said words key (Value value) below said = ((below, said.0), said.1)
turn_of_said words key (Again first second) below said = said

pub below_none : (words : List ℕ) (key : ℕ) → right_of words ≡ None → IsBelowRight words key
below_none words key none link is = absurd (none_some link (sym none ∙ is))
  where
    none_some : (l : Link) → None ≡ Some l → ⊥
    none_some l e = cc

pub below_some : (words : List ℕ) (key : ℕ) (link : Link) → right_of words ≡ Some link → key < link.key → IsBelowRight words key
below_some words key link some less l is = subst (λ (z : ℕ). key < z) (ap key_in (sym some ∙ is)) less
  where
    key_in : Option Link → ℕ
    key_in None = 0
    key_in (Some m) = m.key

-- how many entries were found, once the number of entries was loaded
pub upto_found : (table : TableId) (node first key head count below : ℕ) (p q r : Seat ℕ View) → IsReading table node first p → Peeks p q → Peeks q r → (IsStill q.me.0 → head ≡ word_of p.me.0.seen.image node 6)
    → count_of (node_of p.me.0.seen.image node) ≤ 16 → count ≡ min (head % 65536) 16
    → (IsStill r.me.0 → count ≡ count_of (node_of q.me.0.seen.image node) → IsUpto (node_of q.me.0.seen.image node) key below) → IsStill r.me.0
    → (head ≡ word_of p.me.0.seen.image node 6) × IsUpto (node_of p.me.0.seen.image node) key below
upto_found table node first key head count below p q r reading a b word few counts found still =
    let is = word (still_before table node first q r (reading_on table node first p q reading a) b still) in
    let seen : q.me.0.seen ≡ p.me.0.seen = seen_still p q a in
    let rest = ap (λ (z : ℕ). z % 65536) is in
    let so : count ≡ count_of (node_of p.me.0.seen.image node) = omega (arith, rest, few, counts) in
    (is, subst (λ (t : Moment). IsUpto (node_of t.image node) key below) seen (found still (so ∙ ap (λ (t : Moment). count_of (node_of t.image node)) (sym seen))))
