-- The session that a verdict names.
use Rattle.std.proofs.Common.{◌≡◌, ℕ, suc, ◌≤◌, min, Bool, true, false, cond, List, [], ◌∷◌, map, Option, None, Some, refl, sym, ◌∙◌, ap, subst, arith, inl, inr}
use Rattle.std.proofs.lemmas.Bool.{cases_lt, true≢false}
use Rattle.std.proofs.lemmas.Option.{none-some}
use Rattle.std.specs.Prelude.{◌⊎◌, nat_le}
use Rattle.std.specs.List.{list_any, filter, fold, Any, AllByRecursion}
use Rattle.key_space.specs.declared.lock.Held.{Held}
use Rattle.key_space.specs.declared.lock.Verdict.{Verdict}
use Rattle.key_space.specs.declared.lock.Verdict.TheVariants.{Granted, Wait, Die, Full}
use Rattle.key_space.specs.Locks.{covers_ask, conflicts, conflicts_older, in_the_way, least, least_owner, own_count, or_else, verdict_of, IsLeastOwner}

fold_min : (a b : ℕ) (ns : List ℕ) → fold min (min a b) ns ≡ min a (fold min b ns)
fold_min a b [] = refl
fold_min a b (n ∷ ns) = ap (λ (m : ℕ). fold min m ns) (omega arith) ∙ fold_min a (min b n) ns

-- the least of a number and of others
least_more : (a : ℕ) (ns : List ℕ) (who : ℕ) → least (a ∷ ns) ≡ Some who → ((ns ≡ []) × (who ≡ a)) ⊎ ((other : ℕ) × (least ns ≡ Some other) × (who ≡ min a other))
least_more a [] who e = inl (refl, cc)
least_more a (n ∷ ns) who e =
    let found : fold min (min a n) ns ≡ who = cc in
    inr (fold min n ns, refl, sym found ∙ fold_min a n ns)

cons_is_nil : {A : Type 0} (x : A) (xs : List A) → x ∷ xs ≡ [] → ⊥
cons_is_nil x xs e = cc

map_nil : {A B : Type 0} (f : A → B) (xs : List A) → map f xs ≡ [] → xs ≡ []
map_nil f [] e = refl
map_nil f (x ∷ xs) e = absurd (cons_is_nil _ _ e)

module _ (test : Held → Bool) where
  abbrev Passes : ℕ → Held → Type 0
  Passes who h = (test h ≡ true) × (h.who ≡ who)

  abbrev AtLeast : ℕ → Held → Type 0
  AtLeast who h = test h ≡ true → who ≤ h.who

  later : (who : ℕ) (h : Held) (held : List Held) → Any (Passes who) held → Any (Passes who) (h ∷ held)
  later who h held found = (suc found.0, found.1, omega (arith, found.2), found.3, found.4)

  lower : (who other : ℕ) (held : List Held) → who ≤ other → AllByRecursion (AtLeast other) held → AllByRecursion (AtLeast who) held
  lower who other [] le all = tt
  lower who other (h ∷ held) le all = ((λ passes. omega (arith, all.0 passes)), lower who other held le all.1)

  -- where none passes, all that pass are as high as one likes
  none_pass : (who : ℕ) (held : List Held) → filter test held ≡ [] → AllByRecursion (AtLeast who) held
  none_pass who [] none = tt
  none_pass who (h ∷ held) none =
      elim (test h) as (λ b. cond b (h ∷ filter test held) (filter test held) ≡ [] → (b ≡ true → who ≤ h.who) × AllByRecursion (AtLeast who) held) [
        | true ↦ λ e. absurd cc
        | false ↦ λ e. ((λ passes. absurd cc), none_pass who held e)
      ] none

  step : (h : Held) (held : List Held) (who : ℕ) (b : Bool) → test h ≡ b → least (map (λ x. x.who) (cond b (h ∷ filter test held) (filter test held))) ≡ Some who
      → ((w : ℕ) → least_owner test held ≡ Some w → IsLeastOwner test held w) → IsLeastOwner test (h ∷ held) who
  step h held who false t e rest =
      let r = rest who e in
      record { there = later who h held r.there; least = ((λ passes. absurd (true≢false (sym passes ∙ t))), r.least) }
  step h held who true t e rest =
      elim (least_more h.who (map (λ x. x.who) (filter test held)) who e) [
        | inl m ↦ record {
          there = (0, h, omega arith, refl, (t, sym m.1));
          least = ((λ passes. omega (arith, m.1)), none_pass who held (map_nil (λ x. x.who) (filter test held) m.0));
        }
        | inr m ↦
            let r = rest m.0 m.1 in
            record {
              there = elim (cases_lt m.0 h.who) [
                | inl lt ↦ let same : m.0 ≡ who = omega (arith, m.2) in later who h held (subst (λ (w : ℕ). Any (Passes w) held) same r.there)
                | inr le ↦ (0, h, omega arith, refl, (t, omega (arith, m.2)))
              ];
              least = ((λ passes. omega (arith, m.2)), lower who m.0 held (omega (arith, m.2)) r.least);
            }
      ]

  pub least_owner_is : (held : List Held) (who : ℕ) → least_owner test held ≡ Some who → IsLeastOwner test held who
  least_owner_is [] who e = absurd (none-some who e)
  least_owner_is (h ∷ held) who e = step h held who (test h) refl e (λ w found. least_owner_is held w found)

-- ---- the steps of the verdict

granted_is_die : (n : ℕ) → Granted ≡ Die n → ⊥
granted_is_die n e = cc

granted_is_wait : (n : ℕ) → Granted ≡ Wait n → ⊥
granted_is_wait n e = cc

full_is_die : (a b n : ℕ) → Full a b ≡ Die n → ⊥
full_is_die a b n e = cc

full_is_wait : (a b n : ℕ) → Full a b ≡ Wait n → ⊥
full_is_wait a b n e = cc

wait_is_die : (m n : ℕ) → Wait m ≡ Die n → ⊥
wait_is_die m n e = cc

die_is_wait : (m n : ℕ) → Die m ≡ Wait n → ⊥
die_is_wait m n e = cc

abbrev steps : Bool → Option ℕ → Option ℕ → Bool → ℕ → Verdict
steps covered older any full own = cond covered Granted (or_else older Die (or_else any Wait (cond full (Full own 1024) Granted)))

dies : (covered : Bool) (older any : Option ℕ) (full : Bool) (own holder : ℕ) → steps covered older any full own ≡ Die holder → older ≡ Some holder
dies true older any full own holder e = absurd (granted_is_die holder e)
dies false (Some n) any full own holder e = cc
dies false None (Some n) full own holder e = absurd (wait_is_die n holder e)
dies false None None true own holder e = absurd (full_is_die own 1024 holder e)
dies false None None false own holder e = absurd (granted_is_die holder e)

waits : (covered : Bool) (older any : Option ℕ) (full : Bool) (own holder : ℕ) → steps covered older any full own ≡ Wait holder → any ≡ Some holder
waits true older any full own holder e = absurd (granted_is_wait holder e)
waits false (Some n) any full own holder e = absurd (die_is_wait n holder e)
waits false None (Some n) full own holder e = cc
waits false None None true own holder e = absurd (full_is_wait own 1024 holder e)
waits false None None false own holder e = absurd (granted_is_wait holder e)

pub dies_for_the_least : (held : List Held) (ask : Held) (holder : ℕ) → verdict_of held ask ≡ Die holder → IsLeastOwner (conflicts_older ask) held holder
dies_for_the_least held ask holder e =
    least_owner_is (conflicts_older ask) held holder
    (dies (list_any (covers_ask ask) held) (least_owner (in_the_way true ask) held) (least_owner (in_the_way false ask) held) (nat_le 1024 (own_count ask held)) (own_count ask held) holder e)

pub waits_for_the_least : (held : List Held) (ask : Held) (holder : ℕ) → verdict_of held ask ≡ Wait holder → IsLeastOwner (conflicts ask) held holder
waits_for_the_least held ask holder e =
    least_owner_is (conflicts ask) held holder
    (waits (list_any (covers_ask ask) held) (least_owner (in_the_way true ask) held) (least_owner (in_the_way false ask) held) (nat_le 1024 (own_count ask held)) (own_count ask held) holder e)
