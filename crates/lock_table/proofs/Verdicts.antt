-- Lists of locks that give the same verdict.
use Rattle.std.proofs.Common.{◌≡◌, ℕ, ◌+◌, ◌<◌, ◌≤◌, Bool, true, false, not, ◌&&◌, cond, List, [], ◌∷◌, length, get_or, refl, sym, ◌∙◌, ap, arith, inl, inr}
use Rattle.std.proofs.lemmas.Bool.{cases_lt, eq-eqb, eqb-true, and_parts, and_from, false_from_ne_true, lt-ltb, le-leb, lt-leb}
use Rattle.std.proofs.lemmas.List.Elements.{All-from_recursion}
use Rattle.std.proofs.lemmas.List.Sums.{sum_by-cons, get_or-le-sum_by, length-filter}
use Rattle.std.proofs.lemmas.Option.{none-some}
use Rattle.std.specs.Prelude.{◌==◌, ◌||◌, nat_lt, nat_le, Option, None, Some, map}
use Rattle.std.specs.List.{count_by, list_any, filter}
use Rattle.key_space.specs.declared.lock.Held.{Held}
use Rattle.key_space.specs.declared.lock.Verdict.{Verdict}
use Rattle.key_space.specs.declared.lock.Verdict.TheVariants.{Granted, Wait, Die, Full}
use Rattle.key_space.specs.Locks.{covers_ask, in_the_way, least, least_owner, own_count, or_else, is_granted, IsLeastOwner}
use Rattle.key_space.proofs.LockLaws.{least_owner_is}
use Rattle.lock_table.specs.Orders.{Decides}
use Rattle.lock_table.proofs.Counts.{count_nothing}

any_step : (b rest : Bool) (n : ℕ) → rest ≡ nat_lt 0 n → (b || rest) ≡ nat_lt 0 (cond b 1 0 + n)
any_step true rest n e = sym (lt-ltb 0 (1 + n) (omega arith))
any_step false rest n e = e ∙ ap (nat_lt 0) (omega arith)

any_counted : (test : Held → Bool) (held : List Held) → list_any test held ≡ nat_lt 0 (count_by test held)
any_counted test [] = refl
any_counted test (h ∷ held) =
    any_step (test h) (list_any test held) (count_by test held) (any_counted test held)
    ∙ sym (ap (nat_lt 0) (sum_by-cons (λ x. cond (test x) 1 0) h held))

-- equal numbers pass
abbrev pub SameCount : (Held → Bool) → List Held → List Held → Type 0
SameCount test xs ys = count_by test xs ≡ count_by test ys

pub same_any : (test : Held → Bool) (xs ys : List Held) → SameCount test xs ys → list_any test xs ≡ list_any test ys
same_any test xs ys same = any_counted test xs ∙ ap (nat_lt 0) same ∙ sym (any_counted test ys)

counted_one : (b : Bool) → b ≡ true → cond {A = ℕ} b 1 0 ≡ 1
counted_one b e = ap (λ (x : Bool). cond {A = ℕ} x 1 0) e

no_least : (held : List Held) → least (map (λ h. h.who) held) ≡ None → length held ≡ 0
no_least [] e = refl
no_least (h ∷ held) e = absurd (none-some _ (sym e))

module _ (test : Held → Bool) where
  -- the test passes the lock, and it is of that session
  abbrev of : ℕ → Held → Bool
  of who h = test h && h.who == who

  found : (held : List Held) (who : ℕ) → IsLeastOwner test held who → 0 < count_by (of who) held
  found held who is =
      let k = is.there.0 in
      let h = is.there.1 in
      let passes : of who h ≡ true = and_from (test h) (h.who == who) is.there.4.0 (eq-eqb h.who who is.there.4.1) in
      let one : cond {A = ℕ} (of who (get_or held k h)) 1 0 ≡ 1 = counted_one (of who (get_or held k h)) (ap (of who) is.there.3 ∙ passes) in
      omega (arith, get_or-le-sum_by (λ x. cond (of who x) 1 0) held k h is.there.2)

  low : (held : List Held) (who other : ℕ) → IsLeastOwner test held who → 0 < count_by (of other) held → who ≤ other
  low held who other is some = elim (cases_lt other who) [
    | inr le ↦ le
    | inl lt ↦
        let all = All-from_recursion (λ h. test h ≡ true → who ≤ h.who) held is.least in
        let none : count_by (of other) held ≡ 0 = count_nothing (of other) held (λ k d within. false_from_ne_true _ (λ passes.
        let parts = and_parts (test (get_or held k d)) ((get_or held k d).who == other) passes in
        let up = all k d within parts.0 in
        let same = eqb-true (get_or held k d).who other parts.1 in
        absurd (omega arith))) in
        absurd (omega arith)
  ]

  none_found : (held : List Held) → least_owner test held ≡ None → count_by test held ≡ 0
  none_found held none = sym (length-filter test held) ∙ no_least (filter test held) none

  some_found : (held : List Held) (who : ℕ) → IsLeastOwner test held who → 0 < count_by test held
  some_found held who is =
      let k = is.there.0 in
      let h = is.there.1 in
      let one : cond {A = ℕ} (test (get_or held k h)) 1 0 ≡ 1 = counted_one (test (get_or held k h)) (ap test is.there.3 ∙ is.there.4.0) in
      omega (arith, get_or-le-sum_by (λ x. cond (test x) 1 0) held k h is.there.2)

  same_least_by : (xs ys : List Held) (a b : Option ℕ) → SameCount test xs ys → ((who : ℕ) → SameCount (of who) xs ys)
      → least_owner test xs ≡ a → least_owner test ys ≡ b → a ≡ b
  same_least_by xs ys None None same each ea eb = refl
  same_least_by xs ys None (Some n) same each ea eb =
      let some = some_found ys n (least_owner_is test ys n eb) in
      let none = none_found xs ea in
      absurd (omega arith)
  same_least_by xs ys (Some m) None same each ea eb =
      let some = some_found xs m (least_owner_is test xs m ea) in
      let none = none_found ys eb in
      absurd (omega arith)
  same_least_by xs ys (Some m) (Some n) same each ea eb =
      let of_xs = least_owner_is test xs m ea in
      let of_ys = least_owner_is test ys n eb in
      let there = found xs m of_xs in
      let here = found ys n of_ys in
      let up = low ys n m of_ys (omega (arith, each m)) in
      let down = low xs m n of_xs (omega (arith, each n)) in
      ap (λ (w : ℕ). Some w) (omega arith)

  pub same_least : (xs ys : List Held) → SameCount test xs ys → ((who : ℕ) → SameCount (of who) xs ys) → least_owner test xs ≡ least_owner test ys
  same_least xs ys same each = same_least_by xs ys (least_owner test xs) (least_owner test ys) same each refl refl

-- ---- the steps of the verdict

abbrev steps : Bool → Option ℕ → Option ℕ → Bool → ℕ → Verdict
steps covered older any full own = cond covered Granted (or_else older Die (or_else any Wait (cond full (Full own 1024) Granted)))

decides : (held : List Held) (ask : Held) (covered : Bool) (older any : Option ℕ) (full : Bool) (own : ℕ)
    → list_any (covers_ask ask) held ≡ covered → least_owner (in_the_way true ask) held ≡ older → least_owner (in_the_way false ask) held ≡ any
    → nat_le 1024 (own_count ask held) ≡ full → own_count ask held ≡ own
    → Decides held ask (steps covered older any full own) (not covered && is_granted (steps covered older any full own))
decides held ask covered older any full own c o a f n = record {
  answer =
      sym (ap (λ (x : Bool). steps x (least_owner (in_the_way true ask) held) (least_owner (in_the_way false ask) held) (nat_le 1024 (own_count ask held)) (own_count ask held)) c
      ∙ ap (λ (x : Option ℕ). steps covered x (least_owner (in_the_way false ask) held) (nat_le 1024 (own_count ask held)) (own_count ask held)) o
      ∙ ap (λ (x : Option ℕ). steps covered older x (nat_le 1024 (own_count ask held)) (own_count ask held)) a
      ∙ ap (λ (x : Bool). steps covered older any x (own_count ask held)) f
      ∙ ap (λ (x : ℕ). steps covered older any full x) n);
  adds =
      ap (λ (x : Bool). not (list_any (covers_ask ask) held) && is_granted (steps x (least_owner (in_the_way true ask) held) (least_owner (in_the_way false ask) held) (nat_le 1024 (own_count ask held)) (own_count ask held))) c
      ∙ ap (λ (x : Bool). not x && is_granted (steps covered (least_owner (in_the_way true ask) held) (least_owner (in_the_way false ask) held) (nat_le 1024 (own_count ask held)) (own_count ask held))) c
      ∙ ap (λ (x : Option ℕ). not covered && is_granted (steps covered x (least_owner (in_the_way false ask) held) (nat_le 1024 (own_count ask held)) (own_count ask held))) o
      ∙ ap (λ (x : Option ℕ). not covered && is_granted (steps covered older x (nat_le 1024 (own_count ask held)) (own_count ask held))) a
      ∙ ap (λ (x : Bool). not covered && is_granted (steps covered older any x (own_count ask held))) f
      ∙ ap (λ (x : ℕ). not covered && is_granted (steps covered older any full x)) n;
}

module _ (held : List Held) (ask : Held) where
  pub by_cover : list_any (covers_ask ask) held ≡ true → Decides held ask Granted false
  by_cover c = decides held ask true _ _ _ _ c refl refl refl refl

  pub by_older : (who : ℕ) → list_any (covers_ask ask) held ≡ false → least_owner (in_the_way true ask) held ≡ Some who → Decides held ask (Die who) false
  by_older who c o = decides held ask false (Some who) _ _ _ c o refl refl refl

  pub by_other : (who : ℕ) → list_any (covers_ask ask) held ≡ false → least_owner (in_the_way true ask) held ≡ None
      → least_owner (in_the_way false ask) held ≡ Some who → Decides held ask (Wait who) false
  by_other who c o a = decides held ask false None (Some who) _ _ c o a refl refl

  pub by_number : (own : ℕ) → list_any (covers_ask ask) held ≡ false → least_owner (in_the_way true ask) held ≡ None
      → least_owner (in_the_way false ask) held ≡ None → own_count ask held ≡ own → 1024 ≤ own → Decides held ask (Full own 1024) false
  by_number own c o a n many = decides held ask false None None true own c o a (ap (nat_le 1024) n ∙ le-leb 1024 own many) n

  pub by_none : (own : ℕ) → list_any (covers_ask ask) held ≡ false → least_owner (in_the_way true ask) held ≡ None
      → least_owner (in_the_way false ask) held ≡ None → own_count ask held ≡ own → own < 1024 → Decides held ask Granted true
  by_none own c o a n few = decides held ask false None None false own c o a (ap (nat_le 1024) n ∙ lt-leb 1024 own few) n
