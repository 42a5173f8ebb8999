-- How many nodes the levels of a tree have.
use Rattle.std.proofs.Common.{◌≡◌, ◌⊎◌, ◌≢◌, ℕ, zero, suc, ◌+◌, ◌-◌, ◌*◌, ◌/◌, ◌<◌, ◌≤◌, ◌^◌, Bool, cond, refl, sym, ap, ◌∙◌, subst, arith, inl, inr, ⊎_elim}
use Rattle.std.specs.Prelude.{nat_le, max}
use Rattle.std.proofs.lemmas.Bool.{cases_eq, cases_lt, le-leb, lt-leb}
use Rattle.olfit_tree.specs.Build.{parts, level_nodes, nodes_above, nodes_with, nodes_over, per_leaf}

-- so many levels are enough
pub above_same : (f g m : ℕ) → m ≤ f → m ≤ g → nodes_above f m ≡ nodes_above g m
above_same zero zero m a b = refl
above_same zero (suc g) zero a b = refl
above_same zero (suc g) (suc m) a b = absurd (omega (arith, a))
above_same (suc f) zero zero a b = refl
above_same (suc f) zero (suc m) a b = absurd (omega (arith, b))
above_same (suc f) (suc g) zero a b = refl
above_same (suc f) (suc g) (suc zero) a b = refl
above_same (suc f) (suc g) (suc (suc m)) a b =
    let e = above_same f g (parts (suc (suc m)) 16) (omega (arith, a)) (omega (arith, b)) in
    ap (λ (z : ℕ). cond (nat_le (suc (suc m)) 1) 0 (parts (suc (suc m)) 16 + z)) e

pub above_none : (m : ℕ) → m ≤ 1 → nodes_above m m ≡ 0
above_none zero a = refl
above_none (suc zero) a = refl
above_none (suc (suc m)) a = absurd (omega (arith, a))

-- the next level, and those above it
pub above_step : (m : ℕ) → 1 < m → nodes_above m m ≡ level_nodes m 16 + nodes_above (level_nodes m 16) (level_nodes m 16)
above_step zero a = absurd (omega (arith, a))
above_step (suc m) a =
    let p = parts (suc m) 16 in
    let same : level_nodes (suc m) 16 ≡ p = omega (arith, a) in
    let e : nodes_above (suc m) (suc m) ≡ p + nodes_above m p = ap (λ (b : Bool). cond b 0 (p + nodes_above m p)) (lt-leb (suc m) 1 a) in
    let s = above_same m p p (omega (arith, a)) (omega arith) in
    e ∙ (ap (λ (z : ℕ). p + z) s ∙ ap (λ (z : ℕ). z + nodes_above z z) (sym same))

-- there are few of them
pub above_few : (f m : ℕ) → 1 < m → 6 * nodes_above f m ≤ 2 * m + 3
above_few zero m some = omega (arith, some)
above_few (suc f) m some =
    let p = parts m 16 in
    let e : nodes_above (suc f) m ≡ p + nodes_above f p = ap (λ (b : Bool). cond b 0 (p + nodes_above f p)) (lt-leb m 1 some) in
    ⊎_elim
    (λ (more : 1 < p). let h = above_few f p more in omega (arith, e, h, some, more))
    (λ (one : p ≤ 1). let z = none f p one in omega (arith, e, z, one, some))
    (cases_lt 1 p)
  where
    none : (f m : ℕ) → m ≤ 1 → nodes_above f m ≡ 0
    none zero m a = refl
    none (suc f) m a = ap (λ (b : Bool). cond b 0 (parts m 16 + nodes_above f (parts m 16))) (le-leb m 1 a)

-- how many entries a leaf gets
pub per_leaf_cases : (nodes rows : ℕ) → ((per_leaf nodes rows ≡ 8) × (rows ≤ 6 * (nodes - 4))) ⊎ (per_leaf nodes rows ≡ 16)
per_leaf_cases nodes rows = ⊎_elim
    (λ (few : rows ≤ 6 * (nodes - 4)). inl (ap (λ (b : Bool). cond {A = ℕ} b 8 16) (le-leb rows (6 * (nodes - 4)) few), few))
    (λ (more : 6 * (nodes - 4) < rows). inr (ap (λ (b : Bool). cond {A = ℕ} b 8 16) (lt-leb rows (6 * (nodes - 4)) more)))
    (cases_le rows (6 * (nodes - 4)))
  where
    cases_le : (a b : ℕ) → (a ≤ b) ⊎ (b < a)
    cases_le a b = ⊎_elim (λ (h : b < a). inr h) (λ (h : a ≤ b). inl h) (cases_lt b a)

pub size_of : (nodes rows : ℕ) → (per_leaf nodes rows ≡ 8) ⊎ (per_leaf nodes rows ≡ 16)
size_of nodes rows = ⊎_elim (λ h. inl h.0) (λ h. inr h) (per_leaf_cases nodes rows)

with_few : (n : ℕ) → 6 * (n + nodes_above n n) ≤ 8 * n + 3
with_few n = ⊎_elim (λ (more : 1 < n). let h = above_few n n more in omega (arith, h)) (λ (one : n ≤ 1). let z = above_none n one in omega (arith, z)) (cases_lt 1 n)

with_one : (n : ℕ) → n ≤ 1 → n + nodes_above n n ≤ 1
with_one n one = let z = above_none n one in omega (arith, z, one)

-- the nodes of an index are enough
pub room_for : (nodes rows : ℕ) → 0 < nodes → nodes_with rows (per_leaf nodes rows) ≤ max nodes (nodes_over rows)
room_for nodes rows some = ⊎_elim
    (λ (h : (per_leaf nodes rows ≡ 8) × (rows ≤ 6 * (nodes - 4))). let few = h.1 in
    let e : nodes_with rows (per_leaf nodes rows) ≡ nodes_with rows 8 = ap (nodes_with rows) h.0 in
    let f = with_few (level_nodes rows 8) in
    ⊎_elim
    (λ (more : 8 < rows). omega (arith, e, f, few, more, some))
    (λ (one : rows ≤ 8). let g = with_one (level_nodes rows 8) (omega (arith, one)) in omega (arith, e, g, some))
    (cases_lt 8 rows))
    (λ (h : per_leaf nodes rows ≡ 16). let e : nodes_with rows (per_leaf nodes rows) ≡ nodes_over rows = ap (nodes_with rows) h in omega (arith, e))
    (per_leaf_cases nodes rows)

pub over_few : (rows : ℕ) → rows < 2 ^ 32 → nodes_over rows < 2 ^ 31
over_few rows few = let f = with_few (level_nodes rows 16) in omega (arith, f, few)

-- where the entries of a level's nodes begin

module _ (n each : ℕ) (size : (each ≡ 8) ⊎ (each ≡ 16)) where
  pub by_size : (P : ℕ → Type 0) → P 8 → P 16 → P each
  by_size P p q = ⊎_elim (λ (e : each ≡ 8). subst P (sym e) p) (λ (e : each ≡ 16). subst P (sym e) q) size

  pub begins : (i : ℕ) → i < level_nodes n each → (i ≡ 0) ⊎ (i * each < n)
  begins i h = ⊎_elim
      (λ (z : i ≡ 0). inl z)
      (λ (more : i ≢ 0). inr (by_size (λ (z : ℕ). i < level_nodes n z → i * z < n) (λ k. omega (arith, k, more)) (λ k. omega (arith, k, more)) h))
      (cases_eq i 0)

  pub follows : (i : ℕ) → i * each + each < n → i + 1 < level_nodes n each
  follows i = by_size (λ (z : ℕ). i * z + z < n → i + 1 < level_nodes n z) (λ k. omega (arith, k)) (λ k. omega (arith, k))

  pub goes_on : (i : ℕ) → i + 1 < level_nodes n each → i * each + each < n
  goes_on i = by_size (λ (z : ℕ). i + 1 < level_nodes n z → i * z + z < n) (λ k. omega (arith, k)) (λ k. omega (arith, k))

  pub covers : n ≤ level_nodes n each * each
  covers = by_size (λ (z : ℕ). n ≤ level_nodes n z * z) (omega arith) (omega arith)

  pub apart : (i j : ℕ) → i < j → i * each + each ≤ j * each
  apart i j h = by_size (λ (z : ℕ). i * z + z ≤ j * z) (omega (arith, h)) (omega (arith, h))

  pub next_start : (i : ℕ) → (i + 1) * each ≡ i * each + each
  next_start i = by_size (λ (z : ℕ). (i + 1) * z ≡ i * z + z) (omega arith) (omega arith)

  pub size_some : (0 < each) × (each ≤ 16)
  size_some = by_size (λ (z : ℕ). (0 < z) × (z ≤ 16)) (omega arith, omega arith) (omega arith, omega arith)

  pub level_some : (0 < level_nodes n each) × (level_nodes n each ≤ n + 1)
  level_some = by_size (λ (z : ℕ). (0 < level_nodes n z) × (level_nodes n z ≤ n + 1)) (omega arith, omega arith) (omega arith, omega arith)

  -- the piece in which an entry lies
  pub piece_of : (k : ℕ) → k < n → (j : ℕ) × (j < level_nodes n each) × (j * each ≤ k) × (k < j * each + each)
  piece_of k h = by_size (λ (z : ℕ). (j : ℕ) × (j < level_nodes n z) × (j * z ≤ k) × (k < j * z + z)) (k / 8, omega (arith, h), omega arith, omega arith) (k / 16, omega (arith, h), omega arith, omega arith)
