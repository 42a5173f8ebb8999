-- Pages found by their tables and numbers.
use Rattle.std.proofs.Common.{◌≡◌, ℕ, ◌+◌, ◌<◌, ◌≤◌, ◌⊎◌, inl, inr, Bool, true, false, cond, nat_lt, ◌||◌, ◌&&◌, ◌==◌, List, []}
use Rattle.std.proofs.Common.{◌∷◌, map, length, get_or, refl, sym, ap, ap₂, ◌∙◌, subst, arith}
use Rattle.std.specs.Cmp.{IsTotalOrder, nat_cmp_total, then_total, on_total}
use Rattle.std.specs.List.{list_any}
use Rattle.std.specs.List.Sorted.{IsNonDecreasingBy}
use Rattle.std.specs.Ordering.{nat_cmp, is_eq, is_lt, ordering_then, ordering_index, ordering_reverse}
use Rattle.std.specs.declared.cmp.Ordering.{Ordering}
use Rattle.std.specs.declared.cmp.Ordering.TheVariants.{Less, Equal, Greater}
use Rattle.std.proofs.lemmas.Bool.{cases_lt, eqb-true, ltb-true}
use Rattle.std.proofs.lemmas.List.{get_or-map, length-map}
use Rattle.std.proofs.lemmas.List.Folds.{list_any_none}
use Rattle.std.proofs.lemmas.List.Recursion.{found_at}
use Rattle.std.proofs.lemmas.List.Sorted.{searchable_from_sorted}
use Rattle.std.proofs.lemmas.Map.Keys.{Less-from_sorted}
use Rattle.std.proofs.lemmas.Map.Lookups.{exact_pairs, exact_unsigned}
use Rattle.xor_records.specs.Replay.{PageImage, PageName, shows, stamp_of, bytes_of, zeros}
use Rattle.replay_core.specs.Pages.{page_cmp, key_of, name_of, IsRising, IsImageOf}

pub cond_or : (a b : Bool) → cond a true b ≡ (a || b)
cond_or true b = refl
cond_or false b = refl

-- ---- the order of pages

pub page_cmp_total : IsTotalOrder page_cmp
page_cmp_total = then_total (on_total (λ (x : ℕ × ℕ). x.0) nat_cmp_total) (on_total (λ (x : ℕ × ℕ). x.1) nat_cmp_total)

then_same : (o p : Ordering) → is_eq (ordering_then o p) ≡ (is_eq o && is_eq p)
then_same Less p = refl
then_same Equal p = refl
then_same Greater p = refl

nat_same : (x y : ℕ) → is_eq (nat_cmp x y) ≡ (x == y)
nat_same x y = go (nat_lt x y) (x == y) refl refl
  where
    go : (a b : Bool) → nat_lt x y ≡ a → (x == y) ≡ b → is_eq (cond a Less (cond b Equal Greater)) ≡ b
    go true true p q =
        let less = ltb-true x y p in
        let same = eqb-true x y q in
        absurd (omega (arith, less, same))
    go true false p q = refl
    go false true p q = refl
    go false false p q = refl

pub same_page : (x y : ℕ × ℕ) → is_eq (page_cmp x y) ≡ ((x.0 == y.0) && (x.1 == y.1))
same_page x y = then_same (nat_cmp x.0 y.0) (nat_cmp x.1 y.1) ∙ ap₂ (λ a b. a && b) (nat_same x.0 y.0) (nat_same x.1 y.1)

pub exact_page : (x y : ℕ × ℕ) → page_cmp x y ≡ Equal → x ≡ y
exact_page x y e = exact_pairs nat_cmp nat_cmp exact_unsigned exact_unsigned x y e

-- ---- a search among images that rise

below : (images : List PageImage) (i j : ℕ) (d : PageImage) → IsRising images → i < j → j < length images
    → page_cmp (key_of (get_or images i d)) (key_of (get_or images j d)) ≡ Less
below images i j d r l m =
    let first : get_or (map key_of images) i (key_of d) ≡ key_of (get_or images i d) =
    get_or-map key_of images i d (key_of d) (omega (arith, l, m)) in
    let second : get_or (map key_of images) j (key_of d) ≡ key_of (get_or images j d) =
    get_or-map key_of images j d (key_of d) m in
    ap₂ page_cmp (sym first) (sym second)
    ∙ Less-from_sorted page_cmp (map key_of images) i j (key_of d) r l (subst (λ n. j < n) (sym (length-map images key_of)) m)

pub searchable : (images : List PageImage) (key : ℕ × ℕ) → IsRising images
    → IsNonDecreasingBy (λ y. ordering_index (page_cmp (key_of y) key)) images
searchable images key r = searchable_from_sorted page_cmp_total key_of images key (λ k d l m.
    ap is_lt (page_cmp_total.antisymm (key_of (get_or images (k + 1) d)) (key_of (get_or images k d))
    ∙ ap ordering_reverse (below images k (k + 1) d r (omega arith) m)))

shown : (images : List PageImage) (key : ℕ × ℕ) (i : ℕ) (d : PageImage) (o : Ordering)
    → page_cmp (key_of (get_or images i d)) key ≡ o → shows (name_of key) (get_or images i d) ≡ is_eq o
shown images key i d o e = sym (same_page (key_of (get_or images i d)) key) ∙ ap is_eq e

pub image_found : (images : List PageImage) (key : ℕ × ℕ) (i : ℕ) (d : PageImage) → IsRising images → i < length images
    → page_cmp (key_of (get_or images i d)) key ≡ Equal → IsImageOf images key (get_or images i d)
image_found images key i d r l e =
    let own : key_of (get_or images i d) ≡ key = exact_page (key_of (get_or images i d)) key e in
    let before : (k : ℕ) → k < i → shows (name_of key) (get_or images k d) ≡ false = λ k m.
    shown images key k d Less (subst (λ y. page_cmp (key_of (get_or images k d)) y ≡ Less) own (below images k i d r m l)) in
    let here : shows (name_of key) (get_or images i d) ≡ true = shown images key i d Equal e in
    record {
      key = own;
      stamp = found_at (λ xs. stamp_of xs (name_of key)) (shows (name_of key)) (λ (x : PageImage). x.stamp) 0 refl
          (λ _ _. refl) images i d l before here;
      bytes = found_at (λ xs. bytes_of xs (name_of key)) (shows (name_of key)) (λ (x : PageImage). x.bytes) zeros refl
          (λ _ _. refl) images i d l before here;
    }

pub true_not : true ≡ false → ⊥
true_not e = cc

pub not_shown : (b c : Bool) → (b || c) ≡ false → (b ≡ false) × (c ≡ false)
not_shown true c e = absurd (true_not e)
not_shown false c e = (refl, e)

pub stamp_absent : (images : List PageImage) (name : PageName) → list_any (shows name) images ≡ false → stamp_of images name ≡ 0
stamp_absent [] name e = refl
stamp_absent (x ∷ xs) name e =
    let parts = not_shown (shows name x) (list_any (shows name) xs) e in
    ap (λ b. cond b x.stamp (stamp_of xs name)) parts.0 ∙ stamp_absent xs name parts.1

pub bytes_absent : (images : List PageImage) (name : PageName) → list_any (shows name) images ≡ false
    → bytes_of images name ≡ zeros
bytes_absent [] name e = refl
bytes_absent (x ∷ xs) name e =
    let parts = not_shown (shows name x) (list_any (shows name) xs) e in
    ap (λ b. cond b x.bytes (bytes_of xs name)) parts.0 ∙ bytes_absent xs name parts.1

-- between the images of lower and of higher pages there is none
pub unshown : (images : List PageImage) (key : ℕ × ℕ) (place : ℕ)
    → ((k : ℕ) (d : PageImage) → k < place → page_cmp (key_of (get_or images k d)) key ≡ Less)
    → ((k : ℕ) (d : PageImage) → place ≤ k → k < length images → page_cmp (key_of (get_or images k d)) key ≡ Greater)
    → list_any (shows (name_of key)) images ≡ false
unshown images key place low high = list_any_none (shows (name_of key)) images (λ k d l. go k d l (cases_lt k place))
  where
    go : (k : ℕ) (d : PageImage) → k < length images → (k < place) ⊎ (place ≤ k)
        → shows (name_of key) (get_or images k d) ≡ false
    go k d l (inl m) = shown images key k d Less (low k d m)
    go k d l (inr m) = shown images key k d Greater (high k d m l)
