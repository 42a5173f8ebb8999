-- The deltas of pages, as a map has them.
use Rattle.std.proofs.Common.{◌≡◌, ℕ, Bool, true, false, cond, ◌||◌, ◌&&◌, ◌==◌, List, [], ◌∷◌, ◌++◌, map, refl, sym, ap, ap₂}
use Rattle.std.proofs.Common.{◌∙◌, subst, arith, Vec, Global, Option, Some, None, is_some, eqb-true}
use Rattle.std.specs.BTreeMap.{is_at}
use Rattle.std.specs.List.{list_any}
use Rattle.std.specs.Map.{lookup, keys_of}
use Rattle.std.proofs.lemmas.List.Folds.{list_any-append}
use Rattle.xor_records.specs.Replay.{PageName, zeros}
use Rattle.replay_core.specs.Pages.{page_cmp, is_named, has_key}
use Rattle.replay_core.specs.Deltas.{is_delta_of, has_delta, xor_of}
use Rattle.replay_core.specs.Views.{Entry, delta_at}
use Rattle.replay_core.proofs.PageLaws.{same_page, true_not, cond_or}

abbrev pub key_at : PageName → ℕ × ℕ
key_at name = (name.table, name.page)

abbrev pub found : List Entry → ℕ × ℕ → Option (Vec ℕ Global)
found es key = lookup (is_at (page_cmp key)) es

abbrev pub xor_at : Option (Vec ℕ Global) → List ℕ
xor_at None = zeros
xor_at (Some v) = v.items

flip_and : (a b c d : ℕ) → ((a == b) && (c == d)) ≡ ((b == a) && (d == c))
flip_and a b c d = ap₂ (λ p q. p && q) (nat_flip a b) (nat_flip c d)
  where
    nat_flip : (x y : ℕ) → (x == y) ≡ (y == x)
    nat_flip x y = grind arith

tested : (name : PageName) (e : Entry) → is_at (page_cmp (key_at name)) e.0 ≡ is_delta_of name (delta_at e)
tested name e = same_page (key_at name) e.0 ∙ flip_and name.table e.0.0 name.page e.0.1

pub has_found : (es : List Entry) (name : PageName) → has_delta (map delta_at es) name ≡ is_some (found es (key_at name))
has_found [] name = refl
has_found (e ∷ es) name =
    ap (λ b. is_delta_of name (delta_at e) || b) (has_found es name)
    ∙ go (is_delta_of name (delta_at e)) ∙ ap (λ b. is_some (cond b (Some e.1) (found es (key_at name)))) (sym (tested name e))
  where
    go : (b : Bool) → (b || is_some (found es (key_at name))) ≡ is_some (cond b (Some e.1) (found es (key_at name)))
    go true = refl
    go false = refl

pub xor_found : (es : List Entry) (name : PageName) → xor_of (map delta_at es) name ≡ xor_at (found es (key_at name))
xor_found [] name = refl
xor_found (e ∷ es) name =
    ap (cond (is_delta_of name (delta_at e)) e.1.items) (xor_found es name)
    ∙ go (is_delta_of name (delta_at e)) ∙ ap (λ b. xor_at (cond b (Some e.1) (found es (key_at name)))) (sym (tested name e))
  where
    go : (b : Bool) → cond b e.1.items (xor_at (found es (key_at name))) ≡ xor_at (cond b (Some e.1) (found es (key_at name)))
    go true = refl
    go false = refl

-- the entries after one was put at a key
abbrev pub Puts : List Entry → List Entry → ℕ × ℕ → Vec ℕ Global → Type 0
Puts es fs key v = (q : ℕ × ℕ) → found fs q ≡ cond (is_at (page_cmp key) q) (Some v) (found es q)

named : (key : ℕ × ℕ) (name : PageName) → is_at (page_cmp key) (key_at name) ≡ is_named key name
named key name = same_page key (key_at name)

pub put_has : (es fs : List Entry) (key : ℕ × ℕ) (v : Vec ℕ Global) → Puts es fs key v → (name : PageName)
    → has_delta (map delta_at fs) name ≡ (is_named key name || has_delta (map delta_at es) name)
put_has es fs key v put name =
    has_found fs name ∙ ap is_some (put (key_at name) ∙ ap (λ b. cond b (Some v) (found es (key_at name))) (named key name))
    ∙ go (is_named key name) ∙ ap (λ b. is_named key name || b) (sym (has_found es name))
  where
    go : (b : Bool) → is_some (cond b (Some v) (found es (key_at name))) ≡ (b || is_some (found es (key_at name)))
    go true = refl
    go false = refl

pub put_xor : (es fs : List Entry) (key : ℕ × ℕ) (v : Vec ℕ Global) → Puts es fs key v → (name : PageName)
    → xor_of (map delta_at fs) name ≡ cond (is_named key name) v.items (xor_of (map delta_at es) name)
put_xor es fs key v put name =
    xor_found fs name ∙ ap xor_at (put (key_at name) ∙ ap (λ b. cond b (Some v) (found es (key_at name))) (named key name))
    ∙ go (is_named key name) ∙ ap (cond (is_named key name) v.items) (sym (xor_found es name))
  where
    go : (b : Bool) → xor_at (cond b (Some v) (found es (key_at name))) ≡ cond b v.items (xor_at (found es (key_at name)))
    go true = refl
    go false = refl

pub same_name : (key : ℕ × ℕ) (name : PageName) → is_named key name ≡ true → key ≡ key_at name
same_name key name e = go (key.0 == name.table) (key.1 == name.page) refl refl e
  where
    go : (a b : Bool) → (key.0 == name.table) ≡ a → (key.1 == name.page) ≡ b → (a && b) ≡ true → key ≡ key_at name
    go true true p q h = ap₂ (λ (t n : ℕ). (t, n)) (eqb-true key.0 name.table p) (eqb-true key.1 name.page q)
    go true false p q h = absurd (true_not (sym h))
    go false b p q h = absurd (true_not (sym h))

-- zeros that are put where nothing was leave what is toggled
pub room_xor : (es fs : List Entry) (key : ℕ × ℕ) (v : Vec ℕ Global) → Puts es fs key v → v.items ≡ zeros
    → found es key ≡ None → (name : PageName) → xor_of (map delta_at fs) name ≡ xor_of (map delta_at es) name
room_xor es fs key v put none absent name = put_xor es fs key v put name ∙ go (is_named key name) refl
  where
    go : (b : Bool) → is_named key name ≡ b → cond b v.items (xor_of (map delta_at es) name) ≡ xor_of (map delta_at es) name
    go true e = none ∙ sym (xor_found es name ∙ ap xor_at (subst (λ k. found es k ≡ None) (same_name key name e) absent))
    go false e = refl

-- what stands at a key, and another is put there in its place
pub flip_has : (es fs : List Entry) (key : ℕ × ℕ) (old new : Vec ℕ Global) → Puts es fs key new → found es key ≡ Some old
    → (name : PageName) → has_delta (map delta_at fs) name ≡ has_delta (map delta_at es) name
flip_has es fs key old new put there name = put_has es fs key new put name ∙ go (is_named key name) refl
  where
    go : (b : Bool) → is_named key name ≡ b → (b || has_delta (map delta_at es) name) ≡ has_delta (map delta_at es) name
    go true e = sym (has_found es name ∙ ap is_some (subst (λ k. found es k ≡ Some old) (same_name key name e) there))
    go false e = refl

pub flip_xor : (es fs : List Entry) (key : ℕ × ℕ) (old new : Vec ℕ Global) (f : List ℕ → List ℕ) → Puts es fs key new
    → found es key ≡ Some old
    → new.items ≡ f old.items → (name : PageName)
    → xor_of (map delta_at fs) name
    ≡ cond (is_named key name) (f (xor_of (map delta_at es) name)) (xor_of (map delta_at es) name)
flip_xor es fs key old new f put there h name = put_xor es fs key new put name ∙ go (is_named key name) refl
  where
    go : (b : Bool) → is_named key name ≡ b
        → cond b new.items (xor_of (map delta_at es) name)
        ≡ cond b (f (xor_of (map delta_at es) name)) (xor_of (map delta_at es) name)
    go true e = h ∙ ap f (sym (xor_found es name ∙ ap xor_at (subst (λ k. found es k ≡ Some old) (same_name key name e) there)))
    go false e = refl

-- a page that has a delta
pub held : (es : List Entry) (key : ℕ × ℕ) → is_some (found es key) ≡ true → (name : PageName)
    → has_delta (map delta_at es) name ≡ (is_named key name || has_delta (map delta_at es) name)
held es key there name = go (is_named key name) refl
  where
    go : (b : Bool) → is_named key name ≡ b → has_delta (map delta_at es) name ≡ (b || has_delta (map delta_at es) name)
    go true e = has_found es name ∙ subst (λ k. is_some (found es k) ≡ true) (same_name key name e) there
    go false e = refl

pub none_of : {X : Type 0} (o : Option X) → is_some o ≡ false → o ≡ None
none_of None e = refl
none_of (Some x) e = absurd (true_not e)

-- ---- names of pages

pub named_keys : (keys : List (ℕ × ℕ)) (name : PageName) → list_any (is_at (page_cmp (key_at name))) keys ≡ has_key keys name
named_keys [] name = refl
named_keys (k ∷ ks) name =
    ap₂ (λ a b. a || b) (same_page (key_at name) k ∙ flip_and name.table k.0 name.page k.1) (named_keys ks name)

pub put_name : (keys more : List (ℕ × ℕ)) (key : ℕ × ℕ)
    → ((q : ℕ × ℕ)
    → list_any (is_at (page_cmp q)) more ≡ cond (is_at (page_cmp key) q) true (list_any (is_at (page_cmp q)) keys))
    → (name : PageName) → has_key more name ≡ (is_named key name || has_key keys name)
put_name keys more key put name =
    sym (named_keys more name) ∙ put (key_at name)
    ∙ cond_or (is_at (page_cmp key) (key_at name)) (list_any (is_at (page_cmp (key_at name))) keys)
    ∙ ap₂ (λ a b. a || b) (named key name) (named_keys keys name)

pub entry_names : (es : List Entry) (name : PageName) → has_key (keys_of es) name ≡ has_delta (map delta_at es) name
entry_names [] name = refl
entry_names (e ∷ es) name = ap (λ b. is_named e.0 name || b) (entry_names es name)

pub key_more : (keys : List (ℕ × ℕ)) (key : ℕ × ℕ) (name : PageName) (b : Bool)
    → (is_named key name || (has_key keys name || b)) ≡ (has_key (keys ++ key ∷ []) name || b)
key_more keys key name b =
    go (is_named key name) (has_key keys name) b
    ∙ ap (λ c. c || b) (sym (list_any-append (λ k. is_named k name) keys (key ∷ [])))
  where
    go : (a c b : Bool) → (a || (c || b)) ≡ ((c || (a || false)) || b)
    go true true b = refl
    go true false b = refl
    go false true b = refl
    go false false b = refl
