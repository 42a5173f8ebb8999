-- What keeps a page in its pool.
use Rattle.std.proofs.Common.{◌≡◌, ◌≢◌, ◌⊎◌, inl, inr, ℕ, ◌+◌, ◌-◌, ◌*◌, ◌<◌, ◌≤◌, Bool, true, false, cond}
use Rattle.std.proofs.Common.{List, [], ◌∷◌, zero, suc, length, get_or, set, bit_xor, Option, None, Some, slice_get}
use Rattle.std.proofs.Common.{refl, sym, ap, ap₂, ◌∙◌, subst, arith}
use Rattle.std.specs.Int.Bits.{xor_zero_r}
use Rattle.std.proofs.lemmas.Bool.{cases_lt, cases_eq, lt-leb, le-leb}
use Rattle.std.proofs.lemmas.List.{get_or-set_same, get_or-set_other, get_or_past, length-set}
use Rattle.std.proofs.lemmas.List.{length-replicate}
use Rattle.std.proofs.lemmas.Option.{slice_get-get_or, slice_get_within}
use Rattle.block_pool.specs.Blocks.{Blocks, Holds, IsFree, zeros}
use Rattle.fields.specs.Toggle.{byte_from, toggled}
use Rattle.fields.proofs.ToggleLaws.{toggled_at, length-toggled}
use Rattle.slot_pages.specs.State.{PageState, IsPage, IsTaken, bytes_in, bytes_of_entry, none_held}

-- the entry of a block that is written
pub entry_set : (pool : Blocks) (block : ℕ) (bytes : List ℕ) → block < length pool
    → slice_get (set pool block (Some bytes)) block ≡ Some (Some bytes)
entry_set pool block bytes l =
    slice_get-get_or (set pool block (Some bytes)) block None
    (subst (λ n. block < n) (sym (length-set pool block (Some bytes))) l) ∙ ap Some
    (get_or-set_same pool block (Some bytes) None l)

-- a page, by the entry of its block
pub is_page : (pool : Blocks) (page : PageState) (bytes : List ℕ)
    → slice_get pool page.block ≡ Some (Some bytes) → length bytes ≡ 4096 → length page.held ≡ 256
    → ((k : ℕ) → k < page.taken → IsTaken bytes page.held page.len k) → IsPage pool page
is_page pool page bytes e w m t =
    let same : bytes_in pool page ≡ bytes = ap bytes_of_entry e in
    record {
      out = e ∙ ap (λ b. Some (Some b)) (sym same);
      whole = ap length same ∙ w;
      marks = m;
      taken = λ k l. subst (λ b. IsTaken b page.held page.len k) (sym same) (t k l);
    }

-- outside of what is toggled a byte stays
outside : (offset : ℕ) (xor : List ℕ) (i : ℕ) → (i < offset)
    ⊎ (offset + length xor ≤ i) → byte_from offset xor i ≡ 0
outside offset xor i (inl l) = ap (λ b. cond b (get_or xor (i - offset) 0) 0) (lt-leb offset i l)
outside offset xor i (inr l) =
    ap (λ b. cond b (get_or xor (i - offset) 0) 0)
    (le-leb offset i (omega (arith, l))) ∙ get_or_past xor (i - offset) 0 (omega (arith, l))

-- a taken slot whose first byte isn't toggled stays taken
pub taken_toggled : (bytes xor : List ℕ) (offset : ℕ) (held : List Bool) (len k : ℕ)
    → IsTaken bytes held len k → (k * len < offset) ⊎ (offset + length xor ≤ k * len)
    → IsTaken (toggled (byte_from offset) bytes xor) held len k
taken_toggled bytes xor offset held len k (inl h) o = inl h
taken_toggled bytes xor offset held len k (inr n) o = inr (go (cases_lt (k * len) (length bytes)))
  where
    go : (k * len < length bytes)
        ⊎ (length bytes ≤ k * len) → get_or (toggled (byte_from offset) bytes xor) (k * len) 0 ≢ 0
    go (inl l) e =
        n (sym (xor_zero_r (get_or bytes (k * len) 0)) ∙ ap (bit_xor (get_or bytes (k * len) 0))
        (sym (outside offset xor (k * len) o)) ∙ sym
        (toggled_at (byte_from offset) bytes xor (k * len) l) ∙ e)
    go (inr l) e = n (get_or_past bytes (k * len) 0 l)

pub page_toggled : (pool : Blocks) (page now : PageState) (xor : List ℕ) (offset : ℕ) → IsPage pool page
    → now.block ≡ page.block → now.held ≡ page.held → now.len ≡ page.len → now.taken ≤ page.taken
    → ((k : ℕ) → k < now.taken → (k * page.len < offset) ⊎ (offset + length xor ≤ k * page.len))
    → IsPage (set pool page.block (Some (toggled (byte_from offset) (bytes_in pool page) xor))) now
page_toggled pool page now xor offset p b h n t o =
    is_page (set pool page.block (Some (toggled (byte_from offset) (bytes_in pool page) xor))) now
    (toggled (byte_from offset) (bytes_in pool page) xor)
    (ap (slice_get
    (set pool page.block
    (Some (toggled (byte_from offset) (bytes_in pool page) xor)))) b ∙ entry_set pool page.block
    (toggled (byte_from offset) (bytes_in pool page) xor) (slice_get_within pool page.block _ p.out))
    (length-toggled (byte_from offset) (bytes_in pool page) xor ∙ p.whole)
    (ap length h ∙ p.marks)
    (λ k l. subst (λ e. IsTaken (toggled (byte_from offset) (bytes_in pool page) xor) e now.len k) (sym h)
    (subst (λ e. IsTaken (toggled (byte_from offset) (bytes_in pool page) xor) page.held e k) (sym n)
    (taken_toggled (bytes_in pool page) xor offset page.held page.len k (p.taken k (omega (arith, l, t)))
    (o k l))))

-- a slot more is held
pub page_held : (pool : Blocks) (page : PageState) (n : ℕ) → n < 256 → IsPage pool page
    → IsPage pool (record page { held = set page.held n true })
page_held pool page n w p = record {
  out = p.out;
  whole = p.whole;
  marks = length-set page.held n true ∙ p.marks;
  taken = λ k l. go k (p.taken k l) (cases_eq k n);
}
  where
    go : (k : ℕ) → IsTaken (bytes_in pool page) page.held page.len k → (k ≡ n)
        ⊎ (k ≢ n) → IsTaken (bytes_in pool page) (set page.held n true) page.len k
    go k (inr f) _ = inr f
    go k (inl f) (inl e) =
        inl (ap (λ i. get_or (set page.held n true) i false) e ∙ get_or-set_same page.held n true false
        (omega (arith, p.marks, w)))
    go k (inl f) (inr e) = inl (get_or-set_other page.held n k true false e ∙ f)

-- a slot is no longer held
pub page_unheld : (pool : Blocks) (page : PageState) (n taken : ℕ) → taken ≤ page.taken → taken ≤ n
    → IsPage pool page → IsPage pool (record page { held = set page.held n false; taken = taken })
page_unheld pool page n taken t m p = record {
  out = p.out;
  whole = p.whole;
  marks = length-set page.held n false ∙ p.marks;
  taken = λ k l. go k l (p.taken k (omega (arith, l, t)));
}
  where
    go : (k : ℕ) → k < taken → IsTaken (bytes_in pool page) page.held page.len k
        → IsTaken (bytes_in pool page) (set page.held n false) page.len k
    go k l (inr f) = inr f
    go k l (inl f) =
        inl (get_or-set_other page.held n k false false (λ e. absurd (omega (arith, l, m, e))) ∙ f)

-- the slots that are known to be taken for one length
pub page_skipped : (pool : Blocks) (page : PageState) (len taken : ℕ) → IsPage pool page
    → ((k : ℕ) → k < taken → IsTaken (bytes_in pool page) page.held len k)
    → IsPage pool (record page { len = len; taken = taken })
page_skipped pool page len taken p t = record { out = p.out; whole = p.whole; marks = p.marks; taken = t }

-- a page through the loan of its block's bytes
pub page_written : (pool : Blocks) (page now : PageState) (xor lent new : List ℕ) (offset : ℕ)
    → IsPage pool page
    → Holds pool page.block lent → new ≡ toggled (byte_from offset) lent xor
    → now.block ≡ page.block → now.held ≡ page.held → now.len ≡ page.len → now.taken ≤ page.taken
    → ((k : ℕ) → k < now.taken → (k * page.len < offset) ⊎ (offset + length xor ≤ k * page.len))
    → IsPage (set pool page.block (Some new)) now
page_written pool page now xor lent new offset p out new-is b h n t o =
    let same : bytes_in pool page ≡ lent = ap bytes_of_entry out in
    let is : toggled (byte_from offset) (bytes_in pool page) xor ≡ new =
    ap (λ s. toggled (byte_from offset) s xor) same ∙ sym new-is in
    subst (λ s. IsPage (set pool page.block (Some s)) now) is
    (page_toggled pool page now xor offset p b h n t o)

pub page_after : (pool after : Blocks) (page now : PageState) (xor lent new : List ℕ) (offset : ℕ)
    → IsPage pool page → Holds pool page.block lent → new ≡ toggled (byte_from offset) lent xor → after ≡ set pool page.block (Some new)
    → now.block ≡ page.block → now.held ≡ page.held → now.len ≡ page.len → now.taken ≤ page.taken
    → ((k : ℕ) → k < now.taken → (k * page.len < offset) ⊎ (offset + length xor ≤ k * page.len)) → IsPage after now
page_after pool after page now xor lent new offset p out new-is is b h n t o =
    subst (λ s. IsPage s now) (sym is) (page_written pool page now xor lent new offset p out new-is b h n t o)

-- a page over a block that was free
pub page_made : (before after : Blocks) (page : PageState) (bytes : List ℕ) → IsFree before page.block
    → after ≡ set before page.block (Some bytes) → length bytes ≡ 4096 → page.held ≡ none_held
    → page.taken ≡ 0 → IsPage after page
unfolding none_held
page_made before after page bytes free is w h t =
    is_page after page bytes
    (ap (λ p. slice_get p page.block) is ∙ entry_set before page.block bytes
    (slice_get_within before page.block None free))
    w (ap length h ∙ length-replicate 256 false)
    (λ k l. absurd (omega (arith, l, t)))

pub zeros_len : length zeros ≡ 4096
unfolding zeros
zeros_len = length-replicate {A = ℕ} 4096 0

-- a block that was taken is out
pub taken_holds : (before after : Blocks) (block : ℕ) → IsFree before block
    → after ≡ set before block (Some zeros) → Holds after block zeros
taken_holds before after block free is =
    ap (λ p. slice_get p block) is ∙ entry_set before block zeros (slice_get_within before block None free)

set_again : {A : Type 0} (xs : List A) (i : ℕ) (a b : A) → set (set xs i a) i b ≡ set xs i b
set_again [] i a b = refl
set_again (x ∷ xs) zero a b = refl
set_again (x ∷ xs) (suc i) a b = ap (λ rest. x ∷ rest) (set_again xs i a b)

-- a block that was taken and then written
pub taken_written : (before after : Blocks) (block : ℕ) (new bytes : List ℕ)
    → after ≡ set before block (Some zeros) → new ≡ bytes
    → set after block (Some new) ≡ set before block (Some bytes)
taken_written before after block new bytes is new-is =
    ap₂ (λ p s. set p block (Some s)) is new-is ∙ set_again before block (Some zeros) (Some bytes)

-- ---- Another block

-- the entry of another block
entry_beside : (pool : Blocks) (k other : ℕ) (entry : Option (List ℕ)) → other ≢ k → slice_get (set pool other entry) k ≡ slice_get pool k
entry_beside [] k other entry n = refl
entry_beside (e ∷ pool) zero zero entry n = absurd (n refl)
entry_beside (e ∷ pool) (suc k) zero entry n = refl
entry_beside (e ∷ pool) zero (suc other) entry n = refl
entry_beside (e ∷ pool) (suc k) (suc other) entry n = entry_beside pool k other entry (λ p. n (ap suc p))

pub bytes_beside : (pool : Blocks) (page : PageState) (other : ℕ) (entry : Option (List ℕ))
    → other ≢ page.block → bytes_in (set pool other entry) page ≡ bytes_in pool page
bytes_beside pool page other entry n = ap bytes_of_entry (entry_beside pool page.block other entry n)

pub page_beside : (pool : Blocks) (page : PageState) (other : ℕ) (entry : Option (List ℕ))
    → other ≢ page.block → IsPage pool page → IsPage (set pool other entry) page
page_beside pool page other entry n p =
    is_page (set pool other entry) page (bytes_in pool page) (entry_beside pool page.block other entry n ∙ p.out) p.whole p.marks p.taken

pub free_is_no_pages : (pool : Blocks) (page : PageState) (block : ℕ) → IsFree pool block → IsPage pool page → block ≢ page.block
free_is_no_pages pool page block free p same = cc (sym free ∙ ap (slice_get pool) same ∙ p.out)
