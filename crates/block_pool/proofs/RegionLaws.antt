-- Laws of the entries of a region's blocks, and of the places of the free ones.
use Rattle.std.proofs.Common.{◌≡◌, ◌≢◌, ℕ, zero, suc, ◌+◌, ◌-◌, ◌^◌, ◌<◌, ◌≤◌, ◌⊎◌, inl, inr, Bool, true, false, cond, List, [], ◌∷◌, ◌++◌, None, Some, length, get_or, set, replicate, subst, sym, ap, ap₂, ◌∙◌, refl, arith, Result, Err, is_some, slice_get}
use Rattle.std.specs.List.{count_by}
use Rattle.std.proofs.lemmas.Bool.{cases_lt, false≢true}
use Rattle.std.proofs.lemmas.List.{length-set, length_push, length-replicate, get_or_append_left, get_or_push, get_or-set_same, get_or-set_other, get_or-replicate, set-get_or, get_or_default}
use Rattle.std.proofs.lemmas.List.Sums.{sum_by-cons, sum_by-set}
use Rattle.std.proofs.lemmas.Option.{slice_get-get_or, slice_get_within, get_or_from_slice_get, cond_some}
use Rattle.block_pool.specs.Blocks.{Blocks, Holds, IsFree, used}
use Rattle.block_pool.specs.declared.block.Block.{Block}
use Rattle.block_pool.specs.declared.pool.PoolFull.{PoolFull}
use Rattle.block_pool.specs.Region.{entries, IsKept}

-- where no block is out, all are free
pub entries_none : (n : ℕ) (region : List (List ℕ)) → length region ≡ n → entries (replicate n false) region ≡ replicate n None
entries_none zero region e = refl
entries_none (suc n) [] e = absurd (omega (arith, e))
entries_none (suc n) (b ∷ region) e = ap (λ rest. None ∷ rest) (entries_none n region (omega (arith, e)))

pub length-entries : (outs : List Bool) (region : List (List ℕ)) → length region ≡ length outs → length (entries outs region) ≡ length outs
length-entries [] region e = refl
length-entries (o ∷ outs) [] e = absurd (omega (arith, e))
length-entries (o ∷ outs) (b ∷ region) e = ap suc (length-entries outs region (omega (arith, e)))

-- the entry of a block
pub entry_at : (outs : List Bool) (region : List (List ℕ)) (i : ℕ) (d : List ℕ) → length region ≡ length outs → i < length outs
    → get_or (entries outs region) i None ≡ cond (get_or outs i false) (Some (get_or region i d)) None
entry_at [] region i d e l = absurd (omega (arith, l))
entry_at (o ∷ outs) [] i d e l = absurd (omega (arith, e))
entry_at (o ∷ outs) (b ∷ region) zero d e l = refl
entry_at (o ∷ outs) (b ∷ region) (suc i) d e l = entry_at outs region i d (omega (arith, e)) (omega (arith, l))

-- what is set of one block is set of its entry
pub entries_set : (outs : List Bool) (region : List (List ℕ)) (i : ℕ) (o : Bool) (b : List ℕ) → length region ≡ length outs
    → entries (set outs i o) (set region i b) ≡ set (entries outs region) i (cond o (Some b) None)
entries_set [] region i o b e = refl
entries_set (p ∷ outs) [] i o b e = absurd (omega (arith, e))
entries_set (p ∷ outs) (c ∷ region) zero o b e = refl
entries_set (p ∷ outs) (c ∷ region) (suc i) o b e = ap (λ rest. cond p (Some c) None ∷ rest) (entries_set outs region i o b (omega (arith, e)))

-- as many blocks are out as the marks say
pub used_entries : (outs : List Bool) (region : List (List ℕ)) → length region ≡ length outs → used (entries outs region) ≡ count_by (λ o. o) outs
used_entries [] region e = refl
used_entries (o ∷ outs) [] e = absurd (omega (arith, e))
used_entries (true ∷ outs) (b ∷ region) e =
    sum_by-cons (λ o. cond (is_some o) 1 0) (Some b) (entries outs region) ∙ ap (λ n. 1 + n) (used_entries outs region (omega (arith, e))) ∙ sym (sum_by-cons (λ o. cond o 1 0) true outs)
used_entries (false ∷ outs) (b ∷ region) e =
    sum_by-cons (λ o. cond (is_some o) 1 0) None (entries outs region) ∙ ap (λ n. 0 + n) (used_entries outs region (omega (arith, e))) ∙ sym (sum_by-cons (λ o. cond o 1 0) false outs)

-- a block that is out
pub out_of : (outs : List Bool) (region : List (List ℕ)) (pool : Blocks) (block : ℕ) (bytes : List ℕ) → length region ≡ length outs → entries outs region ≡ pool → Holds pool block bytes
    → (block < length outs) × (get_or outs block false ≡ true) × (get_or region block bytes ≡ bytes)
out_of outs region pool block bytes e v h =
    let within : block < length outs = subst (λ n. block < n) (sym (ap length v) ∙ length-entries outs region e) (slice_get_within pool block (Some bytes) h) in
    let entry : cond (get_or outs block false) (Some (get_or region block bytes)) None ≡ Some bytes
    = sym (entry_at outs region block bytes e within) ∙ ap (λ p. get_or p block None) v ∙ get_or_from_slice_get pool block (Some bytes) None h in
    let parts = cond_some (get_or outs block false) (get_or region block bytes) bytes entry in
    (within, parts.0, parts.1)

pub read_of : (outs : List Bool) (region : List (List ℕ)) (pool : Blocks) (block : ℕ) (bytes x : List ℕ) → length region ≡ length outs → entries outs region ≡ pool → Holds pool block bytes
    → x ≡ get_or region block x → Holds pool block x
read_of outs region pool block bytes x e v h r =
    let out = out_of outs region pool block bytes e v h in
    let same : x ≡ bytes = r ∙ get_or_default region block x bytes (omega (arith, e, out.0)) ∙ out.2 in
    subst (λ b. Holds pool block b) (sym same) h

-- bytes that are written to a block that is out
pub written_of : (outs : List Bool) (region : List (List ℕ)) (pool : Blocks) (block : ℕ) (bytes w : List ℕ) → length region ≡ length outs → entries outs region ≡ pool → Holds pool block bytes
    → entries outs (set region block w) ≡ set pool block (Some w)
written_of outs region pool block bytes w e v h =
    let out = out_of outs region pool block bytes e v h in
    let marked : set outs block true ≡ outs = ap (set outs block) (sym out.1) ∙ set-get_or outs block false in
    ap (λ o. entries o (set region block w)) (sym marked) ∙ entries_set outs region block true w e ∙ ap (λ p. set p block (Some w)) v

-- a mark that is set, and one that is taken away, in the count
marks_set : (outs : List Bool) (i : ℕ) (o : Bool) → i < length outs → count_by (λ o. o) (set outs i o) + cond (get_or outs i false) 1 0 ≡ count_by (λ o. o) outs + cond o 1 0
marks_set outs i o l = sum_by-set (λ o. cond o 1 0) outs i o false l

marked_set : (outs : List Bool) (i : ℕ) → i < length outs → get_or outs i false ≡ false → count_by (λ o. o) (set outs i true) ≡ count_by (λ o. o) outs + 1
marked_set outs i l f = omega (arith, marks_set outs i true l, ap {B = ℕ} (λ b. cond b 1 0) f)

unmarked_set : (outs : List Bool) (i : ℕ) → i < length outs → get_or outs i false ≡ true → count_by (λ o. o) (set outs i false) + 1 ≡ count_by (λ o. o) outs
unmarked_set outs i l f = omega (arith, marks_set outs i false l, ap {B = ℕ} (λ b. cond b 1 0) f)

differ : (outs : List Bool) (i j : ℕ) → get_or outs i false ≡ false → get_or outs j false ≡ true → i ≢ j
differ outs i j f t e = false≢true (sym f ∙ ap (λ k. get_or outs k false) e ∙ t)

-- the place that is given back isn't free yet
pub room_of : (outs : List Bool) (region : List (List ℕ)) (free : List ℕ) (p : ℕ) → IsKept outs region free → p < length outs → get_or outs p false ≡ true → length free < length outs
room_of outs region free p k l t = omega (arith, k.counted, unmarked_set outs p l t)

pub kept_give : (outs : List Bool) (region : List (List ℕ)) (free : List ℕ) (p : ℕ) → IsKept outs region free → p < length outs → get_or outs p false ≡ true
    → IsKept (set outs p false) region (free ++ p ∷ [])
kept_give outs region free p k l t = record {
  whole = k.whole ∙ sym (length-set outs p false);
  short = subst (λ n. n < 2 ^ 32) (sym (length-set outs p false)) k.short;
  inside = λ i m. subst (λ n. get_or (free ++ p ∷ []) i 0 < n) (sym (length-set outs p false)) (inside i (cases_lt i (length free)) m);
  unused = λ i m. unused i (cases_lt i (length free)) m;
  once = λ i j m n. once i j (cases_lt j (length free)) m n;
  counted = omega (arith, k.counted, unmarked_set outs p l t, length-set outs p false, length_push free p);
}
  where
    inside : (i : ℕ) → (i < length free) ⊎ (length free ≤ i) → i < length (free ++ p ∷ []) → get_or (free ++ p ∷ []) i 0 < length outs
    inside i (inl m) n = subst (λ x. x < length outs) (sym (get_or_append_left free (p ∷ []) 0 i m)) (k.inside i m)
    inside i (inr m) n = subst (λ x. x < length outs) (sym (get_or_push free p 0 i (omega (arith, m, n, length_push free p)))) l

    unused : (i : ℕ) → (i < length free) ⊎ (length free ≤ i) → i < length (free ++ p ∷ []) → get_or (set outs p false) (get_or (free ++ p ∷ []) i 0) false ≡ false
    unused i (inl m) n =
        ap (λ x. get_or (set outs p false) x false) (get_or_append_left free (p ∷ []) 0 i m)
        ∙ get_or-set_other outs p (get_or free i 0) false false (differ outs (get_or free i 0) p (k.unused i m) t) ∙ k.unused i m
    unused i (inr m) n =
        ap (λ x. get_or (set outs p false) x false) (get_or_push free p 0 i (omega (arith, m, n, length_push free p)))
        ∙ get_or-set_same outs p false false l

    once : (i j : ℕ) → (j < length free) ⊎ (length free ≤ j) → i < j → j < length (free ++ p ∷ []) → get_or (free ++ p ∷ []) i 0 ≢ get_or (free ++ p ∷ []) j 0
    once i j (inl m) a n e =
        let b : i < length free = omega (arith, a, m) in
        k.once i j a m (sym (get_or_append_left free (p ∷ []) 0 i b) ∙ e ∙ get_or_append_left free (p ∷ []) 0 j m)
    once i j (inr m) a n e =
        let b : i < length free = omega (arith, a, n, length_push free p) in
        differ outs (get_or free i 0) p (k.unused i b) t (sym (get_or_append_left free (p ∷ []) 0 i b) ∙ e ∙ get_or_push free p 0 j (omega (arith, m, n, length_push free p)))

-- the last of the free places is inside, and its block is free
pub last_free : (outs : List Bool) (region : List (List ℕ)) (rest : List ℕ) (p : ℕ) → IsKept outs region (rest ++ p ∷ []) → (p < length outs) × (get_or outs p false ≡ false)
last_free outs region rest p k =
    let at : get_or (rest ++ p ∷ []) (length rest) 0 ≡ p = get_or_push rest p 0 (length rest) refl in
    let within : length rest < length (rest ++ p ∷ []) = omega (arith, length_push rest p) in
    (subst (λ x. x < length outs) at (k.inside (length rest) within), ap (λ x. get_or outs x false) (sym at) ∙ k.unused (length rest) within)

pub kept_take : (outs : List Bool) (region : List (List ℕ)) (rest : List ℕ) (p : ℕ) (b : List ℕ) → IsKept outs region (rest ++ p ∷ []) → IsKept (set outs p true) (set region p b) rest
kept_take outs region rest p b k =
    let last = last_free outs region rest p k in
    record {
      whole = length-set region p b ∙ k.whole ∙ sym (length-set outs p true);
      short = subst (λ n. n < 2 ^ 32) (sym (length-set outs p true)) k.short;
      inside = λ i m. subst (λ n. get_or rest i 0 < n) (sym (length-set outs p true)) (subst (λ x. x < length outs) (front i m) (k.inside i (longer i m)));
      unused = λ i m. get_or-set_other outs p (get_or rest i 0) true false (apart i m) ∙ ap (λ x. get_or outs x false) (sym (front i m)) ∙ k.unused i (longer i m);
      once = λ i j a m e. k.once i j a (longer j m) (front i (omega (arith, a, m)) ∙ e ∙ sym (front j m));
      counted = omega (arith, k.counted, marked_set outs p last.0 last.1, length-set outs p true, length_push rest p);
    }
  where
    front : (i : ℕ) → i < length rest → get_or (rest ++ p ∷ []) i 0 ≡ get_or rest i 0
    front i m = get_or_append_left rest (p ∷ []) 0 i m

    longer : (i : ℕ) → i < length rest → i < length (rest ++ p ∷ [])
    longer i m = omega (arith, m, length_push rest p)

    apart : (i : ℕ) → i < length rest → get_or rest i 0 ≢ p
    apart i m e =
        k.once i (length rest) m (omega (arith, length_push rest p)) (front i m ∙ e ∙ sym (get_or_push rest p 0 (length rest) refl))

-- a pool of which no block is out
pub kept_new : (n : ℕ) (region : List (List ℕ)) (outs : List Bool) (free : List ℕ) → n < 2 ^ 32 → outs ≡ replicate n false → length region ≡ n → length free ≡ n
    → ((i : ℕ) → i < n → get_or free i 0 ≡ n - 1 - i) → IsKept outs region free
kept_new n region outs free s o r f falling = record {
  whole = r ∙ sym long;
  short = subst (λ k. k < 2 ^ 32) (sym long) s;
  inside = λ i m. omega (arith, long, falling i (omega (arith, m, f)), m, f);
  unused = λ i m. ap (λ os. get_or os (get_or free i 0) false) o ∙ get_or-replicate n (get_or free i 0) false false (omega (arith, falling i (omega (arith, m, f)), m, f));
  once = λ i j a m e. omega (arith, e, falling i (omega (arith, a, m, f)), falling j (omega (arith, m, f)), a, m, f);
  counted = omega (arith, ap (count_by (λ o. o)) o ∙ none n, long, f);
}
  where
    long : length outs ≡ n
    long = ap length o ∙ length-replicate n false

    none : (n : ℕ) → count_by (λ o. o) (replicate n false) ≡ 0
    none zero = refl
    none (suc n) = sum_by-cons (λ o. cond o 1 0) false (replicate n false) ∙ ap (λ k. 0 + k) (none n)

-- a block that is given back
pub emptied_of : (outs : List Bool) (region : List (List ℕ)) (pool : Blocks) (block : ℕ) (bytes : List ℕ) → length region ≡ length outs → entries outs region ≡ pool → Holds pool block bytes
    → entries (set outs block false) region ≡ set pool block None
emptied_of outs region pool block bytes e v h =
    ap (entries (set outs block false)) (sym (set-get_or region block [])) ∙ entries_set outs region block false (get_or region block []) e ∙ ap (λ p. set p block None) v

-- the last of the free places is that of a free block
pub free_of : (outs : List Bool) (region : List (List ℕ)) (rest : List ℕ) (p : ℕ) (pool : Blocks) → IsKept outs region (rest ++ p ∷ []) → entries outs region ≡ pool → IsFree pool p
free_of outs region rest p pool k v =
    let last = last_free outs region rest p k in
    let within : p < length (entries outs region) = omega (arith, length-entries outs region k.whole, last.0) in
    ap (λ q. slice_get q p) (sym v) ∙ slice_get-get_or (entries outs region) p None within
    ∙ ap Some (entry_at outs region p [] k.whole last.0 ∙ ap (λ b. cond b (Some (get_or region p [])) None) last.1)

pub taken_of : (outs : List Bool) (region : List (List ℕ)) (pool : Blocks) (p : ℕ) (b : List ℕ) → length region ≡ length outs → entries outs region ≡ pool
    → entries (set outs p true) (set region p b) ≡ set pool p (Some b)
taken_of outs region pool p b e v = entries_set outs region p true b e ∙ ap (λ q. set q p (Some b)) v

pub used_of : (outs : List Bool) (region : List (List ℕ)) (free : List ℕ) (pool : Blocks) → IsKept outs region free → entries outs region ≡ pool → used pool + length free ≡ length outs
used_of outs region free pool k v = ap (λ n. n + length free) (ap used (sym v) ∙ used_entries outs region k.whole) ∙ k.counted

-- where no place is free, all blocks are out
pub all_out : (outs : List Bool) (region : List (List ℕ)) (free : List ℕ) (pool : Blocks) → IsKept outs region free → entries outs region ≡ pool → length free ≡ 0 → used pool ≡ length pool
all_out outs region free pool k v n = omega (arith, used_of outs region free pool k v, ap length v, length-entries outs region k.whole, n)

pub full_of : (a b x : ℕ) → x ≡ a → x ≡ b → ◌≡◌ {A = Result Block PoolFull} (Err (record { used = x; limit = x })) (Err (record { used = a; limit = b }))
full_of a b x e f = ap₂ (λ (a b : ℕ). Err (record { used = a; limit = b })) e f
