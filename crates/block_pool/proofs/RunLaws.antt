-- Laws of runs of blocks.
use Rattle.std.proofs.Common.{◌≡◌, ℕ, zero, suc, ◌+◌, ◌*◌, ◌-◌, ◌^◌, ◌<◌, ◌≤◌, Bool, true, false, cond, replicate, Option, Some, None, IsSome, List, [], ◌∷◌, ◌++◌, length, take, drop, get_or, refl, sym, ap, ap₂, subst, ◌∙◌, arith, append_assoc, append-nil}
use Rattle.std.specs.List.{AllByRecursion, count_by}
use Rattle.std.proofs.lemmas.List.{length-take, length-drop, length-append, length-replicate, replicate-append-replicate, drop-drop, take_all, drop_all, take-append-drop, take-take}
use Rattle.std.proofs.lemmas.List.Sums.{sum_by-append, sum_by-cons}
use Rattle.std.proofs.Math.Seq.{drop-append_seam}
use Rattle.block_pool.specs.Blocks.{Blocks, used, zeros}
use Rattle.block_pool.specs.Region.{IsKept, blocks_of, entries}
use Rattle.block_pool.specs.Runs.{HoldsRun, IsFresh, Places, blocks_at, text_of}
use Rattle.block_pool.specs.Written.{over, written_over}
use Rattle.block_pool.proofs.FlatLaws.{put_whole, length-blocks_of, take_parts, blocks_by, blocks_is, blocks_over, blocks_written_at, none_over, length-blocks, over_fits}
use Rattle.block_pool.proofs.RegionLaws.{length-entries, used_entries}

pub drop_entries : (i : ℕ) (outs : List Bool) (blocks : List (List ℕ)) → drop i (entries outs blocks) ≡ entries (drop i outs) (drop i blocks)
drop_entries zero outs blocks = refl
drop_entries (suc i) [] blocks = refl
drop_entries (suc i) (out ∷ outs) [] = none (drop i outs)
  where
    none : (outs : List Bool) → [] ≡ entries outs []
    none [] = refl
    none (out ∷ outs) = refl
drop_entries (suc i) (out ∷ outs) (block ∷ blocks) = drop_entries i outs blocks

take_entries : (i : ℕ) (outs : List Bool) (blocks : List (List ℕ)) → entries (take i outs) (take i blocks) ≡ take i (entries outs blocks)
take_entries zero outs blocks = refl
take_entries (suc i) [] blocks = refl
take_entries (suc i) (out ∷ outs) [] = refl
take_entries (suc i) (out ∷ outs) (block ∷ blocks) = ap (λ (pool : Blocks). cond out (Some block) None ∷ pool) (take_entries i outs blocks)

entries_on : (outs more : List Bool) (blocks others : List (List ℕ)) → length blocks ≡ length outs → entries (outs ++ more) (blocks ++ others) ≡ entries outs blocks ++ entries more others
entries_on [] more [] others same = refl
entries_on [] more (block ∷ blocks) others same = absurd (omega (arith, same))
entries_on (out ∷ outs) more [] others same = absurd (omega (arith, same))
entries_on (out ∷ outs) more (block ∷ blocks) others same = ap (λ (pool : Blocks). cond out (Some block) None ∷ pool) (entries_on outs more blocks others (omega (arith, same)))

all_out : (n : ℕ) (block : List ℕ) → entries (replicate n true) (replicate n block) ≡ replicate n (Some block)
all_out zero block = refl
all_out (suc n) block = ap (λ (pool : Blocks). Some block ∷ pool) (all_out n block)

-- the bytes of blocks that are all out are those of the region
text_there : (count n : ℕ) (outs : List Bool) (bytes : List ℕ) → count ≤ n → length outs ≡ n → AllByRecursion IsSome (take count (entries outs (blocks_of n bytes)))
    → text_of (take count (entries outs (blocks_of n bytes))) ≡ take (4096 * count) bytes
text_there zero n outs bytes less long all = let none : 0 ≡ 4096 * 0 = omega (arith) in ap (λ (k : ℕ). take k bytes) none
text_there (suc count) zero outs bytes less long all = absurd (omega (arith, less))
text_there (suc count) (suc n) [] bytes less long all = absurd (omega (arith, long))
text_there (suc count) (suc n) (false ∷ outs) bytes less long all = absurd cc
text_there (suc count) (suc n) (true ∷ outs) bytes less long all =
    let on : 4096 + 4096 * count ≡ 4096 * suc count = omega (arith) in
    ap (λ (rest : List ℕ). take 4096 bytes ++ rest) (text_there count n outs (drop 4096 bytes) (omega (arith, less)) (omega (arith, long)) all.1)
    ∙ sym (take_parts 4096 (4096 * count) bytes) ∙ ap (λ (k : ℕ). take k bytes) on

pub run_text : (first count n : ℕ) (outs : List Bool) (bytes : List ℕ) → first + count ≤ n → length outs ≡ n → AllByRecursion IsSome (take count (drop first (entries outs (blocks_of n bytes))))
    → text_of (take count (drop first (entries outs (blocks_of n bytes)))) ≡ take (4096 * count) (drop (4096 * first) bytes)
run_text zero count n outs bytes less long all =
    let none : 0 ≡ 4096 * 0 = omega (arith) in
    text_there count n outs bytes (omega (arith, less)) long all ∙ ap (λ (k : ℕ). take (4096 * count) (drop k bytes)) none
run_text (suc first) count zero outs bytes less long all = absurd (omega (arith, less))
run_text (suc first) count (suc n) [] bytes less long all = absurd (omega (arith, long))
run_text (suc first) count (suc n) (out ∷ outs) bytes less long all =
    let on : 4096 + 4096 * first ≡ 4096 * suc first = omega (arith) in
    run_text first count n outs (drop 4096 bytes) (omega (arith, less)) (omega (arith, long)) all
    ∙ ap (take (4096 * count)) (drop-drop (4096 * first) 4096 bytes ∙ ap (λ (k : ℕ). drop k bytes) on)

-- what is written over a block and more leaves its front there
over_front : (x y old : List ℕ) → length x ≡ length old → over (x ++ y) old ≡ x
over_front [] [] [] same = refl
over_front [] (b ∷ y) [] same = refl
over_front [] y (a ∷ old) same = absurd (omega (arith, same))
over_front (b ∷ x) y [] same = absurd (omega (arith, same))
over_front (b ∷ x) y (a ∷ old) same = ap (λ (l : List ℕ). b ∷ l) (over_front x y old (omega (arith, same)))

-- zeros that are written over blocks
zeros_over : (n : ℕ) (blocks : List (List ℕ)) → n ≤ length blocks → AllByRecursion (λ block. length block ≡ 4096) blocks → blocks_over 4096 (replicate (4096 * n) 0) blocks ≡ replicate n (replicate 4096 0) ++ drop n blocks
zeros_over zero blocks less whole = none_over 4096 (replicate (4096 * 0) 0) blocks (length-replicate {A = ℕ} (4096 * 0) 0 ∙ omega (arith))
zeros_over (suc n) [] less whole = absurd (omega (arith, less))
zeros_over (suc n) (old ∷ blocks) less whole =
    let first : List ℕ = replicate 4096 0 in
    let more : List ℕ = replicate (4096 * n) 0 in
    let on : 4096 * suc n ≡ 4096 + 4096 * n = omega (arith) in
    let parts : replicate (4096 * suc n) 0 ≡ first ++ more = ap (λ (k : ℕ). replicate k 0) on ∙ sym (replicate-append-replicate {A = ℕ} 4096 (4096 * n) 0) in
    let size : length first ≡ 4096 = length-replicate {A = ℕ} 4096 0 in
    let back : drop 4096 (first ++ more) ≡ more = ap (λ (k : ℕ). drop k (first ++ more)) (sym size) ∙ drop-append_seam first more in
    ap (λ (w : List ℕ). over w old ∷ blocks_over 4096 (drop 4096 w) blocks) parts
    ∙ ap₂ (λ (block : List ℕ) (rest : List (List ℕ)). block ∷ rest) (over_front first more old (size ∙ sym whole.0))
    (ap (λ (w : List ℕ). blocks_over 4096 w blocks) back ∙ zeros_over n blocks (omega (arith, less)) whole.1)

-- a run that is held lies in the region, and its bytes stand there
pub run_inside : (outs : List Bool) (region : List ℕ) (pool : Blocks) (run : Places) (bytes : List ℕ) → length region ≡ 4096 * length outs → entries outs (blocks_of (length outs) region) ≡ pool → HoldsRun pool run bytes
    → (run.first + run.count ≤ length outs) × (4096 * run.first + 4096 * run.count ≤ length region)
run_inside outs region pool run bytes long view holds =
    let count : length pool ≡ length outs = sym (ap length view) ∙ length-entries outs (blocks_of (length outs) region) (length-blocks_of (length outs) region) in
    (omega (arith, holds.inside, count), omega (arith, holds.inside, count, long))

pub run_there : (outs : List Bool) (region : List ℕ) (pool : Blocks) (run : Places) (bytes x : List ℕ) → length region ≡ 4096 * length outs → entries outs (blocks_of (length outs) region) ≡ pool → HoldsRun pool run bytes
    → x ≡ take (4096 * run.count) (drop (4096 * run.first) region) → HoldsRun pool run x
run_there outs region pool run bytes x long view holds is =
    let less = run_inside outs region pool run bytes long view holds in
    let all = subst (λ (p : Blocks). AllByRecursion IsSome (blocks_at run p)) (sym view) holds.out in
    record {
      inside = holds.inside;
      out = holds.out;
      bytes_are = is ∙ sym (run_text run.first run.count (length outs) outs region less.0 refl all) ∙ ap (λ (p : Blocks). text_of (blocks_at run p)) view;
    }

none_out : (outs : List Bool) (blocks : List (List ℕ)) (k : ℕ) → length blocks ≡ length outs → entries outs blocks ≡ replicate k None → outs ≡ replicate k false
none_out [] blocks zero same is = refl
none_out [] blocks (suc k) same is = absurd cc
none_out (out ∷ outs) [] k same is = absurd (omega (arith, same))
none_out (out ∷ outs) (block ∷ blocks) zero same is = absurd cc
none_out (true ∷ outs) (block ∷ blocks) (suc k) same is = absurd cc
none_out (false ∷ outs) (block ∷ blocks) (suc k) same is = ap (λ (l : List Bool). false ∷ l) (none_out outs blocks k (omega (arith, same)) (ap (drop 1) is))

drop_same : {A : Type 0} (n k : ℕ) (x : A) → n ≤ k → drop n (replicate k x) ≡ replicate (k - n) x
drop_same zero k x less = let all : k ≡ k - zero = omega (arith) in ap (λ (m : ℕ). replicate m x) all
drop_same (suc n) zero x less = absurd (omega (arith, less))
drop_same (suc n) (suc k) x less = let on : k - n ≡ suc k - suc n = omega (arith) in drop_same n k x (omega (arith, less)) ∙ ap (λ (m : ℕ). replicate m x) on

no_true : (m i : ℕ) → get_or (replicate m false) i false ≡ false
no_true zero i = refl
no_true (suc m) zero = refl
no_true (suc m) (suc i) = no_true m i

false_past : (outs : List Bool) (m i : ℕ) → length outs ≤ i → get_or (outs ++ replicate m false) i false ≡ false
false_past [] m i less = no_true m i
false_past (out ∷ outs) m zero less = absurd (omega (arith, less))
false_past (out ∷ outs) m (suc i) less = false_past outs m i (omega (arith, less))

abbrev outs_of : List Bool → ℕ
outs_of outs = count_by (λ out. out) outs

count_false : (m : ℕ) → outs_of (replicate m false) ≡ 0
count_false zero = refl
count_false (suc m) = sum_by-cons (λ out. cond out 1 0) false (replicate m false) ∙ ap (λ (k : ℕ). 0 + k) (count_false m)

count_true : (n : ℕ) → outs_of (replicate n true) ≡ n
count_true zero = refl
count_true (suc n) = sum_by-cons (λ out. cond out 1 0) true (replicate n true) ∙ omega (arith, count_true n)

count_on : (outs more : List Bool) → outs_of (outs ++ more) ≡ outs_of outs + outs_of more
count_on outs more = sum_by-append (λ out. cond out 1 0) outs more

all_drop : {A : Type 0} (P : A → Type 0) (i : ℕ) (xs : List A) → AllByRecursion P xs → AllByRecursion P (drop i xs)
all_drop P zero xs all = all
all_drop P (suc i) [] all = all
all_drop P (suc i) (x ∷ xs) all = all_drop P i xs all.1

whole_blocks : (n : ℕ) (bytes : List ℕ) → length bytes ≡ 4096 * n → AllByRecursion (λ block. length block ≡ 4096) (blocks_by 4096 n bytes)
whole_blocks zero bytes long = tt
whole_blocks (suc n) bytes long = (omega (arith, length-take 4096 bytes, long), whole_blocks n (drop 4096 bytes) (omega (arith, length-drop 4096 bytes, long)))

pub kept_as : (outs now : List Bool) (region bytes : List ℕ) (free : List ℕ) → now ≡ outs → bytes ≡ region → IsKept outs (blocks_of (length outs) region) free → IsKept now (blocks_of (length now) bytes) free
kept_as outs now region bytes free same same_bytes kept =
    subst (λ (o : List Bool). IsKept o (blocks_of (length o) bytes) free) (sym same) (subst (λ (r : List ℕ). IsKept outs (blocks_of (length outs) r) free) (sym same_bytes) kept)

-- a pool has as many blocks as there are marks
pub pool_size : (outs : List Bool) (region : List ℕ) (pool : Blocks) → entries outs (blocks_of (length outs) region) ≡ pool → length pool ≡ length outs
pool_size outs region pool view = sym (ap length view) ∙ length-entries outs (blocks_of (length outs) region) (length-blocks_of (length outs) region)

module _ (outs : List Bool) (region : List ℕ) (pool : Blocks) (n : ℕ) (long : length region ≡ 4096 * length outs) (view : entries outs (blocks_of (length outs) region) ≡ pool) (fresh : IsFresh pool) (fits : used pool + n ≤ length outs) where
  abbrev pub outs_then : List Bool
  outs_then = take (used pool) outs ++ replicate n true ++ drop (used pool + n) outs

  abbrev pub region_then : List ℕ
  region_then = take (4096 * used pool) region ++ replicate (4096 * n) 0 ++ drop (4096 * used pool + 4096 * n) region

  pub length-pool : length pool ≡ length outs
  length-pool = pool_size outs region pool view

  -- the blocks behind those that are out are free
  free_behind : drop (used pool) outs ≡ replicate (length outs - used pool) false
  free_behind =
      let back : entries (drop (used pool) outs) (drop (used pool) (blocks_of (length outs) region)) ≡ replicate (length outs - used pool) None
      = sym (drop_entries (used pool) outs (blocks_of (length outs) region)) ∙ ap (drop (used pool)) view ∙ fresh ∙ ap (λ (k : ℕ). replicate (k - used pool) None) length-pool in
      none_out (drop (used pool) outs) (drop (used pool) (blocks_of (length outs) region)) (length outs - used pool)
      (omega (arith, length-drop (used pool) outs, length-drop (used pool) (blocks_of (length outs) region), length-blocks_of (length outs) region)) back

  behind_run : drop (used pool + n) outs ≡ replicate (length outs - used pool - n) false
  behind_run = sym (drop-drop n (used pool) outs) ∙ ap (drop n) free_behind ∙ drop_same n (length outs - used pool) false (omega (arith, fits))

  outs_is : outs_then ≡ take (used pool) outs ++ replicate n true ++ replicate (length outs - used pool - n) false
  outs_is = ap (λ (l : List Bool). take (used pool) outs ++ replicate n true ++ l) behind_run

  length-front : length (take (used pool) outs ++ replicate n true) ≡ used pool + n
  length-front = omega (arith, length-append (take (used pool) outs) (replicate n true), length-take (used pool) outs, length-replicate n true, fits)

  pub length-outs_then : length outs_then ≡ length outs
  length-outs_then = omega (arith, length-append (take (used pool) outs ++ replicate n true) (drop (used pool + n) outs), length-front, length-drop (used pool + n) outs, fits)

  pub count_then : outs_of outs_then ≡ used pool + n
  count_then =
      let all : outs_of outs ≡ used pool = sym (used_entries outs (blocks_of (length outs) region) (length-blocks_of (length outs) region)) ∙ ap used view in
      let parts : outs_of outs ≡ outs_of (take (used pool) outs) + outs_of (drop (used pool) outs) = ap outs_of (sym (take-append-drop (used pool) outs)) ∙ count_on (take (used pool) outs) (drop (used pool) outs) in
      let behind : outs_of (drop (used pool) outs) ≡ 0 = ap outs_of free_behind ∙ count_false (length outs - used pool) in
      ap outs_of outs_is ∙ count_on (take (used pool) outs ++ replicate n true) (replicate (length outs - used pool - n) false)
      ∙ omega (arith, count_on (take (used pool) outs) (replicate n true), count_true n, count_false (length outs - used pool - n), all, parts, behind)

  -- what is kept then, with the places behind the run as the free ones
  pub kept_then : (now free : List ℕ) → IsKept outs (blocks_of (length outs) region) now → length free ≡ length outs - (used pool + n)
      → ((i : ℕ) → i < length outs - (used pool + n) → get_or free i 0 ≡ length outs - 1 - i) → IsKept outs_then (blocks_of (length outs_then) region_then) free
  kept_then now free kept len falling = record {
    whole = length-blocks_of (length outs_then) region_then;
    short = subst (λ (k : ℕ). k < 2 ^ 32) (sym length-outs_then) kept.short;
    inside = λ i less. omega (arith, falling i (omega (arith, less, len)), less, len, length-outs_then);
    unused = λ i less.
        let place : get_or free i 0 ≡ length outs - 1 - i = falling i (omega (arith, less, len)) in
        ap (λ (l : List Bool). get_or l (get_or free i 0) false) outs_is
        ∙ false_past (take (used pool) outs ++ replicate n true) (length outs - used pool - n) (get_or free i 0) (omega (arith, place, less, len, length-front));
    once = λ i j order less same. omega (arith, falling i (omega (arith, order, less, len)), falling j (omega (arith, less, len)), order, less, len, same);
    counted = omega (arith, count_then, len, length-outs_then, fits);
  }

  -- the pool then
  pub pool_then : entries outs_then (blocks_of (length outs) region_then) ≡ take (used pool) pool ++ replicate n (Some zeros) ++ drop (used pool + n) pool
  unfolding zeros
  pool_then =
      let count = length outs in
      let place = used pool in
      let blocks = blocks_by 4096 count region in
      let zero_bytes : List ℕ = replicate (4096 * n) 0 in
      let block : List ℕ = replicate 4096 0 in
      let rest = drop (4096 * place) region in
      let size : length zero_bytes ≡ 4096 * n = length-replicate {A = ℕ} (4096 * n) 0 in
      let room : length zero_bytes ≤ length rest = omega (arith, size, length-drop (4096 * place) region, long, fits) in
      let past : drop (4096 * place + 4096 * n) region ≡ drop (length zero_bytes) rest = ap (λ (k : ℕ). drop (4096 * place + k) region) (sym size) ∙ sym (drop-drop (length zero_bytes) (4096 * place) region) in
      let text : region_then ≡ take (4096 * place) region ++ over zero_bytes rest =
      append_assoc (take (4096 * place) region) zero_bytes (drop (4096 * place + 4096 * n) region)
      ∙ ap (λ (l : List ℕ). take (4096 * place) region ++ l) (ap (λ (l : List ℕ). zero_bytes ++ l) past ∙ sym (over_fits zero_bytes rest room)) in
      let there = length-blocks 4096 count region in
      let behind : n ≤ length (drop place blocks) = omega (arith, length-drop place blocks, there, fits) in
      let made : blocks_of count region_then ≡ take place blocks ++ replicate n block ++ drop (place + n) blocks =
      ap (blocks_of count) text ∙ blocks_is count _ ∙ blocks_written_at 4096 count place zero_bytes region (omega (arith, fits)) long
      ∙ ap (λ (l : List (List ℕ)). take place blocks ++ l) (zeros_over n (drop place blocks) behind (all_drop (λ b. length b ≡ 4096) place blocks (whole_blocks count region long)))
      ∙ sym (append_assoc (take place blocks) (replicate n block) (drop n (drop place blocks)))
      ∙ ap (λ (l : List (List ℕ)). take place blocks ++ replicate n block ++ l) (drop-drop n place blocks) in
      let pool_is : entries outs blocks ≡ pool = ap (entries outs) (sym (blocks_is count region)) ∙ view in
      let fronts : length (take place blocks) ≡ length (take place outs) = omega (arith, length-take place blocks, length-take place outs, there) in
      let both : length (take place blocks ++ replicate n block) ≡ length (take place outs ++ replicate n true) =
      omega (arith, length-append (take place blocks) (replicate n block), length-replicate n block, length-append (take place outs) (replicate n true), length-replicate n true, fronts) in
      ap (entries outs_then) made
      ∙ entries_on (take place outs ++ replicate n true) (drop (place + n) outs) (take place blocks ++ replicate n block) (drop (place + n) blocks) both
      ∙ ap₂ (λ (x y : Blocks). x ++ y) (entries_on (take place outs) (replicate n true) (take place blocks) (replicate n block) fronts) (sym (drop_entries (place + n) outs blocks))
      ∙ ap₂ (λ (x y : Blocks). x ++ y ++ drop (place + n) (entries outs blocks)) (take_entries place outs blocks) (all_out n block)
      ∙ ap (λ (p : Blocks). take place p ++ replicate n (Some block) ++ drop (place + n) p) pool_is

  -- in it too the blocks that are out are the first ones
  pub fresh_then : (after : Blocks) → after ≡ take (used pool) pool ++ replicate n (Some zeros) ++ drop (used pool + n) pool → IsFresh after
  fresh_then after is =
      let place = used pool in
      let as_entries : after ≡ entries outs_then (blocks_of (length outs) region_then) = is ∙ sym pool_then in
      let same : length (blocks_of (length outs) region_then) ≡ length outs_then = length-blocks_of (length outs) region_then ∙ sym length-outs_then in
      let count : used after ≡ place + n = ap used as_entries ∙ used_entries outs_then (blocks_of (length outs) region_then) same ∙ count_then in
      let size : length after ≡ length outs = ap length as_entries ∙ length-entries outs_then (blocks_of (length outs) region_then) same ∙ length-outs_then in
      let front = take place pool ++ replicate n (Some zeros) in
      let front_len : length front ≡ place + n = omega (arith, length-append (take place pool) (replicate n (Some zeros)), length-take place pool, length-replicate n (Some zeros), length-pool, fits) in
      let back : drop (place + n) (front ++ drop (place + n) pool) ≡ drop (place + n) pool = ap (λ (k : ℕ). drop k (front ++ drop (place + n) pool)) (sym front_len) ∙ drop-append_seam front (drop (place + n) pool) in
      let free : drop (place + n) pool ≡ replicate (length outs - place - n) None =
      sym (drop-drop n place pool) ∙ ap (drop n) (fresh ∙ ap (λ (k : ℕ). replicate (k - place) None) length-pool) ∙ drop_same n (length outs - place) None (omega (arith, fits)) in
      let left : length outs - place - n ≡ length after - used after = omega (arith, size, count) in
      ap (λ (k : ℕ). drop k after) count ∙ ap (drop (place + n)) is ∙ back ∙ free ∙ ap (λ (k : ℕ). replicate k None) left

  length-region_then : length region_then ≡ length region
  length-region_then =
      omega (
        arith,
        length-append (take (4096 * used pool) region ++ replicate (4096 * n) 0) (drop (4096 * used pool + 4096 * n) region),
        length-append (take (4096 * used pool) region) (replicate (4096 * n) 0),
        length-take (4096 * used pool) region,
        length-replicate {A = ℕ} (4096 * n) 0,
        length-drop (4096 * used pool + 4096 * n) region,
        long,
        fits,
      )

  -- marks and region as the program's lists write them
  pub marks_then : (len from : ℕ) (marked : List Bool) → len ≡ length outs → from ≡ used pool → marked ≡ take from outs ++ replicate n true ++ drop (from + n) outs → take len (marked ++ drop (length marked) outs) ≡ outs_then
  marks_then len from marked len_is from_is is =
      let now : marked ≡ outs_then = is ∙ ap (λ (k : ℕ). take k outs ++ replicate n true ++ drop (k + n) outs) from_is in
      put_whole len marked outs (ap length now ∙ length-outs_then) len_is ∙ now

  pub bytes_then : (len start size : ℕ) (cleared : List ℕ) → len ≡ length region → start ≡ 4096 * used pool → size ≡ 4096 * n → cleared ≡ take start region ++ replicate size 0 ++ drop (start + size) region
      → take len (cleared ++ drop (length cleared) region) ≡ region_then
  bytes_then len start size cleared len_is start_is size_is is =
      let now : cleared ≡ region_then = is ∙ ap₂ (λ (a b : ℕ). take a region ++ replicate b 0 ++ drop (a + b) region) start_is size_is in
      put_whole len cleared region (ap length now ∙ length-region_then) len_is ∙ now

  pub size_then : length region_then ≡ 4096 * length outs_then
  size_then = omega (arith, length-region_then, length-outs_then, long)
