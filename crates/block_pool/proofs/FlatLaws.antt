-- Laws of blocks that stand one behind the other.
use Rattle.std.proofs.Common.{◌≡◌, ℕ, zero, suc, ◌+◌, ◌*◌, ◌-◌, ◌<◌, ◌≤◌, Bool, true, false, cond, replicate, Option, Some, None, List, [], ◌∷◌, ◌++◌, length, take, drop, get_or, set, refl, sym, ap, ap₂, subst, ◌∙◌, arith, rules, append_assoc, append-nil}
use Rattle.std.proofs.lemmas.List.{take-append-le, drop-append-le, length-take, length-take-le, length-drop, length-append, drop-drop, take-append-drop, take_all, drop_all}
use borrow.Rule.Slice.PartMut.{put_mid}
use Rattle.std.proofs.Math.Seq.{drop-append_seam, take-append_seam}
use Rattle.block_pool.specs.Blocks.{Blocks, Holds}
use Rattle.block_pool.proofs.RegionLaws.{out_of, read_of}
use Rattle.block_pool.specs.Region.{IsKept, blocks_of, entries}
use Rattle.block_pool.specs.Written.{over, written_over}

-- over at the front, cut and past it
pub take_over : (n : ℕ) (w bytes : List ℕ) → take n (over w bytes) ≡ over w (take n bytes)
take_over n [] bytes = refl
take_over zero (x ∷ w) [] = refl
take_over (suc n) (x ∷ w) [] = refl
take_over zero (x ∷ w) (y ∷ bytes) = refl
take_over (suc n) (x ∷ w) (y ∷ bytes) = ap (λ l. x ∷ l) (take_over n w bytes)

pub drop_over : (n : ℕ) (w bytes : List ℕ) → drop n (over w bytes) ≡ over (drop n w) (drop n bytes)
drop_over zero w bytes = refl
drop_over (suc n) [] bytes = refl
drop_over (suc n) (x ∷ w) [] = over_none (drop n w)
  where
    over_none : (w : List ℕ) → [] ≡ over w []
    over_none [] = refl
    over_none (x ∷ w) = refl
drop_over (suc n) (x ∷ w) (y ∷ bytes) = drop_over n w bytes

pub length-over : (w bytes : List ℕ) → length (over w bytes) ≡ length bytes
length-over [] bytes = refl
length-over (x ∷ w) [] = refl
length-over (x ∷ w) (y ∷ bytes) = ap suc (length-over w bytes)

-- what fits stands there, and behind it what was there
pub over_fits : (w bytes : List ℕ) → length w ≤ length bytes → over w bytes ≡ w ++ drop (length w) bytes
over_fits [] bytes fits = refl
over_fits (x ∷ w) [] fits = absurd (omega (arith, fits))
over_fits (x ∷ w) (y ∷ bytes) fits = ap (λ l. x ∷ l) (over_fits w bytes (omega (arith, fits)))

pub over_whole : (w bytes : List ℕ) → length w ≡ length bytes → over w bytes ≡ w
over_whole [] [] same = refl
over_whole [] (y ∷ bytes) same = absurd (omega (arith, same))
over_whole (x ∷ w) [] same = absurd (omega (arith, same))
over_whole (x ∷ w) (y ∷ bytes) same = ap (λ l. x ∷ l) (over_whole w bytes (omega (arith, same)))

-- as the program's list writes it: what goes past the end is cut off
pub over_cut : (w bytes : List ℕ) → take (length bytes) (w ++ drop (length w) bytes) ≡ over w bytes
over_cut [] bytes = take_all (length bytes) bytes (omega (arith))
over_cut (x ∷ w) [] = refl
over_cut (x ∷ w) (y ∷ bytes) = ap (λ l. x ∷ l) (over_cut w bytes)

pub over_at : (at : ℕ) (w bytes : List ℕ) → at ≤ length bytes
    → take (length bytes) (take at bytes ++ (w ++ drop (length w) (drop at bytes)) ++ drop (length (take at bytes ++ (w ++ drop (length w) (drop at bytes)))) bytes) ≡ take at bytes ++ over w (drop at bytes)
over_at zero w bytes low =
    let kept = drop (length w) bytes in
    let long : length bytes ≤ length (w ++ kept) = omega (arith, length-append w kept, length-drop (length w) bytes) in
    ap (λ (rest : List ℕ). take (length bytes) (w ++ kept ++ rest)) (drop_all (length (w ++ kept)) bytes long) ∙ ap (take (length bytes)) (append-nil (w ++ kept)) ∙ over_cut w bytes
over_at (suc at) w [] low = absurd (omega (arith, low))
over_at (suc at) w (y ∷ bytes) low = ap (λ l. y ∷ l) (over_at at w bytes (omega (arith, low)))

pub take_parts : (i j : ℕ) (xs : List ℕ) → take (i + j) xs ≡ take i xs ++ take j (drop i xs)
take_parts zero j xs = let none : zero + j ≡ j = omega (arith) in ap (λ (k : ℕ). take k xs) none
take_parts (suc i) j [] = take_all (suc i + j) [] (omega (arith)) ∙ sym (take_all j [] (omega (arith)))
take_parts (suc i) j (x ∷ xs) = let on : suc i + j ≡ suc (i + j) = omega (arith) in ap (λ (k : ℕ). take k (x ∷ xs)) on ∙ ap (λ l. x ∷ l) (take_parts i j xs)

-- the first n blocks of b bytes each
abbrev pub blocks_by : ℕ → ℕ → List ℕ → List (List ℕ)
blocks_by b zero bytes = []
blocks_by b (suc n) bytes = take b bytes ∷ blocks_by b n (drop b bytes)

-- blocks with bytes written over them
abbrev pub blocks_over : ℕ → List ℕ → List (List ℕ) → List (List ℕ)
blocks_over b w [] = []
blocks_over b w (old ∷ blocks) = over w old ∷ blocks_over b (drop b w) blocks

-- a part that is filled, as the program's list writes it
pub filled : {A : Type 0} (at len : ℕ) (x : A) (old new : List A) → at + len ≤ length old → new ≡ replicate (length (take (at + len - at) (drop at old))) x
    → put_mid at (at + len - at) old new ≡ take at old ++ replicate len x ++ drop (at + len) old
filled at len x old new fits is =
    let size : at + len - at ≡ len = omega (arith) in
    let count : length (take (at + len - at) (drop at old)) ≡ len = omega (arith, length-take (at + len - at) (drop at old), length-drop at old, fits) in
    let all : new ≡ replicate len x = is ∙ ap (λ (n : ℕ). replicate n x) count in
    ap₂ (λ (n : ℕ) (y : List _). take at old ++ (y ++ drop n (drop at old))) size all ∙ sym (append_assoc (take at old) (replicate len x) (drop len (drop at old)))
    ∙ ap (λ (rest : List _). take at old ++ replicate len x ++ rest) (drop-drop len at old)

-- a list that is replaced by one of its length, as the program writes it
pub put_whole : {A : Type 0} (len : ℕ) (new old : List A) → length new ≡ length old → len ≡ length old → take len (new ++ drop (length new) old) ≡ new
put_whole len new old same is =
    ap (λ (rest : List _). take len (new ++ rest)) (drop_all (length new) old (omega (arith, same))) ∙ ap (take len) (append-nil new) ∙ take_all len new (omega (arith, same, is))

module _ (b : ℕ) where
  pub length-blocks : (n : ℕ) (bytes : List ℕ) → length (blocks_by b n bytes) ≡ n
  length-blocks zero bytes = refl
  length-blocks (suc n) bytes = ap suc (length-blocks n (drop b bytes))

  -- a block is so many bytes from its place on
  pub block_at : (n i : ℕ) (bytes d : List ℕ) → i < n → get_or (blocks_by b n bytes) i d ≡ take b (drop (b * i) bytes)
  block_at zero i bytes d less = absurd (omega (arith, less))
  block_at (suc n) zero bytes d less = let none : 0 ≡ b * 0 = omega (arith) in ap (λ (k : ℕ). take b (drop k bytes)) none
  block_at (suc n) (suc i) bytes d less =
      let more : b + b * i ≡ b * suc i = omega (arith) in
      block_at n i (drop b bytes) d (omega (arith, less)) ∙ ap (take b) (drop-drop (b * i) b bytes ∙ ap (λ (k : ℕ). drop k bytes) more)

  -- blocks that are written over from the first one on
  pub blocks_written : (n : ℕ) (w bytes : List ℕ) → blocks_by b n (over w bytes) ≡ blocks_over b w (blocks_by b n bytes)
  blocks_written zero w bytes = refl
  blocks_written (suc n) w bytes =
      ap₂ (λ (block : List ℕ) (blocks : List (List ℕ)). block ∷ blocks) (take_over b w bytes)
      (ap (blocks_by b n) (drop_over b w bytes) ∙ blocks_written n (drop b w) (drop b bytes))

  -- and from a later one on
  pub blocks_written_at : (n i : ℕ) (w bytes : List ℕ) → i ≤ n → length bytes ≡ b * n
      → blocks_by b n (take (b * i) bytes ++ over w (drop (b * i) bytes)) ≡ take i (blocks_by b n bytes) ++ blocks_over b w (drop i (blocks_by b n bytes))
  blocks_written_at n zero w bytes less long =
      let none : b * 0 ≡ 0 = omega (arith) in
      ap (λ (k : ℕ). blocks_by b n (take k bytes ++ over w (drop k bytes))) none ∙ blocks_written n w bytes
  blocks_written_at zero (suc i) w bytes less long = absurd (omega (arith, less))
  blocks_written_at (suc n) (suc i) w bytes less long =
      let on : b * suc i ≡ b + b * i = omega (arith) in
      let size : length (take b bytes) ≡ b = omega (arith, length-take b bytes, long) in
      let first = take b bytes in
      let rest = drop b bytes in
      let text = take (b * i) rest ++ over w (drop (b * i) rest) in
      let split : take (b * suc i) bytes ++ over w (drop (b * suc i) bytes) ≡ first ++ text =
      ap (λ (k : ℕ). take k bytes ++ over w (drop k bytes)) on
      ∙ ap₂ (λ (x y : List ℕ). x ++ over w y) (take_parts b (b * i) bytes) (sym (drop-drop (b * i) b bytes)) ∙ append_assoc first (take (b * i) rest) (over w (drop (b * i) rest)) in
      let front : take b (first ++ text) ≡ first = ap (λ (k : ℕ). take k (first ++ text)) (sym size) ∙ take-append_seam first text in
      let back : drop b (first ++ text) ≡ text = ap (λ (k : ℕ). drop k (first ++ text)) (sym size) ∙ drop-append_seam first text in
      let tail = blocks_written_at n i w rest (omega (arith, less)) (omega (arith, length-drop b bytes, long)) in
      ap (blocks_by b (suc n)) split ∙ ap₂ (λ (block : List ℕ) (blocks : List (List ℕ)). block ∷ blocks) front (ap (blocks_by b n) back ∙ tail)

pub blocks_is : (n : ℕ) (bytes : List ℕ) → blocks_of n bytes ≡ blocks_by 4096 n bytes
blocks_is zero bytes = refl
blocks_is (suc n) bytes = ap (λ (blocks : List (List ℕ)). take 4096 bytes ∷ blocks) (blocks_is n (drop 4096 bytes))

pub length-blocks_of : (n : ℕ) (bytes : List ℕ) → length (blocks_of n bytes) ≡ n
length-blocks_of n bytes = ap length (blocks_is n bytes) ∙ length-blocks 4096 n bytes

pub block_of_at : (n i : ℕ) (bytes d : List ℕ) → i < n → get_or (blocks_of n bytes) i d ≡ take 4096 (drop (4096 * i) bytes)
block_of_at n i bytes d less = ap (λ (blocks : List (List ℕ)). get_or blocks i d) (blocks_is n bytes) ∙ block_at 4096 n i bytes d less

-- the entries of blocks over which bytes were written
over_entries : (outs : List Bool) (blocks : List (List ℕ)) (w : List ℕ) → length blocks ≡ length outs → entries outs (blocks_over 4096 w blocks) ≡ written_over w (entries outs blocks)
over_entries [] blocks w same = refl
over_entries (out ∷ outs) [] w same = absurd (omega (arith, same))
over_entries (true ∷ outs) (block ∷ blocks) w same = ap (λ pool. Some (over w block) ∷ pool) (over_entries outs blocks (drop 4096 w) (omega (arith, same)))
over_entries (false ∷ outs) (block ∷ blocks) w same = ap (λ pool. None ∷ pool) (over_entries outs blocks (drop 4096 w) (omega (arith, same)))

over_entries_at : (outs : List Bool) (blocks : List (List ℕ)) (i : ℕ) (w : List ℕ) → length blocks ≡ length outs
    → entries outs (take i blocks ++ blocks_over 4096 w (drop i blocks)) ≡ take i (entries outs blocks) ++ written_over w (drop i (entries outs blocks))
over_entries_at outs blocks zero w same = over_entries outs blocks w same
over_entries_at [] blocks (suc i) w same = refl
over_entries_at (out ∷ outs) [] (suc i) w same = absurd (omega (arith, same))
over_entries_at (out ∷ outs) (block ∷ blocks) (suc i) w same = ap (λ pool. cond out (Some block) None ∷ pool) (over_entries_at outs blocks i w (omega (arith, same)))

-- a region over which bytes were written from a block on, as a pool
pub region_over : (outs : List Bool) (bytes : List ℕ) (i : ℕ) (w : List ℕ) → length bytes ≡ 4096 * length outs → i ≤ length outs
    → entries outs (blocks_of (length outs) (take (4096 * i) bytes ++ over w (drop (4096 * i) bytes)))
    ≡ take i (entries outs (blocks_of (length outs) bytes)) ++ written_over w (drop i (entries outs (blocks_of (length outs) bytes)))
region_over outs bytes i w long low =
    let n = length outs in
    let blocks = blocks_by 4096 n bytes in
    ap (entries outs) (blocks_is n _ ∙ blocks_written_at 4096 n i w bytes low long)
    ∙ over_entries_at outs blocks i w (length-blocks 4096 n bytes)
    ∙ ap (λ (blocks : List (List ℕ)). take i (entries outs blocks) ++ written_over w (drop i (entries outs blocks))) (sym (blocks_is n bytes))

-- nothing that is written leaves all blocks
pub none_over : (b : ℕ) (w : List ℕ) (blocks : List (List ℕ)) → length w ≡ 0 → blocks_over b w blocks ≡ blocks
none_over b w [] none = refl
none_over b [] (old ∷ blocks) none = let empty : List ℕ = [] in ap (λ (l : List (List ℕ)). old ∷ l) (none_over b (drop b []) blocks (omega (arith, length-drop b empty)))
none_over b (x ∷ w) (old ∷ blocks) none = absurd (omega (arith, none))

-- a block that is written over whole is replaced
replaced : (blocks : List (List ℕ)) (i : ℕ) (w : List ℕ) → i < length blocks → length w ≡ 4096 → length (get_or blocks i []) ≡ 4096 → take i blocks ++ blocks_over 4096 w (drop i blocks) ≡ set blocks i w
replaced [] i w less size same = absurd (omega (arith, less))
replaced (old ∷ blocks) zero w less size same =
    ap₂ (λ (block : List ℕ) (l : List (List ℕ)). block ∷ l) (over_whole w old (size ∙ sym same)) (none_over 4096 (drop 4096 w) blocks (omega (arith, length-drop 4096 w, size)))
replaced (old ∷ blocks) (suc i) w less size same = ap (λ (l : List (List ℕ)). old ∷ l) (replaced blocks i w (omega (arith, less)) size same)

-- a block of it that is replaced
pub region_set : (n i : ℕ) (bytes w : List ℕ) → i < n → length bytes ≡ 4096 * n → length w ≡ 4096
    → blocks_of n (take (4096 * i) bytes ++ w ++ drop (4096 * i + 4096) bytes) ≡ set (blocks_of n bytes) i w
region_set n i bytes w less long size =
    let front = take (4096 * i) bytes in
    let rest = drop (4096 * i) bytes in
    let blocks = blocks_by 4096 n bytes in
    let fits : length w ≤ length rest = omega (arith, length-drop (4096 * i) bytes, long, less, size) in
    let past : drop (4096 * i + 4096) bytes ≡ drop (length w) rest = ap (λ (k : ℕ). drop (4096 * i + k) bytes) (sym size) ∙ sym (drop-drop (length w) (4096 * i) bytes) in
    let text : front ++ w ++ drop (4096 * i + 4096) bytes ≡ front ++ over w rest =
    append_assoc front w (drop (4096 * i + 4096) bytes) ∙ ap (λ (l : List ℕ). front ++ l) (ap (λ (l : List ℕ). w ++ l) past ∙ sym (over_fits w rest fits)) in
    let there : length (get_or blocks i []) ≡ 4096 = ap length (block_at 4096 n i bytes [] less) ∙ omega (arith, length-take 4096 rest, length-drop (4096 * i) bytes, long, less) in
    let inside : i < length blocks = omega (arith, less, length-blocks 4096 n bytes) in
    ap (blocks_of n) text ∙ blocks_is n _ ∙ blocks_written_at 4096 n i w bytes (omega (arith, less)) long ∙ replaced blocks i w inside size there ∙ ap (λ (l : List (List ℕ)). set l i w) (sym (blocks_is n bytes))

-- a block that is out lies in the region, and its bytes stand there
pub lies_inside : (outs : List Bool) (region : List ℕ) (pool : Blocks) (block : ℕ) (bytes : List ℕ) → length region ≡ 4096 * length outs → entries outs (blocks_of (length outs) region) ≡ pool → Holds pool block bytes
    → (block < length outs) × (4096 * block + 4096 ≤ length region)
lies_inside outs region pool block bytes long view holds =
    let out = out_of outs (blocks_of (length outs) region) pool block bytes (length-blocks_of (length outs) region) view holds in
    (out.0, omega (arith, out.0, long))

pub stands_there : (outs : List Bool) (region : List ℕ) (pool : Blocks) (block : ℕ) (bytes x : List ℕ) → length region ≡ 4096 * length outs → entries outs (blocks_of (length outs) region) ≡ pool → Holds pool block bytes
    → x ≡ take 4096 (drop (4096 * block) region) → Holds pool block x
stands_there outs region pool block bytes x long view holds is =
    let less = lies_inside outs region pool block bytes long view holds in
    read_of outs (blocks_of (length outs) region) pool block bytes x (length-blocks_of (length outs) region) view holds (is ∙ sym (block_of_at (length outs) block region x less.0))

-- what is written from a block on, as the program's list writes it
pub lent_from : (outs : List Bool) (region : List ℕ) (pool : Blocks) (block : ℕ) (w : List ℕ) → length region ≡ 4096 * length outs → entries outs (blocks_of (length outs) region) ≡ pool → block ≤ length outs
    → entries outs (blocks_of (length outs) (take (length region) (take (4096 * block) region ++ (w ++ drop (length w) (drop (4096 * block) region))
    ++ drop (length (take (4096 * block) region ++ (w ++ drop (length w) (drop (4096 * block) region)))) region))) ≡ take block pool ++ written_over w (drop block pool)
lent_from outs region pool block w long view low =
    ap (λ (l : List ℕ). entries outs (blocks_of (length outs) l)) (over_at (4096 * block) w region (omega (arith, long, low)))
    ∙ region_over outs region block w long low ∙ ap (λ (p : Blocks). take block p ++ written_over w (drop block p)) view

-- the same of the region with what is written as the program's list writes it, at a place that is told
pub kept_lent : (outs : List Bool) (region : List ℕ) (free : List ℕ) (n at : ℕ) (w : List ℕ) → IsKept outs (blocks_of (length outs) region) free → length region ≡ 4096 * length outs → n ≡ length region → at ≤ length region
    → IsKept outs (blocks_of (length outs) (take n (take at region ++ (w ++ drop (length w) (drop at region)) ++ drop (length (take at region ++ (w ++ drop (length w) (drop at region)))) region))) free
    × (length (take n (take at region ++ (w ++ drop (length w) (drop at region)) ++ drop (length (take at region ++ (w ++ drop (length w) (drop at region)))) region)) ≡ 4096 * length outs)
kept_lent outs region free n at w kept long len low =
    let text = take at region ++ (w ++ drop (length w) (drop at region)) ++ drop (length (take at region ++ (w ++ drop (length w) (drop at region)))) region in
    let same : length (take n text) ≡ length region =
    ap (λ (k : ℕ). length (take k text)) len ∙ ap length (over_at at w region low)
    ∙ omega (arith, length-append (take at region) (over w (drop at region)), length-over w (drop at region), length-drop at region, length-take at region, low) in
    (kept_same outs (blocks_of (length outs) region) _ free kept (length-blocks_of (length outs) (take n text)), same ∙ long)
  where
    kept_same : (outs : List Bool) (blocks others : List (List ℕ)) (free : List ℕ) → IsKept outs blocks free → length others ≡ length outs → IsKept outs others free
    kept_same outs blocks others free kept whole =
        record { whole = whole; short = kept.short; inside = kept.inside; unused = kept.unused; once = kept.once; counted = kept.counted }

-- a region of which one block was replaced, as the program's list writes it
pub block_replaced : (n p len at : ℕ) (region text w : List ℕ) → p < n → length region ≡ 4096 * n → len ≡ length region → at ≡ 4096 * p → text ≡ take at region ++ w ++ drop (at + 4096) region → length w ≡ 4096
    → (blocks_of n (take len (text ++ drop (length text) region)) ≡ set (blocks_of n region) p w) × (length (take len (text ++ drop (length text) region)) ≡ 4096 * n)
block_replaced n p len at region text w less long len_is at_is text_is size =
    let front = take at region in
    let rest = drop (at + 4096) region in
    let same : length text ≡ length region =
    ap length text_is ∙ omega (arith, length-append (front ++ w) rest, length-append front w, length-take at region, length-drop (at + 4096) region, at_is, long, less, size) in
    let all : take len (text ++ drop (length text) region) ≡ text = ap (λ (k : ℕ). take k (text ++ drop (length text) region)) len_is ∙ over_cut text region ∙ over_whole text region same in
    let placed : text ≡ take (4096 * p) region ++ w ++ drop (4096 * p + 4096) region = text_is ∙ ap (λ (k : ℕ). take k region ++ w ++ drop (k + 4096) region) at_is in
    (ap (blocks_of n) (all ∙ placed) ∙ region_set n p region w less long size, ap length all ∙ same ∙ long)

-- a pool of which one block was written over whole
pub one_written : (pool : Blocks) (block : ℕ) (old w : List ℕ) → Holds pool block old → length old ≡ 4096 → length w ≡ 4096 → take block pool ++ written_over w (drop block pool) ≡ set pool block (Some w)
one_written [] block old w holds long size = absurd cc
one_written (entry ∷ pool) zero old w holds long size =
    let out : entry ≡ Some old = cc in
    ap (λ (e : Option (List ℕ)). written_over w (e ∷ pool)) out
    ∙ ap₂ (λ (b : List ℕ) (rest : Blocks). Some b ∷ rest) (over_whole w old (size ∙ sym long)) (nothing_written pool (drop 4096 w) (omega (arith, length-drop 4096 w, size)))
  where
    nothing_written : (pool : Blocks) (w : List ℕ) → length w ≡ 0 → written_over w pool ≡ pool
    nothing_written [] w none = refl
    nothing_written (entry ∷ pool) (x ∷ w) none = absurd (omega (arith, none))
    nothing_written (None ∷ pool) [] none = let empty : List ℕ = [] in ap (λ (rest : Blocks). None ∷ rest) (nothing_written pool (drop 4096 []) (omega (arith, length-drop 4096 empty)))
    nothing_written (Some bytes ∷ pool) [] none = let empty : List ℕ = [] in ap (λ (rest : Blocks). Some bytes ∷ rest) (nothing_written pool (drop 4096 []) (omega (arith, length-drop 4096 empty)))
one_written (entry ∷ pool) (suc block) old w holds long size = ap (λ (rest : Blocks). entry ∷ rest) (one_written pool block old w holds long size)
