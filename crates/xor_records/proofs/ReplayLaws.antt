-- Laws of the pages that images and records stand for.
use Rattle.std.proofs.Common.{◌≡◌, ℕ, ◌+◌, ◌^◌, ◌<◌, ◌≤◌, ◌⊎◌, inl, inr, Bool, true, false, cond, nat_le, nat_lt, ◌&&◌, ◌||◌, ◌==◌, List, [], ◌∷◌, map, length, refl, sym, ap, ap₂, ◌∙◌, subst, IsPermutation, All, arith, eq-eqb, eqb-true, bit_xor}
use Rattle.std.specs.Int.Bits.{xor_self, xor_zero_r}
use Rattle.std.proofs.lemmas.Nat.{xor_comm}
use Rattle.std.proofs.lemmas.Bool.{cases_lt, le-leb, le-ltb, lt-leb, lt-ltb}
use Rattle.std.proofs.lemmas.List.Sorted.{list_any-IsPermutation}
use Rattle.fields.specs.Toggle.{byte_at, byte_from, toggled}
use Rattle.fields.proofs.ToggleLaws.{byte_from_lt, toggled_same}
use Rattle.xor_records.specs.declared.record.Head.{Head}
use Rattle.xor_records.specs.Record.{Record, Diff, Commit, End}
use Rattle.xor_records.specs.Parity.{joined, flipped}
use Rattle.xor_records.specs.Replay.{PageName, PageImage, ends, ended, stamp_of, bytes_of, is_of, is_owed, only_one, owed_byte, restarted}
use Rattle.xor_records.specs.Laws.{page_of, part_of, IsAbove, IsAtMost, EachBitHasItsParity, NoOrder, AnyParts, EndedToggles, Compensated, OpenIsNotThere, AtMostTheStamp, OpenIsTakenBack, Leaves, Toggles, byte_by, byte_between, EndToggles, AnotherEndLeaves, LaterImageIsSame}
use Rattle.xor_records.proofs.ParityLaws.{flipped_bit, flipped_permuted, flipped_parts, flipped_zero, flipped_twice, flipped_more, flipped_both}

same_ended : (records others : List Record) → IsPermutation records others → ended others ≡ ended records
same_ended records others p = λ i t. sym (list_any-IsPermutation (ends t) records others p) i

pub each_bit : EachBitHasItsParity
unfolding restarted
each_bit images records name i b l m = flipped_bit (owed_byte (ended records) name (stamp_of images name)) (bytes_of images name) records i b l m

pub no_order : NoOrder
unfolding restarted
no_order images records others name p =
    ap (λ e. flipped (owed_byte e name (stamp_of images name)) (bytes_of images name) others) (same_ended records others p)
    ∙ flipped_permuted (owed_byte (ended records) name (stamp_of images name)) (bytes_of images name) records others p

pub any_parts : AnyParts
unfolding restarted
any_parts images records parts name p =
    flipped_parts (owed_byte (ended records) name (stamp_of images name)) (bytes_of images name) parts
    ∙ flipped_permuted (owed_byte (ended records) name (stamp_of images name)) (bytes_of images name) records (joined parts) p

-- the byte of a change of a page that is owed to it, and of one that isn't
owed : (has_ended : ℕ → Bool) (stamp : ℕ) (head : Head) (xor : List ℕ) (i : ℕ) → is_owed has_ended stamp head ≡ true → owed_byte has_ended (page_of head) stamp (Diff head xor) i ≡ byte_from head.offset xor i
owed has_ended stamp head xor i h =
    ap (λ b. cond b (byte_from head.offset xor i) 0) (ap₂ (λ a b. a && b) (ap₂ (λ a b. a && b) (eq-eqb head.table head.table refl) (eq-eqb head.page head.page refl)) h)

not_owed : (has_ended : ℕ → Bool) (name : PageName) (stamp : ℕ) (head : Head) (xor : List ℕ) (i : ℕ) → (is_of name head && is_owed has_ended stamp head) ≡ false
    → owed_byte has_ended name stamp (Diff head xor) i ≡ 0
not_owed has_ended name stamp head xor i h = ap (λ b. cond b (byte_from head.offset xor i) 0) h

-- an owed change toggles its bits
toggles : (images : List PageImage) (records : List Record) (head : Head) (xor : List ℕ) → All (λ x. x < 2 ^ 8) xor → is_owed (ended records) (stamp_of images (page_of head)) head ≡ true
    → Toggles images records head xor
unfolding restarted
toggles images records head xor q h =
    let name = page_of head in
    let at = owed_byte (ended records) name (stamp_of images name) in
    flipped_more at (bytes_of images name) (Diff head xor) records (λ i. subst (λ x. x < 2 ^ 8) (sym (owed (ended records) (stamp_of images name) head xor i h)) (byte_from_lt head.offset xor i q))
    ∙ toggled_same at (byte_from head.offset) (flipped at (bytes_of images name) records) (Diff head xor) xor (λ i. owed (ended records) (stamp_of images name) head xor i h)

-- a change that is owed to no page leaves all
leaves : (images : List PageImage) (records : List Record) (head : Head) (xor : List ℕ) → ((name : PageName) → (is_of name head && is_owed (ended records) (stamp_of images name) head) ≡ false)
    → Leaves images records (Diff head xor)
unfolding restarted
leaves images records head xor h name =
    flipped_zero (owed_byte (ended records) name (stamp_of images name)) (bytes_of images name) (Diff head xor) records (λ i. not_owed (ended records) name (stamp_of images name) head xor i (h name))

-- whether a change is owed to its page is the same at each name of it
at_own_page : (images : List PageImage) (has_ended : ℕ → Bool) (head : Head) → is_owed has_ended (stamp_of images (page_of head)) head ≡ false
    → (name : PageName) → (is_of name head && is_owed has_ended (stamp_of images name) head) ≡ false
at_own_page images has_ended head h name = go (head.table == name.table) (head.page == name.page) refl refl
  where
    go : (a b : Bool) → (head.table == name.table) ≡ a → (head.page == name.page) ≡ b → (is_of name head && is_owed has_ended (stamp_of images name) head) ≡ false
    go true true p q =
        let own : page_of head ≡ name = ap₂ (λ (t n : ℕ). record { table = t; page = n }) (eqb-true _ _ p) (eqb-true _ _ q) in
        ap₂ (λ a b. (a && b) && is_owed has_ended (stamp_of images name) head) p q ∙ subst (λ n. is_owed has_ended (stamp_of images n) head ≡ false) own h
    go true false p q = ap₂ (λ a b. (a && b) && is_owed has_ended (stamp_of images name) head) p q
    go false b p q = ap₂ (λ a b. (a && b) && is_owed has_ended (stamp_of images name) head) p q

-- by whether the transaction has ended and where the stamp is
decided : (has_ended : ℕ → Bool) (stamp : ℕ) (head : Head) (e s : Bool) → has_ended head.txn ≡ e → nat_le head.stamp stamp ≡ s → is_owed has_ended stamp head ≡ only_one e s
decided has_ended stamp head e s p q = ap₂ only_one p q

pub ended_toggles : EndedToggles
ended_toggles images records head xor q above ended_too =
    toggles images records head xor q (decided (ended records) (stamp_of images (page_of head)) head true false ended_too (lt-leb head.stamp (stamp_of images (page_of head)) above))

pub open_is_not_there : OpenIsNotThere
open_is_not_there images records head xor above open_still =
    leaves images records head xor (at_own_page images (ended records) head (decided (ended records) (stamp_of images (page_of head)) head false false open_still (lt-leb head.stamp (stamp_of images (page_of head)) above)))

pub at_most_the_stamp : AtMostTheStamp
at_most_the_stamp images records head xor below ended_too =
    leaves images records head xor (at_own_page images (ended records) head (decided (ended records) (stamp_of images (page_of head)) head true true ended_too (le-leb head.stamp (stamp_of images (page_of head)) below)))

pub open_is_taken_back : OpenIsTakenBack
open_is_taken_back images records head xor q below open_still =
    toggles images records head xor q (decided (ended records) (stamp_of images (page_of head)) head false true open_still (le-leb head.stamp (stamp_of images (page_of head)) below))

pub compensated : Compensated
unfolding restarted
compensated images records head stamp xor name above other ended_too =
    flipped_twice (owed_byte (ended records) name (stamp_of images name)) (bytes_of images name) (Diff head xor) (Diff (record head { stamp = stamp }) xor) records (λ i.
    ap (λ b. cond b (byte_from head.offset xor i) 0) (same_owed (head.table == name.table) (head.page == name.page) refl refl))
  where
    same_owed : (a b : Bool) → (head.table == name.table) ≡ a → (head.page == name.page) ≡ b
        → (is_of name head && is_owed (ended records) (stamp_of images name) head) ≡ (is_of name head && is_owed (ended records) (stamp_of images name) (record head { stamp = stamp }))
    same_owed true true p q =
        let own : page_of head ≡ name = ap₂ (λ (t n : ℕ). record { table = t; page = n }) (eqb-true _ _ p) (eqb-true _ _ q) in
        let first : nat_le head.stamp (stamp_of images name) ≡ false = subst (λ n. nat_le head.stamp (stamp_of images n) ≡ false) own (lt-leb head.stamp (stamp_of images (page_of head)) above) in
        let second : nat_le stamp (stamp_of images name) ≡ false = subst (λ n. nat_le stamp (stamp_of images n) ≡ false) own (lt-leb stamp (stamp_of images (page_of head)) other) in
        ap (λ s. is_of name head && only_one (ended records head.txn) s) (first ∙ sym second)
    same_owed true false p q = off p q
      where
        off : (head.table == name.table) ≡ true → (head.page == name.page) ≡ false
            → (is_of name head && is_owed (ended records) (stamp_of images name) head) ≡ (is_of name head && is_owed (ended records) (stamp_of images name) (record head { stamp = stamp }))
        off p q =
            ap₂ (λ a b. (a && b) && is_owed (ended records) (stamp_of images name) head) p q
            ∙ sym (ap₂ (λ a b. (a && b) && is_owed (ended records) (stamp_of images name) (record head { stamp = stamp })) p q)
    same_owed false b p q =
        ap₂ (λ a b. (a && b) && is_owed (ended records) (stamp_of images name) head) p q
        ∙ sym (ap₂ (λ a b. (a && b) && is_owed (ended records) (stamp_of images name) (record head { stamp = stamp })) p q)

-- ---- A transaction ends, and an image's stamp rises

-- a byte that is there by one of two tests alone is that of the one with that of the other
by_either : (p q : Bool) (v : ℕ) → cond (only_one p q) v 0 ≡ bit_xor (cond p v 0) (cond q v 0)
by_either true true v = sym (xor_self v)
by_either true false v = sym (xor_zero_r v)
by_either false true v = sym (xor_comm 0 v ∙ xor_zero_r v)
by_either false false v = refl

ends_same : (txn : ℕ) (end : Record) (other : ℕ) → ends txn end ≡ true → ends other end ≡ (txn == other)
ends_same txn (Diff head xor) other h = cc h
ends_same txn (Commit n) other h = ap (λ m. m == other) (eqb-true n txn h)
ends_same txn (End n) other h = ap (λ m. m == other) (eqb-true n txn h)

no_byte : (has_ended : ℕ → Bool) (name : PageName) (stamp txn : ℕ) (end : Record) (i : ℕ) → ends txn end ≡ true → owed_byte has_ended name stamp end i ≡ 0
no_byte has_ended name stamp txn (Diff head xor) i h = cc h
no_byte has_ended name stamp txn (Commit n) i h = refl
no_byte has_ended name stamp txn (End n) i h = refl

-- a change is owed now and wasn't, or was and isn't, where it is by the transaction that ends
owed_anew : (o t e s : Bool) → (t ≡ true → e ≡ false) → (o && only_one (t || e) s) ≡ only_one (o && only_one e s) (o && t)
owed_anew false t e s h = refl
owed_anew true true e s h = ap (λ e. only_one (true || e) s) (h refl) ∙ ends s ∙ ap (λ e. only_one (only_one e s) true) (sym (h refl))
  where
    ends : (s : Bool) → only_one true s ≡ only_one (only_one false s) true
    ends true = refl
    ends false = refl
owed_anew true false e s h = stays e s
  where
    stays : (e s : Bool) → only_one e s ≡ only_one (only_one e s) false
    stays true true = refl
    stays true false = refl
    stays false true = refl
    stays false false = refl

pub end_toggles : EndToggles
unfolding restarted
end_toggles images records txn end name h fresh =
    let stamp = stamp_of images name in
    flipped_zero (owed_byte (ended (end ∷ records)) name stamp) (bytes_of images name) end records (λ i. no_byte (ended (end ∷ records)) name stamp txn end i h)
    ∙ sym (flipped_both (owed_byte (ended records) name stamp) (byte_by txn name) (owed_byte (ended (end ∷ records)) name stamp) (bytes_of images name) records each)
  where
    was_open : (other : ℕ) → (txn == other) ≡ true → ended records other ≡ false
    was_open other p = subst (λ n. ended records n ≡ false) (eqb-true txn other p) fresh

    each : (r : Record) (i : ℕ) → owed_byte (ended (end ∷ records)) name (stamp_of images name) r i ≡ bit_xor (owed_byte (ended records) name (stamp_of images name) r i) (byte_by txn name r i)
    each (Diff head xor) i =
        let byte = byte_from head.offset xor i in
        let old = is_owed (ended records) (stamp_of images name) head in
        ap (λ t. cond (is_of name head && only_one (t || ended records head.txn) (nat_le head.stamp (stamp_of images name))) byte 0) (ends_same txn end head.txn h)
        ∙ ap (λ p. cond p byte 0) (owed_anew (is_of name head) (txn == head.txn) (ended records head.txn) (nat_le head.stamp (stamp_of images name)) (was_open head.txn))
        ∙ by_either (is_of name head && old) (is_of name head && (txn == head.txn)) byte
    each (Commit n) i = refl
    each (End n) i = refl

pub another_end_leaves : AnotherEndLeaves
unfolding restarted
another_end_leaves images records txn end h twice name =
    let stamp = stamp_of images name in
    flipped_zero (owed_byte (ended (end ∷ records)) name stamp) (bytes_of images name) end records (λ i. no_byte (ended (end ∷ records)) name stamp txn end i h)
    ∙ ap (λ e. flipped (owed_byte e name stamp) (bytes_of images name) records) same
  where
    at : (other : ℕ) (b : Bool) → (txn == other) ≡ b → (b || ended records other) ≡ ended records other
    at other true p = sym (subst (λ n. ended records n ≡ true) (eqb-true txn other p) twice)
    at other false p = refl

    same : ended (end ∷ records) ≡ ended records
    same = λ i t. (ap (λ b. b || ended records t) (ends_same txn end t h) ∙ at t (txn == t) refl) i

-- the changes between two stamps are those that are at most the one and not at most the other
between : (below upto stamp : ℕ) (o e : Bool) → below ≤ upto
    → (o && only_one e (nat_le stamp below)) ≡ only_one (o && nat_lt below stamp && nat_le stamp upto) (o && only_one e (nat_le stamp upto))
between below upto stamp o e l = go o e (cases_lt below stamp) (cases_lt upto stamp)
  where
    finish : (e a b c : Bool) → nat_le stamp below ≡ a → nat_lt below stamp ≡ b → nat_le stamp upto ≡ c → only_one e a ≡ only_one (b && c) (only_one e c)
        → only_one e (nat_le stamp below) ≡ only_one (nat_lt below stamp && nat_le stamp upto) (only_one e (nat_le stamp upto))
    finish e a b c p q r h = ap (only_one e) p ∙ h ∙ ap₂ (λ b c. only_one (b && c) (only_one e c)) (sym q) (sym r)

    go : (o e : Bool) → (below < stamp) ⊎ (stamp ≤ below) → (upto < stamp) ⊎ (stamp ≤ upto)
        → (o && only_one e (nat_le stamp below)) ≡ only_one (o && nat_lt below stamp && nat_le stamp upto) (o && only_one e (nat_le stamp upto))
    go false e p q = refl
    go true e (inl p) (inl q) = finish e false true false (lt-leb stamp below p) (lt-ltb below stamp p) (lt-leb stamp upto q) (both e)
      where
        both : (e : Bool) → only_one e false ≡ only_one (true && false) (only_one e false)
        both true = refl
        both false = refl
    go true e (inl p) (inr q) = finish e false true true (lt-leb stamp below p) (lt-ltb below stamp p) (le-leb stamp upto q) (both e)
      where
        both : (e : Bool) → only_one e false ≡ only_one (true && true) (only_one e true)
        both true = refl
        both false = refl
    go true e (inr p) (inl q) = absurd (omega (arith, l, p, q))
    go true e (inr p) (inr q) = finish e true false true (le-leb stamp below p) (le-ltb below stamp p) (le-leb stamp upto q) (both e)
      where
        both : (e : Bool) → only_one e true ≡ only_one (false && true) (only_one e true)
        both true = refl
        both false = refl

pub later_image_is_same : LaterImageIsSame
unfolding restarted
later_image_is_same images later records name r =
    let low = stamp_of images name in
    let high = stamp_of later name in
    ap (λ bytes. flipped (owed_byte (ended records) name high) bytes records) r.bytes
    ∙ flipped_both (byte_between low high name) (owed_byte (ended records) name high) (owed_byte (ended records) name low) (bytes_of images name) records each
  where
    each : (x : Record) (i : ℕ) → owed_byte (ended records) name (stamp_of images name) x i
        ≡ bit_xor (byte_between (stamp_of images name) (stamp_of later name) name x i) (owed_byte (ended records) name (stamp_of later name) x i)
    each (Diff head xor) i =
        let byte = byte_from head.offset xor i in
        ap (λ p. cond p byte 0) (between (stamp_of images name) (stamp_of later name) head.stamp (is_of name head) (ended records head.txn) r.stamp)
        ∙ by_either (is_of name head && nat_lt (stamp_of images name) head.stamp && nat_le head.stamp (stamp_of later name)) (is_of name head && is_owed (ended records) (stamp_of later name) head) byte
    each (Commit n) i = refl
    each (End n) i = refl
