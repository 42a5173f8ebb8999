-- What comes of the deltas of parts is what images and records stand for.
use Rattle.std.proofs.Common.{◌≡◌, ℕ, ◌^◌, ◌<◌, Bool, true, false, cond, ◌||◌, ◌&&◌, List, [], ◌∷◌, map, length, get_or, suc}
use Rattle.std.proofs.Common.{replicate, refl, sym, ap, ap₂, ◌∙◌, subst, arith, All}
use Rattle.std.proofs.Math.Bool.{or_comm}
use Rattle.std.proofs.lemmas.List.Elements.{All-tail, All-cons, All-nil}
use Rattle.std.proofs.lemmas.List.Folds.{list_any-append}
use Rattle.std.proofs.lemmas.List.Sorted.{list_any-IsPermutation}
use Rattle.std.specs.List.{list_any, AllZip}
use Rattle.std.specs.List.Sorted.{IsStrictlySortedBy}
use Rattle.fields.specs.Toggle.{byte_at, byte_from}
use Rattle.xor_records.specs.Record.{Record, Diff, Commit, End}
use Rattle.xor_records.specs.Parity.{joined, flipped}
use Rattle.xor_records.specs.Replay.{PageName, PageImage, ended, shows, stamp_of, bytes_of, zeros, is_owed, owed_byte}
use Rattle.xor_records.specs.Replay.{restarted, changes, is_there}
use Rattle.xor_records.proofs.ParityLaws.{flipped_none, flipped_zero, length-flipped}
use Rattle.xor_records.proofs.ReplayLaws.{any_parts}
use Rattle.replay_core.specs.Pages.{page_cmp, key_of, name_of, is_named, has_key, page_at, IsWhole, AreImages}
use Rattle.replay_core.specs.Deltas.{PageDelta, has_delta, xor_of, AreDeltas, combined}
use Rattle.replay_core.specs.Restart.{IsRestart, AreParts}
use Rattle.replay_core.proofs.PageLaws.{not_shown, stamp_absent, bytes_absent}
use Rattle.replay_core.proofs.EntryLaws.{same_name}
use Rattle.replay_core.proofs.DeltaLaws.{length-zeros, zeros_lt}

-- ---- a page that isn't there

no_byte : (e : ℕ → Bool) (name : PageName) (stamp : ℕ) (r : Record) (i : ℕ) → changes name r ≡ false
    → owed_byte e name stamp r i ≡ 0
no_byte e name stamp (Diff head xor) i h = ap (λ b. cond (b && is_owed e stamp head) (byte_from head.offset xor i) 0) h
no_byte e name stamp (Commit txn) i h = refl
no_byte e name stamp (End txn) i h = refl

quiet : (e : ℕ → Bool) (name : PageName) (stamp : ℕ) (start : List ℕ) (records : List Record) → All (λ x. x < 2 ^ 8) start
    → list_any (changes name) records ≡ false → flipped (owed_byte e name stamp) start records ≡ start
quiet e name stamp start [] q h = flipped_none (owed_byte e name stamp) start q
quiet e name stamp start (r ∷ rs) q h =
    let parts = not_shown (changes name r) (list_any (changes name) rs) h in
    flipped_zero (owed_byte e name stamp) start r rs (λ i. no_byte e name stamp r i parts.0)
    ∙ quiet e name stamp start rs q parts.1

pub absent : (images : List PageImage) (records : List Record) (name : PageName) → is_there images records name ≡ false
    → restarted images records name ≡ zeros
unfolding restarted
absent images records name h =
    let parts = not_shown (list_any (shows name) images) (list_any (changes name) records) h in
    ap (λ start. flipped (owed_byte (ended records) name (stamp_of images name)) start records)
    (bytes_absent images name parts.0)
    ∙ quiet (ended records) name (stamp_of images name) zeros records zeros_lt parts.1

-- ---- the parts

same_there : (images : List PageImage) (e : ℕ → Bool) (split : List (List Record)) (parts : List (List PageDelta))
    (name : PageName)
    → AllZip (AreDeltas images e) split parts
    → list_any (λ ds. has_delta ds name) parts ≡ list_any (changes name) (joined split)
same_there images e [] [] name h = refl
same_there images e [] (p ∷ ps) name h = absurd h
same_there images e (rs ∷ split) [] name h = absurd h
same_there images e (rs ∷ split) (p ∷ ps) name h =
    ap₂ (λ a b. a || b) (h.0.there name) (same_there images e split ps name h.1)
    ∙ sym (list_any-append (changes name) rs (joined split))

same_xors : (images : List PageImage) (e : ℕ → Bool) (split : List (List Record)) (parts : List (List PageDelta))
    (name : PageName)
    → AllZip (AreDeltas images e) split parts
    → map (λ ds. xor_of ds name) parts ≡ map (λ rs. flipped (owed_byte e name (stamp_of images name)) zeros rs) split
same_xors images e [] [] name h = refl
same_xors images e [] (p ∷ ps) name h = absurd h
same_xors images e (rs ∷ split) [] name h = absurd h
same_xors images e (rs ∷ split) (p ∷ ps) name h = ap₂ (λ x xs. x ∷ xs) (h.0.xor name) (same_xors images e split ps name h.1)

zeros_long : (n : ℕ) → n ≡ 4096 → zeros ≡ replicate n 0
unfolding zeros
zeros_long n e = ap (λ n. replicate n 0) (sym e)

whole_bytes : (images : List PageImage) (name : PageName) → All IsWhole images → length (bytes_of images name) ≡ 4096
whole_bytes [] name h = length-zeros
whole_bytes (x ∷ xs) name h = go (shows name x) (whole_bytes xs name (All-tail IsWhole x xs h))
  where
    go : (b : Bool) → length (bytes_of xs name) ≡ 4096 → length (cond b x.bytes (bytes_of xs name)) ≡ 4096
    go true rest = h 0 x (omega arith)
    go false rest = rest

-- what all parts toggle on a page of the images
abbrev with_parts : List PageImage → List (List PageDelta) → PageName → List ℕ
with_parts images parts name = flipped byte_at (bytes_of images name) (map (λ ds. xor_of ds name) parts)

parts_restart : (images : List PageImage) (records : List Record) (parts : List (List PageDelta)) (name : PageName)
    → All IsWhole images
    → AreParts images records parts → with_parts images parts name ≡ restarted images records name
parts_restart images records parts name whole a =
    let at = owed_byte (ended records) name (stamp_of images name) in
    ap (flipped byte_at (bytes_of images name))
    (same_xors images (ended records) a.split parts name a.deltas
    ∙ ap (λ start. map (λ rs. flipped at start rs) a.split)
    (zeros_long (length (bytes_of images name)) (whole_bytes images name whole)))
    ∙ any_parts images records a.split name a.same

-- ---- the pages of some names

abbrev pub pages_of : List PageImage → List (List PageDelta) → List (ℕ × ℕ) → List PageImage
pages_of images parts keys = map (combined parts) (map (page_at images) keys)

keys_kept : (images : List PageImage) (parts : List (List PageDelta)) (keys : List (ℕ × ℕ))
    → map key_of (pages_of images parts keys) ≡ keys
keys_kept images parts [] = refl
keys_kept images parts (k ∷ ks) = ap (λ r. k ∷ r) (keys_kept images parts ks)

keys_shown : (images : List PageImage) (parts : List (List PageDelta)) (keys : List (ℕ × ℕ)) (name : PageName)
    → list_any (shows name) (pages_of images parts keys) ≡ has_key keys name
keys_shown images parts [] name = refl
keys_shown images parts (k ∷ ks) name = ap (λ b. is_named k name || b) (keys_shown images parts ks name)

keys_stamps : (images : List PageImage) (parts : List (List PageDelta)) (keys : List (ℕ × ℕ)) (name : PageName)
    → stamp_of (pages_of images parts keys) name ≡ cond (has_key keys name) (stamp_of images name) 0
keys_stamps images parts [] name = refl
keys_stamps images parts (k ∷ ks) name =
    ap (cond (is_named k name) (stamp_of images (name_of k))) (keys_stamps images parts ks name) ∙ go (is_named k name) refl
  where
    go : (b : Bool) → is_named k name ≡ b
        → cond b (stamp_of images (name_of k)) (cond (has_key ks name) (stamp_of images name) 0)
        ≡ cond (b || has_key ks name) (stamp_of images name) 0
    go true e = ap (λ q. stamp_of images (name_of q)) (same_name k name e)
    go false e = refl

keys_bytes : (images : List PageImage) (parts : List (List PageDelta)) (keys : List (ℕ × ℕ)) (name : PageName)
    → bytes_of (pages_of images parts keys) name ≡ cond (has_key keys name) (with_parts images parts name) zeros
keys_bytes images parts [] name = refl
keys_bytes images parts (k ∷ ks) name =
    ap (cond (is_named k name) (with_parts images parts (name_of k))) (keys_bytes images parts ks name)
    ∙ go (is_named k name) refl
  where
    go : (b : Bool) → is_named k name ≡ b
        → cond b (with_parts images parts (name_of k)) (cond (has_key ks name) (with_parts images parts name) zeros)
        ≡ cond (b || has_key ks name) (with_parts images parts name) zeros
    go true e = ap (λ q. with_parts images parts (name_of q)) (same_name k name e)
    go false e = refl

keys_whole : (images : List PageImage) (parts : List (List PageDelta)) (keys : List (ℕ × ℕ)) → All IsWhole images
    → All IsWhole (pages_of images parts keys)
keys_whole images parts [] h = All-nil IsWhole
keys_whole images parts (k ∷ ks) h =
    All-cons IsWhole (combined parts (page_at images k)) (pages_of images parts ks)
    (length-flipped byte_at (bytes_of images (name_of k)) (map (λ ds. xor_of ds (name_of k)) parts)
    ∙ whole_bytes images (name_of k) h)
    (keys_whole images parts ks h)

-- ---- the pages of a restart

pub restart_is : (images : List PageImage) (records : List Record) (parts : List (List PageDelta)) (keys : List (ℕ × ℕ))
    (pages : List PageImage)
    → AreImages images → AreParts images records parts → IsStrictlySortedBy page_cmp keys
    → ((name : PageName) → has_key keys name ≡ (list_any (λ ds. has_delta ds name) parts || list_any (shows name) images))
    → pages ≡ pages_of images parts keys → IsRestart images records pages
restart_is images records parts keys pages images_are a rising names e = subst (IsRestart images records) (sym e) (record {
  rising = subst (IsStrictlySortedBy page_cmp) (sym (keys_kept images parts keys)) rising;
  there = λ name. keys_shown images parts keys name ∙ both name;
  bytes = λ name. keys_bytes images parts keys name ∙ same_bytes name (has_key keys name) refl;
  stamps = λ name. keys_stamps images parts keys name ∙ same_stamps name (has_key keys name) refl;
  whole = keys_whole images parts keys images_are.whole;
})
  where
    both : (name : PageName) → has_key keys name ≡ is_there images records name
    both name =
        names name ∙ or_comm (list_any (λ ds. has_delta ds name) parts) (list_any (shows name) images)
        ∙ ap (λ b. list_any (shows name) images || b)
        (same_there images (ended records) a.split parts name a.deltas
        ∙ sym (list_any-IsPermutation (changes name) records (joined a.split) a.same))

    same_bytes : (name : PageName) (b : Bool) → has_key keys name ≡ b
        → cond b (with_parts images parts name) zeros ≡ restarted images records name
    same_bytes name true h = parts_restart images records parts name images_are.whole a
    same_bytes name false h = sym (absent images records name (sym (both name) ∙ h))

    same_stamps : (name : PageName) (b : Bool) → has_key keys name ≡ b → cond b (stamp_of images name) 0 ≡ stamp_of images name
    same_stamps name true h = refl
    same_stamps name false h =
        sym (stamp_absent images name
        (not_shown (list_any (shows name) images) (list_any (changes name) records) (sym (both name) ∙ h)).0)

-- pages of which each is changed by a call
pub call_step : (f : PageImage → PageImage) (old argument after new : PageImage)
    → argument ≡ old → after ≡ f argument → after ≡ new → new ≡ f old
call_step f old argument after new was call left = sym left ∙ call ∙ ap f was

pub each_changed : (f : PageImage → PageImage) (old new : List PageImage) → length new ≡ length old
    → ((i : ℕ) (d : PageImage) → i < length old → get_or new i d ≡ f (get_or old i d)) → new ≡ map f old
each_changed f [] [] e h = refl
each_changed f [] (y ∷ ys) e h = absurd (omega (arith, e))
each_changed f (x ∷ xs) [] e h = absurd (omega (arith, e))
each_changed f (x ∷ xs) (y ∷ ys) e h =
    ap₂ (λ z zs. z ∷ zs) (h 0 x (omega arith))
    (each_changed f xs ys (omega (arith, e)) (λ i d l. h (suc i) d (omega (arith, l))))

pub pages_whole : (images : List PageImage) (keys : List (ℕ × ℕ)) → All IsWhole images → All IsWhole (map (page_at images) keys)
pages_whole images [] h = All-nil IsWhole
pages_whole images (k ∷ ks) h =
    All-cons IsWhole (page_at images k) (map (page_at images) ks) (whole_bytes images (name_of k) h) (pages_whole images ks h)
