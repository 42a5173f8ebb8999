-- What is done with the rows of a list, one after the other.
use Rattle.std.proofs.Common.{◌≡◌, inl, inr, ℕ, ◌+◌, ◌<◌, ◌≤◌, Bool, true, false, cond, ◌||◌, List, [], ◌∷◌, ◌++◌, length, take, drop, get_or, Option, None, Some, Result, Ok, Err, IsTrue, refl, sym, ap, subst, ◌∙◌, arith}
use Rattle.std.specs.List.{filter, flat_map}
use Rattle.std.proofs.lemmas.List.{take-append-drop, append-nil, length-append}
use Rattle.std.proofs.lemmas.List.Elements.{filter-append}
use Rattle.std.proofs.lemmas.List.Folds.{list_any-append}
use Rattle.std.proofs.lemmas.Grind.{flat_map-append}
use Rattle.row_types.specs.declared.row.Value.{Value}
use Rattle.row_types.specs.Keys.{row_key}
use Rattle.key_space.specs.Plays.{Rows}
use Rattle.plain_model.specs.declared.stop.Stop.{Stop}
use Rattle.plain_model.specs.Calls.{AskDel, AskPut, Call, is_running}
use Rattle.plain_model.specs.Runs.{keys_taken, pushed, rows_put}
use Rattle.sql_exec.specs.declared.act.Act.{Act}
use Rattle.sql_exec.specs.declared.act.Act.TheVariants.{Keep, Set, Take, Refuse}
use Rattle.sql_exec.specs.Acts.{done_count, effect, effects, is_done, is_refused, put_by, some_refused, taken_by}
use Rattle.sql_exec.specs.Bodies.{CanWrite, OnlyForward, here, did, stopped}
use Rattle.sql_exec.specs.Means.{IsOwnOrBy}
use Rattle.sql_exec.specs.Pieces.{ActsOne, DidAct, SendsAll, StoppedAct}
use Rattle.sql_exec.specs.Sends.{SendsOnly}
use Rattle.sql_exec.proofs.Fronts.{front_one, split_at}
use Rattle.sql_exec.proofs.Playing.{write_since}
use Rattle.sql_exec.proofs.Forward.{forward_since}

-- ---- one row

module _ (marks : List ℕ) (table : ℕ) where
  did_forward : (a : Act) (row : List Value) (old new : List Call) → DidAct marks table a row old new → OnlyForward old new
  did_forward Keep row old new is = subst (OnlyForward old) (sym is) here
  did_forward (Set other) row old new is = subst (OnlyForward old) (sym is) (did _ _ refl here)
  did_forward Take row old new is = subst (OnlyForward old) (sym is.1) (did _ _ refl here)
  did_forward Refuse row old new is = subst (OnlyForward old) (sym is) here

  pub stopped_forward : (a : Act) (row : List Value) (stop : Stop) (old new : List Call) → StoppedAct marks table a row stop old new → OnlyForward old new
  stopped_forward (Set other) row stop old new is = subst (OnlyForward old) (sym is.0) (stopped _ _ _ refl here)
  stopped_forward Take row stop old new is = subst (OnlyForward old) (sym is.0) (stopped _ _ _ refl here)
  stopped_forward Keep row stop old new is = absurd is
  stopped_forward Refuse row stop old new is = absurd is

  pub acts_forward : (a : Act) (row : List Value) (old : List Call) (result : Result (Option Bool) Stop) (new : List Call) → ActsOne marks table a row old result new → OnlyForward old new
  acts_forward a row old (Ok (Some done)) new is = did_forward a row old new is.2
  acts_forward a row old (Ok None) new is = subst (OnlyForward old) (sym is.1) here
  acts_forward a row old (Err stop) new (inl is) = subst (OnlyForward old) (sym is.1) here
  acts_forward a row old (Err stop) new (inr is) = stopped_forward a row stop old new is

  did_runs : (a : Act) (row : List Value) (old new : List Call) → DidAct marks table a row old new → is_running new ≡ is_running old
  did_runs Keep row old new is = ap is_running is
  did_runs (Set other) row old new is = ap is_running is
  did_runs Take row old new is = ap is_running is.1
  did_runs Refuse row old new is = ap is_running is

  pub acts_runs : (a : Act) (row : List Value) (old : List Call) (result : Option Bool) (new : List Call) → ActsOne marks table a row old (Ok result) new → is_running new ≡ is_running old
  acts_runs a row old (Some done) new is = did_runs a row old new is.2
  acts_runs a row old None new is = ap is_running is.1

  pub acts_can : (a : Act) (row : List Value) (lo hi : ℕ) (old : List Call) (result : Option Bool) (new : List Call) → ActsOne marks table a row old (Ok result) new → CanWrite old table lo hi → CanWrite new table lo hi
  acts_can a row lo hi old result new is can =
      (subst IsTrue (sym (acts_runs a row old result new is)) can.0, write_since old new table lo hi (forward_since old new (acts_forward a row old (Ok result) new is)) can.1)

  pub acts_end : (a : Act) (row : List Value) (stop : Stop) (old new : List Call) → IsTrue (is_running old) → ActsOne marks table a row old (Err stop) new → IsOwnOrBy new stop
  acts_end a row stop old new runs (inl is) = inl is.0
  acts_end (Set other) row stop old new runs (inr is) = inr (record { asked = AskPut table other; before = old; last = is.0; running = runs })
  acts_end Take row stop old new runs (inr is) = inr (record { asked = AskDel table (row_key marks row); before = old; last = is.0; running = runs })
  acts_end Keep row stop old new runs (inr is) = absurd is
  acts_end Refuse row stop old new runs (inr is) = absurd is

  -- ---- what is sent

  pub did_sends : (a : Act) (row : List Value) (old new : List Call) → DidAct marks table a row old new → SendsAll (put_by a) (taken_by marks a row) old new
  did_sends Keep row old new is = record { put = ap rows_put is; taken = ap keys_taken is }
  did_sends (Set other) row old new is = record { put = ap rows_put is; taken = ap keys_taken is }
  did_sends Take row old new is = record { put = ap rows_put is.1; taken = ap keys_taken is.1 }
  did_sends Refuse row old new is = record { put = ap rows_put is; taken = ap keys_taken is }

  pub stopped_sends : (a : Act) (row : List Value) (stop : Stop) (old new : List Call) → StoppedAct marks table a row stop old new → SendsAll (put_by a) (taken_by marks a row) old new
  stopped_sends (Set other) row stop old new is = record { put = ap rows_put is.0; taken = ap keys_taken is.0 }
  stopped_sends Take row stop old new is = record { put = ap rows_put is.0; taken = ap keys_taken is.0 }
  stopped_sends Keep row stop old new is = absurd is
  stopped_sends Refuse row stop old new is = absurd is

-- ---- what was sent so far

pub pushed_on : {A : Type 0} (xs ys list : List A) → pushed (xs ++ ys) list ≡ pushed ys (pushed xs list)
pushed_on [] ys list = refl
pushed_on (x ∷ xs) ys list = pushed_on xs ys (x ∷ list)

pub sends_on : (xs ys : Rows) (ks ls : List ℕ) (a b c : List Call) → SendsAll xs ks a b → SendsAll ys ls b c → SendsAll (xs ++ ys) (ks ++ ls) a c
sends_on xs ys ks ls a b c first next = record {
  put = next.put ∙ ap (pushed ys) first.put ∙ sym (pushed_on xs ys (rows_put a));
  taken = next.taken ∙ ap (pushed ls) first.taken ∙ sym (pushed_on ks ls (keys_taken a));
}

pub sends_front : (xs rest : Rows) (ks more : List ℕ) (all : Rows) (keys : List ℕ) (a b : List Call) → all ≡ xs ++ rest → keys ≡ ks ++ more → SendsAll xs ks a b → SendsOnly all keys a b
sends_front xs rest ks more all keys a b split parted sends = record {
  put = record { sent = xs; rest = rest; front = split; added = sends.put };
  taken = record { sent = ks; rest = more; front = parted; added = sends.taken };
}

pub nothing_sent : (all : Rows) (keys : List ℕ) (a b : List Call) → b ≡ a → SendsOnly all keys a b
nothing_sent all keys a b same = sends_front [] all [] keys all keys a b refl refl (record { put = ap rows_put same; taken = ap keys_taken same })

-- ---- the rows of a list

pub split_map : {B : Type 0} (f : List Value → List B) (list : Rows) (i : ℕ) → flat_map f list ≡ flat_map f (take i list) ++ flat_map f (drop i list)
split_map f list i = ap (flat_map f) (sym (take-append-drop i list)) ∙ flat_map-append f (take i list) (drop i list)

module _ (marks : List ℕ) (act : List Value → Act) where
  abbrev pub puts : List Value → Rows
  puts row = put_by (act row)

  abbrev pub takes : List Value → List ℕ
  takes row = taken_by marks (act row) row

  effects_on : (front more rows : Rows) → effects marks act (front ++ more) rows ≡ effects marks act more (effects marks act front rows)
  effects_on [] more rows = refl
  effects_on (row ∷ front) more rows = effects_on front more (effect marks (act row) row rows)

  or_false : (a b : Bool) → a ≡ false → b ≡ false → (a || (b || false)) ≡ false
  or_false true b e f = absurd cc
  or_false false true e f = absurd cc
  or_false false false e f = refl

  or_true : (a b : Bool) → b ≡ true → (a || b) ≡ true
  or_true true b e = refl
  or_true false b e = e

  or_first : (a b : Bool) → a ≡ true → (a || b) ≡ true
  or_first true b e = refl
  or_first false b e = absurd cc

  pub good_on : (front : Rows) (row : List Value) → some_refused act front ≡ false → is_refused (act row) ≡ false → some_refused act (front ++ row ∷ []) ≡ false
  good_on front row good fine = list_any-append (λ r. is_refused (act r)) front (row ∷ []) ∙ or_false (some_refused act front) (is_refused (act row)) good fine

  pub bad_at : (front : Rows) (row : List Value) (rest : Rows) → act row ≡ Refuse → some_refused act (front ++ row ∷ rest) ≡ true
  bad_at front row rest refused =
      list_any-append (λ r. is_refused (act r)) front (row ∷ rest) ∙ or_true (some_refused act front) (some_refused act (row ∷ rest)) (or_first (is_refused (act row)) (some_refused act rest) (ap is_refused refused))

  done_one : (front : Rows) (row : List Value) → is_done (act row) ≡ true → filter (λ r. is_done (act r)) (front ++ row ∷ []) ≡ filter (λ r. is_done (act r)) front ++ row ∷ []
  done_one front row e = filter-append (λ r. is_done (act r)) front (row ∷ []) ∙ rw e refl

  done_none : (front : Rows) (row : List Value) → is_done (act row) ≡ false → filter (λ r. is_done (act r)) (front ++ row ∷ []) ≡ filter (λ r. is_done (act r)) front
  done_none front row e = filter-append (λ r. is_done (act r)) front (row ∷ []) ∙ rw e (append-nil (filter (λ r. is_done (act r)) front))

  count_on : (front : Rows) (row : List Value) (b : Bool) → is_done (act row) ≡ b → done_count act (front ++ row ∷ []) ≡ done_count act front + cond b 1 0
  count_on front row true e = ap length (done_one front row e) ∙ length-append (filter (λ r. is_done (act r)) front) (row ∷ [])
  count_on front row false e = let same = ap length (done_none front row e) in omega (arith, same)

  module _ (list : Rows) (i : ℕ) (row : List Value) (less : i < length list) (at : row ≡ get_or list i row) where
    pub good_more : some_refused act (take i list) ≡ false → is_refused (act row) ≡ false → some_refused act (take (i + 1) list) ≡ false
    good_more good fine = subst (λ (l : Rows). some_refused act l ≡ false) (front_one list i row less at) (good_on (take i list) row good fine)

    pub bad_here : act row ≡ Refuse → some_refused act list ≡ true
    bad_here refused = ap (some_refused act) (split_at list i row less at) ∙ bad_at (take i list) row (drop (i + 1) list) refused

    pub count_more : (count next : ℕ) (b : Bool) → count ≡ done_count act (take i list) → b ≡ is_done (act row) → next ≡ count + cond b 1 0 → next ≡ done_count act (take (i + 1) list)
    count_more count next b so_far done more = more ∙ ap (λ n. n + cond b 1 0) so_far ∙ sym (count_on (take i list) row b (sym done)) ∙ ap (done_count act) (front_one list i row less at)

    pub effects_more : (old now : Rows) → now ≡ effects marks act (take i list) old → effect marks (act row) row now ≡ effects marks act (take (i + 1) list) old
    effects_more old now so_far = ap (effect marks (act row) row) so_far ∙ sym (effects_on (take i list) (row ∷ []) old) ∙ ap (λ (l : Rows). effects marks act l old) (front_one list i row less at)

    map_more : {B : Type 0} (f : List Value → List B) → flat_map f (take i list) ++ f row ≡ flat_map f (take (i + 1) list)
    map_more f = ap (λ (l : List _). flat_map f (take i list) ++ l) (sym (append-nil (f row))) ∙ sym (flat_map-append f (take i list) (row ∷ [])) ∙ ap (flat_map f) (front_one list i row less at)

    pub sends_more : (a b c : List Call) → SendsAll (flat_map puts (take i list)) (flat_map takes (take i list)) a b → SendsAll (puts row) (takes row) b c → SendsAll (flat_map puts (take (i + 1) list)) (flat_map takes (take (i + 1) list)) a c
    sends_more a b c first next =
        subst (λ (xs : Rows). SendsAll xs (flat_map takes (take (i + 1) list)) a c) (map_more puts)
        (subst (λ (ks : List ℕ). SendsAll (flat_map puts (take i list) ++ puts row) ks a c) (map_more takes) (sends_on (flat_map puts (take i list)) (puts row) (flat_map takes (take i list)) (takes row) a b c first next))

  pub sends_part : (list : Rows) (i : ℕ) (a b : List Call) → SendsAll (flat_map puts (take i list)) (flat_map takes (take i list)) a b → SendsOnly (flat_map puts list) (flat_map takes list) a b
  sends_part list i a b sends = sends_front (flat_map puts (take i list)) (flat_map puts (drop i list)) (flat_map takes (take i list)) (flat_map takes (drop i list)) (flat_map puts list) (flat_map takes list) a b (split_map puts list i) (split_map takes list i) sends

pub few_more : (b : Bool) (count next i : ℕ) → count ≤ i → next ≡ count + cond b 1 0 → next ≤ i + 1
few_more true count next i few is = omega (arith, few, is)
few_more false count next i few is = omega (arith, few, is)
