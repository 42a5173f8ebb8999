-- The changes that stand after operations, played on the tables before them, make the tables after them.
use Rattle.std.proofs.Common.{◌≡◌, ℕ, zero, suc, ◌-◌, ◌<◌, ◌≤◌, Bool, true, false, not, cond, List, [], ◌∷◌, ◌++◌, length, Some, refl, sym, ◌∙◌, ap, subst, arith}
use Rattle.std.specs.Prelude.{⊤, ◌==◌, ◌^◌, nat_le, pos, negsuc, is_some, IsTrue}
use Rattle.std.proofs.lemmas.Bool.{eqb-false, leb-true, leb-false}
use Rattle.row_types.specs.declared.row.Value.{Value}
use Rattle.row_types.specs.Keys.{key_of_int, row_key}
use Rattle.row_types.specs.Tables.{Tables}
use Rattle.key_space.specs.Plays.{Rows, RowOp, Get, Part, Put, Del, UndoTo, row_at, without_key, changed, OfTable, AnswersAt}
use Rattle.plain_model.specs.CallPlays.{at_moment, latest, tables_behind, moments_of, OpsPlay}
use Rattle.op_log.specs.declared.change.RowChange.{RowChange}
use Rattle.op_log.specs.declared.change.RowChange.TheVariants as change
use Rattle.call_log.specs.Played.{IsPlayed, ArePlayed, tables_behind_change, played}
use Rattle.call_log.specs.Standing.{int_of_key, changes_at, latest_changes, with_del, changes_behind, change_moments, standing}

-- ---- keys

key_by : (key : ℕ) (b : Bool) → nat_le (2 ^ 63) key ≡ b → key_of_int (cond b (pos (key - 2 ^ 63)) (negsuc (2 ^ 63 - key - 1))) ≡ key
key_by key true e = let least = leb-true (2 ^ 63) key e in omega arith
key_by key false e = let less = leb-false (2 ^ 63) key e in omega arith

pub key_again : (key : ℕ) → key_of_int (int_of_key key) ≡ key
key_again key = key_by key (nat_le (2 ^ 63) key) refl

-- ---- one change more

pub played_more : (tables : Tables) (changes : List RowChange) (change : RowChange) → played tables (changes ++ change ∷ []) ≡ tables_behind_change (played tables changes) change
played_more tables [] change = refl
played_more tables (c ∷ changes) change = played_more (tables_behind_change tables c) changes change

pub are_played_more : (tables : Tables) (changes : List RowChange) (change : RowChange) → ArePlayed tables changes → IsPlayed (played tables changes) change → ArePlayed tables (changes ++ change ∷ [])
are_played_more tables [] change are is = (is, tt)
are_played_more tables (c ∷ changes) change are is = (are.0, are_played_more (tables_behind_change tables c) changes change are.1 is)

-- ---- a key that isn't there

without_by : (marks : List ℕ) (key : ℕ) (row : List Value) (rows : Rows) (b : Bool) → (false ≡ is_some (row_at marks rows key) → without_key marks rows key ≡ rows)
    → false ≡ is_some (cond b (Some row) (row_at marks rows key)) → cond (not b) (row ∷ without_key marks rows key) (without_key marks rows key) ≡ row ∷ rows
without_by marks key row rows true rest none = absurd (let e = none in cc)
without_by marks key row rows false rest none = ap (λ (rs : Rows). row ∷ rs) (rest none)

without_absent : (marks : List ℕ) (key : ℕ) (rows : Rows) → false ≡ is_some (row_at marks rows key) → without_key marks rows key ≡ rows
without_absent marks key [] none = refl
without_absent marks key (row ∷ rows) none = without_by marks key row rows (row_key marks row == key) (without_absent marks key rows) none

changed_not : (tables : Tables) (n key : ℕ) → OfTable tables n (λ t. false ≡ is_some (row_at t.def.keys t.rows key)) → changed tables n (λ t. without_key t.def.keys t.rows key) ≡ tables
changed_not [] n key none = refl
changed_not (t ∷ tables) zero key none = ap (λ (rows : Rows). record t { rows = rows } ∷ tables) (without_absent t.def.keys key t.rows none)
changed_not (t ∷ tables) (suc n) key none = ap (λ (ts : Tables). t ∷ ts) (changed_not tables n key none)

is_there : (tables : Tables) (n key : ℕ) → OfTable tables n (λ t. true ≡ is_some (row_at t.def.keys t.rows key)) → OfTable tables n (λ t. IsTrue (is_some (row_at t.def.keys t.rows key)))
is_there [] n key of = of
is_there (t ∷ tables) zero key of = sym of
is_there (t ∷ tables) (suc n) key of = is_there tables n key of

-- ---- moments

module _ (first : Tables) where
  pub record IsPlay (tables : Tables) (changes : List RowChange) : Type 0 where
    pub tables_are : tables ≡ played first changes
    pub plays : ArePlayed first changes

  abbrev pub Moments : List Tables → List (List RowChange) → Type 0
  Moments [] [] = ⊤
  Moments (t ∷ ts) (c ∷ cs) = IsPlay t c × Moments ts cs
  Moments [] (c ∷ cs) = ⊥
  Moments (t ∷ ts) [] = ⊥

  as_long : (ts : List Tables) (cs : List (List RowChange)) → Moments ts cs → length cs ≡ length ts
  as_long [] [] moments = refl
  as_long (t ∷ ts) (c ∷ cs) moments = ap suc (as_long ts cs moments.1)
  as_long [] (c ∷ cs) moments = absurd moments
  as_long (t ∷ ts) [] moments = absurd moments

  at_by : (n : ℕ) (t : Tables) (ts : List Tables) (c : List RowChange) (cs : List (List RowChange)) (b : Bool) → length ts == n ≡ b → IsPlay t c
      → (n < length ts → IsPlay (at_moment n ts) (changes_at n cs)) → n < suc (length ts) → IsPlay (cond b t (at_moment n ts)) (cond b c (changes_at n cs))
  at_by n t ts c cs true e now before inside = now
  at_by n t ts c cs false e now before inside = let other = eqb-false (length ts) n e in before (omega arith)

  pub at_plays : (n : ℕ) (ts : List Tables) (cs : List (List RowChange)) → Moments ts cs → n < length ts → IsPlay (at_moment n ts) (changes_at n cs)
  at_plays n [] [] moments inside = absurd (omega arith)
  at_plays n (t ∷ ts) (c ∷ cs) moments inside =
      subst (λ k. IsPlay (cond (length ts == n) t (at_moment n ts)) (cond (k == n) c (changes_at n cs))) (sym (as_long ts cs moments.1))
      (at_by n t ts c cs (length ts == n) refl moments.0 (at_plays n ts cs moments.1) inside)
  at_plays n [] (c ∷ cs) moments inside = absurd moments
  at_plays n (t ∷ ts) [] moments inside = absurd moments

  one_more : (tables : Tables) (changes : List RowChange) (c : RowChange) → IsPlay tables changes → IsPlayed tables c → IsPlay (tables_behind_change tables c) (changes ++ c ∷ [])
  one_more tables changes c is plays = record {
    tables_are = ap (λ (t : Tables). tables_behind_change t c) is.tables_are ∙ sym (played_more first changes c);
    plays = are_played_more first changes c is.plays (subst (λ (t : Tables). IsPlayed t c) is.tables_are plays);
  }

  taken : (tables : Tables) (changes : List RowChange) (table key : ℕ) (answer : Bool) → IsPlay tables changes → OfTable tables table (λ t. answer ≡ is_some (row_at t.def.keys t.rows key))
      → IsPlay (changed tables table (λ t. without_key t.def.keys t.rows key)) (with_del answer table key changes)
  taken tables changes table key true is of =
      subst (λ k. IsPlay (changed tables table (λ t. without_key t.def.keys t.rows k)) (changes ++ change.Del table (int_of_key key) ∷ [])) (key_again key)
      (one_more tables changes (change.Del table (int_of_key key)) is
      (subst (λ k. OfTable tables table (λ t. IsTrue (is_some (row_at t.def.keys t.rows k)))) (sym (key_again key)) (is_there tables table key of)))
  taken tables changes table key false is of = subst (λ (t : Tables). IsPlay t changes) (sym (changed_not tables table key of)) is

  latest_plays : (ts : List Tables) (cs : List (List RowChange)) → Moments ts cs → 0 < length ts → IsPlay (latest ts) (latest_changes cs)
  latest_plays [] cs moments some = absurd (omega arith)
  latest_plays (t ∷ ts) (c ∷ cs) moments some = moments.0
  latest_plays (t ∷ ts) [] moments some = absurd moments

  behind : (ts : List Tables) (cs : List (List RowChange)) (n : ℕ) (op : RowOp) → Moments ts cs → length ts ≡ suc n → AnswersAt (latest ts) n op → IsPlay (tables_behind ts op) (changes_behind cs op)
  behind ts cs n (Get table key answer) moments len says = latest_plays ts cs moments (omega arith)
  behind ts cs n (Part table from upto answer) moments len says = latest_plays ts cs moments (omega arith)
  behind ts cs n (Put table row) moments len says = one_more (latest ts) (latest_changes cs) (change.Put table row) (latest_plays ts cs moments (omega arith)) says
  behind ts cs n (Del table key answer) moments len says = taken (latest ts) (latest_changes cs) table key answer (latest_plays ts cs moments (omega arith)) says
  behind ts cs n (UndoTo count) moments len says = at_plays count ts cs moments (omega arith)

  pub moment_count : (ops : List RowOp) → length (moments_of first ops) ≡ suc (length ops)
  moment_count [] = refl
  moment_count (op ∷ ops) = ap suc (moment_count ops)

  moments_play : (ops : List RowOp) → OpsPlay first ops → Moments (moments_of first ops) (change_moments ops)
  moments_play [] play = (record { tables_are = refl; plays = tt }, tt)
  moments_play (op ∷ ops) play =
      (behind (moments_of first ops) (change_moments ops) (length ops) op (moments_play ops play.1) (moment_count ops) play.0, moments_play ops play.1)

  -- after each number of operations
  pub moment_is_played : (ops : List RowOp) (n : ℕ) → OpsPlay first ops → n ≤ length ops → IsPlay (at_moment n (moments_of first ops)) (changes_at n (change_moments ops))
  moment_is_played ops n play inside = let len = moment_count ops in at_plays n (moments_of first ops) (change_moments ops) (moments_play ops play) (omega arith)

  pub tables_are_played : (ops : List RowOp) → OpsPlay first ops → latest (moments_of first ops) ≡ played first (standing ops)
  tables_are_played ops play = let len = moment_count ops in (latest_plays (moments_of first ops) (change_moments ops) (moments_play ops play) (omega arith)).tables_are

  pub changes_are_played : (ops : List RowOp) → OpsPlay first ops → ArePlayed first (standing ops)
  changes_are_played ops play = let len = moment_count ops in (latest_plays (moments_of first ops) (change_moments ops) (moments_play ops play) (omega arith)).plays
