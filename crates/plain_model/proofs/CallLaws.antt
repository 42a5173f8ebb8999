-- What the list of calls keeps.
use Rattle.std.proofs.Common.{◌≡◌, inl, ℕ, suc, ◌+◌, ◌-◌, ◌<◌, Bool, true, false, cond, ◌&&◌, ◌||◌, List, [], ◌∷◌, ◌++◌, length, reverse, refl, ap, sym, subst, ◌∙◌, arith}
use Rattle.std.specs.Prelude.{◌==◌, nat_le, slice_index_or}
use Rattle.std.proofs.lemmas.Bool.{eqb-true, eqb-false}
use Rattle.std.proofs.lemmas.Grind.{reverse_onto}
use Rattle.std.proofs.lemmas.List.{length-append, get_or-reverse}
use Rattle.key_space.specs.declared.lock.LockName.{LockName}
use Rattle.key_space.specs.declared.lock.Mode.{Mode}
use Rattle.key_space.specs.declared.lock.Mode.TheVariants.{Shared, Exclusive}
use Rattle.key_space.specs.Plays.{RowOp, Get, Part, Put, Del, UndoTo, AnswersAt, tables_after, PlaysOn, Plays}
use Rattle.row_types.specs.Tables.{Tables}
use Rattle.plain_model.specs.Calls.{Call, Began, Committed, Undone, Locked, Did, Opened, Stopped, ops_of, lets, is_locked, locked_table, MayRead, MayWrite, IsMark}
use Rattle.plain_model.specs.CallPlays.{at_moment, latest, tables_behind, moments_of, tables_of, OpsPlay, CallsPlay}
use Rattle.plain_model.specs.Runs.{Since, here, did, stopped}

-- ---- since a moment

pub since_joined : (a b c : List Call) → Since a b → Since b c → Since a c
since_joined a b _ first here = first
since_joined a b _ first (did op calls more) = did op calls (since_joined a b calls first more)
since_joined a b _ first (stopped asked stop calls row_call more) = stopped asked stop calls row_call (since_joined a b calls first more)

pub play_since : (first : Tables) (old new : List Call) → Since old new → CallsPlay first new → CallsPlay first old
play_since first old _ here play = play
play_since first old _ (did op calls more) play = play_since first old calls more play.1
play_since first old _ (stopped asked stop calls row_call more) play = play_since first old calls more play

pub locked_since : (write : Bool) (table key : ℕ) (old new : List Call) → Since old new → is_locked write new table key ≡ is_locked write old table key
locked_since write table key old _ here = refl
locked_since write table key old _ (did op calls more) = locked_since write table key old calls more
locked_since write table key old _ (stopped asked stop calls row_call more) = locked_since write table key old calls more

pub table_since : (old new : List Call) → Since old new → locked_table new ≡ locked_table old
table_since old _ here = refl
table_since old _ (did op calls more) = table_since old calls more
table_since old _ (stopped asked stop calls row_call more) = table_since old calls more

-- ---- what may be written may be read

and_true : (a b : Bool) → (a && b) ≡ true → (a ≡ true) × (b ≡ true)
and_true true b e = (refl, e)
and_true false b e = absurd cc

or_true : (a b c d : Bool) → (a ≡ true → b ≡ true) → (c ≡ true → d ≡ true) → (a || c) ≡ true → (b || d) ≡ true
or_true true true c d f g e = refl
or_true true false c d f g e = absurd (let yes = f refl in cc)
or_true false true c d f g e = refl
or_true false false c d f g e = g e

lets_read : (name : LockName) (mode : Mode) (table key : ℕ) → lets true name mode table key ≡ true → lets false name mode table key ≡ true
lets_read name Shared table key e = let parts = and_true ((name.table == table) && (nat_le name.range.lo.number key && nat_le key name.range.hi.number)) false e in absurd (let no = parts.1 in cc)
lets_read name Exclusive table key e = e

read_locked : (table key : ℕ) (calls : List Call) → is_locked true calls table key ≡ true → is_locked false calls table key ≡ true
read_locked table key [] e = e
read_locked table key (Began age number ∷ calls) e = e
read_locked table key (Committed ∷ calls) e = e
read_locked table key (Undone ∷ calls) e = e
read_locked table key (Locked name mode ∷ calls) e =
    or_true (lets true name mode table key) (lets false name mode table key) (is_locked true calls table key) (is_locked false calls table key) (lets_read name mode table key) (read_locked table key calls) e
read_locked table key (Did op ∷ calls) e = read_locked table key calls e
read_locked table key (Opened generation ∷ calls) e = read_locked table key calls e
read_locked table key (Stopped asked stop ∷ calls) e = read_locked table key calls e

pub write_reads : (calls : List Call) (table lo hi : ℕ) → MayWrite calls table lo hi → MayRead calls table lo hi
write_reads calls table lo hi may = record { table_is = may.table_is; locked = λ key low high. read_locked table key calls (may.locked key low high) }

-- ---- marks

pub mark_now : (ops : List RowOp) → IsMark ops (length ops)
mark_now [] = refl
mark_now (op ∷ ops) = inl refl

-- ---- operations play as those of a list, the first one first

-- the tables before each operation, and those after all
after_all : List Tables → Tables → List RowOp → List Tables × Tables
after_all before tables [] = (before, tables)
after_all before tables (op ∷ ops) = after_all (before ++ tables ∷ []) (tables_after (before ++ tables ∷ []) tables op) ops

after_more : (ops : List RowOp) (before : List Tables) (tables : Tables) (op : RowOp)
    → after_all before tables (ops ++ op ∷ []) ≡ ((after_all before tables ops).0 ++ (after_all before tables ops).1 ∷ [], tables_after ((after_all before tables ops).0 ++ (after_all before tables ops).1 ∷ []) (after_all before tables ops).1 op)
unfolding after_all
after_more [] before tables op = refl
after_more (first ∷ ops) before tables op = after_more ops (before ++ tables ∷ []) (tables_after (before ++ tables ∷ []) tables first) op

plays_more : (ops : List RowOp) (before : List Tables) (tables : Tables) (op : RowOp) → PlaysOn before tables ops (after_all before tables ops).1
    → AnswersAt (after_all before tables ops).1 (length (after_all before tables ops).0) op
    → PlaysOn before tables (ops ++ op ∷ []) (tables_after ((after_all before tables ops).0 ++ (after_all before tables ops).1 ∷ []) (after_all before tables ops).1 op)
unfolding after_all
plays_more [] before tables op play says = (says, refl)
plays_more (first ∷ ops) before tables op play says = (play.0, plays_more ops (before ++ tables ∷ []) (tables_after (before ++ tables ∷ []) tables first) op play.1 says)

-- a place counted from the first is the same counted from the last
below_len : (len k : ℕ) → (len ≡ k → ⊥) → k < suc len → k < len
below_len len k other less = omega arith

place_split : (m : Tables) (ms : List Tables) (n : ℕ) (other : Tables) → n < suc (length ms) → (n < length ms → slice_index_or ms (length ms - 1 - n) other ≡ at_moment n ms)
    → (b : Bool) → (length ms == n) ≡ b → slice_index_or (m ∷ ms) (suc (length ms) - 1 - n) other ≡ cond b m (at_moment n ms)
place_split m ms n other inside behind true e =
    let same : length ms ≡ n = eqb-true (length ms) n e in
    let first : suc (length ms) - 1 - n ≡ 0 = omega arith in
    ap (λ k. slice_index_or (m ∷ ms) k other) first
place_split m ms n other inside behind false e =
    let less : n < length ms = below_len (length ms) n (eqb-false (length ms) n e) inside in
    let next : suc (length ms) - 1 - n ≡ suc (length ms - 1 - n) = omega arith in
    ap (λ k. slice_index_or (m ∷ ms) k other) next ∙ behind less

at_place : (moments : List Tables) (n : ℕ) (other : Tables) → n < length moments → slice_index_or moments (length moments - 1 - n) other ≡ at_moment n moments
at_place [] n other inside = absurd (omega arith)
at_place (m ∷ ms) n other inside = place_split m ms n other inside (λ less. at_place ms n other less) (length ms == n) refl

at_reverse : (moments : List Tables) (n : ℕ) (other : Tables) → n < length moments → slice_index_or (reverse moments) n other ≡ at_moment n moments
at_reverse moments n other inside = get_or-reverse moments n other inside ∙ at_place moments n other inside

moment_count : (first : Tables) (ops : List RowOp) → length (moments_of first ops) ≡ length ops + 1
moment_count first [] = refl
moment_count first (op ∷ ops) = let rest = moment_count first ops in omega arith

-- the tables behind an operation that is answered
behind_is : (moments : List Tables) (n : ℕ) (op : RowOp) → length moments ≡ n + 1 → AnswersAt (latest moments) n op → tables_after (reverse moments) (latest moments) op ≡ tables_behind moments op
behind_is moments n (Get table key answer) len says = refl
behind_is moments n (Part table from upto answer) len says = refl
behind_is moments n (Put table row) len says = refl
behind_is moments n (Del table key answer) len says = refl
behind_is moments n (UndoTo count) len says = at_reverse moments count (latest moments) (omega arith)

-- all operations of a list, the first one first, and the tables before and after them
record Walked (first : Tables) (ops listed : List RowOp) : Type 0 where
  now : (after_all [] first listed).1 ≡ latest (moments_of first ops)
  moments : (after_all [] first listed).0 ++ (after_all [] first listed).1 ∷ [] ≡ reverse (moments_of first ops)
  count : length (after_all [] first listed).0 ≡ length ops
  plays : PlaysOn [] first listed (after_all [] first listed).1

walked : (first : Tables) (ops : List RowOp) → OpsPlay first ops → Walked first ops (reverse ops)
unfolding after_all
walked first [] play = record { now = refl; moments = refl; count = refl; plays = refl }
walked first (op ∷ ops) play =
    let so_far = walked first ops play.1 in
    let all = after_all [] first (reverse ops) in
    let says : AnswersAt all.1 (length all.0) op =
    subst (λ (t : Tables). AnswersAt t (length all.0) op) (sym so_far.now) (subst (λ k. AnswersAt (latest (moments_of first ops)) k op) (sym so_far.count) play.0) in
    let more = after_more (reverse ops) [] first op in
    let next : tables_after (all.0 ++ all.1 ∷ []) all.1 op ≡ tables_behind (moments_of first ops) op =
    ap (λ (ms : List Tables). tables_after ms all.1 op) so_far.moments ∙ ap (λ (t : Tables). tables_after (reverse (moments_of first ops)) t op) so_far.now ∙ behind_is (moments_of first ops) (length ops) op (moment_count first ops) play.0 in
    let turned : reverse (op ∷ ops) ≡ reverse ops ++ op ∷ [] = reverse_onto ops op [] in
    let turned_moments : reverse (tables_behind (moments_of first ops) op ∷ moments_of first ops) ≡ reverse (moments_of first ops) ++ tables_behind (moments_of first ops) op ∷ [] =
    reverse_onto (moments_of first ops) (tables_behind (moments_of first ops) op) [] in
    let one_more : length ops + 1 ≡ length (op ∷ ops) = omega arith in
    let walk : Walked first (op ∷ ops) (reverse ops ++ op ∷ []) = record {
      now = ap (λ (p : List Tables × Tables). p.1) more ∙ next;
      moments = ap (λ (p : List Tables × Tables). p.0 ++ p.1 ∷ []) more ∙ ap (λ (t : Tables). (all.0 ++ all.1 ∷ []) ++ t ∷ []) next ∙ ap (λ (ms : List Tables). ms ++ tables_behind (moments_of first ops) op ∷ []) so_far.moments ∙ sym turned_moments;
      count = ap (λ (p : List Tables × Tables). length p.0) more ∙ length-append all.0 (all.1 ∷ []) ∙ ap (λ k. k + 1) so_far.count ∙ one_more;
      plays = subst (λ (t : Tables). PlaysOn [] first (reverse ops ++ op ∷ []) t) (sym (ap (λ (p : List Tables × Tables). p.1) more)) (plays_more (reverse ops) [] first op so_far.plays says);
    } in
    subst (λ (l : List RowOp). Walked first (op ∷ ops) l) (sym turned) walk

pub plays_as_listed : (first : Tables) (calls : List Call) → CallsPlay first calls → Plays first (reverse (ops_of calls)) (tables_of first calls)
plays_as_listed first calls play = let all = walked first (ops_of calls) play in subst (λ (t : Tables). PlaysOn [] first (reverse (ops_of calls)) t) all.now all.plays
