-- What is called since a moment, where the calls are those of some tables.
use Rattle.std.proofs.Common.{◌≡◌, ℕ, ◌+◌, ◌≤◌, eqb, List, [], ◌∷◌, length, refl, sym, ap, subst, ◌∙◌, arith, IsTrue, true, false}
use Rattle.row_types.specs.declared.definition.TableDef.{TableDef}
use Rattle.row_types.specs.Tables.{Tables}
use Rattle.key_space.specs.Plays.{RowOp, UndoTo}
use Rattle.plain_model.specs.Calls.{Call, Did, ops_of, op_count, MayRead, MayWrite}
use Rattle.plain_model.specs.CallPlays.{at_moment, latest, moments_of, tables_of}
use Rattle.plain_model.specs.Runs.{Since, here, did, stopped}
use Rattle.plain_model.proofs.CallLaws.{play_since, locked_since, table_since}
use Rattle.sql_exec.specs.Plays.{LacksPlay, PlaysFrom}

lacks_since : (first : Tables) (old new : List Call) → Since old new → LacksPlay first new → LacksPlay first old
lacks_since first old _ here lacks = lacks
lacks_since first old _ (did op calls more) lacks = lacks_since first old calls more lacks
lacks_since first old _ (stopped asked stop calls row_call more) lacks = lacks_since first old calls more lacks.1

-- the calls before were those of the same tables
pub plays_since : (defs : List TableDef) (first : Tables) (old new : List Call) → Since old new → PlaysFrom defs first new → PlaysFrom defs first old
plays_since defs first old new since plays = record {
  tables = plays.tables;
  schema = plays.schema;
  answers = play_since first old new since plays.answers;
  lacks = lacks_since first old new since plays.lacks;
}

pub count_since : (old new : List Call) → Since old new → op_count old ≤ op_count new
count_since old _ here = omega arith
count_since old _ (did op calls more) = omega (arith, count_since old calls more)
count_since old _ (stopped asked stop calls row_call more) = count_since old calls more

pub write_since : (old new : List Call) (table lo hi : ℕ) → Since old new → MayWrite old table lo hi → MayWrite new table lo hi
write_since old new table lo hi since may = record {
  table_is = table_since old new since ∙ may.table_is;
  locked = λ key low high. subst IsTrue (sym (locked_since true table key old new since)) (may.locked key low high);
}

pub read_since : (old new : List Call) (table lo hi : ℕ) → Since old new → MayRead old table lo hi → MayRead new table lo hi
read_since old new table lo hi since may = record {
  table_is = table_since old new since ∙ may.table_is;
  locked = λ key low high. subst IsTrue (sym (locked_since false table key old new since)) (may.locked key low high);
}

-- ---- going back

moments_len : (first : Tables) (ops : List RowOp) → length (moments_of first ops) ≡ length ops + 1
moments_len first [] = refl
moments_len first (op ∷ ops) = omega (arith, moments_len first ops)

at_latest : (first : Tables) (ops : List RowOp) → at_moment (length ops) (moments_of first ops) ≡ latest (moments_of first ops)
at_latest first [] = refl
at_latest first (op ∷ ops) =
    let same : eqb (length (moments_of first ops)) (length (op ∷ ops)) ≡ true = grind (arith, moments_len first ops) in
    rw same refl

-- the tables at a mark are those that there were
pub moment_since : (first : Tables) (old new : List Call) → Since old new → at_moment (op_count old) (moments_of first (ops_of new)) ≡ tables_of first old
moment_since first old _ here = at_latest first (ops_of old)
moment_since first old _ (did op calls more) =
    let other : eqb (length (moments_of first (ops_of calls))) (op_count old) ≡ false = grind (arith, moments_len first (ops_of calls), count_since old calls more) in
    rw other (moment_since first old calls more)
moment_since first old _ (stopped asked stop calls row_call more) = moment_since first old calls more

-- a call that goes back leads to them
pub undone : (first : Tables) (old mid new : List Call) (mark : ℕ) → mark ≡ op_count old → Since old mid → new ≡ Did (UndoTo mark) ∷ mid → tables_of first new ≡ tables_of first old
undone first old mid new mark at since told = ap (tables_of first) told ∙ ap (λ n. at_moment n (moments_of first (ops_of mid))) at ∙ moment_since first old mid since
