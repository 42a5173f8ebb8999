-- Calls since a moment.
use Rattle.std.proofs.Common.{◌≡◌, inl, inr, Bool, true, false, not, List, ◌∷◌, Option, None, Some, refl, sym, ap, subst, ◌∙◌}
use Rattle.key_space.specs.declared.lock.LockName.{LockName}
use Rattle.key_space.specs.declared.lock.Mode.{Mode}
use Rattle.plain_model.specs.Calls.{Asked, AskLock, AskGet, AskChunk, AskPut, AskDel, AskMark, AskUndoTo, AskBegin, AskCommit, AskUndo, AskCheckpoint, Call, Began, Committed, Undone, Locked, Did, Opened, Stopped, age_of}
use Rattle.plain_model.specs.Runs.{is_begin, is_row_call, Since, LocksFirst, EndsBy}
use Rattle.plain_model.specs.Runs as runs
use Rattle.sql_exec.specs.Means.{LocksBy}
use Rattle.engine_txn.specs.Transactions.{AllSince, here, then, Grown, Uncommitted, Continues, HasBegun, is_commit}
use Rattle.engine_txn.specs.StatementRuns.{asks_rows, is_row_work, RowWork, NoRowWork}
use Rattle.engine_txn.specs.Progress.{is_end}

pub since_trans : (test : Call → Bool) (old mid new : List Call) → AllSince test old mid → AllSince test mid new → AllSince test old new
since_trans test old mid _ first here = first
since_trans test old mid _ first (then call calls passes more) = then call calls passes (since_trans test old mid calls first more)

pub since_weaker : (test other : Call → Bool) (old new : List Call) → ((call : Call) → test call ≡ true → other call ≡ true) → AllSince test old new → AllSince other old new
since_weaker test other old _ implies here = here
since_weaker test other old _ implies (then call calls passes more) = then call calls (implies call passes) (since_weaker test other old calls implies more)

pub grown : (test : Call → Bool) (old new : List Call) → AllSince test old new → Grown old new
grown test old new since = since_weaker test (λ call. true) old new (λ call passes. refl) since

-- ---- Work on rows

asks_are_rows : (asked : Asked) → is_row_call asked ≡ true → asks_rows asked ≡ true
asks_are_rows (AskLock name mode) e = refl
asks_are_rows (AskGet table key) e = refl
asks_are_rows (AskChunk table range) e = refl
asks_are_rows (AskPut table row) e = refl
asks_are_rows (AskDel table key) e = refl
asks_are_rows AskMark e = refl
asks_are_rows (AskUndoTo mark) e = refl
asks_are_rows (AskBegin age) e = e
asks_are_rows AskCommit e = e
asks_are_rows AskUndo e = e
asks_are_rows AskCheckpoint e = e

works_since : (old new : List Call) → Since old new → RowWork old new
works_since old _ runs.here = here
works_since old _ (runs.did op calls more) = then (Did op) calls refl (works_since old calls more)
works_since old _ (runs.stopped asked stop calls is more) = then (Stopped asked stop) calls (asks_are_rows asked is) (works_since old calls more)

works_first : (name : LockName) (mode : Mode) (old new : List Call) → LocksFirst name mode old new → RowWork old new
works_first name mode old new (inl refused) = subst (RowWork old) (sym refused.1) (then (Stopped (AskLock name mode) refused.0) old refl here)
works_first name mode old new (inr since) = since_trans is_row_work old (Locked name mode ∷ old) new (then (Locked name mode) old refl here) (works_since _ new since)

pub works_by : (lock : Option LockName) (mode : Mode) (old new : List Call) → LocksBy lock mode old new → RowWork old new
works_by None mode old new same = subst (RowWork old) (sym same) here
works_by (Some name) mode old new first = works_first name mode old new first

-- what follows a lock follows what came before it
pub grown_first : (name : LockName) (mode : Mode) (old new : List Call) → Since (Locked name mode ∷ old) new → Grown old new
grown_first name mode old new since = grown is_row_work old new (works_first name mode old new (inr since))

-- the call gave a lock
abbrev gives_lock : Call → Bool
gives_lock (Locked name mode) = true
gives_lock call = false

-- calls behind a lock stand behind it without the last one too, where that isn't the lock
pub past_lock : (name : LockName) (mode : Mode) (old : List Call) (call : Call) (before now : List Call) → gives_lock call ≡ false → now ≡ call ∷ before → Since (Locked name mode ∷ old) now → Since (Locked name mode ∷ old) before
past_lock name mode old call before _ other e runs.here = absurd (let first : Locked name mode ≡ call = cc in let both : true ≡ false = ap gives_lock first ∙ other in cc)
past_lock name mode old call before _ other e (runs.did op calls more) =
    let same : calls ≡ before = cc in
    subst (Since (Locked name mode ∷ old)) same more
past_lock name mode old call before _ other e (runs.stopped asked stop calls is more) =
    let same : calls ≡ before = cc in
    subst (Since (Locked name mode ∷ old)) same more

work_begins_not : (call : Call) → is_row_work call ≡ true → not (is_begin call) ≡ true
work_begins_not (Began age number) e = absurd cc
work_begins_not Committed e = refl
work_begins_not Undone e = refl
work_begins_not (Locked name mode) e = refl
work_begins_not (Did op) e = refl
work_begins_not (Opened generation) e = refl
work_begins_not (Stopped asked stop) e = refl

work_commits_not : (call : Call) → is_row_work call ≡ true → not (is_commit call) ≡ true
work_commits_not (Began age number) e = refl
work_commits_not Committed e = absurd cc
work_commits_not Undone e = refl
work_commits_not (Locked name mode) e = refl
work_commits_not (Did op) e = refl
work_commits_not (Opened generation) e = refl
work_commits_not (Stopped asked stop) e = refl

pub works_continue : (old new : List Call) → RowWork old new → Continues old new
works_continue old new works = since_weaker is_row_work (λ call. not (is_begin call)) old new work_begins_not works

pub works_uncommitted : (old new : List Call) → RowWork old new → Uncommitted old new
works_uncommitted old new works = since_weaker is_row_work (λ call. not (is_commit call)) old new work_commits_not works

-- ---- A transaction's end

end_begins_not : (call : Call) → is_end call ≡ true → not (is_begin call) ≡ true
end_begins_not (Began age number) e = absurd cc
end_begins_not Committed e = refl
end_begins_not Undone e = refl
end_begins_not (Locked name mode) e = refl
end_begins_not (Did op) e = refl
end_begins_not (Opened generation) e = refl
end_begins_not (Stopped asked stop) e = refl

end_works_not : (call : Call) → is_end call ≡ true → not (is_row_work call) ≡ true
end_works_not (Began age number) e = refl
end_works_not Committed e = refl
end_works_not Undone e = refl
end_works_not (Locked name mode) e = absurd cc
end_works_not (Did op) e = absurd cc
end_works_not (Opened generation) e = refl
end_works_not (Stopped AskCommit stop) e = refl
end_works_not (Stopped AskUndo stop) e = refl
end_works_not (Stopped (AskLock name mode) stop) e = absurd cc
end_works_not (Stopped (AskGet table key) stop) e = absurd cc
end_works_not (Stopped (AskChunk table range) stop) e = absurd cc
end_works_not (Stopped (AskPut table row) stop) e = absurd cc
end_works_not (Stopped (AskDel table key) stop) e = absurd cc
end_works_not (Stopped AskMark stop) e = absurd cc
end_works_not (Stopped (AskUndoTo mark) stop) e = absurd cc
end_works_not (Stopped (AskBegin age) stop) e = absurd cc
end_works_not (Stopped AskCheckpoint stop) e = absurd cc

pub end_continues : (old new : List Call) → AllSince is_end old new → Continues old new
end_continues old new ends = since_weaker is_end (λ call. not (is_begin call)) old new end_begins_not ends

pub end_is_no_work : (old new : List Call) → AllSince is_end old new → NoRowWork old new
end_is_no_work old new ends = since_weaker is_end (λ call. not (is_row_work call)) old new end_works_not ends

-- ---- What stays through calls

-- the age stays while no transaction begins
pub same_age : (old new : List Call) → Continues old new → age_of new ≡ age_of old
same_age old _ here = refl
same_age old _ (then (Began age number) calls passes more) = absurd cc
same_age old _ (then Committed calls passes more) = same_age old calls more
same_age old _ (then Undone calls passes more) = same_age old calls more
same_age old _ (then (Locked name mode) calls passes more) = same_age old calls more
same_age old _ (then (Did op) calls passes more) = same_age old calls more
same_age old _ (then (Opened generation) calls passes more) = same_age old calls more
same_age old _ (then (Stopped asked stop) calls passes more) = same_age old calls more

-- calls behind a begin stand behind it without the last one too, where that isn't the begin
pub since_past : (test : Call → Bool) (call : Call) (begun before now : List Call) → HasBegun begun → is_begin call ≡ false → now ≡ call ∷ before → AllSince test begun now → AllSince test begun before
since_past test call begun before _ (age, number, old, is) other e here = absurd (let same : call ∷ before ≡ Began age number ∷ old = sym e ∙ is in let first : call ≡ Began age number = cc in let both : true ≡ false = sym (ap is_begin first) ∙ other in cc)
since_past test call begun before _ has other e (then next calls passes more) =
    let same : calls ≡ before = cc in
    subst (AllSince test begun) same more
