-- The calls after one that a note names.
use Rattle.std.specs.Prelude.{List}
use Rattle.key_space.specs.Plays.{Get, Part, Put, Del, UndoTo}
use Rattle.plain_model.specs.Calls.{Call, Began, Committed, Undone, Locked, Did, Opened, AskLock, AskGet}
use Rattle.plain_model.specs.Calls.{AskChunk, AskPut, AskDel, AskUndoTo, AskBegin, AskCommit, AskUndo}
use Rattle.plain_model.specs.Calls.{AskCheckpoint, told, told_mark}
use Rattle.call_log.specs.declared.log.Note.{Note}
use Rattle.call_log.specs.declared.log.Note.TheVariants as note

-- the calls and one more
abbrev pub noted : List Call → Note → List Call
noted calls (note.Lock name mode answer) = told (λ _. Locked name mode) (AskLock name mode) answer.now calls
noted calls (note.Mark answer) = told_mark answer.now calls
noted calls (note.Get table key answer) =
    told (λ row. Did (Get table key.number row)) (AskGet table key.number) answer.now calls
noted calls (note.Chunk table range answer) =
    told (λ piece. Did (Part table range.lo.number piece.upto.number piece.rows)) (AskChunk table range)
    answer.now calls
noted calls (note.Put table row answer) =
    told (λ _. Did (Put table row.now)) (AskPut table row.now) answer.now calls
noted calls (note.Del table key answer) =
    told (λ was. Did (Del table key.number was)) (AskDel table key.number) answer.now calls
noted calls (note.UndoTo mark answer) = told (λ _. Did (UndoTo mark)) (AskUndoTo mark) answer.now calls
noted calls (note.Begin age answer) = told (Began age) (AskBegin age) answer.now calls
noted calls (note.Commit answer) = told (λ _. Committed) AskCommit answer.now calls
noted calls (note.Undo answer) = told (λ _. Undone) AskUndo answer.now calls
noted calls (note.Checkpoint answer) = told Opened AskCheckpoint answer.now calls
