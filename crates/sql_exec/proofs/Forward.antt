-- Calls of which none goes back.
use Rattle.std.proofs.Common.{◌≡◌, inr, ℕ, List, sym, subst, false}
use Rattle.key_space.specs.Plays.{RowOp, Get, Part, Put, Del, UndoTo}
use Rattle.plain_model.specs.Calls.{Call, ops_of, op_count, KeepsMark, IsMark}
use Rattle.plain_model.specs.Runs.{Since}
use Rattle.plain_model.specs.Runs as runs
use Rattle.plain_model.proofs.CallLaws.{mark_now}
use Rattle.sql_exec.specs.Bodies.{OnlyForward, here, did, stopped, goes_back}

pub forward_since : (old new : List Call) → OnlyForward old new → Since old new
forward_since old _ here = runs.here
forward_since old _ (did op calls no_undo more) = runs.did op calls (forward_since old calls more)
forward_since old _ (stopped asked stop calls row_call more) = runs.stopped asked stop calls row_call (forward_since old calls more)

pub forward_on : (a b c : List Call) → OnlyForward a b → OnlyForward b c → OnlyForward a c
forward_on a b _ first here = first
forward_on a b _ first (did op calls no_undo more) = did op calls no_undo (forward_on a b calls first more)
forward_on a b _ first (stopped asked stop calls row_call more) = stopped asked stop calls row_call (forward_on a b calls first more)

keeps_mark : (mark : ℕ) (op : RowOp) → goes_back op ≡ false → KeepsMark mark op
keeps_mark mark (Get table key answer) e = tt
keeps_mark mark (Part table from upto answer) e = tt
keeps_mark mark (Put table row) e = tt
keeps_mark mark (Del table key answer) e = tt
keeps_mark mark (UndoTo count) e = absurd cc

-- the number of operations at a moment stays a mark
pub mark_forward : (old new : List Call) (mark : ℕ) → mark ≡ op_count old → OnlyForward old new → IsMark (ops_of new) mark
mark_forward old _ mark at here = subst (IsMark (ops_of old)) (sym at) (mark_now (ops_of old))
mark_forward old _ mark at (did op calls no_undo more) = inr (keeps_mark mark op no_undo, mark_forward old calls mark at more)
mark_forward old _ mark at (stopped asked stop calls row_call more) = mark_forward old calls mark at more
