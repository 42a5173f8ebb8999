use Rattle.std.proofs.Common.{◌≡◌, [], length, take, drop}
use Rattle.disk_core.specs.Entries.{calls_of, total_len}
use Rattle.disk_core.specs.Places.{is_left}
use Rattle.disk_core.proofs.history.History.is_left.Given as goal

abbrev pub invariant-loop-entry : goal.invariant-loop-entry
invariant-loop-entry l = record {
  so_far : l.left ≡ is_left (calls_of (take l.entry-index l.entry-items) l.initial.rest []) l.place l.byte;
  rest : l.rest ≡ drop (total_len (take l.entry-index l.entry-items)) l.initial.rest;
  whole : total_len l.entry-items ≡ length l.initial.rest;
}
