use Rattle.std.proofs.Common.{◌≡◌, ℕ, ◌<◌, ◌≤◌, List, ◌++◌, length, take}
use Rattle.std.specs.List.{AllByRecursion}
use Rattle.op_log.specs.Changes.{IsChange, body_text}
use Rattle.op_log.specs.declared.change.RowChange.{RowChange}
use Rattle.list_store.proofs.reading.changes_len.Given as goal

-- so far these are the bytes of the first changes
abbrev pub invariant-loop : goal.invariant-loop
invariant-loop l = record {
  inside : l.len ≤ length l.body;
  len_is : (changes : List RowChange) (rest : List ℕ) → AllByRecursion (IsChange l.schema) changes → l.body ≡ body_text l.schema changes ++ rest → l.count < length changes → l.len ≡ length (body_text l.schema (take l.counter changes));
}
