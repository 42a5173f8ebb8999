-- The records that the types of the code stand for.
use Rattle.xor_records.specs.declared.record.Kept.{Kept}
use Rattle.xor_records.specs.declared.record.Kept.TheVariants as owned
use Rattle.xor_records.specs.declared.view.Kind.{Kind}
use Rattle.xor_records.specs.declared.view.Kind.TheVariants as kind
use Rattle.xor_records.specs.Record.{Record, Diff, Commit, End}

-- a record with bytes of its own
abbrev pub kept : Kept → Record
kept (owned.Diff head xor) = Diff head xor.items
kept (owned.Commit txn) = Commit txn
kept (owned.End txn) = End txn

-- a record whose bytes are borrowed
abbrev pub seen : Kind → Record
seen (kind.Diff head xor) = Diff head xor.now
seen (kind.Commit txn) = Commit txn
seen (kind.End txn) = End txn
