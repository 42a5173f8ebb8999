-- Objects in memory that fail at the calls whose numbers they were given, and the standard streams.
use Rattle.std.specs.Prelude.{ℕ, Bool, List}
use Rattle.io_edge.specs.Content.{Content}

-- a source in memory: its content, how many pulls it had, which
-- pulls fail, how many failed, and whether the latest did
pub record SourceView : Type 0 where
  pub content : Content
  pub pulls : ℕ
  pub fail : List ℕ
  pub faults : ℕ
  pub failed : Bool

-- a sink in memory: what it took, how many bytes it has room for in
-- all, how many pushes it had, which pushes fail, and how many failed
pub record SinkView : Type 0 where
  pub taken : List ℕ
  pub room : ℕ
  pub pushes : ℕ
  pub fail : List ℕ
  pub faults : ℕ

-- standard input: how many pulls failed, and whether the latest did
pub record InputView : Type 0 where
  pub faults : ℕ
  pub failed : Bool
