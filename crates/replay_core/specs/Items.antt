-- What a reader of a lane's file gives.
use Rattle.std.specs.Prelude.{◌≡◌, ℕ}
use Rattle.xor_records.specs.Record.{Record, IsRecord, record_text}
use Rattle.replay_core.specs.declared.item.Item.{Item}

-- the place in the file at which its record begins
abbrev pub place_of : Item → ℕ
place_of item = item.at

-- its bytes are this record
pub record Shows (item : Item) (rec : Record) : Type 0 where
  pub is : IsRecord rec
  pub text : item.bytes.now ≡ record_text rec
