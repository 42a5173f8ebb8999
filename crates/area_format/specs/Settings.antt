-- The settings of a database.
use Rattle.std.specs.Prelude.{◌+◌, ◌*◌, ◌≤◌}
use Rattle.area_format.specs.declared.settings.Settings.{Settings}

-- Each setting lies in its limits, and a lane's file
-- has room for what each of its sessions may add to it.
pub record IsSettings (s : Settings) : Type 0 where
  pub lanes : (1 ≤ s.lanes) × (s.lanes ≤ 8)
  pub pages : (1 ≤ s.pages) × (s.pages ≤ 65536)
  pub nodes : (16 ≤ s.nodes) × (s.nodes ≤ 65536)
  pub txn : (4096 ≤ s.txn) × (s.txn ≤ 1048576)
  pub segment : (1048576 ≤ s.segment) × (s.segment ≤ 134217728)
  pub room : 64 + 32 * (2 * s.txn + 64) ≤ s.segment
