-- What a store keeps and secures, from what its keeper and its writer know.
use Rattle.std.proofs.Common.{◌≡◌, ◌≢◌, ◌⊎◌, inl, inr, ℕ, ◌+◌, ◌≤◌, false, List, [], ◌∷◌, ◌++◌, length, map, Option, Some, None, IsSome, refl, sym, ◌∙◌, ap, subst, arith}
use Rattle.std.specs.Option.{ForSome}
use Rattle.row_types.specs.declared.definition.TableDef.{TableDef}
use Rattle.row_types.specs.Tables.{Tables}
use Rattle.op_log.specs.declared.change.RowChange.{RowChange}
use Rattle.plain_model.specs.Calls.{is_running}
use Rattle.disk_core.specs.Moments.{LeavesNow, LeavesOnly, OnlyReads}
use Rattle.disk_core.specs.declared.disk.Disk.{Ghosts}
use Rattle.disk_core.proofs.Moments.{joined, weaker}
use Rattle.lane_format.specs.Crash.{NotOpenOrEmpty}
use Rattle.lane_format.specs.Lane.{IsLane, IsOpen, IsNotOpen}
use Rattle.lane_format.specs.Writer.{Holds, IsSettled, lane_of, stage_of}
use Rattle.lane_format.specs.Writer as lane
use Rattle.lane_format.specs.declared.writer.LaneWriter.{LaneWriter}
use Rattle.lane_format.specs.declared.writer.Stage.TheVariants.{Open}
use Rattle.call_log.specs.Played.{empty_tables}
use Rattle.call_log.specs.History.{batches_of, bodies_of, gate_behind, last_batch}
use Rattle.list_keeper.specs.Past.{IsPast, Told, tables_in}
use Rattle.list_store.specs.Faults.{OldOrEmpty}
use Rattle.list_store.specs.Found.{HasRead}
use Rattle.list_store.specs.Keeping.{IsQuiet, Keeps, Secures, batches_in, defs_of, disk_of, gate_of}
use Rattle.list_store.specs.Log.{BeginsWith, IsLogOf, MayBeLogged}
use Rattle.list_store.specs.Opening.{LeftByOpening}
use Rattle.list_store.specs.declared.store.ListStore.{ListStore}
use Rattle.list_store.proofs.Lanes.{gate_is_length}
use Rattle.list_store.proofs.Pasts.{log_of_lane, logged_of, tables_are_logged}

-- the log without batches leaves empty tables
pub empty_log : (defs : List TableDef) (image : List ℕ) → IsLane 2 0 [] image → IsLogOf defs (empty_tables defs) image
empty_log defs image lane = record {
  batches = [];
  logged = record { fit = tt; near = omega arith; played = tt };
  tables_are = refl;
  lane = lane;
}

pub emptied_begins : (defs : List TableDef) (image : List ℕ) → NotOpenOrEmpty 2 0 image → BeginsWith defs (empty_tables defs) image
emptied_begins defs image (inl shut) = inr (shut, refl)
emptied_begins defs image (inr lane) = inl (empty_log defs image lane)

-- a keeper whose log has no batch has empty tables
pub tables_of_none : (told : Told) → IsPast told → batches_of told.calls ≡ [] → tables_in told ≡ empty_tables told.defs
tables_of_none told past none = rw none at (tables_are_logged told past)

module _ {D : Type 0} (d : Ghosts D) where
  -- with other words for the same files
  pub now_too : (disk : D) (P Q : List ℕ → Type 0) → ((image : List ℕ) → P image → Q image) → LeavesNow d disk P → LeavesNow d disk Q
  now_too disk P Q follows now = record { told = now.told; each = λ image left. follows image (now.each image left) }

  -- where nothing is pending, a crash leaves what a read gives
  told_of : (o : Option (List ℕ)) (bytes : List ℕ) → o ≡ Some bytes → IsSome o
  told_of None bytes is = absurd cc
  told_of (Some x) bytes is = refl

  pub quiet_told : (disk : D) (bytes : List ℕ) → IsQuiet d disk bytes → IsSome (d.content disk)
  quiet_told disk bytes quiet = told_of (d.content disk) bytes quiet.0

  pub quiet_now : (disk : D) (bytes : List ℕ) (P : List ℕ → Type 0) → IsQuiet d disk bytes → P bytes → LeavesNow d disk P
  quiet_now disk bytes P quiet holds = record { told = quiet_told disk bytes quiet; each = λ image left. subst P (sym (quiet.1 image left)) holds }

  -- the store's log has these batches
  module _ (store : ListStore D) (defs : List TableDef) (batches : List (List RowChange)) (defs_are : defs_of store ≡ defs) (batches_are : batches_in store ≡ batches) where
    bodies_are : bodies_of (defs_of store) (batches_in store) ≡ bodies_of defs batches
    bodies_are = ap (λ (l : List TableDef). bodies_of l (batches_in store)) defs_are ∙ ap (bodies_of defs) batches_are

    gate_is : gate_of store ≡ gate_behind defs batches
    gate_is = ap (λ (l : List TableDef). gate_behind l (batches_in store)) defs_are ∙ ap (gate_behind defs) batches_are

    pub keeps_as : IsPast store.keeper → is_running store.keeper.calls ≡ false → last_batch store.keeper.calls ≡ [] → lane_of store.writer ≡ 0 → stage_of store.writer ≡ Open 2 (gate_behind defs batches)
        → Holds d store.writer 2 (bodies_of defs batches) → Keeps d store (tables_in store.keeper)
    keeps_as past idle forced lane stage file = record {
      past = past;
      idle = idle;
      forced = forced;
      tables_are = refl;
      logged = logged_of store.keeper past;
      leaves = tables_are_logged store.keeper past;
      lane = lane;
      stage = stage ∙ ap (Open 2) (sym gate_is);
      file = subst (λ (l : List (List ℕ)). Holds d store.writer 2 l) (sym bodies_are) file;
    }

    pub settled_as : IsSettled d store.writer 2 (bodies_of defs batches) → IsSettled d store.writer 2 (bodies_of (defs_of store) (batches_in store))
    settled_as settled = subst (λ (l : List (List ℕ)). IsSettled d store.writer 2 l) (sym bodies_are) settled

  -- a lane that is settled is the log of the tables
  pub secures_of : (store : ListStore D) → Keeps d store (tables_in store.keeper) → IsSettled d store.writer 2 (bodies_of (defs_of store) (batches_in store)) → Secures d store (tables_in store.keeper)
  secures_of store keeps settled = record {
    keeps = keeps;
    settled = settled;
    crash = now_too (disk_of store) (IsLane 2 (lane_of store.writer) (bodies_of (defs_of store) (batches_in store))) (IsLogOf (defs_of store) (tables_in store.keeper))
        (λ image is. log_of_lane store.keeper keeps.past image (subst (λ (n : ℕ). IsLane 2 n (bodies_of (defs_of store) (batches_in store)) image) keeps.lane is)) settled.crash;
  }

  pub keeps_these : (store : ListStore D) (tables : Tables) → tables ≡ tables_in store.keeper → Keeps d store (tables_in store.keeper) → Keeps d store tables
  keeps_these store tables is keeps = subst (Keeps d store) (sym is) keeps

  pub secures_these : (store : ListStore D) (tables : Tables) → tables ≡ tables_in store.keeper → Secures d store (tables_in store.keeper) → Secures d store tables
  secures_these store tables is secures = subst (Secures d store) (sym is) secures

module _ {D : Type 0} (d : Ghosts D) (old mid new : D) (bytes : List ℕ) (quiet : IsQuiet d old bytes) (read : OnlyReads d old mid) where
  -- nothing is pending on a disk that was only read
  pub quiet_still : IsQuiet d mid bytes
  quiet_still = (read.same ∙ quiet.0, λ image left. quiet.1 image (read.none_new image left))

  -- what a crash leaves while a file is read that isn't open, and then made empty
  pub opened_empty : (defs : List TableDef) → IsNotOpen bytes → LeavesOnly d mid new (OldOrEmpty d mid) → LeavesOnly d old new (LeftByOpening defs bytes)
  opened_empty defs shut run =
      joined d old mid new (LeftByOpening defs bytes)
      (weaker d old mid (d.may_leave old) (LeftByOpening defs bytes) (λ image left. inl (quiet.1 image left)) read.moments)
      (weaker d mid new (OldOrEmpty d mid) (LeftByOpening defs bytes) left_empty run)
    where
      left_empty : (image : List ℕ) → OldOrEmpty d mid image → LeftByOpening defs bytes image
      left_empty image (inl left) = inl (quiet.1 image (read.none_new image left))
      left_empty image (inr empty) = inr (shut, emptied_begins defs image empty)

module _ {D : Type 0} (d : Ghosts D) (old new : D) (bytes : List ℕ) (quiet : IsQuiet d old bytes) (read : OnlyReads d old new) where
  -- what a crash leaves while a file is only read
  pub opened_read : (defs : List TableDef) → LeavesOnly d old new (LeftByOpening defs bytes)
  opened_read defs = weaker d old new (d.may_leave old) (LeftByOpening defs bytes) (λ image left. inl (quiet.1 image left)) read.moments

-- a store over a log whose batches its keeper has played
module _ {D : Type 0} (d : Ghosts D) (store : ListStore D) (disk : D) (gate : ℕ) (read : HasRead (defs_of store) store.keeper gate)
    (log : ForSome (d.content disk) (IsLane 2 0 (bodies_of (defs_of store) (batches_in store))))
    (disk_is : disk_of store ≡ disk) (lane_is : lane_of store.writer ≡ 0) (stage_is : stage_of store.writer ≡ Open 2 gate) where
  holds_log : Holds d store.writer 2 (bodies_of (defs_of store) (batches_in store))
  holds_log = record {
    even = refl;
    gate = gate;
    stage = stage_is;
    place = λ bytes known. read.gate_is ∙ gate_is_length (lane_of store.writer) (defs_of store) (batches_in store);
    file = λ bytes known. subst (λ (n : ℕ). IsLane 2 n (bodies_of (defs_of store) (batches_in store)) bytes) (sym lane_is) (log bytes (ap d.content (sym disk_is) ∙ known));
  }

  pub continued_keeps : Keeps d store (tables_in store.keeper)
  continued_keeps =
      keeps_as d store (defs_of store) (batches_in store) refl refl read.past read.idle read.forced lane_is (stage_is ∙ ap (Open 2) read.gate_is) holds_log
