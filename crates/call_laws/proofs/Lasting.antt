-- What lasts over calls since a moment.
use Rattle.std.proofs.Common.{◌≡◌, ◌≤◌, Bool, true, not, List, [], ◌∷◌, length, refl, ◌∙◌, arith}
use Rattle.row_types.specs.declared.definition.TableDef.{TableDef}
use Rattle.row_types.specs.Tables.{Tables}
use Rattle.plain_model.specs.Calls.{Call, Began, Committed, Undone, Locked, Did, Opened, Stopped}
use Rattle.plain_model.specs.Runs.{is_begin}
use Rattle.engine_txn.specs.Transactions.{AllSince, here, then, Grown, Uncommitted, Continues, is_commit}
use Rattle.call_log.specs.History.{begun_at, settled, batches_of, last_batch, IsHistory}
use Rattle.call_log.proofs.Histories.{history_before}

pub grown_by : (test : Call → Bool) (old new : List Call) → AllSince test old new → Grown old new
grown_by test old _ here = here
grown_by test old _ (then call calls is more) = then call calls refl (grown_by test old calls more)

pub grown_longer : (old new : List Call) → Grown old new → length old ≤ length new
grown_longer old _ here = omega arith
grown_longer old _ (then call calls is more) = let rest = grown_longer old calls more in omega arith

no_shorter : (call : Call) (calls : List Call) → Grown (call ∷ calls) calls → ⊥
no_shorter call calls grown = let long = grown_longer (call ∷ calls) calls grown in omega arith

grown_through : (a b c : List Call) → Grown a b → Grown b c → Grown a c
grown_through a b _ first here = first
grown_through a b _ first (then call calls is more) = then call calls refl (grown_through a b calls first more)

pub tail_grown : (call : Call) (calls new : List Call) → Grown (call ∷ calls) new → Grown calls new
tail_grown call calls new grown = grown_through calls (call ∷ calls) new (then call calls refl here) grown

-- the last call since passes the test
pub last_passes : (test : Call → Bool) (old : List Call) (call : Call) (calls : List Call) → AllSince test old (call ∷ calls) → Grown old calls → test call ≡ true
last_passes test _ call calls here grown = absurd (no_shorter call calls grown)
last_passes test old call calls (then _ _ is more) grown = is

-- what holds of all calls since holds of those up to a moment between
pub since_between : (test : Call → Bool) (old mid new : List Call) → AllSince test old new → Grown old mid → Grown mid new → AllSince test old mid
since_between test old mid _ all first here = all
since_between test _ mid _ here first (then call calls is more) = absurd (no_shorter call calls (grown_through (call ∷ calls) mid calls first more))
since_between test old mid _ (then _ _ passes all) first (then call calls is more) = since_between test old mid calls all first more

pub history_since : (defs : List TableDef) (old new : List Call) → Grown old new → IsHistory defs new → IsHistory defs old
history_since defs old _ here is = is
history_since defs old _ (then call calls all more) is = history_since defs old calls more (history_before defs call calls is)

-- ---- without a commit

settled_step : (first : Tables) (call : Call) (calls : List Call) → not (is_commit call) ≡ true → settled first (call ∷ calls) ≡ settled first calls
settled_step first (Began age number) calls is = refl
settled_step first Committed calls is = absurd (let e = is in cc)
settled_step first Undone calls is = refl
settled_step first (Locked name mode) calls is = refl
settled_step first (Did op) calls is = refl
settled_step first (Opened generation) calls is = refl
settled_step first (Stopped asked stop) calls is = refl

pub settled_kept : (first : Tables) (old new : List Call) → Uncommitted old new → settled first new ≡ settled first old
settled_kept first old _ here = refl
settled_kept first old _ (then call calls is more) = settled_step first call calls is ∙ settled_kept first old calls more

batches_step : (call : Call) (calls : List Call) → not (is_commit call) ≡ true → batches_of (call ∷ calls) ≡ batches_of calls
batches_step (Began age number) calls is = refl
batches_step Committed calls is = absurd (let e = is in cc)
batches_step Undone calls is = refl
batches_step (Locked name mode) calls is = refl
batches_step (Did op) calls is = refl
batches_step (Opened generation) calls is = refl
batches_step (Stopped asked stop) calls is = refl

pub batches_kept : (old new : List Call) → Uncommitted old new → batches_of new ≡ batches_of old
batches_kept old _ here = refl
batches_kept old _ (then call calls is more) = batches_step call calls is ∙ batches_kept old calls more

last_step : (call : Call) (calls : List Call) → not (is_commit call) ≡ true → last_batch (call ∷ calls) ≡ []
last_step (Began age number) calls is = refl
last_step Committed calls is = absurd (let e = is in cc)
last_step Undone calls is = refl
last_step (Locked name mode) calls is = refl
last_step (Did op) calls is = refl
last_step (Opened generation) calls is = refl
last_step (Stopped asked stop) calls is = refl

pub last_kept : (old new : List Call) → Uncommitted old new → last_batch old ≡ [] → last_batch new ≡ []
last_kept old _ here none = none
last_kept old _ (then call calls is more) none = last_step call calls is

-- ---- without a begin

begun_step : (first : Tables) (call : Call) (calls : List Call) → not (is_begin call) ≡ true → begun_at first (call ∷ calls) ≡ begun_at first calls
begun_step first (Began age number) calls is = absurd (let e = is in cc)
begun_step first Committed calls is = refl
begun_step first Undone calls is = refl
begun_step first (Locked name mode) calls is = refl
begun_step first (Did op) calls is = refl
begun_step first (Opened generation) calls is = refl
begun_step first (Stopped asked stop) calls is = refl

pub begun_kept : (first : Tables) (old new : List Call) → Continues old new → begun_at first new ≡ begun_at first old
begun_kept first old _ here = refl
begun_kept first old _ (then call calls is more) = begun_step first call calls is ∙ begun_kept first old calls more
