-- Rows where no transaction runs.
use Rattle.std.proofs.Common.{◌≡◌, ℕ, zero, suc, ◌+◌, ◌≤◌, Bool, true, false, cond, List, [], ◌∷◌, ◌++◌, length, take, drop, None, Some, refl, sym, ◌∙◌, ap, subst, arith}
use Rattle.std.specs.Prelude.{◌≢◌, ◌-◌, nat_lt, slice_get}
use Rattle.std.specs.Option.{option_flatten}
use Rattle.std.proofs.lemmas.List.{take_at, drop-append-le, length-append}
use Rattle.row_types.specs.declared.definition.TableDef.{TableDef}
use Rattle.row_types.specs.Schema.{IsSchema}
use Rattle.row_types.specs.Tables.{TableRows, Tables, schema_of, empty_table}
use Rattle.row_lists.specs.Held.{Entries}
use Rattle.key_space.specs.Plays.{RowOp, row_at}
use Rattle.plain_model.specs.CallPlays.{latest, moments_of}
use Rattle.op_log.specs.Changes.{body_text}
use Rattle.op_log.specs.declared.change.RowChange.{RowChange}
use Rattle.lane_format.specs.Lane.{body_of}
use Rattle.op_log.proofs.ChangeLaws.{three_bytes}
use Rattle.plain_model.proofs.Viewing.{empty_are_tables}
use Rattle.call_log.specs.Standing.{standing}
use Rattle.call_log.specs.Played.{ArePlayed, IsPlayed, empty_tables, played, tables_behind_change}
use Rattle.txn_rows.specs.declared.undo.Step.{Step}
use Rattle.txn_rows.specs.Steps.{stands, Holds, AreEmpty, KeepsRows, closed}
use Rattle.txn_rows.specs.Rows.{IsFrameOf, IsIdleOn, RunsOn, StopsAt}
use Rattle.txn_rows.proofs.Running.{body_more}
use Rattle.txn_rows.proofs.Tables.{holds_rows}

-- ---- tables without rows

empty_schema : (defs : List TableDef) → schema_of (empty_tables defs) ≡ defs
empty_schema [] = refl
empty_schema (def ∷ defs) = ap (λ (ds : List TableDef). def ∷ ds) (empty_schema defs)

empty_row : (defs : List TableDef) (n : ℕ) (t : TableRows) (key : ℕ) → slice_get (empty_tables defs) n ≡ Some t → row_at t.def.keys t.rows key ≡ None
empty_row [] n t key at = absurd cc
empty_row (def ∷ defs) zero t key at = let same : empty_table def ≡ t = cc in subst (λ (x : TableRows). row_at x.def.keys x.rows key ≡ None) same refl
empty_row (def ∷ defs) (suc n) t key at = empty_row defs n t key at

pub idle_empty : (defs : List TableDef) (lists : List Entries) (steps : List Step) (frame : List ℕ) → IsSchema defs → AreEmpty lists → length lists ≡ length defs → steps ≡ [] → length frame ≡ 4 → IsIdleOn defs lists steps frame (empty_tables defs) []
idle_empty defs lists steps frame schema empty len none frame_len = record {
  lists_len = len;
  holds = record {
    are = empty_are_tables defs schema;
    schema = empty_schema defs;
    rows = λ n t at key. ap option_flatten (empty n key) ∙ sym (empty_row defs n t key at);
  };
  no_steps = none;
  fit = tt;
  short = omega arith;
  frame_is = frame_len;
}

-- ---- frames

closed_frame : (defs : List TableDef) (changes : List RowChange) (frame : List ℕ) → length frame ≡ 4 + length (body_text defs changes) → drop 4 frame ≡ body_text defs changes → (b : Bool) → nat_lt 4 (length frame) ≡ b
    → IsFrameOf defs changes (cond b (frame ++ 0 ∷ []) frame)
closed_frame defs [] frame len body true e = absurd (grind (arith, len))
closed_frame defs [] frame len body false e = omega (arith, len)
closed_frame defs (change ∷ changes) frame len body false e =
    let some = three_bytes defs change in
    let more = body_more defs change changes in
    absurd (grind arith)
closed_frame defs (change ∷ changes) frame len body true e =
    let text = body_text defs (change ∷ changes) in
    let longer = length-append frame (0 ∷ []) in
    let whole : length (frame ++ 0 ∷ []) ≡ 5 + length text = omega arith in
    let rest : length (frame ++ 0 ∷ []) - 5 ≡ length text = omega arith in
    let dropped : drop 4 (frame ++ 0 ∷ []) ≡ text ++ 0 ∷ [] = drop-append-le 4 frame (0 ∷ []) (omega arith) ∙ ap (λ (bs : List ℕ). bs ++ 0 ∷ []) body in
    (whole, ap (λ n. take n (drop 4 (frame ++ 0 ∷ []))) rest ∙ ap (λ (bs : List ℕ). take (length text) bs) dropped ∙ take_at text (0 ∷ []) (length text) refl)

-- a transaction is over, and its changes stay
pub committed : (defs : List TableDef) (lists new_lists : List Entries) (steps new_steps : List Step) (frame new_frame : List ℕ) (count : ℕ) (first : Tables) (ops : List RowOp) → RunsOn defs lists steps frame count first ops
    → KeepsRows lists new_lists → new_steps ≡ [] → new_frame ≡ closed frame → IsIdleOn defs new_lists new_steps new_frame (latest (moments_of first ops)) (standing ops)
committed defs lists new_lists steps new_steps frame new_frame count first ops runs keeps none bytes = record {
  lists_len = keeps.lists_len ∙ runs.lists_len;
  holds = holds_rows defs (stands lists) (stands new_lists) (latest (moments_of first ops)) keeps.rows runs.holds;
  no_steps = none;
  fit = runs.fit;
  short = runs.short;
  frame_is = subst (λ (bs : List ℕ). IsFrameOf defs (standing ops) bs) (sym bytes) (closed_frame defs (standing ops) frame runs.frame_len runs.frame_is (nat_lt 4 (length frame)) refl);
}

-- what a frame of changes says of itself
pub some_frame : (defs : List TableDef) (changes : List RowChange) (frame : List ℕ) → IsFrameOf defs changes frame → 6 ≤ length frame → (length frame ≡ 5 + length (body_text defs changes)) × (body_of frame ≡ body_text defs changes)
some_frame defs [] frame is some = absurd (omega (arith, is))
some_frame defs (change ∷ changes) frame is some = is

pub frame_some : (defs : List TableDef) (changes : List RowChange) (frame : List ℕ) → IsFrameOf defs changes frame → changes ≢ [] → 6 ≤ length frame
frame_some defs [] frame is some = absurd (some refl)
frame_some defs (change ∷ changes) frame is some = let bytes = three_bytes defs change in let more = body_more defs change changes in omega (arith, is.0)

pub frame_least : (defs : List TableDef) (changes : List RowChange) (frame : List ℕ) → IsFrameOf defs changes frame → 4 ≤ length frame
frame_least defs [] frame is = omega (arith, is)
frame_least defs (change ∷ changes) frame is = omega (arith, is.0)

-- ---- loading

pub idle_with : (defs : List TableDef) (lists new_lists : List Entries) (steps : List Step) (frame : List ℕ) (tables new_tables : Tables) → IsIdleOn defs lists steps frame tables [] → length new_lists ≡ length lists → Holds defs (stands new_lists) new_tables
    → IsIdleOn defs new_lists steps frame new_tables []
idle_with defs lists new_lists steps frame tables new_tables idle len holds = record {
  lists_len = len ∙ idle.lists_len;
  holds = holds;
  no_steps = idle.no_steps;
  fit = tt;
  short = idle.short;
  frame_is = idle.frame_is;
}

-- how the changes of a batch that are left tell of all
pub record LoadsOn (tables : Tables) (batch : List RowChange) (now : Tables) (rest : List RowChange) (index : ℕ) : Type 0 where
  pub plays : ArePlayed now rest → ArePlayed tables batch
  pub end : played now rest ≡ played tables batch
  pub stops : (k : ℕ) → StopsAt now rest k → StopsAt tables batch (index + k)

pub loads_start : (tables : Tables) (batch : List RowChange) → LoadsOn tables batch tables batch 0
loads_start tables batch = record {
  plays = λ all. all;
  end = refl;
  stops = λ k at. let plain : k ≡ 0 + k = omega arith in subst (λ n. StopsAt tables batch n) plain at;
}

pub loads_next : (tables : Tables) (batch : List RowChange) (now : Tables) (change : RowChange) (rest : List RowChange) (index : ℕ) → LoadsOn tables batch now (change ∷ rest) index → IsPlayed now change
    → LoadsOn tables batch (tables_behind_change now change) rest (index + 1)
loads_next tables batch now change rest index on is = record {
  plays = λ all. on.plays (is, all);
  end = on.end;
  stops = λ k at. let next : index + suc k ≡ index + 1 + k = omega arith in subst (λ n. StopsAt tables batch n) next (on.stops (suc k) (is, at));
}

pub loads_stop : (tables : Tables) (batch : List RowChange) (now : Tables) (change : RowChange) (rest : List RowChange) (index : ℕ) → LoadsOn tables batch now (change ∷ rest) index → (IsPlayed now change → ⊥) → StopsAt tables batch index
loads_stop tables batch now change rest index on isnt = let plain : index + 0 ≡ index = omega arith in subst (λ n. StopsAt tables batch n) plain (on.stops 0 isnt)
