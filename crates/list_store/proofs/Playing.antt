-- Batches that are played one after another, as they were read.
use Rattle.std.proofs.Common.{◌≡◌, ◌≢◌, ℕ, zero, suc, ◌+◌, ◌<◌, ◌≤◌, false, List, [], ◌∷◌, ◌++◌, length, map, take, drop, get_or, refl, sym, ◌∙◌, ap, subst, arith}
use Rattle.std.proofs.lemmas.List.{append-nil, map-append, take_more}
use Rattle.std.specs.List.{AllByRecursion, flat_map}
use Rattle.row_types.specs.Tables.{Tables}
use Rattle.row_types.specs.declared.definition.TableDef.{TableDef}
use Rattle.plain_model.specs.Calls.{Call, is_running}
use Rattle.op_log.specs.Changes.{body_text}
use Rattle.op_log.specs.declared.change.RowChange.{RowChange}
use Rattle.lane_format.specs.Lane.{IsBody, IsLane, batch_text}
use Rattle.lane_format.specs.LaneRead.{lane_reads, placed}
use Rattle.lane_format.specs.LaneRead as lane
use Rattle.lane_format.specs.declared.segment.Batch.{Batch}
use Rattle.call_log.specs.History.{batches_of, bodies_of, gate_behind, last_batch, with_batch}
use Rattle.call_log.proofs.Histories.{gate_more, loaded_batches}
use Rattle.list_keeper.specs.Past.{IsPast, Told, tables_in}
use Rattle.list_store.specs.Found.{HasRead, PlaysOne, StopsIn, bodies_in}
use Rattle.list_store.specs.Log.{HasBodies, IsDamagedAt, IsNoBatch, MayBeLogged, NoBatch, NoGate, ReadsOn, logged_tables}
use Rattle.list_store.proofs.Lanes.{bodies_placed, gate_is_place, same_bodies, whole_lane}
use Rattle.list_store.proofs.Pasts.{bodies_push, logged_of, tables_are_logged}

-- ---- the bodies of batches

pub bodies_more : (batches : List Batch) (i : ℕ) (d : Batch) → i < length batches → bodies_in (take (i + 1) batches) ≡ bodies_in (take i batches) ++ (get_or batches i d).body ∷ []
bodies_more batches i d inside =
    ap bodies_in (take_more batches i d inside) ∙ map-append (λ (b : Batch). b.body) (take i batches) (get_or batches i d ∷ [])

bodies_at : (batches : List Batch) (i : ℕ) (d : Batch) → i < length batches → bodies_in batches ≡ bodies_in (take i batches) ++ (get_or batches i d).body ∷ bodies_in (drop (suc i) batches)
bodies_at [] i d inside = absurd (omega (arith, inside))
bodies_at (b ∷ batches) zero d inside = refl
bodies_at (b ∷ batches) (suc i) d inside = ap (λ (l : List (List ℕ)). b.body ∷ l) (bodies_at batches i d (omega (arith, inside)))

abbrev AreSome : List (List ℕ) → Type 0
AreSome bodies = AllByRecursion (λ body. 1 ≤ length body) bodies

some_at : (batches : List Batch) (i : ℕ) (d : Batch) → i < length batches → AreSome (bodies_in batches) → 1 ≤ length (get_or batches i d).body
some_at [] i d inside some = absurd (omega (arith, inside))
some_at (b ∷ batches) zero d inside some = some.0
some_at (b ∷ batches) (suc i) d inside some = some_at batches i d (omega (arith, inside)) some.1

-- ---- one batch more

module _ (defs : List TableDef) (old next : Told) (gate : ℕ) (body : List ℕ) (read : HasRead defs old gate) (plays : PlaysOne old next body) where
  batches_next : batches_of next.calls ≡ with_batch (batches_of old.calls) plays.batch
  batches_next = ap batches_of plays.calls ∙ loaded_batches old.defs old.calls plays.batch plays.fit

  body_next : body ≡ body_text defs plays.batch
  body_next = plays.body_is ∙ ap (λ (l : List TableDef). body_text l plays.batch) read.defs_are

  pub read_next : next.defs ≡ old.defs → IsPast next → HasRead defs next (gate + 5 + length body)
  read_next defs_next past = record {
    past = past;
    defs_are = defs_next ∙ read.defs_are;
    idle = ap is_running plays.calls;
    forced = ap last_batch plays.calls;
    gate_is = omega (arith, read.gate_is, ap (gate_behind defs) batches_next, gate_more defs (batches_of old.calls) plays.batch plays.some, ap length body_next);
  }

  pub bodies_next : bodies_of defs (batches_of next.calls) ≡ bodies_of defs (batches_of old.calls) ++ body ∷ []
  bodies_next =
      ap (bodies_of defs) batches_next
      ∙ sym (bodies_push defs (batches_of old.calls) plays.batch plays.some)
      ∙ ap (λ (l : List ℕ). bodies_of defs (batches_of old.calls) ++ l ∷ []) (sym body_next)

-- the next body is no batch
pub stops_here : (defs : List TableDef) (keeper : Told) (gate : ℕ) (batches : List Batch) (i : ℕ) (d : Batch) (at : ℕ) → i < length batches → HasRead defs keeper gate → bodies_of defs (batches_of keeper.calls) ≡ bodies_in (take i batches)
    → (1 ≤ length (get_or batches i d).body → IsNoBatch defs (tables_in keeper) gate (get_or batches i d).body at) → AreSome (bodies_in batches) → StopsIn defs (bodies_in batches) at
stops_here defs keeper gate batches i d at inside read so_far none some =
    let body = (get_or batches i d).body in
    let rest = bodies_in (drop (suc i) batches) in
    let tables_are : tables_in keeper ≡ logged_tables defs (batches_of keeper.calls) = tables_are_logged keeper read.past ∙ ap (λ (l : List TableDef). logged_tables l (batches_of keeper.calls)) read.defs_are in
    record {
      batches = batches_of keeper.calls;
      body = body;
      rest = rest;
      logged = subst (λ (l : List TableDef). MayBeLogged l (batches_of keeper.calls)) read.defs_are (logged_of keeper read.past);
      bodies_are = bodies_at batches i d inside ∙ ap (λ (l : List (List ℕ)). l ++ body ∷ rest) (sym so_far);
      none =
          subst (λ (t : Tables). IsNoBatch defs t (gate_behind defs (batches_of keeper.calls)) body at) tables_are
          (subst (λ (n : ℕ). IsNoBatch defs (tables_in keeper) n body at) read.gate_is (none (some_at batches i d inside some)));
    }

-- ---- what the file is found to be

pub has_bodies : (generation : ℕ) (batches : List Batch) (bytes : List ℕ) → lane_reads false 0 bytes (lane.Holding generation batches) → HasBodies generation (bodies_in batches) bytes
has_bodies generation batches bytes reads =
    let same : bodies_in batches ≡ reads.1.bodies = ap bodies_in reads.1.batches_are ∙ bodies_placed 11 reads.1.bodies in
    let is : batches ≡ placed 11 (bodies_in batches) = reads.1.batches_are ∙ ap (placed 11) (sym same) in
    subst (λ (l : List Batch). lane_reads false 0 bytes (lane.Holding generation l)) is reads

fit_some : (bodies : List (List ℕ)) → AllByRecursion IsBody bodies → AreSome bodies
fit_some [] fit = tt
fit_some (body ∷ bodies) fit = (fit.0.0, fit_some bodies fit.1)

bodies_some : (generation : ℕ) (bodies : List (List ℕ)) (bytes : List ℕ) → HasBodies generation bodies bytes → AreSome bodies
bodies_some generation bodies bytes has =
    subst AreSome (sym (same_bodies bodies has.1.bodies has.1.batches_are)) (fit_some has.1.bodies has.1.text.fit)

pub damaged_there : (defs : List TableDef) (bytes : List ℕ) (bodies : List (List ℕ)) (at : ℕ) → HasBodies 2 bodies bytes → (AreSome bodies → StopsIn defs bodies at) → IsDamagedAt defs bytes at
damaged_there defs bytes bodies at has stops =
    let stop = stops (bodies_some 2 bodies bytes has) in
    NoBatch stop.batches stop.body stop.rest (record { logged = stop.logged; lane = subst (λ (l : List (List ℕ)). HasBodies 2 l bytes) stop.bodies_are has }) stop.none

module _ (defs : List TableDef) (keeper : Told) (gate : ℕ) (bytes : List ℕ) (bodies : List (List ℕ)) (read : HasRead defs keeper gate) (played : bodies_of defs (batches_of keeper.calls) ≡ bodies) (has : HasBodies 2 bodies bytes) where
  has_batches : HasBodies 2 (bodies_of defs (batches_of keeper.calls)) bytes
  has_batches = subst (λ (l : List (List ℕ)). HasBodies 2 l bytes) (sym played) has

  pub no_gate : length bytes ≤ gate → IsDamagedAt defs bytes 11
  no_gate short =
      NoGate (batches_of keeper.calls)
      (record {
        logged = subst (λ (l : List TableDef). MayBeLogged l (batches_of keeper.calls)) read.defs_are (logged_of keeper read.past);
        lane = subst (λ (l : List (List ℕ)). HasBodies 2 l bytes) (sym (append-nil (bodies_of defs (batches_of keeper.calls)))) has_batches;
      })
      (omega (arith, short, read.gate_is)) refl

  pub is_log : gate < length bytes → IsLane 2 0 (bodies_of defs (batches_of keeper.calls)) bytes
  is_log inside =
      whole_lane (bodies_of defs (batches_of keeper.calls)) bytes has_batches (omega (arith, inside, read.gate_is, gate_is_place defs (batches_of keeper.calls)))
