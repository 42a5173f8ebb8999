-- A log file has at most one reading.
use Rattle.std.proofs.Common.{◌≡◌, ◌≢◌, ◌⊎◌, inl, inr, ℕ, ◌+◌, ◌%◌, ◌<◌, ◌≤◌, false, List, [], ◌∷◌, ◌++◌, length, map, refl, sym, ◌∙◌, ap, subst, append_assoc, length-append, arith}
use Rattle.std.proofs.lemmas.List.{append-nil}
use Rattle.std.specs.List.{AllByRecursion}
use Rattle.row_types.specs.Schema.{IsSchema}
use Rattle.row_types.specs.Tables.{Tables}
use Rattle.row_types.specs.declared.definition.TableDef.{TableDef}
use Rattle.op_log.specs.Changes.{HasNone, IsChange, IsFront, body_text, change_text}
use Rattle.op_log.specs.declared.change.RowChange.{RowChange}
use Rattle.op_log.proofs.Bodies.{one_way, read_again}
use Rattle.op_log.proofs.ChangeLaws.{one, three_bytes}
use Rattle.lane_format.specs.Lane.{IsLane, IsNotOpen, IsOpen}
use Rattle.lane_format.specs.LaneRead.{LaneRead, lane_reads, placed}
use Rattle.lane_format.specs.LaneRead as lane
use Rattle.lane_format.proofs.Lanes.{gate_inside}
use Rattle.lane_format.proofs.Readings.{at_most_one, reads_lane}
use Rattle.lane_format.specs.declared.segment.Batch.{Batch}
use Rattle.call_log.specs.Played.{ArePlayed, BatchesPlayed, IsPlayed, empty_tables, played, played_batches, tables_behind_change}
use Rattle.call_log.specs.History.{bodies_of, gate_behind, log_limit}
use Rattle.list_store.specs.Log.{BeginsWith, HasBodies, IsDamagedAt, IsLogOf, IsNoBatch, LogRead, MayBeLogged, PlaysTo, ReadsOn, log_reads, logged_tables}
use Rattle.list_store.specs.Log.{DamagedAt, EndsLate, Holding, NoBatch, NoChange, NoGate, NoLane, NoRow, NotOpen, OtherGeneration}
use Rattle.list_store.proofs.Lanes.{gate_from_front, gate_is_length, same_bodies}
use Rattle.list_store.proofs.Pasts.{all_behind}

-- ---- two runs of changes at the front of a body

module _ (defs : List TableDef) (schema : IsSchema defs) where
  -- the second run continues where the first one ends
  abbrev Continues : List RowChange → List ℕ → List RowChange → List ℕ → Type 0
  Continues a x b y = (c : RowChange) × (more : List RowChange) × (b ≡ a ++ c ∷ more) × (x ≡ change_text defs c ++ (body_text defs more ++ y))

  abbrev Meet : List RowChange → List ℕ → List RowChange → List ℕ → Type 0
  Meet a x b y = ((a ≡ b) × (x ≡ y)) ⊎ (Continues a x b y ⊎ Continues b y a x)

  meet_later : (c : RowChange) (a b : List RowChange) (x y : List ℕ) → Meet a x b y → Meet (c ∷ a) x (c ∷ b) y
  meet_later c a b x y (inl same) = inl (ap (λ (l : List RowChange). c ∷ l) same.0, same.1)
  meet_later c a b x y (inr (inl on)) = inr (inl (on.0, on.1, ap (λ (l : List RowChange). c ∷ l) on.2, on.3))
  meet_later c a b x y (inr (inr on)) = inr (inr (on.0, on.1, ap (λ (l : List RowChange). c ∷ l) on.2, on.3))

  meets : (a b : List RowChange) (x y : List ℕ) → AllByRecursion (IsChange defs) a → AllByRecursion (IsChange defs) b → body_text defs a ++ x ≡ body_text defs b ++ y → Meet a x b y
  meets [] [] x y f g e = inl (refl, e)
  meets [] (d ∷ b) x y f g e = inr (inl (d, b, refl, e ∙ append_assoc (change_text defs d) (body_text defs b) y))
  meets (c ∷ a) [] x y f g e = inr (inr (c, a, refl, sym e ∙ append_assoc (change_text defs c) (body_text defs a) x))
  meets (c ∷ a) (d ∷ b) x y f g e =
      let heads = one defs c d (body_text defs a ++ x) (body_text defs b ++ y) schema f.0 g.0
      (sym (append_assoc (change_text defs c) (body_text defs a) x) ∙ e ∙ append_assoc (change_text defs d) (body_text defs b) y) in
      subst (λ (change : RowChange). Meet (c ∷ a) x (change ∷ b) y) heads.0 (meet_later c a b x y (meets a b x y f.1 g.1 heads.1))

  -- changes that can be played, up to the one behind the first of them
  played_there : (tables : Tables) (a more : List RowChange) (c : RowChange) → ArePlayed tables (a ++ c ∷ more) → IsPlayed (played tables a) c
  played_there tables [] more c plays = plays.0
  played_there tables (b ∷ a) more c plays = played_there (tables_behind_change tables b) a more c plays.1

  -- no change that could be played stands at the rest
  abbrev IsStuck : Tables → List RowChange → List ℕ → Type 0
  IsStuck tables changes rest = (change : RowChange) (more : List ℕ) → IsChange defs change → IsPlayed (played tables changes) change → rest ≢ change_text defs change ++ more

  same_front : (tables : Tables) (body : List ℕ) (a b : List RowChange) (x y : List ℕ) → PlaysTo defs tables body a x → PlaysTo defs tables body b y → IsStuck tables a x → IsStuck tables b y → (a ≡ b) × (x ≡ y)
  same_front tables body a b x y f g no_x no_y =
      elim (meets a b x y f.fit g.fit (sym f.text ∙ g.text)) [
        | inl same ↦ same
        | inr (inl on) ↦
            absurd (no_x on.0 (body_text defs on.1 ++ y) (all_behind (IsChange defs) a (on.0 ∷ on.1) (subst (AllByRecursion (IsChange defs)) on.2 g.fit)).0
            (played_there tables a on.1 on.0 (subst (ArePlayed tables) on.2 g.played)) on.3)
        | inr (inr on) ↦
            absurd (no_y on.0 (body_text defs on.1 ++ x) (all_behind (IsChange defs) b (on.0 ∷ on.1) (subst (AllByRecursion (IsChange defs)) on.2 f.fit)).0
            (played_there tables b on.1 on.0 (subst (ArePlayed tables) on.2 f.played)) on.3)
      ]

  -- a body that is no batch is played up to a place
  record Stop (tables : Tables) (gate : ℕ) (body : List ℕ) (at : ℕ) : Type 0 where
    near : gate + 5 + length body ≤ log_limit
    changes : List RowChange
    rest : List ℕ
    plays : PlaysTo defs tables body changes rest
    stuck : IsStuck tables changes rest
    some : 1 ≤ length rest
    at_is : at ≡ gate + 5 + length (body_text defs changes)

  abbrev LateOrStop : Tables → ℕ → List ℕ → ℕ → Type 0
  LateOrStop tables gate body at = ((log_limit < gate + 5 + length body) × (at ≡ gate)) ⊎ Stop tables gate body at

  late_or_stop : (tables : Tables) (gate : ℕ) (body : List ℕ) (at : ℕ) → IsNoBatch defs tables gate body at → LateOrStop tables gate body at
  late_or_stop tables gate body at (EndsLate late is) = inl (late, is)
  late_or_stop tables gate body at (NoChange changes rest near plays some none is) =
      inr (record { near = near; changes = changes; rest = rest; plays = plays; stuck = λ change more fits play. none change more fits; some = some; at_is = is })
  late_or_stop tables gate body at (NoRow changes change rest near plays fits not is) =
      inr
      (record {
        near = near;
        changes = changes;
        rest = change_text defs change ++ rest;
        plays = plays;
        stuck = λ other more other_fits play e. not (subst (IsPlayed (played tables changes)) (sym (one defs change other rest more schema fits other_fits e).0) play);
        some = omega (arith, length-append (change_text defs change) rest, three_bytes defs change);
        at_is = is;
      })

  one_place : (tables : Tables) (gate : ℕ) (body : List ℕ) (at at' : ℕ) → IsNoBatch defs tables gate body at → IsNoBatch defs tables gate body at' → at ≡ at'
  one_place tables gate body at at' first second = elim (late_or_stop tables gate body at first) [
    | inl late ↦ elim (late_or_stop tables gate body at' second) [
      | inl late' ↦ late.1 ∙ sym late'.1
      | inr stop' ↦ absurd (omega (arith, late.0, stop'.near))
    ]
    | inr stop ↦ elim (late_or_stop tables gate body at' second) [
      | inl late' ↦ absurd (omega (arith, late'.0, stop.near))
      | inr stop' ↦
          let same = same_front tables body stop.changes stop'.changes stop.rest stop'.rest stop.plays stop'.plays stop.stuck stop'.stuck in
          stop.at_is ∙ ap (λ (l : List RowChange). gate + 5 + length (body_text defs l)) same.0 ∙ sym stop'.at_is
    ]
  ]

  -- a batch that can be played isn't none
  batch_is_one : (tables : Tables) (gate : ℕ) (batch : List RowChange) (at : ℕ) → AllByRecursion (IsChange defs) batch → ArePlayed tables batch → gate + 5 + length (body_text defs batch) ≤ log_limit
      → IsNoBatch defs tables gate (body_text defs batch) at → ⊥
  batch_is_one tables gate batch at fit plays near none = elim (late_or_stop tables gate (body_text defs batch) at none) [
    | inl late ↦ omega (arith, late.0, near)
    | inr stop ↦
        let whole : PlaysTo defs tables (body_text defs batch) batch [] = record { fit = fit; text = sym (append-nil (body_text defs batch)); played = plays } in
        let stuck : IsStuck tables batch [] = λ change more fits play e. omega (arith, ap length e, length-append (change_text defs change) more, three_bytes defs change) in
        let same = same_front tables (body_text defs batch) batch stop.changes [] stop.rest whole stop.plays stuck stop.stuck in
        omega (arith, stop.some, ap length same.1)
  ]

  -- ---- two runs of batches

  same_batch : (a b : List RowChange) → AllByRecursion (IsChange defs) a → AllByRecursion (IsChange defs) b → body_text defs a ≡ body_text defs b → a ≡ b
  same_batch a b f g e =
      (one_way defs (body_text defs a) a b (length (body_text defs a)) (length (body_text defs a)) schema (read_again defs a f)
      (subst (λ (l : List ℕ). IsFront defs l b (length l)) (sym e) (read_again defs b g))).0

  abbrev Fit : List (List RowChange) → Type 0
  Fit batches = AllByRecursion (AllByRecursion (IsChange defs)) batches

  abbrev GoesOn : List (List RowChange) → List (List ℕ) → List (List RowChange) → List (List ℕ) → Type 0
  GoesOn a x b y = (c : List RowChange) × (more : List (List RowChange)) × (b ≡ a ++ c ∷ more) × (x ≡ body_text defs c ∷ (bodies_of defs more ++ y))

  abbrev Join : List (List RowChange) → List (List ℕ) → List (List RowChange) → List (List ℕ) → Type 0
  Join a x b y = ((a ≡ b) × (x ≡ y)) ⊎ (GoesOn a x b y ⊎ GoesOn b y a x)

  join_later : (c : List RowChange) (a b : List (List RowChange)) (x y : List (List ℕ)) → Join a x b y → Join (c ∷ a) x (c ∷ b) y
  join_later c a b x y (inl same) = inl (ap (λ (l : List (List RowChange)). c ∷ l) same.0, same.1)
  join_later c a b x y (inr (inl on)) = inr (inl (on.0, on.1, ap (λ (l : List (List RowChange)). c ∷ l) on.2, on.3))
  join_later c a b x y (inr (inr on)) = inr (inr (on.0, on.1, ap (λ (l : List (List RowChange)). c ∷ l) on.2, on.3))

  joins : (a b : List (List RowChange)) (x y : List (List ℕ)) → Fit a → Fit b → bodies_of defs a ++ x ≡ bodies_of defs b ++ y → Join a x b y
  joins [] [] x y f g e = inl (refl, e)
  joins [] (d ∷ b) x y f g e = inr (inl (d, b, refl, e))
  joins (c ∷ a) [] x y f g e = inr (inr (c, a, refl, sym e))
  joins (c ∷ a) (d ∷ b) x y f g e =
      let head : body_text defs c ≡ body_text defs d = cc in
      let tail : bodies_of defs a ++ x ≡ bodies_of defs b ++ y = cc in
      subst (λ (l : List RowChange). Join (c ∷ a) x (l ∷ b) y) (same_batch c d f.0 g.0 head) (join_later c a b x y (joins a b x y f.1 g.1 tail))

  fit_there : (a more : List (List RowChange)) (c : List RowChange) → Fit (a ++ c ∷ more) → AllByRecursion (IsChange defs) c
  fit_there [] more c fit = fit.0
  fit_there (b ∷ a) more c fit = fit_there a more c fit.1

  batch_there : (tables : Tables) (a more : List (List RowChange)) (c : List RowChange) → BatchesPlayed tables (a ++ c ∷ more) → ArePlayed (played_batches tables a) c
  batch_there tables [] more c plays = plays.0
  batch_there tables (b ∷ a) more c plays = batch_there (played tables b) a more c plays.1

  gate_there : (a more : List (List RowChange)) (c : List RowChange) → gate_behind defs a + 5 + length (body_text defs c) ≤ gate_behind defs (a ++ c ∷ more)
  gate_there [] more c = omega (arith, gate_from_front defs more)
  gate_there (b ∷ a) more c = omega (arith, gate_there a more c)

  -- a batch of a log isn't none
  logged_is_one : (a more : List (List RowChange)) (c : List RowChange) (whole : List (List RowChange)) (body : List ℕ) (at : ℕ) → whole ≡ a ++ c ∷ more → MayBeLogged defs whole → body ≡ body_text defs c
      → IsNoBatch defs (logged_tables defs a) (gate_behind defs a) body at → ⊥
  logged_is_one a more c whole body at whole_is logged body_is none =
      let all : MayBeLogged defs (a ++ c ∷ more) = subst (MayBeLogged defs) whole_is logged in
      batch_is_one (logged_tables defs a) (gate_behind defs a) c at (fit_there a more c all.fit) (batch_there (empty_tables defs) a more c all.played) (omega (arith, all.near, gate_there a more c))
      (subst (λ (l : List ℕ). IsNoBatch defs (logged_tables defs a) (gate_behind defs a) l at) body_is none)

  -- ---- two readings of a file

  module _ (bytes : List ℕ) where
    same_lanes : (g h : ℕ) (xs ys : List (List ℕ)) → HasBodies g xs bytes → HasBodies h ys bytes → (g ≡ h) × (xs ≡ ys)
    same_lanes g h xs ys first second =
        let is = at_most_one false 0 bytes (lane.Holding g (placed 11 xs)) (lane.Holding h (placed 11 ys)) first second in
        let generation : g ≡ h = cc in
        let batches : placed 11 xs ≡ placed 11 ys = cc in
        (generation, same_bodies xs ys batches)

    not_damaged_lane : (at g : ℕ) (xs : List (List ℕ)) → lane_reads false 0 bytes (lane.DamagedAt at) → HasBodies g xs bytes → ⊥
    not_damaged_lane at g xs first second =
        let is = at_most_one false 0 bytes (lane.DamagedAt at) (lane.Holding g (placed 11 xs)) first second in
        absurd cc

    log_bodies : (tables : Tables) (is : IsLogOf defs tables bytes) → HasBodies 2 (bodies_of defs is.batches) bytes
    log_bodies tables is = reads_lane false 2 0 (bodies_of defs is.batches) bytes (omega arith, refl) is.lane

    -- no batch stands behind the whole log
    none_behind : (a b : List (List RowChange)) (body : List ℕ) (bodies : List (List ℕ)) (at : ℕ) → MayBeLogged defs a → Fit b → bodies_of defs a ≡ bodies_of defs b ++ body ∷ bodies
        → IsNoBatch defs (logged_tables defs b) (gate_behind defs b) body at → ⊥
    none_behind a b body bodies at logged fit e none = elim (joins a b [] (body ∷ bodies) logged.fit fit (append-nil (bodies_of defs a) ∙ e)) [
      | inl same ↦ omega (arith, ap length same.1)
      | inr (inl on) ↦ omega (arith, ap length on.3)
      | inr (inr on) ↦
          let first : body ≡ body_text defs on.0 = let same = on.3 in cc in
          logged_is_one b on.1 on.0 a body at on.2 logged first none
    ]

    two_stops : (a b : List (List RowChange)) (x y : List ℕ) (xs ys : List (List ℕ)) (at at' : ℕ) → MayBeLogged defs a → MayBeLogged defs b → bodies_of defs a ++ x ∷ xs ≡ bodies_of defs b ++ y ∷ ys
        → IsNoBatch defs (logged_tables defs a) (gate_behind defs a) x at → IsNoBatch defs (logged_tables defs b) (gate_behind defs b) y at' → at ≡ at'
    two_stops a b x y xs ys at at' f g e none none' = elim (joins a b (x ∷ xs) (y ∷ ys) f.fit g.fit e) [
      | inl same ↦
          let body : x ≡ y = let both = same.1 in cc in
          let moved = subst (λ (l : List (List RowChange)). IsNoBatch defs (logged_tables defs l) (gate_behind defs l) x at) same.0 none in
          one_place (logged_tables defs b) (gate_behind defs b) y at at' (subst (λ (l : List ℕ). IsNoBatch defs (logged_tables defs b) (gate_behind defs b) l at) body moved) none'
      | inr (inl on) ↦ absurd (logged_is_one a on.1 on.0 b x at on.2 g (let same = on.3 in cc) none)
      | inr (inr on) ↦ absurd (logged_is_one b on.1 on.0 a y at' on.2 f (let same = on.3 in cc) none')
    ]

    nothing_more : (batches : List (List RowChange)) → ReadsOn defs batches [] bytes → HasBodies 2 (bodies_of defs batches) bytes
    nothing_more batches reads = subst (λ (l : List (List ℕ)). HasBodies 2 l bytes) (append-nil (bodies_of defs batches)) reads.lane

    one_damage : (at at' : ℕ) → IsDamagedAt defs bytes at → IsDamagedAt defs bytes at' → at ≡ at'
    one_damage at at' (NoLane first) (NoLane second) = let is = at_most_one false 0 bytes (lane.DamagedAt at) (lane.DamagedAt at') first second in cc
    one_damage at at' (NoLane first) (OtherGeneration g xs has other is) = absurd (not_damaged_lane at g xs first has)
    one_damage at at' (NoLane first) (NoBatch b y ys reads none) = absurd (not_damaged_lane at 2 _ first reads.lane)
    one_damage at at' (NoLane first) (NoGate b reads short is) = absurd (not_damaged_lane at 2 _ first reads.lane)
    one_damage at at' (OtherGeneration g xs has other is) (NoLane second) = absurd (not_damaged_lane at' g xs second has)
    one_damage at at' (OtherGeneration g xs has other is) (OtherGeneration h ys has' other' is') = is ∙ sym is'
    one_damage at at' (OtherGeneration g xs has other is) (NoBatch b y ys reads none) = absurd (other (same_lanes g 2 xs _ has reads.lane).0)
    one_damage at at' (OtherGeneration g xs has other is) (NoGate b reads short is') = absurd (other (same_lanes g 2 xs _ has reads.lane).0)
    one_damage at at' (NoBatch a x xs reads none) (NoLane second) = absurd (not_damaged_lane at' 2 _ second reads.lane)
    one_damage at at' (NoBatch a x xs reads none) (OtherGeneration h ys has other is) = absurd (other (same_lanes h 2 ys _ has reads.lane).0)
    one_damage at at' (NoBatch a x xs reads none) (NoBatch b y ys reads' none') =
        two_stops a b x y xs ys at at' reads.logged reads'.logged (same_lanes 2 2 (bodies_of defs a ++ x ∷ xs) (bodies_of defs b ++ y ∷ ys) reads.lane reads'.lane).1 none none'
    one_damage at at' (NoBatch a x xs reads none) (NoGate b reads' short is) =
        absurd (none_behind b a x xs at reads'.logged reads.logged.fit (same_lanes 2 2 (bodies_of defs b) (bodies_of defs a ++ x ∷ xs) (nothing_more b reads') reads.lane).1 none)
    one_damage at at' (NoGate a reads short is) (NoLane second) = absurd (not_damaged_lane at' 2 _ second reads.lane)
    one_damage at at' (NoGate a reads short is) (OtherGeneration h ys has other is') = absurd (other (same_lanes h 2 ys _ has reads.lane).0)
    one_damage at at' (NoGate a reads short is) (NoBatch b y ys reads' none) =
        absurd (none_behind a b y ys at' reads.logged reads'.logged.fit (same_lanes 2 2 (bodies_of defs a) (bodies_of defs b ++ y ∷ ys) (nothing_more a reads) reads'.lane).1 none)
    one_damage at at' (NoGate a reads short is) (NoGate b reads' short' is') = is ∙ sym is'

    same_runs : (a b : List (List RowChange)) → Fit a → Fit b → bodies_of defs a ≡ bodies_of defs b → a ≡ b
    same_runs [] [] f g e = refl
    same_runs [] (d ∷ b) f g e = absurd (omega (arith, ap length e))
    same_runs (c ∷ a) [] f g e = absurd (omega (arith, ap length e))
    same_runs (c ∷ a) (d ∷ b) f g e =
        let head : body_text defs c ≡ body_text defs d = cc in
        let tail : bodies_of defs a ≡ bodies_of defs b = cc in
        ap (λ (l : List RowChange). l ∷ a) (same_batch c d f.0 g.0 head) ∙ ap (λ (l : List (List RowChange)). d ∷ l) (same_runs a b f.1 g.1 tail)

    log_whole : (tables : Tables) (at : ℕ) → IsLogOf defs tables bytes → IsDamagedAt defs bytes at → ⊥
    log_whole tables at is (NoLane first) = not_damaged_lane at 2 (bodies_of defs is.batches) first (log_bodies tables is)
    log_whole tables at is (OtherGeneration g xs has other at_is) = other (same_lanes g 2 xs (bodies_of defs is.batches) has (log_bodies tables is)).0
    log_whole tables at is (NoBatch b y ys reads none) =
        none_behind is.batches b y ys at is.logged reads.logged.fit (same_lanes 2 2 (bodies_of defs is.batches) (bodies_of defs b ++ y ∷ ys) (log_bodies tables is) reads.lane).1 none
    log_whole tables at is (NoGate b reads short at_is) =
        let same = same_runs is.batches b is.logged.fit reads.logged.fit (same_lanes 2 2 (bodies_of defs is.batches) (bodies_of defs b) (log_bodies tables is) (nothing_more b reads)).1 in
        let inside = gate_inside 2 0 (bodies_of defs is.batches) bytes is.lane in
        omega (arith, short, inside, gate_is_length 0 defs is.batches, ap (gate_behind defs) same)

    damaged_open : (at : ℕ) → IsDamagedAt defs bytes at → IsOpen bytes
    damaged_open at (NoLane first) = first.0
    damaged_open at (OtherGeneration g xs has other is) = has.0
    damaged_open at (NoBatch b y ys reads none) = reads.lane.0
    damaged_open at (NoGate b reads short is) = reads.lane.0

    log_open : (tables : Tables) → IsLogOf defs tables bytes → IsOpen bytes
    log_open tables is = (log_bodies tables is).0

    one_log : (a b : Tables) → IsLogOf defs a bytes → IsLogOf defs b bytes → a ≡ b
    one_log a b first second =
        let same = same_runs first.batches second.batches first.logged.fit second.logged.fit (same_lanes 2 2 (bodies_of defs first.batches) (bodies_of defs second.batches) (log_bodies a first) (log_bodies b second)).1 in
        first.tables_are ∙ ap (logged_tables defs) same ∙ sym second.tables_are

    one_of : (a b : LogRead) → log_reads defs bytes a → log_reads defs bytes b → a ≡ b
    one_of NotOpen NotOpen first second = refl
    one_of NotOpen (DamagedAt at) first second = absurd (first (damaged_open at second))
    one_of NotOpen (Holding tables) first second = absurd (first (log_open tables second))
    one_of (DamagedAt at) NotOpen first second = absurd (second (damaged_open at first))
    one_of (DamagedAt at) (DamagedAt at') first second = ap DamagedAt (one_damage at at' first second)
    one_of (DamagedAt at) (Holding tables) first second = absurd (log_whole tables at second first)
    one_of (Holding tables) NotOpen first second = absurd (second (log_open tables first))
    one_of (Holding tables) (DamagedAt at) first second = absurd (log_whole tables at first second)
    one_of (Holding a) (Holding b) first second = ap Holding (one_log a b first second)

    one_start : (a b : Tables) → BeginsWith defs a bytes → BeginsWith defs b bytes → a ≡ b
    one_start a b (inl first) (inl second) = one_log a b first second
    one_start a b (inl first) (inr second) = absurd (second.0 (log_open a first))
    one_start a b (inr first) (inl second) = absurd (first.0 (log_open b second))
    one_start a b (inr first) (inr second) = first.1 ∙ sym second.1

pub at_most_one_log : (defs : List TableDef) (bytes : List ℕ) (a b : LogRead) → IsSchema defs → log_reads defs bytes a → log_reads defs bytes b → a ≡ b
at_most_one_log defs bytes a b schema first second = one_of defs schema bytes a b first second

pub one_start_alone : (defs : List TableDef) (bytes : List ℕ) (a b : Tables) → IsSchema defs → BeginsWith defs a bytes → BeginsWith defs b bytes → a ≡ b
one_start_alone defs bytes a b schema first second = one_start defs schema bytes a b first second
