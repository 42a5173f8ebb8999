-- A log file of bytes has a reading.
use Rattle.std.proofs.Common.{◌≡◌, ◌≢◌, ◌⊎◌, inl, inr, ℕ, zero, suc, ◌+◌, ◌^◌, ◌<◌, ◌≤◌, ℤ, Bool, true, false, is_some, IsTrue, List, [], ◌∷◌, ◌++◌, length, map, take, drop, get_or, slice_get, Option, Some, None, Result, Ok, Err, FitsSigned, Fits, refl, sym, ◌∙◌, ap, subst, append_assoc, length-append, length-take, length-drop, arith}
use Rattle.std.specs.List.{AllByRecursion, flat_map}
use Rattle.std.specs.Int.{w16, w64, cast_signed, cast_unsigned, from_le_bytes, to_le_bytes}
use Rattle.std.proofs.Math.Facts.{Fits-of_lt, sfits_to_z}
use Rattle.std.proofs.lemmas.Bool.{cases_eq, cases_lt}
use Rattle.std.proofs.lemmas.Int.{of_z-to_z}
use Rattle.std.proofs.lemmas.Nat.{le_bytes_2, le_bytes_8}
use Rattle.std.proofs.lemmas.List.{append-nil, drop_at, map-append, take_at, take-append-drop}
use Rattle.row_types.specs.Keys.{key_of_int}
use Rattle.row_types.specs.Schema.{IsSchema, columns_at}
use Rattle.row_types.specs.Slot.{IsRowOf, slot_len, slot_text}
use Rattle.row_types.specs.Tables.{TableRows, Tables, schema_of}
use Rattle.row_types.specs.declared.definition.Column.{Column}
use Rattle.row_types.specs.declared.definition.TableDef.{TableDef}
use Rattle.row_types.specs.declared.fault.SlotFault.{SlotFault}
use Rattle.row_types.specs.declared.row.Value.{Value}
use Rattle.row_types.proofs.Bytes.{IsBytes, IsBytes-drop, IsBytes-take}
use Rattle.row_types.specs.Reading.{read_slot}
use Rattle.row_types.specs.Schema.{IsTable, columns_of}
use Rattle.row_types.proofs.SchemaLaws.{table_of_schema}
use Rattle.row_types.proofs.SlotLaws.{slot_again, slot_read}
use Rattle.key_space.specs.Plays.{OfTable, Rows, changed, row_at, with_row, without_key}
use Rattle.op_log.specs.Changes.{HasNone, IsChange, body_text, change_text, headed, number_text}
use Rattle.op_log.specs.declared.change.RowChange.{RowChange}
use Rattle.op_log.specs.declared.change.RowChange.TheVariants.{Put, Del}
use Rattle.op_log.proofs.Bodies.{too_short}
use Rattle.op_log.proofs.ChangeLaws.{length_number, length_slot, same_head, text_del, text_put, three_bytes}
use Rattle.lane_format.specs.Lane.{IsBody, batch_text}
use Rattle.lane_format.specs.LaneRead.{LaneRead, lane_reads, placed}
use Rattle.lane_format.specs.declared.segment.Batch.{Batch}
use Rattle.lane_format.specs.LaneRead as lane
use Rattle.lane_format.proofs.Readings.{has_reading}
use Rattle.call_log.specs.Played.{ArePlayed, BatchesPlayed, IsPlayed, empty_tables, played, played_batches, tables_behind_change}
use Rattle.call_log.specs.History.{bodies_of, gate_behind, log_limit, with_batch}
use Rattle.call_log.proofs.Histories.{batches_played_more, empty_schema, gate_more}
use Rattle.call_log.proofs.Standings.{are_played_more, played_more}
use Rattle.list_store.specs.Log.{HasBodies, IsLogOf, IsNoBatch, LogRead, MayBeLogged, PlaysTo, ReadsOn, log_reads, logged_tables}
use Rattle.list_store.specs.Log.{DamagedAt, EndsLate, Holding, NoBatch, NoChange, NoGate, NoLane, NoRow, NotOpen, OtherGeneration}
use Rattle.list_store.proofs.Lanes.{gate_is_place, whole_lane}
use Rattle.list_store.proofs.Pasts.{batches_push, text_parts}

-- ---- whether a change stands at the front

narrow_of : (found : Option TableDef) → ((def : TableDef) → found ≡ Some def → IsTable def) → slot_len (columns_of found) ≤ 4096
narrow_of None told = omega arith
narrow_of (Some def) told = (told def refl).narrow

narrow_at : (defs : List TableDef) (table : ℕ) → IsSchema defs → slot_len (columns_at defs table) ≤ 4096
narrow_at defs table schema = narrow_of (slice_get defs table) (λ def. table_of_schema defs table def schema)

module _ (defs : List TableDef) (kind table : ℕ) (rest : List ℕ) (small : table < 2 ^ 16) where
  put_there : (t : ℕ) (row : List Value) (more : List ℕ) → IsChange defs (Put t row) → headed kind table rest ≡ change_text defs (Put t row) ++ more → (kind ≡ 1) × (table ≡ t) × (rest ≡ slot_text (columns_at defs t) row ++ more)
  put_there t row more fits e = same_head kind table 1 t rest (slot_text (columns_at defs t) row ++ more) small fits.0.1 (e ∙ text_put defs t row more)

  del_there : (t : ℕ) (n : ℤ) (more : List ℕ) → IsChange defs (Del t n) → headed kind table rest ≡ change_text defs (Del t n) ++ more → (kind ≡ 2) × (table ≡ t) × (rest ≡ number_text n ++ more)
  del_there t n more fits e = same_head kind table 2 t rest (number_text n ++ more) small fits.0.1 (e ∙ text_del defs t n more)

  no_table : length defs ≤ table → HasNone defs (headed kind table rest)
  no_table past (Put t row) more fits e = omega (arith, past, (put_there t row more fits e).1, fits.0.0)
  no_table past (Del t n) more fits e = omega (arith, past, (del_there t n more fits e).1, fits.0.0)

  no_kind : kind ≢ 1 → kind ≢ 2 → HasNone defs (headed kind table rest)
  no_kind put del (Put t row) more fits e = put (put_there t row more fits e).0
  no_kind put del (Del t n) more fits e = del (del_there t n more fits e).0

  no_put : kind ≡ 1 → ((row : List Value) (more : List ℕ) → IsRowOf (columns_at defs table) row → rest ≡ slot_text (columns_at defs table) row ++ more → ⊥) → HasNone defs (headed kind table rest)
  no_put is none (Put t row) more fits e =
      let there = put_there t row more fits e in
      none row more (subst (λ n. IsRowOf (columns_at defs n) row) (sym there.1) fits.1) (there.2 ∙ ap (λ n. slot_text (columns_at defs n) row ++ more) (sym there.1))
  no_put is none (Del t n) more fits e = omega (arith, is, (del_there t n more fits e).0)

  no_del : kind ≡ 2 → length rest < 8 → HasNone defs (headed kind table rest)
  no_del is short (Put t row) more fits e = omega (arith, is, (put_there t row more fits e).0)
  no_del is short (Del t n) more fits e =
      omega (arith, short, ap length (del_there t n more fits e).2, length-append (number_text n) more, length_number n)

number_there : (bytes : List ℕ) → length bytes ≡ 8 → IsBytes bytes → (n : ℤ) × FitsSigned w64 n × (bytes ≡ number_text n)
unfolding number_text
number_there bytes eight are =
    let u = from_le_bytes w64 bytes in
    let small : u < 2 ^ 64 = omega (arith, are 0, are 1, are 2, are 3, are 4, are 5, are 6, are 7) in
    (cast_signed w64 u, sfits_to_z (Fits-of_lt small), sym (ap (to_le_bytes w64) (of_z-to_z w64 u small) ∙ le_bytes_8 bytes u eight are refl))

module _ (defs : List TableDef) (schema : IsSchema defs) where
  abbrev Next : List ℕ → Type 0
  Next bytes = ((change : RowChange) × (rest : List ℕ) × IsChange defs change × (bytes ≡ change_text defs change ++ rest)) ⊎ HasNone defs bytes

  module _ (table : ℕ) (rest : List ℕ) (small : table < 2 ^ 16) (are : IsBytes rest) (inside : table < length defs) where
    slot_there : (columns : List Column) (row : List Value) (more : List ℕ) → IsRowOf columns row → rest ≡ slot_text columns row ++ more → (slot_len columns ≤ length rest) × (take (slot_len columns) rest ≡ slot_text columns row)
    slot_there columns row more fits e =
        let len = length_slot columns row fits in
        (omega (arith, ap length e, len, length-append (slot_text columns row) more), ap (take (slot_len columns)) e ∙ take_at (slot_text columns row) more (slot_len columns) len)

    read_case : (r : Result (Option (List Value)) SlotFault) → slot_len (columns_at defs table) ≤ length rest → read_slot (columns_at defs table) (take (slot_len (columns_at defs table)) rest) ≡ r → Next (headed 1 table rest)
    read_case (Ok (Some row)) whole is =
        let columns = columns_at defs table in
        let slot = take (slot_len columns) rest in
        let behind = drop (slot_len columns) rest in
        let found = slot_read columns slot row (omega (arith, whole, length-take (slot_len columns) rest)) (IsBytes-take (slot_len columns) rest are) is in
        let text : rest ≡ slot_text columns row ++ behind = sym (take-append-drop (slot_len columns) rest) ∙ ap (λ (l : List ℕ). l ++ behind) found.1 in
        inl (Put table row, behind, ((inside, small), found.0), ap (headed 1 table) text ∙ sym (text_put defs table row behind))
    read_case (Ok None) whole is = inr (no_put defs 1 table rest small refl (λ row more fits e.
        let columns = columns_at defs table in
        let both = sym is ∙ ap (read_slot columns) (slot_there columns row more fits e).1 ∙ slot_again columns row (narrow_at defs table schema) fits in
        absurd cc))
    read_case (Err fault) whole is = inr (no_put defs 1 table rest small refl (λ row more fits e.
        let columns = columns_at defs table in
        let both = sym is ∙ ap (read_slot columns) (slot_there columns row more fits e).1 ∙ slot_again columns row (narrow_at defs table schema) fits in
        absurd cc))

    put_case : Next (headed 1 table rest)
    put_case = elim (cases_lt (length rest) (slot_len (columns_at defs table))) [
      | inl short ↦ inr (no_put defs 1 table rest small refl (λ row more fits e. absurd (omega (arith, short, (slot_there (columns_at defs table) row more fits e).0))))
      | inr whole ↦ read_case (read_slot (columns_at defs table) (take (slot_len (columns_at defs table)) rest)) whole refl
    ]

    del_case : Next (headed 2 table rest)
    del_case = elim (cases_lt (length rest) 8) [
      | inl short ↦ inr (no_del defs 2 table rest small refl short)
      | inr whole ↦
          let eight = take 8 rest in
          let found = number_there eight (omega (arith, whole, length-take 8 rest)) (IsBytes-take 8 rest are) in
          let text : rest ≡ number_text found.0 ++ drop 8 rest = sym (take-append-drop 8 rest) ∙ ap (λ (l : List ℕ). l ++ drop 8 rest) found.2 in
          inl (Del table found.0, drop 8 rest, ((inside, small), found.1), ap (headed 2 table) text ∙ sym (text_del defs table found.0 (drop 8 rest)))
    ]

  headed_case : (kind table : ℕ) (rest : List ℕ) → table < 2 ^ 16 → IsBytes rest → Next (headed kind table rest)
  headed_case kind table rest small are = elim (cases_lt table (length defs)) [
    | inr past ↦ inr (no_table defs kind table rest small past)
    | inl inside ↦ elim (cases_eq kind 1) [
      | inl put ↦ subst (λ (k : ℕ). Next (headed k table rest)) (sym put) (put_case table rest small are inside)
      | inr no_one ↦ elim (cases_eq kind 2) [
        | inl del ↦ subst (λ (k : ℕ). Next (headed k table rest)) (sym del) (del_case table rest small are inside)
        | inr no_two ↦ inr (no_kind defs kind table rest small no_one no_two)
      ]
    ]
  ]

  next : (bytes : List ℕ) → IsBytes bytes → Next bytes
  next [] are = inr (too_short defs [] (omega arith))
  next (a ∷ []) are = inr (too_short defs (a ∷ []) (omega arith))
  next (a ∷ b ∷ []) are = inr (too_short defs (a ∷ b ∷ []) (omega arith))
  next (kind ∷ low ∷ high ∷ rest) are =
      let two : List ℕ = low ∷ high ∷ [] in
      let table = from_le_bytes w16 (low ∷ high ∷ []) in
      let small : table < 2 ^ 16 = omega (arith, are 1, are 2) in
      let bytes_of : (i : ℕ) → get_or two i 0 < 256 = two_bytes low high (are 1) (are 2) in
      let same : to_le_bytes w16 table ≡ two = le_bytes_2 two table refl bytes_of refl in
      subst Next (ap (λ (l : List ℕ). kind ∷ l ++ rest) same) (headed_case kind table rest small (λ i. are (suc (suc (suc i)))))
    where
      two_bytes : (low high : ℕ) → low < 256 → high < 256 → (i : ℕ) → get_or (low ∷ high ∷ []) i 0 < 256
      two_bytes low high l h zero = l
      two_bytes low high l h (suc zero) = h
      two_bytes low high l h (suc (suc i)) = omega arith

-- ---- whether a change can be played

schema_changed : (tables : Tables) (n : ℕ) (f : TableRows → Rows) → schema_of (changed tables n f) ≡ schema_of tables
schema_changed [] n f = refl
schema_changed (t ∷ tables) zero f = refl
schema_changed (t ∷ tables) (suc n) f = ap (λ (l : List TableDef). t.def ∷ l) (schema_changed tables n f)

schema_behind : (tables : Tables) (change : RowChange) → schema_of (tables_behind_change tables change) ≡ schema_of tables
schema_behind tables (Put table row) = schema_changed tables table (λ t. with_row t.def.keys t.rows row)
schema_behind tables (Del table number) = schema_changed tables table (λ t. without_key t.def.keys t.rows (key_of_int number))

schema_played : (tables : Tables) (changes : List RowChange) → schema_of (played tables changes) ≡ schema_of tables
schema_played tables [] = refl
schema_played tables (change ∷ changes) = schema_played (tables_behind_change tables change) changes ∙ schema_behind tables change

put_is_played : (tables : Tables) (n : ℕ) (row : List Value) → n < length (schema_of tables) → IsRowOf (columns_at (schema_of tables) n) row → OfTable tables n (λ t. IsRowOf t.def.columns row)
put_is_played [] n row inside fits = absurd (omega (arith, inside))
put_is_played (t ∷ tables) zero row inside fits = fits
put_is_played (t ∷ tables) (suc n) row inside fits = put_is_played tables n row (omega (arith, inside)) fits

bool_case : (b : Bool) → IsTrue b ⊎ (¬ (IsTrue b))
bool_case true = inl refl
bool_case false = inr (λ is. let never : false ≡ true = is in absurd cc)

there_or_not : (tables : Tables) (n key : ℕ) → OfTable tables n (λ t. IsTrue (is_some (row_at t.def.keys t.rows key))) ⊎ (¬ (OfTable tables n (λ t. IsTrue (is_some (row_at t.def.keys t.rows key)))))
there_or_not [] n key = inr (λ is. is)
there_or_not (t ∷ tables) zero key = bool_case (is_some (row_at t.def.keys t.rows key))
there_or_not (t ∷ tables) (suc n) key = there_or_not tables n key

played_or_not : (defs : List TableDef) (tables : Tables) (change : RowChange) → schema_of tables ≡ defs → IsChange defs change → IsPlayed tables change ⊎ (¬ (IsPlayed tables change))
played_or_not defs tables (Put table row) is fits =
    inl (put_is_played tables table row (subst (λ (l : List TableDef). table < length l) (sym is) fits.0.0) (subst (λ (l : List TableDef). IsRowOf (columns_at l table) row) (sym is) fits.1))
played_or_not defs tables (Del table number) is fits = there_or_not tables table (key_of_int number)

-- ---- whether a body is a batch

module _ (defs : List TableDef) (schema : IsSchema defs) (tables : Tables) (of_defs : schema_of tables ≡ defs) (gate : ℕ) (body : List ℕ) (near : gate + 5 + length body ≤ log_limit) where
  abbrev Judged : Type 0
  Judged = ((batch : List RowChange) × PlaysTo defs tables body batch []) ⊎ ((at : ℕ) × IsNoBatch defs tables gate body at)

  fit_more : (changes : List RowChange) (change : RowChange) → AllByRecursion (IsChange defs) changes → IsChange defs change → AllByRecursion (IsChange defs) (changes ++ change ∷ [])
  fit_more [] change all fits = (fits, tt)
  fit_more (c ∷ changes) change all fits = (all.0, fit_more changes change all.1 fits)

  plays_more : (changes : List RowChange) (change : RowChange) (rest behind : List ℕ) → PlaysTo defs tables body changes rest → IsChange defs change → IsPlayed (played tables changes) change → rest ≡ change_text defs change ++ behind
      → PlaysTo defs tables body (changes ++ change ∷ []) behind
  plays_more changes change rest behind plays fits play is = record {
    fit = fit_more changes change plays.fit fits;
    text = plays.text ∙ ap (λ (l : List ℕ). body_text defs changes ++ l) is ∙ sym (text_parts defs changes [] change behind);
    played = are_played_more tables changes change plays.played play;
  }

  judge : (fuel : ℕ) (changes : List RowChange) (rest : List ℕ) → PlaysTo defs tables body changes rest → IsBytes rest → length rest ≤ fuel → Judged
  judge fuel changes [] plays are short = inl (changes, plays)
  judge zero changes (b ∷ rest) plays are short = absurd (omega (arith, short))
  judge (suc fuel) changes (b ∷ rest) plays are short = elim (next defs schema (b ∷ rest) are) [
    | inr none ↦ inr (gate + 5 + length (body_text defs changes), NoChange changes (b ∷ rest) near plays (omega arith) none refl)
    | inl found ↦ elim (played_or_not defs (played tables changes) found.0 (schema_played tables changes ∙ of_defs) found.2) [
      | inl play ↦
          let behind_are : IsBytes found.1 = subst IsBytes (ap (drop (length (change_text defs found.0))) found.3 ∙ drop_at (change_text defs found.0) found.1 (length (change_text defs found.0)) refl) (IsBytes-drop (length (change_text defs found.0)) (b ∷ rest) are) in
          judge fuel (changes ++ found.0 ∷ []) found.1 (plays_more changes found.0 (b ∷ rest) found.1 plays found.2 play found.3) behind_are
          (omega (arith, short, ap length found.3, length-append (change_text defs found.0) found.1, three_bytes defs found.0))
      | inr not ↦
          inr (gate + 5 + length (body_text defs changes), NoRow changes found.0 found.1 near (subst (PlaysTo defs tables body changes) found.3 plays) found.2 not refl)
    ]
  ]

  judged : IsBytes body → Judged
  judged are = judge (length body) [] body (record { fit = tt; text = refl; played = tt }) are (omega arith)

-- ---- whether a file is a log

body_behind : (body : List ℕ) → drop 5 (batch_text body) ≡ body
unfolding batch_text
body_behind body = refl

module _ (defs : List TableDef) (schema : IsSchema defs) (bytes : List ℕ) where
  abbrev Found : Type 0
  Found = (read : LogRead) × log_reads defs bytes read

  abbrev AreBytes : List (List ℕ) → Type 0
  AreBytes bodies = AllByRecursion IsBytes bodies

  batches_fit_more : (batches : List (List RowChange)) (batch : List RowChange) → AllByRecursion (AllByRecursion (IsChange defs)) batches → AllByRecursion (IsChange defs) batch → AllByRecursion (AllByRecursion (IsChange defs)) (batches ++ batch ∷ [])
  batches_fit_more [] batch all fits = (fits, tt)
  batches_fit_more (b ∷ batches) batch all fits = (all.0, batches_fit_more batches batch all.1 fits)

  schema_batches : (tables : Tables) (batches : List (List RowChange)) → schema_of (played_batches tables batches) ≡ schema_of tables
  schema_batches tables [] = refl
  schema_batches tables (batch ∷ batches) = schema_batches (played tables batch) batches ∙ schema_played tables batch

  -- a batch more
  reads_more : (batches : List (List RowChange)) (body : List ℕ) (bodies : List (List ℕ)) (batch : List RowChange) → ReadsOn defs batches (body ∷ bodies) bytes → 1 ≤ length body → gate_behind defs batches + 5 + length body ≤ log_limit
      → PlaysTo defs (logged_tables defs batches) body batch [] → ReadsOn defs (batches ++ batch ∷ []) bodies bytes
  reads_more batches body bodies batch reads some near plays =
      let text : body ≡ body_text defs batch = plays.text ∙ append-nil (body_text defs batch) in
      let there : batch ≢ [] = λ is. omega (arith, some, ap length text, ap (λ (l : List RowChange). length (body_text defs l)) is) in
      let push = batches_push batches batch there in
      record {
        logged = record {
          fit = batches_fit_more batches batch reads.logged.fit plays.fit;
          near = omega (arith, near, ap length text, gate_more defs batches batch there, ap (gate_behind defs) push);
          played = subst (BatchesPlayed (empty_tables defs)) push (batches_played_more (empty_tables defs) batches batch reads.logged.played plays.played);
        };
        lane = subst (λ (l : List (List ℕ)). HasBodies 2 l bytes)
            (ap (λ (l : List ℕ). bodies_of defs batches ++ l ∷ bodies) text ∙ sym (append_assoc (bodies_of defs batches) (body_text defs batch ∷ []) bodies) ∙ ap (λ (l : List (List ℕ)). l ++ bodies) (sym (map-append (body_text defs) batches (batch ∷ []))))
            reads.lane;
      }

  walk : (batches : List (List RowChange)) (bodies : List (List ℕ)) → ReadsOn defs batches bodies bytes → AreBytes bodies → AllByRecursion (λ body. 1 ≤ length body) bodies → Found
  walk batches [] reads are some = elim (cases_lt (gate_behind defs batches) (length bytes)) [
    | inl inside ↦
        let has : HasBodies 2 (bodies_of defs batches) bytes = subst (λ (l : List (List ℕ)). HasBodies 2 l bytes) (append-nil (bodies_of defs batches)) reads.lane in (
          Holding (logged_tables defs batches),
          record {
            batches = batches;
            logged = reads.logged;
            tables_are = refl;
            lane = whole_lane (bodies_of defs batches) bytes has (omega (arith, inside, gate_is_place defs batches));
          },
        )
    | inr short ↦ (DamagedAt 11, NoGate batches reads short refl)
  ]
  walk batches (body ∷ bodies) reads are some = elim (cases_lt log_limit (gate_behind defs batches + 5 + length body)) [
    | inl late ↦ (DamagedAt (gate_behind defs batches), NoBatch batches body bodies reads (EndsLate late refl))
    | inr near ↦ elim (judged defs schema (logged_tables defs batches) (schema_batches (empty_tables defs) batches ∙ empty_schema defs) (gate_behind defs batches) body near are.0) [
      | inl whole ↦ walk (batches ++ whole.0 ∷ []) bodies (reads_more batches body bodies whole.0 reads some.0 near whole.1) are.1 some.1
      | inr none ↦ (DamagedAt none.0, NoBatch batches body bodies reads none.1)
    ]
  ]

  -- the bodies of a file of bytes are bytes
  bodies_are_bytes : (bodies : List (List ℕ)) (rest : List ℕ) → IsBytes (flat_map batch_text bodies ++ rest) → AreBytes bodies
  bodies_are_bytes [] rest are = tt
  bodies_are_bytes (body ∷ bodies) rest are =
      let flat = flat_map batch_text bodies in
      let text : batch_text body ++ (flat ++ rest) ≡ flat_map batch_text (body ∷ bodies) ++ rest = sym (append_assoc (batch_text body) flat rest) in
      let whole : IsBytes (batch_text body ++ (flat ++ rest)) = subst IsBytes (sym text) are in
      let n = length (batch_text body) in
      let first : IsBytes (batch_text body) = subst IsBytes (take_at (batch_text body) (flat ++ rest) n refl) (IsBytes-take n (batch_text body ++ (flat ++ rest)) whole) in
      let behind : IsBytes (flat ++ rest) = subst IsBytes (drop_at (batch_text body) (flat ++ rest) n refl) (IsBytes-drop n (batch_text body ++ (flat ++ rest)) whole) in
      (subst IsBytes (body_behind body) (IsBytes-drop 5 (batch_text body) first), bodies_are_bytes bodies rest behind)

  bodies_are_some : (bodies : List (List ℕ)) → AllByRecursion IsBody bodies → AllByRecursion (λ body. 1 ≤ length body) bodies
  bodies_are_some [] fit = tt
  bodies_are_some (body ∷ bodies) fit = (fit.0.0, bodies_are_some bodies fit.1)

  whole_case : (generation : ℕ) (batches : List Batch) → IsBytes bytes → lane_reads false 0 bytes (lane.Holding generation batches) → Found
  whole_case generation batches are reads =
      let bodies = reads.1.bodies in
      let has : HasBodies generation bodies bytes = subst (λ (l : List Batch). lane_reads false 0 bytes (lane.Holding generation l)) reads.1.batches_are reads in
      elim (cases_eq generation 2) [
        | inr other ↦ (DamagedAt 1, OtherGeneration generation bodies has other refl)
        | inl is ↦
            walk [] bodies (record { logged = record { fit = tt; near = omega arith; played = tt }; lane = subst (λ (n : ℕ). HasBodies n bodies bytes) is has })
            (bodies_are_bytes bodies reads.1.rest (subst IsBytes reads.1.text.text (IsBytes-drop 11 bytes are)))
            (bodies_are_some bodies reads.1.text.fit)
      ]

  from_lane : (read : LaneRead) → IsBytes bytes → lane_reads false 0 bytes read → Found
  from_lane lane.NotOpen are reads = (NotOpen, reads)
  from_lane (lane.DamagedAt at) are reads = (DamagedAt at, NoLane reads)
  from_lane (lane.Holding generation batches) are reads = whole_case generation batches are reads

pub has_log_reading : (defs : List TableDef) (bytes : List ℕ) → IsSchema defs → ((i : ℕ) → get_or bytes i 0 < 256) → (read : LogRead) × log_reads defs bytes read
has_log_reading defs bytes schema are =
    let read = has_reading false 0 bytes are in
    from_lane defs schema bytes read.0 are read.1
