-- What a keeper's calls make of a log.
use Rattle.std.proofs.Common.{Bool, true, false, IsTrue, ◌≡◌, ◌≢◌, ◌⊎◌, inl, inr, map, ℕ, zero, suc, ◌+◌, ◌<◌, ◌≤◌, List, [], ◌∷◌, ◌++◌, length, take, drop, refl, sym, ◌∙◌, ap, subst, append_assoc, length-append, length-drop, arith}
use Rattle.std.proofs.lemmas.List.{append-nil, drop_all, map-append}
use Rattle.std.proofs.lemmas.Grind.{flat_map-append}
use Rattle.std.specs.Prelude.{◌↔◌}
use Rattle.std.proofs.lemmas.Bool.{cases_lt}
use Rattle.std.specs.List.{AllByRecursion}
use Rattle.row_types.specs.declared.definition.TableDef.{TableDef}
use Rattle.row_types.specs.Tables.{Tables}
use Rattle.op_log.specs.Changes.{IsChange, IsFront, body_text, change_text}
use Rattle.op_log.specs.declared.change.RowChange.{RowChange}
use Rattle.op_log.proofs.ChangeLaws.{three_bytes}
use Rattle.lane_format.specs.Lane.{IsLane}
use Rattle.call_log.specs.Played.{ArePlayed, IsPlayed, empty_tables, played, tables_behind_change}
use Rattle.call_log.specs.History.{batches_of, bodies_of, gate_behind, log_limit, with_batch}
use Rattle.call_log.proofs.Histories.{batches_played, settled_is_played}
use Rattle.txn_rows.specs.Rows.{StopsAt}
use Rattle.list_keeper.specs.Past.{IsPast, Told, tables_in}
use Rattle.list_store.specs.Log.{IsLogOf, IsNoBatch, MayBeLogged, NoChange, NoRow, PlaysTo, logged_tables}

-- its batches may be logged, and leave the tables that it has
pub logged_of : (told : Told) → IsPast told → MayBeLogged told.defs (batches_of told.calls)
logged_of told past = record {
  fit = past.fit;
  near = omega (arith, past.few);
  played = batches_played told.defs (empty_tables told.defs) told.calls past.history.ordered past.history.plays;
}

pub tables_are_logged : (told : Told) → IsPast told → tables_in told ≡ logged_tables told.defs (batches_of told.calls)
tables_are_logged told past = settled_is_played told.defs (empty_tables told.defs) told.calls past.history.ordered past.history.plays

pub log_of_lane : (told : Told) → IsPast told → (image : List ℕ) → IsLane 2 0 (bodies_of told.defs (batches_of told.calls)) image → IsLogOf told.defs (tables_in told) image
log_of_lane told past image lane = record {
  batches = batches_of told.calls;
  logged = logged_of told past;
  tables_are = tables_are_logged told past;
  lane = lane;
}

-- there are changes, or none
pub has_batch : (batch : List RowChange) → (batch ≡ []) ⊎ (batch ≢ [])
has_batch [] = inl refl
has_batch (change ∷ changes) = inr (λ is. cc)

-- one batch more
pub batches_push : (batches : List (List RowChange)) (batch : List RowChange) → batch ≢ [] → with_batch batches batch ≡ batches ++ batch ∷ []
batches_push batches [] some = absurd (some refl)
batches_push batches (change ∷ changes) some = refl

pub bodies_push : (defs : List TableDef) (batches : List (List RowChange)) (batch : List RowChange) → batch ≢ [] → bodies_of defs batches ++ body_text defs batch ∷ [] ≡ bodies_of defs (with_batch batches batch)
bodies_push defs batches batch some =
    sym (map-append (body_text defs) batches (batch ∷ [])) ∙ ap (bodies_of defs) (sym (batches_push batches batch some))

-- ---- where a batch can't be played

-- the change of this number can't be played, and those before it can
pub record StopIs (tables : Tables) (changes : List RowChange) (index : ℕ) : Type 0 where
  pub change : RowChange
  pub more : List RowChange
  pub inside : index < length changes
  pub changes_are : changes ≡ take index changes ++ change ∷ more
  pub played_are : ArePlayed tables (take index changes)
  pub not_played : ¬ (IsPlayed (played tables (take index changes)) change)

pub stop_is : (tables : Tables) (changes : List RowChange) (index : ℕ) → StopsAt tables changes index → StopIs tables changes index
stop_is tables [] index stops = absurd stops
stop_is tables (change ∷ changes) zero stops = record {
  change = change;
  more = changes;
  inside = omega arith;
  changes_are = refl;
  played_are = tt;
  not_played = stops;
}
stop_is tables (change ∷ changes) (suc index) stops =
    let rest = stop_is (tables_behind_change tables change) changes index stops.1 in
    record {
      change = rest.change;
      more = rest.more;
      inside = omega (arith, rest.inside);
      changes_are = ap (λ (l : List RowChange). change ∷ l) rest.changes_are;
      played_are = (stops.0, rest.played_are);
      not_played = rest.not_played;
    }

pub all_front : (P : RowChange → Type 0) (xs ys : List RowChange) → AllByRecursion P (xs ++ ys) → AllByRecursion P xs
all_front P [] ys all = tt
all_front P (x ∷ xs) ys all = (all.0, all_front P xs ys all.1)

pub all_behind : (P : RowChange → Type 0) (xs ys : List RowChange) → AllByRecursion P (xs ++ ys) → AllByRecursion P ys
all_behind P [] ys all = all
all_behind P (x ∷ xs) ys all = all_behind P xs ys all.1

pub text_parts : (defs : List TableDef) (changes more : List RowChange) (change : RowChange) (rest : List ℕ)
    → body_text defs (changes ++ change ∷ more) ++ rest ≡ body_text defs changes ++ (change_text defs change ++ (body_text defs more ++ rest))
text_parts defs changes more change rest =
    ap (λ (l : List ℕ). l ++ rest) (flat_map-append (change_text defs) changes (change ∷ more))
    ∙ append_assoc (body_text defs changes) (change_text defs change ++ body_text defs more) rest
    ∙ ap (λ (l : List ℕ). body_text defs changes ++ l) (append_assoc (change_text defs change) (body_text defs more) rest)

module _ (defs : List TableDef) (tables : Tables) (gate : ℕ) (body : List ℕ) (changes : List RowChange) (end : ℕ) (front : IsFront defs body changes end) (near : gate + 5 + length body ≤ log_limit) where
  -- a change takes a row away that isn't there
  pub no_row : (index at : ℕ) → StopsAt tables changes index → at ≡ gate + 5 + length (body_text defs (take index changes)) → IsNoBatch defs tables gate body at
  no_row index at stops is =
      let stop = stop_is tables changes index stops in
      let first = take index changes in
      let rest = body_text defs stop.more ++ drop end body in
      let fit : AllByRecursion (IsChange defs) (first ++ stop.change ∷ stop.more) = subst (AllByRecursion (IsChange defs)) stop.changes_are front.fit in
      NoRow first stop.change rest near
      (record {
        fit = all_front (IsChange defs) first (stop.change ∷ stop.more) fit;
        text = front.text ∙ ap (λ (l : List RowChange). body_text defs l ++ drop end body) stop.changes_are ∙ text_parts defs first stop.more stop.change (drop end body);
        played = stop.played_are;
      })
      (all_behind (IsChange defs) first (stop.change ∷ stop.more) fit).0 stop.not_played is

  -- behind changes that can be played stands no change
  pub no_change : (at : ℕ) → ArePlayed tables changes → end < length body → at ≡ gate + 5 + end → IsNoBatch defs tables gate body at
  no_change at plays short is =
      NoChange changes (drop end body) near (record { fit = front.fit; text = front.text; played = plays }) (omega (arith, short, length-drop end body)) front.last (omega (arith, is, front.end_is))

  -- no change stands at the front
  none_there : (changes' : List RowChange) → changes ≡ changes' → end ≡ 0 → ArePlayed tables changes
  none_there [] is none = subst (ArePlayed tables) (sym is) tt
  none_there (change ∷ more) is none =
      absurd (omega (arith, none, front.end_is, ap (λ (l : List RowChange). length (body_text defs l)) is, length-append (change_text defs change) (body_text defs more), three_bytes defs change))

  pub no_first : (at : ℕ) → end ≡ 0 → 1 ≤ length body → at ≡ gate + 5 → IsNoBatch defs tables gate body at
  no_first at none some is = no_change at (none_there changes refl none) (omega (arith, none, some)) (omega (arith, none, is))

  -- where no byte is left the body is the changes' text
  pub whole_body : length body ≤ end → body ≡ body_text defs changes
  whole_body behind =
      front.text ∙ ap (λ (l : List ℕ). body_text defs changes ++ l) (drop_all end body behind) ∙ append-nil (body_text defs changes)

  pub some_there : 1 ≤ end → changes ≢ []
  some_there some none = omega (arith, some, front.end_is, ap (λ (l : List RowChange). length (body_text defs l)) none)

-- a body that doesn't end late
pub not_late : (late : Bool) (end : ℕ) → (IsTrue late ↔ (log_limit < end)) → late ≡ false → end ≤ log_limit
not_late late end tells is = elim (cases_lt log_limit end) [
  | inl past ↦ let never : true ≡ false = sym (tells.1 past) ∙ is in absurd cc
  | inr near ↦ near
]
