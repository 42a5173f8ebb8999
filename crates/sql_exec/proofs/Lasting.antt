-- What is shown of the last rows of a range, window by window from its upper end on.
use Rattle.std.proofs.Common.{append_assoc, ◌≡◌, ℕ, zero, suc, ◌+◌, ◌-◌, ◌<◌, ◌≤◌, min, Bool, true, false, cond, List, [], ◌∷◌, ◌++◌, length, map, take, get_or, reverse, refl, sym, ap, subst, ◌∙◌, arith, Some, Result, Ok}
use Rattle.std.specs.List.{filter}
use Rattle.std.proofs.Math.Seq.{take-append-add}
use Rattle.std.proofs.lemmas.List.{append-nil, length-map, length-take, map-append, reverse-append, take_all, take-append-le, take-map}
use Rattle.std.proofs.lemmas.List.Elements.{filter-append}
use Rattle.row_types.specs.declared.definition.TableDef.{TableDef}
use Rattle.row_types.specs.declared.row.Value.{Value}
use Rattle.row_types.specs.Schema.{keys_at}
use Rattle.key_space.specs.declared.range.Range.{Range}
use Rattle.key_space.specs.Plays.{Rows}
use Rattle.key_space.specs.Ranges.{IsNotEmpty}
use Rattle.sql_check.specs.declared.plan.SelectPlan.{SelectPlan}
use Rattle.plain_model.specs.declared.stop.Stop.{Stop}
use Rattle.plain_model.specs.Calls.{Call}
use Rattle.plain_model.specs.Meaning.{limited}
use Rattle.plain_model.specs.PlanMeaning.{passes_all, put_in_order}
use Rattle.plain_model.specs.Runs.{Since}
use Rattle.sql_exec.specs.declared.window.Width.{Width}
use Rattle.sql_exec.specs.declared.window.Window.{Window}
use Rattle.sql_exec.specs.declared.window.Window.TheVariants.{GivenUp}
use Rattle.sql_exec.specs.Acts.{rows_in}
use Rattle.sql_exec.specs.Bodies.{OnlyForward}
use Rattle.sql_exec.specs.Plays.{OnTable}
use Rattle.sql_exec.specs.Selects.{FoundInOrder, in_columns}
use Rattle.sql_exec.specs.Windows.{FoundLast, last_shown}
use Rattle.sql_exec.proofs.Forward.{forward_since}
use Rattle.sql_exec.proofs.Fronts.{front_more}
use Rattle.sql_exec.proofs.OneTable.{on_after}
use Rattle.sql_exec.proofs.PieceLaws.{rows_split}
use Rattle.sql_exec.proofs.Ranging.{Ordered}
use Rattle.sql_exec.proofs.Reading.{on_ordered}
use Rattle.sql_exec.proofs.Showing.{none_kept, one_kept, passing}

take_short : {A : Type 0} (n : ℕ) (xs : List A) → take n (take (suc n) xs) ≡ take n xs
take_short zero xs = refl
take_short (suc n) [] = refl
take_short (suc n) (x ∷ xs) = ap (λ l. x ∷ l) (take_short n xs)

-- of a list that was cut off already
take_again : {A : Type 0} (n : ℕ) (x : A) (xs : List A) → take n (x ∷ take n xs) ≡ take n (x ∷ xs)
take_again zero x xs = refl
take_again (suc n) x xs = ap (λ l. x ∷ l) (take_short n xs)

module _ (p : SelectPlan) where
  abbrev turned : Rows → Rows
  turned rows = reverse (passing p rows)

  pub last_none : (limit : ℕ) → [] ≡ last_shown p limit []
  last_none zero = refl
  last_none (suc limit) = refl

  -- a row more
  last_more : (wanted : ℕ) (rows : Rows) (row : List Value) (b : Bool) → passes_all p.conditions row ≡ b
      → cond b (take wanted (in_columns p.columns row ∷ last_shown p wanted rows)) (last_shown p wanted rows) ≡ last_shown p wanted (rows ++ row ∷ [])
  last_more wanted rows row true passes =
      take-map (in_columns p.columns) wanted (row ∷ take wanted (turned rows))
      ∙ ap (map (in_columns p.columns)) (take_again wanted row (turned rows))
      ∙ ap (λ (l : Rows). map (in_columns p.columns) (take wanted l)) (sym (reverse-append (passing p rows) (row ∷ [])))
      ∙ ap (λ (l : Rows). map (in_columns p.columns) (take wanted (reverse l))) (sym (one_kept p row rows passes))
  last_more wanted rows row false fails =
      ap (λ (l : Rows). map (in_columns p.columns) (take wanted (reverse l))) (sym (none_kept p row rows fails ∙ append-nil (passing p rows)))

  -- one step through the rows of a piece
  pub last_collected : (wanted : ℕ) (before seen : Rows) (row : List Value) (found next : Rows) → found ≡ last_shown p wanted (before ++ seen)
      → next ≡ cond (passes_all p.conditions row) (take wanted (in_columns p.columns row ∷ found)) found → next ≡ last_shown p wanted (before ++ (seen ++ row ∷ []))
  last_collected wanted before seen row found next so_far is =
      is ∙ ap (λ (l : Rows). cond (passes_all p.conditions row) (take wanted (in_columns p.columns row ∷ l)) l) so_far
      ∙ last_more wanted (before ++ seen) row (passes_all p.conditions row) refl ∙ ap (last_shown p wanted) (append_assoc before seen (row ∷ []))

  turned_on : (below above : Rows) → turned (below ++ above) ≡ turned above ++ turned below
  turned_on below above = ap reverse (filter-append (passes_all p.conditions) below above) ∙ reverse-append (passing p below) (passing p above)

  last_len : (limit : ℕ) (rows : Rows) → length (last_shown p limit rows) ≡ min limit (length (turned rows))
  last_len limit rows = length-map (take limit (turned rows)) (in_columns p.columns) ∙ length-take limit (turned rows)

  -- the rows below come behind those above, where these aren't enough
  pub last_on : (limit wanted : ℕ) (below above : Rows) → wanted ≡ limit - length (last_shown p limit above) → 1 ≤ wanted → last_shown p limit above ++ last_shown p wanted below ≡ last_shown p limit (below ++ above)
  last_on limit wanted below above is some =
      let few : length (turned above) ≤ limit = omega (arith, last_len limit above, is, some) in
      let all : take limit (turned above) ≡ turned above = take_all limit (turned above) few in
      let sum : length (turned above) + wanted ≡ limit = omega (arith, last_len limit above, is, some) in
      ap (λ (l : Rows). map (in_columns p.columns) l ++ last_shown p wanted below) all
      ∙ sym (map-append (in_columns p.columns) (turned above) (take wanted (turned below)))
      ∙ ap (map (in_columns p.columns)) (sym (take-append-add (turned above) (turned below) wanted))
      ∙ ap (λ n. map (in_columns p.columns) (take n (turned above ++ turned below))) sum
      ∙ ap (λ (l : Rows). map (in_columns p.columns) (take limit l)) (sym (turned_on below above))

  -- where they are enough, the rows below add none
  last_enough : (limit : ℕ) (below above : Rows) → limit ≤ length (last_shown p limit above) → last_shown p limit above ≡ last_shown p limit (below ++ above)
  last_enough limit below above many =
      ap (map (in_columns p.columns)) (sym (take-append-le limit (turned above) (turned below) (omega (arith, many, last_len limit above)))) ∙ ap (λ (l : Rows). map (in_columns p.columns) (take limit l)) (sym (turned_on below above))

pub same_width : (a b : Width) → ◌≡◌ {A = Result Window Stop} (Ok (GivenUp a)) (Ok (GivenUp b)) → a ≡ b
same_width a b e = cc

-- ---- in the words of the calls

module _ (defs : List TableDef) (n : ℕ) (p : SelectPlan) (limit : ℕ) (found : Rows) (start old new : List Call) where
  abbrev marks : List ℕ
  marks = keys_at defs n

  -- so many rows are found of those from one key on, up to another
  abbrev pub LastFrom : ℕ → ℕ → Rows → Rows → Type 0
  LastFrom lo end r s = (found ≡ last_shown p limit (rows_in marks lo end r)) × (s ≡ r)

  -- what was found is all that is wanted of the range
  pub last_whole : (lo mid end : ℕ) → lo ≤ mid → mid ≤ end → limit ≤ length found → Since start old → OnTable defs n (LastFrom mid end) start old → OnTable defs n (LastFrom lo end) start old
  last_whole lo mid end low high many since so_far =
      on_ordered defs n (λ r. found ≡ last_shown p limit (rows_in marks mid end r)) (λ r. found ≡ last_shown p limit (rows_in marks lo end r)) start old since
      (λ r order is. is ∙ last_enough p limit (rows_in marks lo mid r) (rows_in marks mid end r) (subst (λ (l : Rows). limit ≤ length l) is many) ∙ ap (last_shown p limit) (sym (rows_split marks lo mid end r low high order.rise))) so_far

  -- a window that was read
  pub last_window : (part : Rows) (wanted lo mid end : ℕ) → lo ≤ mid → mid ≤ end → Since start old → Since old new → wanted ≡ limit - length found → 1 ≤ wanted → OnTable defs n (LastFrom mid end) start old
      → OnTable defs n (λ r s. (part ≡ last_shown p wanted (rows_in marks lo mid r)) × (s ≡ r)) old new → OnTable defs n (λ r s. (found ++ part ≡ last_shown p limit (rows_in marks lo end r)) × (s ≡ r)) start new
  last_window part wanted lo mid end low high earlier since is some so_far read =
      let with_order = on_ordered defs n (λ r. found ≡ last_shown p limit (rows_in marks mid end r)) (λ r. Ordered defs n r × (found ≡ last_shown p limit (rows_in marks mid end r))) start old earlier (λ r order e. (order, e)) so_far in
      on_after defs n (λ r s. (Ordered defs n r × (found ≡ last_shown p limit (rows_in marks mid end r))) × (s ≡ r)) (λ r s. (part ≡ last_shown p wanted (rows_in marks lo mid r)) × (s ≡ r)) (λ r s. (found ++ part ≡ last_shown p limit (rows_in marks lo end r)) × (s ≡ r)) start old new since
      (λ r s t f e. (
        ap (λ (l : Rows). found ++ l) (e.0 ∙ ap (λ (l : Rows). last_shown p wanted (rows_in marks lo mid l)) f.1) ∙ ap (λ (l : Rows). l ++ last_shown p wanted (rows_in marks lo mid r)) f.0.1
            ∙ last_on p limit wanted (rows_in marks lo mid r) (rows_in marks mid end r) (is ∙ ap (λ (l : Rows). limit - length l) f.0.1) some ∙ ap (last_shown p limit) (sym (rows_split marks lo mid end r low high f.0.0.rise)),
        e.1 ∙ f.1,
      )) with_order read

-- the windows from one key on were read, and the next one below them
module _ {defs : List TableDef} {n : ℕ} {start old new : List Call} (p : SelectPlan) (limit wanted : ℕ) (found part : Rows) (window : Range) (mid end : ℕ) (forward : OnlyForward start old) (then_on : OnlyForward old new)
    (so_far : OnTable defs n (λ r s. (found ≡ last_shown p limit (rows_in (keys_at defs n) mid end r)) × (s ≡ r)) start old) (read : OnTable defs n (λ r s. FoundLast (keys_at defs n) window p wanted part r × (s ≡ r)) old new) where
  pub window_read : IsNotEmpty window → window.hi.number + 1 ≡ mid → mid ≤ end → (wanted ≡ limit - length found) × (1 ≤ wanted) → OnTable defs n (λ r s. (found ++ part ≡ last_shown p limit (rows_in (keys_at defs n) window.lo.number end r)) × (s ≡ r)) start new
  window_read some high below facts =
      last_window defs n p limit found start old new part wanted window.lo.number mid end (omega (arith, some, high)) below (forward_since start old forward) (forward_since old new then_on) facts.0 facts.1 so_far
      (subst (λ k. OnTable defs n (λ r s. (part ≡ last_shown p wanted (rows_in (keys_at defs n) window.lo.number k r)) × (s ≡ r)) old new) high read)

-- the last rows of a range that pass are the first in falling order
pub last_in_order : (marks : List ℕ) (p : SelectPlan) (range : Range) (limit : ℕ) (found rows : Rows) → p.is_falling ≡ true → p.limit ≡ Some limit → FoundLast marks range p limit found rows → FoundInOrder marks range p found rows
last_in_order marks p range limit found rows falling most is =
    let kept = filter (passes_all p.conditions) (rows_in marks range.lo.number (range.hi.number + 1) rows) in
    is ∙ ap (λ b. map (in_columns p.columns) (take limit (put_in_order b kept))) (sym falling) ∙ ap (λ o. map (in_columns p.columns) (limited o (put_in_order p.is_falling kept))) (sym most)
