-- What is shown of rows, one row after another.
use Rattle.std.proofs.Common.{◌≡◌, ℕ, zero, suc, ◌+◌, ◌<◌, ◌≤◌, min, Bool, true, false, cond, List, [], ◌∷◌, ◌++◌, length, map, take, drop, get_or, refl, sym, ap, subst, ◌∙◌, arith, append_assoc, Option, None, Some}
use Rattle.std.specs.Prelude.{nat_le}
use Rattle.std.specs.Option.{option_map_or}
use Rattle.std.specs.List.{filter}
use Rattle.std.proofs.lemmas.Bool.{leb-true, leb-false}
use Rattle.std.proofs.lemmas.List.{take_all, take-append-drop, take-append-le, length-take, length-map, length-append, map-append, append-nil}
use Rattle.std.proofs.lemmas.List.Elements.{filter-append}
use Rattle.row_types.specs.declared.row.Value.{Value}
use Rattle.key_space.specs.Plays.{Rows}
use Rattle.sql_check.specs.declared.plan.SelectPlan.{SelectPlan}
use Rattle.plain_model.specs.Meaning.{limited}
use Rattle.plain_model.specs.PlanMeaning.{passes_all}
use Rattle.sql_exec.specs.Selects.{in_columns, shown_of}

abbrev pub enough : Option ℕ → ℕ → Bool
enough wanted count = option_map_or (λ limit. nat_le limit count) wanted false

module _ (p : SelectPlan) where
  abbrev pub passing : Rows → Rows
  passing rows = filter (passes_all p.conditions) rows

  shown_len : (limit : ℕ) (rows : Rows) → length (shown_of p (Some limit) rows) ≡ min limit (length (passing rows))
  shown_len limit rows = length-map (take limit (passing rows)) (in_columns p.columns) ∙ length-take limit (passing rows)

  -- where there are enough, further rows add none
  pub shown_enough : (wanted : Option ℕ) (rows more : Rows) → enough wanted (length (shown_of p wanted rows)) ≡ true → shown_of p wanted (rows ++ more) ≡ shown_of p wanted rows
  shown_enough None rows more e = absurd cc
  shown_enough (Some limit) rows more e =
      let many : limit ≤ length (passing rows) = omega (arith, leb-true limit (length (shown_of p (Some limit) rows)) e, shown_len limit rows) in
      ap (λ (kept : Rows). map (in_columns p.columns) (take limit kept)) (filter-append (passes_all p.conditions) rows more) ∙ ap (map (in_columns p.columns)) (take-append-le limit (passing rows) (passing more) many)

  fewer : (limit : ℕ) (rows : Rows) → enough (Some limit) (length (shown_of p (Some limit) rows)) ≡ false → length (passing rows) < limit
  fewer limit rows e = omega (arith, leb-false limit (length (shown_of p (Some limit) rows)) e, shown_len limit rows)

  pub one_kept : (row : List Value) (rows : Rows) → passes_all p.conditions row ≡ true → passing (rows ++ row ∷ []) ≡ passing rows ++ row ∷ []
  one_kept row rows passes = filter-append (passes_all p.conditions) rows (row ∷ []) ∙ rw passes refl

  pub none_kept : (row : List Value) (rows : Rows) → passes_all p.conditions row ≡ false → passing (rows ++ row ∷ []) ≡ passing rows ++ []
  none_kept row rows fails = filter-append (passes_all p.conditions) rows (row ∷ []) ∙ rw fails refl

  shown_one : (wanted : Option ℕ) (rows : Rows) (row : List Value) → enough wanted (length (shown_of p wanted rows)) ≡ false → limited wanted (passing rows ++ row ∷ []) ≡ limited wanted (passing rows) ++ row ∷ []
  shown_one None rows row e = refl
  shown_one (Some limit) rows row e =
      let few = fewer limit rows e in
      let more : length (passing rows ++ row ∷ []) ≤ limit = omega (arith, few, length-append (passing rows) (row ∷ [])) in
      take_all limit (passing rows ++ row ∷ []) more ∙ ap (λ (l : Rows). l ++ row ∷ []) (sym (take_all limit (passing rows) (omega (arith, few))))

  -- a row more, where there aren't enough
  pub shown_more : (wanted : Option ℕ) (rows : Rows) (row : List Value) → enough wanted (length (shown_of p wanted rows)) ≡ false → (b : Bool) → passes_all p.conditions row ≡ b
      → cond b (shown_of p wanted rows ++ in_columns p.columns row ∷ []) (shown_of p wanted rows) ≡ shown_of p wanted (rows ++ row ∷ [])
  shown_more wanted rows row e true passes =
      sym (ap (λ (kept : Rows). map (in_columns p.columns) (limited wanted kept)) (one_kept row rows passes)
      ∙ ap (map (in_columns p.columns)) (shown_one wanted rows row e) ∙ map-append (in_columns p.columns) (limited wanted (passing rows)) (row ∷ []))
  shown_more wanted rows row e false fails =
      sym (ap (λ (kept : Rows). map (in_columns p.columns) (limited wanted kept)) (none_kept row rows fails ∙ append-nil (passing rows)))

  -- one step through the rows of a piece
  pub collected : (wanted : Option ℕ) (before seen : Rows) (row : List Value) (found next : List (List Value)) → found ≡ shown_of p wanted (before ++ seen) → enough wanted (length found) ≡ false
      → next ≡ cond (passes_all p.conditions row) (found ++ in_columns p.columns row ∷ []) found → next ≡ shown_of p wanted (before ++ (seen ++ row ∷ []))
  collected wanted before seen row found next so_far few is =
      is ∙ ap (λ (l : List (List Value)). cond (passes_all p.conditions row) (l ++ in_columns p.columns row ∷ []) l) so_far
      ∙ shown_more wanted (before ++ seen) row (subst (λ (l : List (List Value)). enough wanted (length l) ≡ false) so_far few) (passes_all p.conditions row) refl
      ∙ ap (shown_of p wanted) (append_assoc before seen (row ∷ []))

  -- a row adds none where there are enough
  pub collected_enough : (wanted : Option ℕ) (before seen : Rows) (row : List Value) (found : List (List Value)) → found ≡ shown_of p wanted (before ++ seen) → enough wanted (length found) ≡ true
      → found ≡ shown_of p wanted (before ++ (seen ++ row ∷ []))
  collected_enough wanted before seen row found so_far many =
      so_far ∙ sym (shown_enough wanted (before ++ seen) (row ∷ []) (subst (λ (l : List (List Value)). enough wanted (length l) ≡ true) so_far many)) ∙ ap (shown_of p wanted) (append_assoc before seen (row ∷ []))

  pub shown_none : (wanted : Option ℕ) → shown_of p wanted [] ≡ []
  shown_none None = refl
  shown_none (Some zero) = refl
  shown_none (Some (suc limit)) = refl
