-- The bytes of the first changes of a body.
use Rattle.std.proofs.Common.{Result, Ok, ◌≡◌, ◌≢◌, ◌⊎◌, inl, inr, ℕ, zero, suc, ◌+◌, ◌<◌, ◌≤◌, List, [], ◌∷◌, ◌++◌, length, take, drop, refl, sym, ◌∙◌, ap, subst, append_assoc, length-append, arith}
use Rattle.std.proofs.lemmas.List.{append-nil, drop_at}
use Rattle.std.proofs.lemmas.Grind.{flat_map-append}
use Rattle.std.specs.List.{AllByRecursion}
use Rattle.row_types.specs.declared.definition.TableDef.{TableDef}
use Rattle.op_log.specs.Changes.{IsChange, body_text, change_text}
use Rattle.op_log.specs.declared.change.RowChange.{RowChange}
use Rattle.list_store.proofs.Pasts.{all_behind, text_parts}

-- what a reading that succeeded has read
pub len_read : {E : Type 0} (r : Result (RowChange × ℕ) E) (change other : RowChange) (more len : ℕ) → r ≡ Ok (change, more) → r ≡ Ok (other, len) → more ≡ len
len_read {E} r change other more len is e =
    let both : ◌≡◌ {A = Result (RowChange × ℕ) E} (Ok (change, more)) (Ok (other, len)) = sym is ∙ e in
    let pairs : ◌≡◌ {A = RowChange × ℕ} (change, more) (other, len) = cc in
    ap (λ (p : RowChange × ℕ). p.1) pairs

-- a list at one of its places
pub record Parted (changes : List RowChange) (k : ℕ) : Type 0 where
  pub change : RowChange
  pub more : List RowChange
  pub whole : changes ≡ take k changes ++ change ∷ more
  pub next : take (suc k) changes ≡ take k changes ++ change ∷ []

pub parted : (changes : List RowChange) (k : ℕ) → k < length changes → Parted changes k
parted [] k inside = absurd (omega (arith, inside))
parted (change ∷ changes) zero inside = record { change = change; more = changes; whole = refl; next = refl }
parted (change ∷ changes) (suc k) inside =
    let rest = parted changes k (omega (arith, inside)) in
    record {
      change = rest.change;
      more = rest.more;
      whole = ap (λ (l : List RowChange). change ∷ l) rest.whole;
      next = ap (λ (l : List RowChange). change ∷ l) rest.next;
    }

module _ (defs : List TableDef) (body : List ℕ) (changes : List RowChange) (rest : List ℕ) (fit : AllByRecursion (IsChange defs) changes) (text : body ≡ body_text defs changes ++ rest) (k len : ℕ)
    (inside : k < length changes) (len_is : len ≡ length (body_text defs (take k changes))) where
  here : Parted changes k
  here = parted changes k inside

  behind : List ℕ
  behind = body_text defs (parted changes k inside).more ++ rest

  body_is : body ≡ body_text defs (take k changes) ++ (change_text defs (parted changes k inside).change ++ (body_text defs (parted changes k inside).more ++ rest))
  body_is =
      text
      ∙ ap (λ (l : List RowChange). body_text defs l ++ rest) (parted changes k inside).whole
      ∙ text_parts defs (take k changes) (parted changes k inside).more (parted changes k inside).change rest

  pub within : len ≤ length body
  within = omega (arith, len_is, ap length body_is, length-append (body_text defs (take k changes)) (change_text defs (parted changes k inside).change ++ (body_text defs (parted changes k inside).more ++ rest)))

  -- the next change stands there
  pub record NextThere : Type 0 where
    pub change : RowChange
    pub behind : List ℕ
    pub fits : IsChange defs change
    pub there : drop len body ≡ change_text defs change ++ behind
    pub next : len + length (change_text defs change) ≡ length (body_text defs (take (k + 1) changes))

  pub next_there : NextThere
  next_there =
      let change = (parted changes k inside).change in
      let more = (parted changes k inside).more in
      let front = body_text defs (take k changes) in
      let one_more : k + 1 ≡ suc k = omega arith in
      record {
        change = change;
        behind = body_text defs more ++ rest;
        fits = (all_behind (IsChange defs) (take k changes) (change ∷ more) (subst (AllByRecursion (IsChange defs)) (parted changes k inside).whole fit)).0;
        there = ap (drop len) body_is ∙ drop_at front (change_text defs change ++ (body_text defs more ++ rest)) len (sym len_is);
        next =
            omega (
              arith,
              len_is,
              ap (λ (l : List RowChange). length (body_text defs l)) (parted changes k inside).next,
              ap (λ (n : ℕ). length (body_text defs (take n changes))) one_more,
              ap length (flat_map-append (change_text defs) (take k changes) (change ∷ [])),
              length-append front (change_text defs change ++ []),
              ap length (append-nil (change_text defs change)),
            );
      }
