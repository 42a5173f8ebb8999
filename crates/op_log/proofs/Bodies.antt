-- Bodies, change after change.
use Rattle.std.proofs.Common.{◌≡◌, ℕ, ◌+◌, ◌<◌, ◌≤◌, ◌⊎◌, inl, inr, List, [], ◌∷◌, ◌++◌, length, drop, Result, Ok, Err, refl, sym, ap, ◌∙◌, append_assoc, arith}
use Rattle.std.specs.List.{AllByRecursion}
use Rattle.std.proofs.lemmas.List.{append-nil, drop_all, drop-drop, length-append, length-take, length-drop, take-append-drop}
use Rattle.std.proofs.lemmas.Grind.{flat_map-append}
use Rattle.row_types.specs.declared.definition.TableDef.{TableDef}
use Rattle.row_types.specs.Schema.{IsSchema}
use Rattle.op_log.specs.declared.change.RowChange.{RowChange}
use Rattle.op_log.specs.declared.change.ChangeFault.{ChangeFault}
use Rattle.op_log.specs.declared.change.ChangeFault.TheVariants.{BadChange, OutOfMemory as NoMemory}
use Rattle.op_log.specs.Changes.{change_text, body_text, IsChange, HasNone, IsReadAs, IsFront}
use Rattle.op_log.specs.Bodies.{RunsTo}
use Rattle.op_log.proofs.ChangeLaws.{three_bytes, one}

-- fewer than three bytes begin with no change
pub too_short : (defs : List TableDef) (bytes : List ℕ) → length bytes < 3 → HasNone defs bytes
too_short defs bytes short change rest fits e =
    absurd (omega (arith, short, ap length e, length-append (change_text defs change) rest, three_bytes defs change))

-- bytes of which no change is read begin with none
pub none_of_bad : (defs : List TableDef) (bytes : List ℕ)
    → ((change : RowChange) (rest : List ℕ) → IsChange defs change → bytes ≡ change_text defs change ++ rest
    → (◌≡◌ {A = Result (RowChange × ℕ) ChangeFault} (Err BadChange) (Ok (change, length (change_text defs change)))) ⊎ (◌≡◌ {A = Result (RowChange × ℕ) ChangeFault} (Err BadChange) (Err NoMemory)))
    → HasNone defs bytes
none_of_bad defs bytes reads change rest fits e = elim (reads change rest fits e) [
  | inl same ↦ cc same
  | inr memory ↦ cc memory
]

module _ (defs : List TableDef) (body : List ℕ) where
  pub begins : RunsTo defs body [] 0
  begins = record { fit = tt; text = refl; end_is = refl; inside = omega arith }

  all_and_one : (changes : List RowChange) (change : RowChange) → AllByRecursion (IsChange defs) changes → IsChange defs change → AllByRecursion (IsChange defs) (changes ++ change ∷ [])
  all_and_one [] change all one = (one, tt)
  all_and_one (c ∷ changes) change all one = (all.0, all_and_one changes change all.1 one)

  text_and_one : (changes : List RowChange) (change : RowChange) → body_text defs (changes ++ change ∷ []) ≡ body_text defs changes ++ change_text defs change
  text_and_one changes change =
      flat_map-append (change_text defs) changes (change ∷ []) ∙ ap (λ (l : List ℕ). body_text defs changes ++ l) (append-nil (change_text defs change))

  -- how many bytes a change that was read has
  pub read_len : (bytes : List ℕ) (change : RowChange) (len : ℕ) → IsReadAs defs bytes change len → len ≡ length (change_text defs change)
  read_len bytes change len read = omega (arith, ap length read.text, length-take len bytes, read.inside)

  pub read_some : (bytes : List ℕ) (change : RowChange) (len : ℕ) → IsReadAs defs bytes change len → 3 ≤ len
  read_some bytes change len read = omega (arith, read_len bytes change len read, three_bytes defs change)

  -- one change more
  pub one_more : (changes : List RowChange) (at : ℕ) (change : RowChange) (len : ℕ) → RunsTo defs body changes at → IsReadAs defs (drop at body) change len → RunsTo defs body (changes ++ change ∷ []) (at + len)
  one_more changes at change len so_far read =
      let whole = read_len (drop at body) change len read in
      let behind : drop len (drop at body) ≡ drop (at + len) body = drop-drop len at body ∙ ap (λ n. drop n body) (omega arith) in
      let here : drop at body ≡ change_text defs change ++ drop (at + len) body =
      sym (take-append-drop len (drop at body)) ∙ ap (λ (l : List ℕ). l ++ drop len (drop at body)) read.text ∙ ap (λ (l : List ℕ). change_text defs change ++ l) behind in
      record {
        fit = all_and_one changes change so_far.fit read.fits;
        text =
            so_far.text
            ∙ ap (λ (l : List ℕ). body_text defs changes ++ l) here
            ∙ sym (append_assoc (body_text defs changes) (change_text defs change) (drop (at + len) body))
            ∙ ap (λ (l : List ℕ). l ++ drop (at + len) body) (sym (text_and_one changes change));
        end_is = omega (arith, so_far.end_is, whole, ap length (text_and_one changes change), length-append (body_text defs changes) (change_text defs change));
        inside = omega (arith, so_far.inside, read.inside, length-drop at body);
      }

  -- no change follows
  pub ends : (changes : List RowChange) (at : ℕ) → RunsTo defs body changes at → HasNone defs (drop at body) → IsFront defs body changes at
  ends changes at so_far none = record { fit = so_far.fit; text = so_far.text; end_is = so_far.end_is; last = none }

  pub ends_whole : (changes : List RowChange) (at : ℕ) → RunsTo defs body changes at → length body ≤ at → IsFront defs body changes at
  ends_whole changes at so_far behind = ends changes at so_far (too_short defs (drop at body) (omega (arith, length-drop at body, behind)))

-- ---- a body is read in one way

two_fronts : (defs : List TableDef) (a b : List RowChange) (x y : List ℕ) → IsSchema defs → AllByRecursion (IsChange defs) a → AllByRecursion (IsChange defs) b
    → HasNone defs x → HasNone defs y → body_text defs a ++ x ≡ body_text defs b ++ y → a ≡ b
two_fronts defs [] [] x y schema f g no_x no_y e = refl
two_fronts defs [] (d ∷ b) x y schema f g no_x no_y e =
    absurd (no_x d (body_text defs b ++ y) g.0 (e ∙ append_assoc (change_text defs d) (body_text defs b) y))
two_fronts defs (c ∷ a) [] x y schema f g no_x no_y e =
    absurd (no_y c (body_text defs a ++ x) f.0 (sym e ∙ append_assoc (change_text defs c) (body_text defs a) x))
two_fronts defs (c ∷ a) (d ∷ b) x y schema f g no_x no_y e =
    let heads = one defs c d (body_text defs a ++ x) (body_text defs b ++ y) schema f.0 g.0
    (sym (append_assoc (change_text defs c) (body_text defs a) x) ∙ e ∙ append_assoc (change_text defs d) (body_text defs b) y) in
    ap (λ (l : List RowChange). c ∷ l) (two_fronts defs a b x y schema f.1 g.1 no_x no_y heads.1) ∙ ap (λ (change : RowChange). change ∷ b) heads.0

pub one_way : (defs : List TableDef) (body : List ℕ) (a b : List RowChange) (a_end b_end : ℕ) → IsSchema defs → IsFront defs body a a_end → IsFront defs body b b_end → (a ≡ b) × (a_end ≡ b_end)
one_way defs body a b a_end b_end schema f g =
    let same = two_fronts defs a b (drop a_end body) (drop b_end body) schema f.fit g.fit f.last g.last (sym f.text ∙ g.text) in
    (same, f.end_is ∙ ap (λ l. length (body_text defs l)) same ∙ sym g.end_is)

pub read_again : (defs : List TableDef) (changes : List RowChange) → AllByRecursion (IsChange defs) changes → IsFront defs (body_text defs changes) changes (length (body_text defs changes))
read_again defs changes fit =
    let text = body_text defs changes in
    let none : drop (length text) text ≡ [] = drop_all (length text) text (omega arith) in
    record {
      fit = fit;
      text = sym (append-nil text) ∙ ap (λ (l : List ℕ). text ++ l) (sym none);
      end_is = refl;
      last = too_short defs (drop (length text) text) (omega (arith, ap length none));
    }
