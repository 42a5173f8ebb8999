-- What a push brings to the sink.
use Rattle.std.proofs.Common.{◌≡◌, ℕ, true, false, List, [], ◌∷◌, ◌++◌, take, drop, Option, Some, None, MatchOption, Result, Ok, Err, is_err, refl, sym, ◌∙◌, ap, subst, append_assoc, take-append-drop}
use Rattle.std.proofs.lemmas.List.{append-nil}
use Rattle.std.specs.Option.{option_map}
use Rattle.base_types.specs.Causes.{HasCause, one_more}
use Rattle.io_edge.specs.Pushing.{Pushes}
use Rattle.reply_text.specs.Printed.{IsPrinted}
use Rattle.reply_text.specs.declared.printer.Printer.{Printer}

module _ (start : Option (List ℕ)) (before : ℕ) (text : List ℕ) where
  -- a printer whose sink has failed prints nothing more
  pub still_failed : (p q : Printer) (taken : Option (List ℕ)) (now : ℕ) → p.failed ≡ true → q.failed ≡ true → IsPrinted start before text p taken now → IsPrinted start before (text ++ []) q taken now
  still_failed p q taken now failed stays is = record {
    front = is.front;
    rest = is.rest;
    text_is = append-nil text ∙ is.text_is;
    took = is.took;
    waits = λ works. absurd (let both : true ≡ false = sym stays ∙ works in cc);
    still = λ works. absurd (let both : true ≡ false = sym stays ∙ works in cc);
    cause = λ _. is.cause failed;
  }

  front_taken : (o taken' taken : Option (List ℕ)) (front bytes : List ℕ) → taken ≡ option_map (λ t. t ++ front) o → MatchOption taken (taken' ≡ None) (λ t. (n : ℕ) × (taken' ≡ Some (t ++ take n bytes)))
      → (more rest : List ℕ) × (bytes ≡ more ++ rest) × (taken' ≡ option_map (λ t. t ++ (front ++ more)) o)
  front_taken None taken' taken front bytes took pushed = ([], bytes, refl, subst (λ o. MatchOption o (taken' ≡ None) (λ t. (n : ℕ) × (taken' ≡ Some (t ++ take n bytes)))) took pushed)
  front_taken (Some t) taken' taken front bytes took pushed =
      let some = subst (λ o. MatchOption o (taken' ≡ None) (λ t. (n : ℕ) × (taken' ≡ Some (t ++ take n bytes)))) took pushed in
      (take some.0 bytes, drop some.0 bytes, sym (take-append-drop some.0 bytes), some.1 ∙ ap Some (append_assoc t front (take some.0 bytes)))

  all_taken : (o taken' taken : Option (List ℕ)) (front bytes : List ℕ) → taken ≡ option_map (λ t. t ++ front) o → taken' ≡ option_map (λ t. t ++ bytes) taken → taken' ≡ option_map (λ t. t ++ (front ++ bytes)) o
  all_taken None taken' taken front bytes took pushed = pushed ∙ ap (option_map (λ t. t ++ bytes)) took
  all_taken (Some t) taken' taken front bytes took pushed = pushed ∙ ap (option_map (λ t. t ++ bytes)) took ∙ ap Some (append_assoc t front bytes)

  -- what waited is pushed
  pub pushed : {T E : Type 0} (r : Result T E) (p q : Printer) (bytes : List ℕ) (taken taken' : Option (List ℕ)) (now now' : ℕ) → p.failed ≡ false → bytes ≡ p.page.items → q.page.items ≡ [] → q.failed ≡ is_err r
      → Pushes taken bytes r taken' → HasCause now now' r → IsPrinted start before text p taken now → IsPrinted start before (text ++ []) q taken' now'
  pushed (Ok x) p q bytes taken taken' now now' works waited empty failed push cause is = record {
    front = is.front ++ bytes;
    rest = [];
    text_is = append-nil text ∙ is.text_is ∙ ap (λ (l : List ℕ). is.front ++ l) (is.waits works ∙ sym waited) ∙ sym (append-nil (is.front ++ bytes));
    took = all_taken start taken' taken is.front bytes is.took push;
    waits = λ _. sym empty;
    still = λ _. cause.still ∙ is.still works;
    cause = λ fails. absurd (let both : true ≡ false = sym fails ∙ failed in cc);
  }
  pushed (Err e) p q bytes taken taken' now now' works waited empty failed push cause is =
      let more = front_taken start taken' taken is.front bytes is.took push in
      record {
        front = is.front ++ more.0;
        rest = more.1;
        text_is = append-nil text ∙ is.text_is ∙ ap (λ (l : List ℕ). is.front ++ l) (is.waits works ∙ sym waited ∙ more.2) ∙ sym (append_assoc is.front more.0 more.1);
        took = more.3;
        waits = λ fails. absurd (let both : true ≡ false = sym failed ∙ fails in cc);
        still = λ fails. absurd (let both : true ≡ false = sym failed ∙ fails in cc);
        cause = λ _. cause.failed ∙ ap one_more (is.still works);
      }

-- a printer that begins has printed nothing
pub begins : (p : Printer) (taken : Option (List ℕ)) (now : ℕ) → p.failed ≡ false → p.page.items ≡ [] → IsPrinted taken now [] p taken now
begins p taken now works empty = record {
  front = [];
  rest = [];
  text_is = refl;
  took = nothing_more taken;
  waits = λ _. sym empty;
  still = λ _. refl;
  cause = λ fails. absurd (let both : true ≡ false = sym fails ∙ works in cc);
}
  where
    nothing_more : (o : Option (List ℕ)) → o ≡ option_map (λ t. t ++ []) o
    nothing_more None = refl
    nothing_more (Some t) = ap Some (sym (append-nil t))

-- a byte more waits
pub byte_printed : (start : Option (List ℕ)) (before : ℕ) (text : List ℕ) (b : ℕ) (p q : Printer) (taken : Option (List ℕ)) (now : ℕ) → q.page.items ≡ p.page.items ++ b ∷ [] → q.failed ≡ p.failed → IsPrinted start before text p taken now → IsPrinted start before (text ++ b ∷ []) q taken now
byte_printed start before text b p q taken now items failed is = record {
  front = is.front;
  rest = is.rest ++ b ∷ [];
  text_is = ap (λ (l : List ℕ). l ++ b ∷ []) is.text_is ∙ append_assoc is.front is.rest (b ∷ []);
  took = is.took;
  waits = λ works. ap (λ (l : List ℕ). l ++ b ∷ []) (is.waits (sym failed ∙ works)) ∙ sym items;
  still = λ works. is.still (sym failed ∙ works);
  cause = λ fails. is.cause (sym failed ∙ fails);
}
