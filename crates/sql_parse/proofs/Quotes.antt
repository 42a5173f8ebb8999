-- What stands in a literal, up to its first quote and from there on.
use Rattle.std.proofs.Common.{◌≡◌, ℕ, ◌+◌, ◌<◌, ◌≤◌, Bool, true, false, not, cond, eqb, List, [], ◌∷◌, ◌++◌, length, get_or, take, drop, refl, sym, ap, ◌∙◌, arith}
use Rattle.std.specs.List.{prefix_len}
use Rattle.std.proofs.lemmas.List.Sums.{prefix_len_stops}
use Rattle.std.proofs.lemmas.Bool.{not-false}
use Rattle.std.proofs.Math.Numerals.{one-add, add-one}
use Rattle.std.proofs.lemmas.Bool.Decides.{Decides-eqb}
use Rattle.sql_lex.specs.Spelling.{doubled}
use Rattle.sql_parse.specs.Quotes.{unquoted, behind_quote}

abbrev plain : ℕ → Bool
plain b = not (eqb b 39)

step_quote : (b : ℕ) (bs : List ℕ) → eqb b 39 ≡ true → unquoted (b ∷ bs) ≡ b ∷ unquoted (behind_quote bs)
step_quote b [] e = refl
step_quote b (c ∷ cs) e = step_second b c cs (eqb c 39) e refl where
  step_second : (b c : ℕ) (cs : List ℕ) (q : Bool) → eqb b 39 ≡ true → eqb c 39 ≡ q → unquoted (b ∷ c ∷ cs) ≡ b ∷ unquoted (behind_quote (c ∷ cs))
  step_second b c cs true e f = rw (e, f) (ap (λ x. x ∷ unquoted cs) (sym ((Decides-eqb b 39).0 e)))
  step_second b c cs false e f = rw (e, f) refl

step_plain : (b : ℕ) (bs : List ℕ) → eqb b 39 ≡ false → unquoted (b ∷ bs) ≡ b ∷ unquoted bs
step_plain b [] e = refl
step_plain b (c ∷ cs) e = rw e refl

abbrev first_quote : List ℕ → ℕ
first_quote xs = prefix_len plain xs

-- up to the first quote the text is as it stands
pub unquoted_next : (xs : List ℕ) (n : ℕ) → n ≡ prefix_len (λ (b : ℕ). not (eqb b 39)) xs → n < length xs → unquoted xs ≡ take (n + 1) xs ++ unquoted (behind_quote (drop (n + 1) xs))
unquoted_next [] n is inside = absurd (omega arith)
unquoted_next (b ∷ bs) n is inside = next_at b bs n (eqb b 39) refl is inside (unquoted_next bs) where
  next_at : (b : ℕ) (bs : List ℕ) (n : ℕ) (q : Bool) → eqb b 39 ≡ q → n ≡ cond (not (eqb b 39)) (1 + first_quote bs) 0 → n < length (b ∷ bs) → ((m : ℕ) → m ≡ first_quote bs → m < length bs → unquoted bs ≡ take (m + 1) bs ++ unquoted (behind_quote (drop (m + 1) bs))) → unquoted (b ∷ bs) ≡ take (n + 1) (b ∷ bs) ++ unquoted (behind_quote (drop (n + 1) (b ∷ bs)))
  next_at b bs n true e is inside rec = let zero_is : n ≡ 0 = is ∙ ap (λ q. cond (not q) (1 + first_quote bs) 0) e in rw (zero_is, step_quote b bs e) refl
  next_at b bs n false e is inside rec =
      let m = first_quote bs in
      let n_is : n ≡ 1 + m = is ∙ ap (λ q. cond (not q) (1 + first_quote bs) 0) e in
      let rest = rec m refl (omega arith) in
      rw (n_is, one-add, add-one, step_plain b bs e) (rw add-one at (ap (λ l. b ∷ l) rest))

-- a text without a quote is as it stands
pub unquoted_end : (xs : List ℕ) → length xs ≤ prefix_len (λ (b : ℕ). not (eqb b 39)) xs → unquoted xs ≡ xs
unquoted_end [] enough = refl
unquoted_end (b ∷ bs) enough = end_at b bs (eqb b 39) refl enough (unquoted_end bs) where
  end_at : (b : ℕ) (bs : List ℕ) (q : Bool) → eqb b 39 ≡ q → length (b ∷ bs) ≤ cond (not (eqb b 39)) (1 + first_quote bs) 0 → (length bs ≤ first_quote bs → unquoted bs ≡ bs) → unquoted (b ∷ bs) ≡ b ∷ bs
  end_at b bs true e enough rec = absurd (let le : length (b ∷ bs) ≤ 0 = rw e at enough in omega arith)
  end_at b bs false e enough rec = let le : length (b ∷ bs) ≤ 1 + first_quote bs = rw e at enough in step_plain b bs e ∙ ap (λ l. b ∷ l) (rec (omega arith))

pub nonempty : (xs : List ℕ) → eqb (length xs) 0 ≡ false → 0 < length xs
nonempty [] e = absurd (cc)
nonempty (x ∷ xs) e = omega arith

-- a quote stands where the first quote is found
pub quote_found : (xs : List ℕ) (n : ℕ) → n ≡ prefix_len (λ (b : ℕ). not (eqb b 39)) xs → n < length xs → get_or xs n 0 ≡ 39
quote_found xs n is inside =
    let stops = prefix_len_stops plain xs 0 (omega (arith, is)) in
    ap (λ m. get_or xs m 0) is ∙ (Decides-eqb _ 39).0 (not-false _ stops)

-- a text with each quote in it twice is read as that text
pub unquoted_doubled : (text : List ℕ) → unquoted (doubled text) ≡ text
unquoted_doubled [] = refl
unquoted_doubled (b ∷ bs) = doubled_at b bs (eqb b 39) refl (unquoted_doubled bs) where
  doubled_at : (b : ℕ) (bs : List ℕ) (q : Bool) → eqb b 39 ≡ q → unquoted (doubled bs) ≡ bs → unquoted (doubled (b ∷ bs)) ≡ b ∷ bs
  doubled_at b bs true e rec = rw e (ap (λ l. 39 ∷ l) rec ∙ ap (λ n. n ∷ bs) (sym ((Decides-eqb b 39).0 e)))
  doubled_at b bs false e rec = rw e (step_plain b (doubled bs) e ∙ ap (λ l. b ∷ l) rec)
