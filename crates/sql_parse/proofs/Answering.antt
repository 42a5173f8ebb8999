-- A text has one answer by a grammar: its value, or its first fault.
use Rattle.std.proofs.Common.{◌≡◌, ℕ, List, [], ◌∷◌, ◌++◌, refl, sym, ap, subst, ◌∙◌, ◌⊎◌, inl, inr, append_assoc}
use Rattle.std.proofs.lemmas.List.{map-append, append-nil}
use Rattle.sql_lex.specs.Spelling.{Lexeme}
use Rattle.sql_lex.specs.Tokens.{Item, AreTokens, AreTokensUpTo}
use Rattle.sql_parse.specs.Phrases.{Phrase}
use Rattle.sql_parse.specs.Faults.{lexemes, IsText, BeginsPhrase, StopsPhrase, IsSigned, StopsAtToken, StopsAtMinus, EndsEarly, EndsAtNoToken, AreFront, IsFault}
use Rattle.sql_parse.proofs.Exact.{heads}

-- the laws of tokens
abbrev pub OneList : Type 0
OneList = (base : ℕ) (text : List ℕ) (xs ys : List Item) → AreTokens base text xs → AreTokens base text ys → xs ≡ ys

abbrev pub NotBoth : Type 0
NotBoth = (base at : ℕ) (text : List ℕ) (xs ys : List Item) → AreTokens base text xs → AreTokensUpTo base text ys at → ⊥

abbrev pub OnePlace : Type 0
OnePlace = (base at place : ℕ) (text : List ℕ) (xs ys : List Item) → AreTokensUpTo base text xs at → AreTokensUpTo base text ys place → (xs ≡ ys) × (at ≡ place)

-- one of two splits is deeper, or they are one
data Compared (a b : List Item) (t u : Item) : Type 0 where
  same : a ≡ b → t ≡ u → Compared a b t u
  deeper : (c : List Item) → b ≡ a ++ t ∷ c → Compared a b t u
  shallower : (c : List Item) → a ≡ b ++ u ∷ c → Compared a b t u

one_behind : (x y : Item) (a b : List Item) (t u : Item) → x ≡ y → Compared a b t u → Compared (x ∷ a) (y ∷ b) t u
one_behind x y a b t u e (same f g) = same (λ i. e i ∷ f i) g
one_behind x y a b t u e (deeper c f) = deeper c (λ i. sym e i ∷ f i)
one_behind x y a b t u e (shallower c f) = shallower c (λ i. e i ∷ f i)

compared : (a b us vs : List Item) (t u : Item) → a ++ t ∷ us ≡ b ++ u ∷ vs → Compared a b t u
compared [] [] us vs t u e = same refl (heads t u us vs e).0
compared [] (y ∷ ys) us vs t u e = deeper ys (ap (λ (i : Item). i ∷ ys) (sym (heads t y us (ys ++ u ∷ vs) e).0))
compared (x ∷ xs) [] us vs t u e = shallower xs (ap (λ (i : Item). i ∷ xs) (heads x u (xs ++ t ∷ us) vs e).0)
compared (x ∷ xs) (y ∷ ys) us vs t u e = let parts = heads x y (xs ++ t ∷ us) (ys ++ u ∷ vs) e in one_behind x y xs ys t u parts.0 (compared xs ys us vs t u parts.1)

minus_split : (items front after : List Item) (minus token : Item) → items ≡ front ++ minus ∷ token ∷ after → items ≡ (front ++ minus ∷ []) ++ token ∷ after
minus_split items front after minus token e = e ∙ sym (append_assoc front (minus ∷ []) (token ∷ after))

no_end : (xs : List Item) (n : Item) → [] ≡ xs ++ n ∷ [] → ⊥
no_end [] n e = cc
no_end (x ∷ xs) n e = cc

last_same : (a b : List Item) (m n : Item) → a ++ m ∷ [] ≡ b ++ n ∷ [] → m ≡ n
last_same [] [] m n e = (heads m n [] [] e).0
last_same [] (y ∷ ys) m n e = absurd (let f = (heads m y [] (ys ++ n ∷ []) e).1 in no_end ys n f)
last_same (x ∷ xs) [] m n e = absurd (let f = (heads x n (xs ++ m ∷ []) [] e).1 in no_end xs m (sym f))
last_same (x ∷ xs) (y ∷ ys) m n e = last_same xs ys m n (heads x y (xs ++ m ∷ []) (ys ++ n ∷ []) e).1

module _ {X : Type 0} (N : Phrase X) (one_value : (tokens : List Lexeme) (a b : X) → N tokens a → N tokens b → a ≡ b) where
  -- what begins a statement with a token in it begins one up to that token
  begins_front : (front after : List Item) (token : Item) → BeginsPhrase N (lexemes (front ++ token ∷ after)) → BeginsPhrase N (lexemes front ++ token.lexeme ∷ [])
  begins_front front after token begins =
      let same : lexemes (front ++ token ∷ after) ++ begins.0 ≡ (lexemes front ++ token.lexeme ∷ []) ++ (lexemes after ++ begins.0) = ap (λ (l : List Lexeme). l ++ begins.0) (map-append (λ (i : Item). i.lexeme) front (token ∷ after)) ∙ append_assoc (lexemes front) (token.lexeme ∷ lexemes after) begins.0 ∙ sym (append_assoc (lexemes front) (token.lexeme ∷ []) (lexemes after ++ begins.0)) in
      (lexemes after ++ begins.0, begins.1, subst (λ (l : List Lexeme). N l begins.1) same begins.2)

  begins_all : (tokens : List Lexeme) (statement : X) → N tokens statement → BeginsPhrase N tokens
  begins_all tokens statement rule = ([], statement, subst (λ (l : List Lexeme). N l statement) (sym (append-nil tokens)) rule)

  stops_not : (items front after : List Item) (token : Item) → items ≡ front ++ token ∷ after → StopsPhrase N front token → BeginsPhrase N (lexemes items) → ⊥
  stops_not items front after token split stops begins = stops.none (begins_front front after token (subst (λ (l : List Item). BeginsPhrase N (lexemes l)) split begins))

  same_stop_by : (a b : List Item) (t u : Item) → StopsPhrase N a t → StopsPhrase N b u → Compared a b t u → (a ≡ b) × (t ≡ u)
  same_stop_by a b t u one other (same e f) = (e, f)
  same_stop_by a b t u one other (deeper c e) = absurd (stops_not b a c t e one other.begins)
  same_stop_by a b t u one other (shallower c e) = absurd (stops_not a b c u e other one.begins)

  same_stop : (items a b us vs : List Item) (t u : Item) → items ≡ a ++ t ∷ us → items ≡ b ++ u ∷ vs → StopsPhrase N a t → StopsPhrase N b u → (a ≡ b) × (t ≡ u)
  same_stop items a b us vs t u e f one other = same_stop_by a b t u one other (compared a b us vs t u (sym e ∙ f))

  signed_same : (a b : List Item) (t u : Item) → a ≡ b → t ≡ u → IsSigned N b u → IsSigned N a t
  signed_same a b t u e f signed = subst (λ (l : List Item). IsSigned N l t) (sym e) (subst (IsSigned N b) (sym f) signed)

  -- the places of two stops of the same tokens
  one_stop_place : (items : List Item) (at place : ℕ) → StopsAtToken N items at ⊎ StopsAtMinus N items at → StopsAtToken N items place ⊎ StopsAtMinus N items place → at ≡ place
  one_stop_place items at place (inl a) (inl b) =
      let s = same_stop items a.front b.front a.after b.after a.token b.token a.split b.split a.stops b.stops in
      a.place ∙ ap (λ (i : Item). i.at) s.1 ∙ sym b.place
  one_stop_place items at place (inl a) (inr b) =
      let s = same_stop items a.front (b.front ++ b.minus ∷ []) a.after b.after a.token b.token a.split (minus_split items b.front b.after b.minus b.token b.split) a.stops b.stops in
      absurd (a.plain (signed_same a.front (b.front ++ b.minus ∷ []) a.token b.token s.0 s.1 b.signed))
  one_stop_place items at place (inr a) (inl b) =
      let s = same_stop items b.front (a.front ++ a.minus ∷ []) b.after a.after b.token a.token b.split (minus_split items a.front a.after a.minus a.token a.split) b.stops a.stops in
      absurd (b.plain (signed_same b.front (a.front ++ a.minus ∷ []) b.token a.token s.0 s.1 a.signed))
  one_stop_place items at place (inr a) (inr b) =
      let s = same_stop items (a.front ++ a.minus ∷ []) (b.front ++ b.minus ∷ []) a.after b.after a.token b.token (minus_split items a.front a.after a.minus a.token a.split) (minus_split items b.front b.after b.minus b.token b.split) a.stops b.stops in
      a.place ∙ ap (λ (i : Item). i.at) (last_same a.front b.front a.minus b.minus s.0) ∙ sym b.place

  -- where the statement stops, the tokens begin none
  stop_no_begin : (items : List Item) (at : ℕ) → StopsAtToken N items at ⊎ StopsAtMinus N items at → BeginsPhrase N (lexemes items) → ⊥
  stop_no_begin items at (inl a) begins = stops_not items a.front a.after a.token a.split a.stops begins
  stop_no_begin items at (inr a) begins = stops_not items (a.front ++ a.minus ∷ []) a.after a.token (minus_split items a.front a.after a.minus a.token a.split) a.stops begins

  module _ (one_list : OneList) (not_both : NotBoth) (one_place : OnePlace) (base : ℕ) (text : List ℕ) where
    same_front : (xs ys : List Item) → AreFront base text xs → AreFront base text ys → xs ≡ ys
    same_front xs ys (inl a) (inl b) = one_list base text xs ys a b
    same_front xs ys (inl a) (inr b) = absurd (not_both base b.0 text xs ys a b.1)
    same_front xs ys (inr a) (inl b) = absurd (not_both base a.0 text ys xs b a.1)
    same_front xs ys (inr a) (inr b) = (one_place base a.0 b.0 text xs ys a.1 b.1).0

    abbrev Cause : List Item → ℕ → Type 0
    Cause items at = (StopsAtToken N items at ⊎ StopsAtMinus N items at) ⊎ (EndsEarly N base text items at ⊎ EndsAtNoToken N base text items at)

    one_cause : (items : List Item) (at place : ℕ) → Cause items at → Cause items place → at ≡ place
    one_cause items at place (inl a) (inl b) = one_stop_place items at place a b
    one_cause items at place (inl a) (inr (inl b)) = absurd (stop_no_begin items at a b.begins)
    one_cause items at place (inl a) (inr (inr b)) = absurd (stop_no_begin items at a b.begins)
    one_cause items at place (inr (inl a)) (inl b) = absurd (stop_no_begin items place b a.begins)
    one_cause items at place (inr (inr a)) (inl b) = absurd (stop_no_begin items place b a.begins)
    one_cause items at place (inr (inl a)) (inr (inl b)) = a.place ∙ sym b.place
    one_cause items at place (inr (inl a)) (inr (inr b)) = absurd (not_both base place text items items a.tokens b.stops)
    one_cause items at place (inr (inr a)) (inr (inl b)) = absurd (not_both base at text items items b.tokens a.stops)
    one_cause items at place (inr (inr a)) (inr (inr b)) = (one_place base at place text items items a.stops b.stops).1

    pub one_fault : (at place : ℕ) → IsFault N base text at → IsFault N base text place → at ≡ place
    one_fault at place a b = one_cause b.items at place (subst (λ (l : List Item). Cause l at) (same_front a.items b.items a.tokens b.tokens) a.cause) b.cause

    no_cause : (items : List Item) (at : ℕ) (statement : X) → AreTokens base text items → N (lexemes items) statement → Cause items at → ⊥
    no_cause items at statement tokens rule (inl a) = stop_no_begin items at a (begins_all (lexemes items) statement rule)
    no_cause items at statement tokens rule (inr (inl a)) = a.none statement rule
    no_cause items at statement tokens rule (inr (inr a)) = not_both base at text items items tokens a.stops

    pub no_fault : (at : ℕ) (statement : X) → IsText N base text statement → IsFault N base text at → ⊥
    no_fault at statement t f = no_cause t.items at statement t.tokens t.rule (subst (λ (l : List Item). Cause l at) (same_front f.items t.items f.tokens (inl t.tokens)) f.cause)

    pub one_text : (a b : X) → IsText N base text a → IsText N base text b → a ≡ b
    one_text a b s t = one_value (lexemes t.items) a b (subst (λ (l : List Item). N (lexemes l) a) (one_list base text s.items t.items s.tokens t.tokens) s.rule) t.rule
