-- Each text is a script, or has a first place at which it is none.
use Prim.Native.Nat.{zero, suc}
use Rattle.std.proofs.Common.{◌≡◌, ℕ, ◌+◌, ◌<◌, ◌≤◌, Bool, true, false, List, [], ◌∷◌, ◌++◌, length, take, Option, None, Some, refl, sym, ap, subst, ◌∙◌, arith, append_assoc, length-append, ◌⊎◌, inl, inr}
use Rattle.std.specs.Prelude.{IsTrue, IsUtf8}
use Rattle.std.specs.List.{AllByRecursion, list_all}
use Rattle.std.specs.Str.{IsValidUpTo, bytes_eq, is_utf8}
use Rattle.std.proofs.lemmas.Bool.{cases_lt}
use Rattle.std.proofs.lemmas.List.{append-nil, take_all}
use Rattle.std.proofs.lemmas.Slice.Eq.{bytes_eq-Decides}
use Rattle.std.proofs.lemmas.Str.{IsUtf8-from_is_utf8, IsUtf8-nil, is_utf8-from_IsUtf8}
use Rattle.sql_lex.specs.Tokens.{Item, AreTokens, AreTokensUpTo, is_blank}
use Rattle.row_types.specs.Block.{Placed}
use Rattle.row_types.specs.declared.block.Block.{Block}
use Rattle.script.specs.Lines.{Header, Setup, Session, SectionText, script_parts}
use Rattle.row_types.specs.declared.block.Block.TheVariants.{Alone, Transaction as Begun}
use Rattle.row_types.specs.declared.block.BlockEnd.TheVariants.{CutOff}
use Rattle.script.specs.Statements.{AreEnded, AreKept, BreaksAt, EndsInLiteral, IsEmpty, IsUnfinished, IsWhole, OpensLiteral}
use Rattle.script.specs.Blocks.{AreBlocks}
use Rattle.script.specs.Building.{AreBuilt, HasRole}
use Rattle.script.specs.Script.{AreInOrder, AreNumbered, HasBadSection, HasBlocks, HasStray, HaveBlocks, IsGood, IsNoScript, IsScript, all_sections, first_number, max_script, numbered}
use Rattle.script.specs.Reading.{end_of}
use Rattle.script.specs.declared.building.Role.{Role}
use Rattle.script.specs.declared.building.Role.TheVariants.{Begin, End, Other}
use Rattle.script.specs.declared.scanning.Inside.TheVariants.{Neither}
use Rattle.script.specs.declared.scanning.StatementEnd.{StatementEnd}
use Rattle.script.specs.declared.scanning.StatementEnd.TheVariants.{Semicolon, LineEnd, TextEnd}
use Rattle.script.specs.declared.sections.Script.{Script}
use Rattle.script.specs.declared.sections.Section.{Section}
use Rattle.script.proofs.ScanLaws.{Shape, read_is_so}
use Rattle.script.proofs.BuildLaws.{OneList, all_done, closed, cut_off, held, opened, role_lexeme, stood_alone}
use Rattle.script.proofs.ScriptLaws.{setup_is_none}

-- ---- UTF-8

-- the longest front that is UTF-8, among those of at most so many bytes
record Longest (bs : List ℕ) (n : ℕ) : Type 0 where
  len : ℕ
  within : len ≤ n
  front : IsUtf8 (take len bs)
  longest : (m : ℕ) → len < m → m ≤ n → IsUtf8 (take m bs) → ⊥

longest_so : (bs : List ℕ) (n : ℕ) (l : Longest bs n) → is_utf8 (take (suc n) bs) ≡ false → (m : ℕ) → l.len < m → m ≤ suc n → IsUtf8 (take m bs) → (n < m) ⊎ (m ≤ n) → ⊥
longest_so bs n l e m more most is (inl last) = absurd (let same : m ≡ suc n = omega (arith, most, last) in let yes = is_utf8-from_IsUtf8 (take (suc n) bs) (subst (λ k. IsUtf8 (take k bs)) same is) in let both = sym yes ∙ e in cc)
longest_so bs n l e m more most is (inr before) = l.longest m more before is

longest_by : (bs : List ℕ) (n : ℕ) (t : Bool) → is_utf8 (take (suc n) bs) ≡ t → Longest bs n → Longest bs (suc n)
longest_by bs n true e l = record { len = suc n; within = omega arith; front = IsUtf8-from_is_utf8 (take (suc n) bs) e; longest = λ m more most is. absurd (omega (arith, more, most)) }
longest_by bs n false e l = record {
  len = l.len;
  within = let w = l.within in omega (arith, w);
  front = l.front;
  longest = λ m more most is. longest_so bs n l e m more most is (cases_lt n m);
}

longest : (bs : List ℕ) (n : ℕ) → Longest bs n
longest bs zero = record { len = 0; within = omega arith; front = IsUtf8-nil; longest = λ m more most is. absurd (omega (arith, more, most)) }
longest bs (suc n) = longest_by bs n (is_utf8 (take (suc n) bs)) refl (longest bs n)

short_so : (bs : List ℕ) → (IsUtf8 bs → ⊥) → (l : Longest bs (length bs)) → (l.len < length bs) ⊎ (length bs ≤ l.len) → l.len < length bs
short_so bs none l (inl short) = short
short_so bs none l (inr whole) = absurd (none (subst IsUtf8 (take_all l.len bs whole) l.front))

beyond : (bs : List ℕ) → (IsUtf8 bs → ⊥) → (l : Longest bs (length bs)) → (m : ℕ) → l.len < m → IsUtf8 (take m bs) → (length bs < m) ⊎ (m ≤ length bs) → ⊥
beyond bs none l m more is (inl past) = none (subst IsUtf8 (take_all m bs (omega (arith, past))) is)
beyond bs none l m more is (inr within) = l.longest m more within is

not_utf8_at : (bs : List ℕ) → (IsUtf8 bs → ⊥) → (at : ℕ) × IsValidUpTo bs at
not_utf8_at bs none =
    let l = longest bs (length bs) in
    (l.len, record { short = short_so bs none l (cases_lt l.len (length bs)); front = l.front; longest = λ m more is. beyond bs none l m more is (cases_lt (length bs) m) })

utf8_or_not : (bs : List ℕ) (t : Bool) → is_utf8 bs ≡ t → IsUtf8 bs ⊎ (IsUtf8 bs → ⊥)
utf8_or_not bs true e = inl (IsUtf8-from_is_utf8 bs e)
utf8_or_not bs false e = inr (λ is. absurd (let yes = is_utf8-from_IsUtf8 bs is in let both = sym yes ∙ e in cc))

-- ---- headers, and what stands before them

same_digits : (xs ys : List ℕ) (t : Bool) → bytes_eq xs ys ≡ t → (Session xs ≡ Session ys) ⊎ (Session xs ≡ Session ys → ⊥)
same_digits xs ys true e = inl (ap Session ((bytes_eq-Decides xs ys).0 e))
same_digits xs ys false e = inr (λ same. absurd (let digits : xs ≡ ys = cc in let yes = (bytes_eq-Decides xs ys).1 digits in let both = sym yes ∙ e in cc))

same_header : (h k : Header) → (h ≡ k) ⊎ (h ≡ k → ⊥)
same_header Setup Setup = inl refl
same_header Setup (Session ys) = inr (λ e. absurd (cc))
same_header (Session xs) Setup = inr (λ e. absurd (cc))
same_header (Session xs) (Session ys) = same_digits xs ys (bytes_eq xs ys) refl

abbrev Blank_or_stray : List ℕ → Type 0
Blank_or_stray front = IsTrue (list_all is_blank front) ⊎ ((at : ℕ) × HasStray front at)

stray_by : (b : ℕ) (bs : List ℕ) (t : Bool) → is_blank b ≡ t → Blank_or_stray bs → Blank_or_stray (b ∷ bs)
stray_by b bs false e rest = inr (0, record { blanks = []; byte = b; rest = bs; split = refl; blank = refl; stray = e; place = refl })
stray_by b bs true e (inl blank) = inl (rw (e, blank) refl)
stray_by b bs true e (inr (at, stray)) = inr (
  suc at,
  record {
    blanks = b ∷ stray.blanks;
    byte = stray.byte;
    rest = stray.rest;
    split = ap (λ (l : List ℕ). b ∷ l) stray.split;
    blank = rw (e, stray.blank) refl;
    stray = stray.stray;
    place = ap (λ n. suc n) stray.place;
  },
)

blank_or_stray : (front : List ℕ) → Blank_or_stray front
blank_or_stray [] = inl refl
blank_or_stray (b ∷ bs) = stray_by b bs (is_blank b) refl (blank_or_stray bs)

-- ---- sections that begin with the setup, or don't

abbrev Bad : ℕ → List SectionText → SectionText → ℕ → Type 0
Bad n good bad at = ((AreNumbered n (good ++ bad ∷ []) → ⊥) × (at ≡ bad.at)) ⊎ (AreNumbered n (good ++ bad ∷ []) × BreaksAt bad.base bad.text at)

-- numbers from 1 on begin with no setup
not_from_one : (t : SectionText) (ts good after : List SectionText) (bad : SectionText) → t ∷ ts ≡ good ++ bad ∷ after → t.header ≡ Setup → AreNumbered 1 (good ++ bad ∷ []) → ⊥
not_from_one t ts [] after bad split setup all = let same : t ≡ bad = cc in setup_is_none 1 (omega arith) (sym all.0 ∙ ap (λ (x : SectionText). x.header) (sym same) ∙ setup)
not_from_one t ts (g ∷ gs) after bad split setup all = let same : t ≡ g = cc in setup_is_none 1 (omega arith) (sym all.0 ∙ ap (λ (x : SectionText). x.header) (sym same) ∙ setup)

-- and those from 0 on with one
not_from_zero : (t : SectionText) (ts good after : List SectionText) (bad : SectionText) → t ∷ ts ≡ good ++ bad ∷ after → (t.header ≡ Setup → ⊥) → AreNumbered 0 (good ++ bad ∷ []) → ⊥
not_from_zero t ts [] after bad split none all = let same : t ≡ bad = cc in none (ap (λ (x : SectionText). x.header) same ∙ all.0)
not_from_zero t ts (g ∷ gs) after bad split none all = let same : t ≡ g = cc in none (ap (λ (x : SectionText). x.header) same ∙ all.0)

bad_setup : (t : SectionText) (ts : List SectionText) (at : ℕ) → t.header ≡ Setup → (good : List SectionText) (bad : SectionText) (after : List SectionText) → t ∷ ts ≡ good ++ bad ∷ after → AreNumbered 0 good → AllByRecursion IsGood good → Bad 0 good bad at → HasBadSection (t ∷ ts) at
bad_setup t ts at setup good bad after split order whole cause = record {
  good = good;
  bad = bad;
  after = after;
  split = split;
  order = inl order;
  whole = whole;
  cause = elim cause as (λ _. ((AreInOrder (good ++ bad ∷ []) → ⊥) × (at ≡ bad.at)) ⊎ (AreInOrder (good ++ bad ∷ []) × BreaksAt bad.base bad.text at))
      [ inl c ↦ inl (λ all. elim all as (λ _. ⊥) [ inl zero_on ↦ c.0 zero_on | inr one_on ↦ not_from_one t ts good after bad split setup one_on ], c.1) | inr c ↦ inr (inl c.0, c.1) ];
}

bad_sessions : (t : SectionText) (ts : List SectionText) (at : ℕ) → (t.header ≡ Setup → ⊥) → (good : List SectionText) (bad : SectionText) (after : List SectionText) → t ∷ ts ≡ good ++ bad ∷ after → AreNumbered 1 good → AllByRecursion IsGood good → Bad 1 good bad at → HasBadSection (t ∷ ts) at
bad_sessions t ts at none good bad after split order whole cause = record {
  good = good;
  bad = bad;
  after = after;
  split = split;
  order = inr order;
  whole = whole;
  cause = elim cause as (λ _. ((AreInOrder (good ++ bad ∷ []) → ⊥) × (at ≡ bad.at)) ⊎ (AreInOrder (good ++ bad ∷ []) × BreaksAt bad.base bad.text at))
      [ inl c ↦ inl (λ all. elim all as (λ _. ⊥) [ inl zero_on ↦ not_from_zero t ts good after bad split none zero_on | inr one_on ↦ c.0 one_on ], c.1) | inr c ↦ inr (inr c.0, c.1) ];
}

-- ---- statements and blocks, where each text has its tokens

abbrev EachText : Type 0
EachText = (base : ℕ) (text : List ℕ) → ((items : List Item) × AreTokens base text items) ⊎ ((items : List Item) × (at : ℕ) × AreTokensUpTo base text items at)

abbrev NotBoth : Type 0
NotBoth = (base at : ℕ) (text : List ℕ) (xs ys : List Item) → AreTokens base text xs → AreTokensUpTo base text ys at → ⊥

module _ (each : EachText) (one : OneList) (apart : NotBoth) where
  empty_by : (text : List ℕ) → ((items : List Item) × AreTokens 0 text items) ⊎ ((items : List Item) × (at : ℕ) × AreTokensUpTo 0 text items at) → IsEmpty text ⊎ (IsEmpty text → ⊥)
  empty_by text (inl ([], are)) = inl are
  empty_by text (inl (x ∷ xs, are)) = inr (λ none. absurd (let wrong = one 0 text [] (x ∷ xs) none are in cc))
  empty_by text (inr stops) = inr (λ none. apart 0 stops.1 text [] stops.0 none stops.2)

  empty_or_not : (text : List ℕ) → IsEmpty text ⊎ (IsEmpty text → ⊥)
  empty_or_not text = empty_by text (each 0 text)

  other_role : (s : Placed) → ((item : Item) → AreTokens s.base s.text (item ∷ []) → ⊥) → HasRole s Other
  other_role s none = (λ w. none _ w.1, λ ends. elim ends as (λ _. ⊥) [ inl c ↦ none _ c.1 | inr r ↦ none _ r.1 ])

  role_by : (s : Placed) → ((items : List Item) × AreTokens s.base s.text items) ⊎ ((items : List Item) × (at : ℕ) × AreTokensUpTo s.base s.text items at) → (role : Role) × HasRole s role
  role_by s (inl ([], are)) = (Other, other_role s (λ item sole. absurd (let wrong = one s.base s.text [] (item ∷ []) are sole in cc)))
  role_by s (inl (x ∷ [], are)) = (_, role_lexeme one s x.lexeme x.at are)
  role_by s (inl (x ∷ y ∷ ys, are)) = (Other, other_role s (λ item sole. absurd (let wrong = one s.base s.text (x ∷ y ∷ ys) (item ∷ []) are sole in cc)))
  role_by s (inr stops) = (Other, other_role s (λ item sole. apart s.base stops.1 s.text (item ∷ []) stops.0 sole stops.2))

  -- the statements up to the text that is left, and where a text isn't statements
  abbrev Split : ℕ → List ℕ → Type 0
  Split base text = ((ended : List Placed) × (rest : List ℕ) × AreEnded base ended text rest × IsEmpty rest) ⊎ ((at : ℕ) × BreaksAt base text at)

  split_end : (base : ℕ) (text : List ℕ) → IsWhole text [] ⊎ ((inside : List ℕ) × OpensLiteral text inside []) → IsEmpty text ⊎ (IsEmpty text → ⊥) → Split base text
  split_end base text shape (inl empty) = inl ([], text, refl, empty)
  split_end base text shape (inr some) = inr (base + length text, record { ended = []; rest = text; begins = refl; cause = inr (record { some = some; open_end = shape }, refl) })

  one_more : (s : Placed) (text rest : List ℕ) → text ≡ s.text ++ 59 ∷ rest → IsWhole s.text (59 ∷ rest) → Split (s.base + length s.text + 1) rest → Split s.base text
  one_more s text rest split whole (inl (ended, left, are, empty)) = inl (s ∷ ended, left, (rest, refl, split, whole, are), empty)
  one_more s text rest split whole (inr (at, breaks)) =
      let same : s.base + length s.text + 1 + length rest ≡ s.base + length text = omega (arith, ap length split, length-append s.text (59 ∷ rest)) in
      inr (
        at,
        record {
          ended = s ∷ breaks.ended;
          rest = breaks.rest;
          begins = (rest, refl, split, whole, breaks.begins);
          cause = elim breaks.cause as (λ _. ((after : List ℕ) × EndsInLiteral breaks.rest after × (at + length (10 ∷ after) ≡ s.base + length text)) ⊎ (IsUnfinished breaks.rest × (at ≡ s.base + length text)))
              [ inl c ↦ inl (c.0, c.1, c.2 ∙ same) | inr c ↦ inr (c.0, c.1 ∙ same) ];
        },
      )

  split_step : (base : ℕ) (text : List ℕ) → ((place : ℕ) (rest : List ℕ) → length rest < length text → Split place rest) → (e : StatementEnd) → Shape text e → Split base text
  split_step base text go (Semicolon n) s =
      one_more (record { base = base; text = s.0 }) text s.1 s.2 s.3 (go (base + length s.0 + 1) s.1 (omega (arith, ap length s.2, length-append s.0 (59 ∷ s.1))))
  split_step base text go (LineEnd n) s =
      inr (base + n, record { ended = []; rest = text; begins = refl; cause = inl (s.0, s.1, omega (arith, s.2)) })
  split_step base text go TextEnd s = split_end base text s (empty_or_not text)

  split_by : (n base : ℕ) (text : List ℕ) → length text ≤ n → Split base text
  split_by zero base text within = split_step base text (λ place rest less. absurd (omega (arith, less, within))) (end_of Neither text) (read_is_so text (end_of Neither text) refl)
  split_by (suc n) base text within = split_step base text (λ place rest less. split_by n place rest (omega (arith, less, within))) (end_of Neither text) (read_is_so text (end_of Neither text) refl)

  kept_by : (s : Placed) (ss kept : List Placed) → AreKept ss kept → IsEmpty s.text ⊎ (IsEmpty s.text → ⊥) → (all : List Placed) × AreKept (s ∷ ss) all
  kept_by s ss kept keeps (inl empty) = (kept, inl (empty, keeps))
  kept_by s ss kept keeps (inr some) = (s ∷ kept, inr (some, kept, refl, keeps))

  kept_of : (ended : List Placed) → (kept : List Placed) × AreKept ended kept
  kept_of [] = ([], refl)
  kept_of (s ∷ ss) = let rest = kept_of ss in kept_by s ss rest.0 rest.1 (empty_or_not s.text)

  -- ---- blocks

  -- the blocks that are done, and the open one
  abbrev Builds : List Placed → Type 0
  Builds statements = (done : List Block) × (held_back : Option (List Placed)) × AreBuilt statements done held_back

  with_role : (before : List Placed) (s : Placed) (done : List Block) (held_back : Option (List Placed)) (role : Role) → HasRole s role → AreBuilt before done held_back → Builds (before ++ s ∷ [])
  with_role before s done None Begin has built = (done, Some [], opened done before s has built)
  with_role before s done None (End end) has built = (done ++ Alone s ∷ [], None, stood_alone done before s (End end) (λ e. absurd (cc)) has built)
  with_role before s done None Other has built = (done ++ Alone s ∷ [], None, stood_alone done before s Other (λ e. absurd (cc)) has built)
  with_role before s done (Some inside) (End end) has built = (done ++ Begun (record { statements = inside; end = end }) ∷ [], None, closed done before inside s end has built)
  with_role before s done (Some inside) Begin has built = (done, Some (inside ++ s ∷ []), held done before inside s Begin (λ end e. absurd (cc)) has built)
  with_role before s done (Some inside) Other has built = (done, Some (inside ++ s ∷ []), held done before inside s Other (λ end e. absurd (cc)) has built)

  build : (more before : List Placed) → Builds before → Builds (before ++ more)
  build [] before built = subst Builds (sym (append-nil before)) built
  build (s ∷ more) before built =
      let role = role_by s (each s.base s.text) in
      subst Builds (append_assoc before (s ∷ []) more) (build more (before ++ s ∷ []) (with_role before s built.0 built.1 role.0 role.1 built.2))

  end_blocks : (statements : List Placed) (done : List Block) (held_back : Option (List Placed)) → AreBuilt statements done held_back → (blocks : List Block) × AreBlocks blocks statements
  end_blocks statements done None built = (done, all_done done statements built)
  end_blocks statements done (Some inside) built = (done ++ Begun (record { statements = inside; end = CutOff }) ∷ [], cut_off done statements inside built)

  blocks_of : (statements : List Placed) → (blocks : List Block) × AreBlocks blocks statements
  blocks_of statements = let all = build statements [] ([], None, λ more. refl) in end_blocks statements all.0 all.1 all.2

  -- ---- sections

  -- a section is blocks, or breaks
  abbrev Section_or_fault : SectionText → Type 0
  Section_or_fault t = ((section : Section) × HasBlocks t section.blocks) ⊎ ((at : ℕ) × BreaksAt t.base t.text at)

  section_by : (t : SectionText) → Split t.base t.text → Section_or_fault t
  section_by t (inl (ended, rest, are, empty)) =
      let kept = kept_of ended in
      let blocks = blocks_of kept.0 in
      inl (record { blocks = blocks.0 }, record { statements = kept.0; are_statements = record { ended = ended; rest = rest; begins = are; ends = empty; kept = kept.1 }; are_blocks = blocks.1 })
  section_by t (inr breaks) = inr breaks

  section_of : (t : SectionText) → Section_or_fault t
  section_of t = section_by t (split_by (length t.text) t.base t.text (omega arith))

  -- the first section that isn't one, where they are numbered from this number on
  record BadFrom (n : ℕ) (sections : List SectionText) (at : ℕ) : Type 0 where
    good : List SectionText
    bad : SectionText
    after : List SectionText
    split : sections ≡ good ++ bad ∷ after
    order : AreNumbered n good
    whole : AllByRecursion IsGood good
    cause : ((AreNumbered n (good ++ bad ∷ []) → ⊥) × (at ≡ bad.at)) ⊎ (AreNumbered n (good ++ bad ∷ []) × BreaksAt bad.base bad.text at)

  abbrev Sections_or_fault : ℕ → List SectionText → Type 0
  Sections_or_fault n ts = ((sections : List Section) × AreNumbered n ts × HaveBlocks ts sections) ⊎ ((at : ℕ) × BadFrom n ts at)

  good_more : (n : ℕ) (t : SectionText) (ts : List SectionText) (s : Section) → t.header ≡ numbered n → n ≤ 16 → HasBlocks t s.blocks → Sections_or_fault (n + 1) ts → Sections_or_fault n (t ∷ ts)
  good_more n t ts s header most blocks (inl (sections, order, have)) = inl (s ∷ sections, (header, most, order), (s, sections, refl, blocks, have))
  good_more n t ts s header most blocks (inr (at, bad)) =
      inr (
        at,
        record {
          good = t ∷ bad.good;
          bad = bad.bad;
          after = bad.after;
          split = ap (λ (l : List SectionText). t ∷ l) bad.split;
          order = (header, most, bad.order);
          whole = ((blocks.statements, blocks.are_statements), bad.whole);
          cause = elim bad.cause as (λ _. ((AreNumbered n (t ∷ (bad.good ++ bad.bad ∷ [])) → ⊥) × (at ≡ bad.bad.at)) ⊎ (AreNumbered n (t ∷ (bad.good ++ bad.bad ∷ [])) × BreaksAt bad.bad.base bad.bad.text at))
              [ inl c ↦ inl (λ all. c.0 all.2, c.1) | inr c ↦ inr ((header, most, c.0), c.1) ];
        },
      )

  bad_first : (n : ℕ) (t : SectionText) (ts : List SectionText) → (t.header ≡ numbered n → n ≤ 16 → ⊥) → Sections_or_fault n (t ∷ ts)
  bad_first n t ts none = inr (t.at, record { good = []; bad = t; after = ts; split = refl; order = tt; whole = tt; cause = inl (λ all. none all.0 all.1, refl) })

  next_section : (n : ℕ) (t : SectionText) (ts : List SectionText) → t.header ≡ numbered n → n ≤ 16 → Section_or_fault t → Sections_or_fault (n + 1) ts → Sections_or_fault n (t ∷ ts)
  next_section n t ts header most (inl (section, blocks)) rest = good_more n t ts section header most blocks rest
  next_section n t ts header most (inr (at, breaks)) rest =
      inr (at, record { good = []; bad = t; after = ts; split = refl; order = tt; whole = tt; cause = inr ((header, most, tt), breaks) })

  section_at : (n : ℕ) (t : SectionText) (ts : List SectionText) → (t.header ≡ numbered n) ⊎ (t.header ≡ numbered n → ⊥) → (16 < n) ⊎ (n ≤ 16) → Sections_or_fault (n + 1) ts → Sections_or_fault n (t ∷ ts)
  section_at n t ts (inr other) most rest = bad_first n t ts (λ header _. other header)
  section_at n t ts (inl header) (inl many) rest = bad_first n t ts (λ _ most. absurd (omega (arith, many, most)))
  section_at n t ts (inl header) (inr most) rest = next_section n t ts header most (section_of t) rest

  sections_from : (n : ℕ) (ts : List SectionText) → Sections_or_fault n ts
  sections_from n [] = inl ([], tt, refl)
  sections_from n (t ∷ ts) = section_at n t ts (same_header t.header (numbered n)) (cases_lt 16 n) (sections_from (n + 1) ts)

  -- ---- the numbers begin with 0 where there is a setup, and else with 1

  abbrev Script_or_fault : List SectionText → Type 0
  Script_or_fault ts = ((script : Script) × AreNumbered (first_number script.setup) ts × HaveBlocks ts (all_sections script.setup script.sessions)) ⊎ ((at : ℕ) × HasBadSection ts at)

  -- the first section is the setup
  with_setup : (t : SectionText) (ts : List SectionText) → t.header ≡ Setup → Sections_or_fault 0 (t ∷ ts) → Script_or_fault (t ∷ ts)
  with_setup t ts setup (inl (sections, order, have)) = inl (record { setup = Some have.0; sessions = have.1 }, order, (have.0, have.1, refl, have.3, have.4))
  with_setup t ts setup (inr (at, bad)) = inr (at, bad_setup t ts at setup bad.good bad.bad bad.after bad.split bad.order bad.whole bad.cause)

  without_setup : (t : SectionText) (ts : List SectionText) → (t.header ≡ Setup → ⊥) → Sections_or_fault 1 (t ∷ ts) → Script_or_fault (t ∷ ts)
  without_setup t ts none (inl (sections, order, have)) = inl (record { setup = None; sessions = sections }, order, have)
  without_setup t ts none (inr (at, bad)) = inr (at, bad_sessions t ts at none bad.good bad.bad bad.after bad.split bad.order bad.whole bad.cause)

  script_by : (t : SectionText) (ts : List SectionText) → (t.header ≡ Setup) ⊎ (t.header ≡ Setup → ⊥) → Script_or_fault (t ∷ ts)
  script_by t ts (inl setup) = with_setup t ts setup (sections_from 0 (t ∷ ts))
  script_by t ts (inr none) = without_setup t ts none (sections_from 1 (t ∷ ts))

  script_of : (ts : List SectionText) → Script_or_fault ts
  script_of [] = inl (record { setup = None; sessions = [] }, tt, refl)
  script_of (t ∷ ts) = script_by t ts (same_header t.header Setup)

  -- ---- each text

  abbrev Whole : List ℕ → Type 0
  Whole text = ((script : Script) × IsScript text script) ⊎ ((at : ℕ) × IsNoScript text at)

  behind_front : (text : List ℕ) → length text ≤ max_script → IsUtf8 text → IsTrue (list_all is_blank (script_parts text).front) → Script_or_fault (script_parts text).sections → Whole text
  behind_front text short utf8 front (inl (script, order, blocks)) = inl (script, record { short = short; utf8 = utf8; front = front; order = order; blocks = blocks })
  behind_front text short utf8 front (inr (at, bad)) = inr (at, inr (inr (short, utf8, inr (front, bad))))

  with_front : (text : List ℕ) → length text ≤ max_script → IsUtf8 text → Blank_or_stray (script_parts text).front → Whole text
  with_front text short utf8 (inl front) = behind_front text short utf8 front (script_of (script_parts text).sections)
  with_front text short utf8 (inr (at, stray)) = inr (at, inr (inr (short, utf8, inl stray)))

  with_text : (text : List ℕ) → length text ≤ max_script → IsUtf8 text ⊎ (IsUtf8 text → ⊥) → Whole text
  with_text text short (inl utf8) = with_front text short utf8 (blank_or_stray (script_parts text).front)
  with_text text short (inr none) = let found = not_utf8_at text none in inr (found.0, inr (inl (short, none, found.1)))

  with_length : (text : List ℕ) → (max_script < length text) ⊎ (length text ≤ max_script) → Whole text
  with_length text (inl long) = inr (max_script, inl (long, refl))
  with_length text (inr short) = with_text text short (utf8_or_not text (is_utf8 text) refl)

  -- each text is a script, or has a place at which it is none
  pub each_text : (text : List ℕ) → Whole text
  each_text text = with_length text (cases_lt max_script (length text))
