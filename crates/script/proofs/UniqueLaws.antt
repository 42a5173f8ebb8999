-- A text is at most one script, or has one first fault.
use Rattle.std.proofs.Common.{◌≡◌, ℕ, ◌+◌, true, false, eqb, List, [], ◌∷◌, ◌++◌, length, take, drop, Option, None, Some, refl, sym, ap, subst, ◌∙◌, arith, append_assoc, ◌⊎◌, inl, inr}
use Rattle.std.specs.Prelude.{IsTrue}
use Rattle.std.specs.List.{AllByRecursion, concat, list_all, prefix_len}
use Rattle.std.proofs.lemmas.Bool.Decides.{nat_tests}
use Rattle.std.proofs.lemmas.List.{append-nil}
use Rattle.std.proofs.lemmas.Str.{utf8_valid_len-IsValidUpTo}
use Rattle.std.proofs.Math.Seq.{drop-append_seam, take-append_seam}
use Rattle.sql_lex.specs.Tokens.{IsGap, IsLastGap, IsPause, is_blank, opens_comment}
use Rattle.sql_lex.specs.declared.keyword.Keyword.TheVariants as words
use Rattle.row_types.specs.Block.{Placed}
use Rattle.row_types.specs.declared.block.Block.{Block}
use Rattle.row_types.specs.declared.block.Block.TheVariants.{Alone, Transaction as Begun}
use Rattle.row_types.specs.declared.block.BlockEnd.{BlockEnd}
use Rattle.row_types.specs.declared.block.BlockEnd.TheVariants.{Commit, Rollback, CutOff}
use Rattle.script.specs.Lines.{SectionText, script_parts}
use Rattle.script.specs.Statements.{Comment as Noted, Byte, AreEnded, AreKept, AreStatements, BreaksAt, EndsInLiteral, IsEmpty, IsUnfinished, IsWhole}
use Rattle.script.specs.Blocks.{IsWord, EndsBlock, Ends, BeginsWith, AreBlocks}
use Rattle.script.specs.Script.{AreInOrder, AreNumbered, BreaksFirstAt, HasBadSection, HasBlocks, HasStray, HaveBlocks, IsGood, IsNoScript, IsScript, all_sections, first_number}
use Rattle.script.specs.Reading.{end_of, later}
use Rattle.script.specs.declared.scanning.Inside.TheVariants.{Neither}
use Rattle.script.specs.declared.scanning.StatementEnd.{StatementEnd}
use Rattle.script.specs.declared.scanning.StatementEnd.TheVariants.{Semicolon, LineEnd, TextEnd}
use Rattle.script.specs.declared.sections.Script.{Script}
use Rattle.script.specs.declared.sections.Section.{Section}
use Rattle.script.proofs.LineLaws.{and_parts}
use Rattle.script.proofs.ScanLaws.{feed_is_no_comment, line_end_read, open_end_read, part_read, semicolon_read, whole_more, whole_read}
use Rattle.script.proofs.BuildLaws.{OneList, one_word}
use Rattle.script.proofs.ScriptLaws.{all_good, not_both, numbered_front}

-- ---- a text without a token has no semicolon outside

blank_no_quote : (b : ℕ) → is_blank b ≡ true → eqb b 39 ≡ false
blank_no_quote b e = grind (arith, nat_tests)

blank_no_semicolon : (b : ℕ) → is_blank b ≡ true → eqb b 59 ≡ false
blank_no_semicolon b e = grind (arith, nat_tests)

blank_no_hyphen : (b : ℕ) → is_blank b ≡ true → eqb b 45 ≡ false
blank_no_hyphen b e = grind (arith, nat_tests)

blank_opens_none : (b : ℕ) (bs : List ℕ) → is_blank b ≡ true → opens_comment (b ∷ bs) ≡ false
blank_opens_none b [] e = refl
blank_opens_none b (c ∷ cs) e = rw (blank_no_hyphen b e) refl

pause_whole : (pause rest after : List ℕ) → IsPause pause → IsWhole rest after → IsWhole (pause ++ rest) after
pause_whole pause rest after (inl b) whole =
    subst (λ (l : List ℕ). IsWhole (l ++ rest) after) (sym b.1) (whole_more (Byte b.0) rest after ((rw (blank_no_quote b.0 b.2, blank_no_semicolon b.0 b.2) refl), blank_opens_none b.0 (rest ++ after) b.2) whole)
pause_whole pause rest after (inr c) whole =
    let text : pause ++ rest ≡ 45 ∷ 45 ∷ (c.0 ++ 10 ∷ rest) = ap (λ (l : List ℕ). l ++ rest) c.1 ∙ ap (λ (l : List ℕ). 45 ∷ 45 ∷ l) (append_assoc c.0 (10 ∷ []) rest) in
    subst (λ (l : List ℕ). IsWhole l after) (sym text) (whole_more (Noted c.0) (10 ∷ rest) after (c.2, refl) (whole_more (Byte 10) rest after (refl, feed_is_no_comment (rest ++ after)) whole))

pauses_whole : (pauses : List (List ℕ)) (after : List ℕ) → AllByRecursion IsPause pauses → IsWhole (concat pauses) after
pauses_whole [] after each = ([], refl)
pauses_whole (p ∷ ps) after each = pause_whole p (concat ps) after each.0 (pauses_whole ps after each.1)

gap_read : (gap rest : List ℕ) → IsGap gap → end_of Neither (gap ++ rest) ≡ later (length gap) (end_of Neither rest)
gap_read gap rest is = let whole = subst (λ (l : List ℕ). IsWhole l rest) (sym is.whole) (pauses_whole is.pauses rest is.each) in whole_read whole.0 gap rest whole.1

last_gap_read : (text : List ℕ) → IsLastGap text → end_of Neither text ≡ TextEnd
last_gap_read text (inl gap) = ap (end_of Neither) (sym (append-nil text)) ∙ gap_read text [] gap
last_gap_read text (inr c) =
    let note : end_of Neither (45 ∷ 45 ∷ c.1) ≡ TextEnd = ap (end_of Neither) (sym (append-nil (45 ∷ 45 ∷ c.1))) ∙ part_read (Noted c.1) [] (c.4, tt) in
    ap (end_of Neither) c.2 ∙ gap_read c.0 (45 ∷ 45 ∷ c.1) c.3 ∙ ap (later (length c.0)) note

empty_read : (text : List ℕ) → IsEmpty text → end_of Neither text ≡ TextEnd
empty_read text empty = ap (end_of Neither) empty.begins ∙ last_gap_read empty.rest empty.ends

-- ---- statements

-- no statement ends in the text
abbrev NoEnd : List ℕ → Type 0
NoEnd text = (n : ℕ) → end_of Neither text ≡ Semicolon n → ⊥

no_end_so : (text : List ℕ) (e : StatementEnd) → end_of Neither text ≡ e → ((n : ℕ) → e ≡ Semicolon n → ⊥) → NoEnd text
no_end_so text e is none n same = none n (sym is ∙ same)

same_placed : (x y : Placed) → x.base ≡ y.base → x.text ≡ y.text → x ≡ y
same_placed x y e f = λ i. record { base = e i; text = f i }

len_of : StatementEnd → ℕ
len_of (Semicolon n) = n
len_of (LineEnd n) = n
len_of TextEnd = 0

same_parts : (a b x y : List ℕ) → a ++ 59 ∷ x ≡ b ++ 59 ∷ y → length a ≡ length b → (a ≡ b) × (x ≡ y)
same_parts a b x y e len =
    let front : a ≡ b = sym (take-append_seam a (59 ∷ x)) ∙ ap (λ (l : List ℕ). take (length a) l) e ∙ ap (λ n. take n (b ++ 59 ∷ y)) len ∙ take-append_seam b (59 ∷ y) in
    let back : 59 ∷ x ≡ 59 ∷ y = sym (drop-append_seam a (59 ∷ x)) ∙ ap (λ (l : List ℕ). drop (length a) l) e ∙ ap (λ n. drop n (b ++ 59 ∷ y)) len ∙ drop-append_seam b (59 ∷ y) in
    (front, cc)

ended_same : (base : ℕ) (xs ys : List Placed) (text r s : List ℕ) → AreEnded base xs text r → AreEnded base ys text s → NoEnd r → NoEnd s → (xs ≡ ys) × (r ≡ s)
unfolding len_of
ended_same base [] [] text r s a b left right = (refl, sym a ∙ b)
ended_same base [] (y ∷ ys) text r s a b left right = absurd (left (length y.text) (ap (end_of Neither) (sym a ∙ b.2) ∙ semicolon_read y.text b.0 b.3))
ended_same base (x ∷ xs) [] text r s a b left right = absurd (right (length x.text) (ap (end_of Neither) (sym b ∙ a.2) ∙ semicolon_read x.text a.0 a.3))
ended_same base (x ∷ xs) (y ∷ ys) text r s a b left right =
    let ends : Semicolon (length x.text) ≡ Semicolon (length y.text) = sym (semicolon_read x.text a.0 a.3) ∙ ap (end_of Neither) (sym a.2 ∙ b.2) ∙ semicolon_read y.text b.0 b.3 in
    let len : length x.text ≡ length y.text = ap len_of ends in
    let parts = same_parts x.text y.text a.0 b.0 (sym a.2 ∙ b.2) len in
    let item = same_placed x y (a.1 ∙ sym b.1) parts.0 in
    let next : AreEnded (base + length x.text + 1) ys a.0 s = subst (λ n. AreEnded (base + n + 1) ys a.0 s) (sym len) (subst (λ (l : List ℕ). AreEnded (base + length y.text + 1) ys l s) (sym parts.1) b.4) in
    let rest = ended_same (base + length x.text + 1) xs ys a.0 r s a.4 next left right in
    ((λ i. item i ∷ rest.0 i), rest.1)

kept_same : (xs k l : List Placed) → AreKept xs k → AreKept xs l → k ≡ l
kept_same [] k l a b = a ∙ sym b
kept_same (x ∷ xs) k l (inl a) (inl b) = kept_same xs k l a.1 b.1
kept_same (x ∷ xs) k l (inl a) (inr b) = absurd (b.0 a.0)
kept_same (x ∷ xs) k l (inr a) (inl b) = absurd (a.0 b.0)
kept_same (x ∷ xs) k l (inr a) (inr b) = a.2 ∙ ap (λ (m : List Placed). x ∷ m) (kept_same xs a.1 b.1 a.3 b.3) ∙ sym b.2

text_no_semicolon : (n : ℕ) → TextEnd ≡ Semicolon n → ⊥
text_no_semicolon n e = absurd (cc)

line_no_semicolon : (m n : ℕ) → LineEnd m ≡ Semicolon n → ⊥
line_no_semicolon m n e = absurd (cc)

empty_no_end : (text : List ℕ) → IsEmpty text → NoEnd text
empty_no_end text empty = no_end_so text TextEnd (empty_read text empty) text_no_semicolon

statements_same : (base : ℕ) (text : List ℕ) (k l : List Placed) → AreStatements base text k → AreStatements base text l → k ≡ l
statements_same base text k l a b =
    let same = ended_same base a.ended b.ended text a.rest b.rest a.begins b.begins (empty_no_end a.rest a.ends) (empty_no_end b.rest b.ends) in
    kept_same b.ended k l (subst (λ m. AreKept m k) same.0 a.kept) b.kept

abbrev Cause : ℕ → List ℕ → List ℕ → ℕ → Type 0
Cause base text rest at = ((after : List ℕ) × EndsInLiteral rest after × (at + length (10 ∷ after) ≡ base + length text)) ⊎ (IsUnfinished rest × (at ≡ base + length text))

cause_no_end : (base at : ℕ) (text rest : List ℕ) → Cause base text rest at → NoEnd rest
cause_no_end base at text rest (inl c) = let found = line_end_read rest c.0 c.1 in no_end_so rest (LineEnd found.0) found.1 (line_no_semicolon found.0)
cause_no_end base at text rest (inr c) = no_end_so rest TextEnd (open_end_read rest c.0.open_end) text_no_semicolon

no_cause : (base at : ℕ) (text rest : List ℕ) → IsEmpty rest → Cause base text rest at → ⊥
no_cause base at text rest empty (inl c) = let found = line_end_read rest c.0 c.1 in let wrong : LineEnd found.0 ≡ TextEnd = sym found.1 ∙ empty_read rest empty in absurd (cc)
no_cause base at text rest empty (inr c) = c.0.some empty

good_or_broken : (base at : ℕ) (text : List ℕ) (k : List Placed) → AreStatements base text k → BreaksAt base text at → ⊥
good_or_broken base at text k a b =
    let same = ended_same base a.ended b.ended text a.rest b.rest a.begins b.begins (empty_no_end a.rest a.ends) (cause_no_end base at text b.rest b.cause) in
    no_cause base at text b.rest (subst IsEmpty same.1 a.ends) b.cause

one_cause : (base at place : ℕ) (text rest : List ℕ) → Cause base text rest at → Cause base text rest place → at ≡ place
unfolding len_of
one_cause base at place text rest (inl a) (inl b) =
    let first = line_end_read rest a.0 a.1 in
    let second = line_end_read rest b.0 b.1 in
    let same : first.0 ≡ second.0 = ap len_of (sym first.1 ∙ second.1) in
    omega (arith, a.2, b.2, first.2, second.2, same)
one_cause base at place text rest (inl a) (inr b) = absurd (let found = line_end_read rest a.0 a.1 in let wrong : LineEnd found.0 ≡ TextEnd = sym found.1 ∙ open_end_read rest b.0.open_end in cc)
one_cause base at place text rest (inr a) (inl b) = absurd (let found = line_end_read rest b.0 b.1 in let wrong : LineEnd found.0 ≡ TextEnd = sym found.1 ∙ open_end_read rest a.0.open_end in cc)
one_cause base at place text rest (inr a) (inr b) = a.1 ∙ sym b.1

one_break : (base at place : ℕ) (text : List ℕ) → BreaksAt base text at → BreaksAt base text place → at ≡ place
one_break base at place text a b =
    let same = ended_same base a.ended b.ended text a.rest b.rest a.begins b.begins (cause_no_end base at text a.rest a.cause) (cause_no_end base place text b.rest b.cause) in
    one_cause base at place text b.rest (subst (λ (l : List ℕ). Cause base text l at) same.1 a.cause) b.cause

-- ---- blocks

module _ (one : OneList) where
  record SameBlock (in1 in2 : List Placed) (e1 e2 : BlockEnd) (after1 after2 : List Placed) : Type 0 where
    statements : in1 ≡ in2
    end : e1 ≡ e2
    after : after1 ≡ after2

  both_words : (s : Placed) → IsWord words.Commit s → IsWord words.Rollback s → ⊥
  both_words s a b = absurd (let e = one_word one s words.Commit words.Rollback a b in cc)

  end_same : (e1 e2 : BlockEnd) (rest after1 after2 : List Placed) → Ends e1 rest after1 → Ends e2 rest after2 → (e1 ≡ e2) × (after1 ≡ after2)
  end_same Commit Commit rest after1 after2 a b = (refl, (let e = sym a.2 ∙ b.2 in cc))
  end_same Commit Rollback rest after1 after2 a b = absurd (both_words a.0 a.1 (subst (IsWord words.Rollback) (let e = sym b.2 ∙ a.2 in cc) b.1))
  end_same Commit CutOff rest after1 after2 a b = absurd (let e = sym a.2 ∙ b.0 in cc)
  end_same Rollback Commit rest after1 after2 a b = absurd (both_words b.0 b.1 (subst (IsWord words.Rollback) (let e = sym a.2 ∙ b.2 in cc) a.1))
  end_same Rollback Rollback rest after1 after2 a b = (refl, (let e = sym a.2 ∙ b.2 in cc))
  end_same Rollback CutOff rest after1 after2 a b = absurd (let e = sym a.2 ∙ b.0 in cc)
  end_same CutOff Commit rest after1 after2 a b = absurd (let e = sym b.2 ∙ a.0 in cc)
  end_same CutOff Rollback rest after1 after2 a b = absurd (let e = sym b.2 ∙ a.0 in cc)
  end_same CutOff CutOff rest after1 after2 a b = (refl, a.1 ∙ sym b.1)

  -- a block that has ended doesn't continue with this statement
  not_inside : (e : BlockEnd) (y : Placed) (ys after : List Placed) → (EndsBlock y → ⊥) → Ends e (y ∷ ys) after → ⊥
  not_inside Commit y ys after none a = none (inl (subst (IsWord words.Commit) (let e = a.2 in cc) a.1))
  not_inside Rollback y ys after none a = none (inr (subst (IsWord words.Rollback) (let e = a.2 in cc) a.1))
  not_inside CutOff y ys after none a = absurd (let e = a.0 in cc)

  inside_same : (in1 in2 rest1 rest2 after1 after2 : List Placed) (e1 e2 : BlockEnd) → in1 ++ rest1 ≡ in2 ++ rest2 → AllByRecursion (λ s. EndsBlock s → ⊥) in1 → AllByRecursion (λ s. EndsBlock s → ⊥) in2 → Ends e1 rest1 after1 → Ends e2 rest2 after2 → SameBlock in1 in2 e1 e2 after1 after2
  inside_same [] [] rest1 rest2 after1 after2 e1 e2 same none1 none2 a b = let ends = end_same e1 e2 rest2 after1 after2 (subst (λ l. Ends e1 l after1) same a) b in record { statements = refl; end = ends.0; after = ends.1 }
  inside_same [] (y ∷ ys) rest1 rest2 after1 after2 e1 e2 same none1 none2 a b = absurd (not_inside e1 y (ys ++ rest2) after1 none2.0 (subst (λ l. Ends e1 l after1) same a))
  inside_same (x ∷ xs) [] rest1 rest2 after1 after2 e1 e2 same none1 none2 a b = absurd (not_inside e2 x (xs ++ rest1) after2 none1.0 (subst (λ l. Ends e2 l after2) (sym same) b))
  inside_same (x ∷ xs) (y ∷ ys) rest1 rest2 after1 after2 e1 e2 same none1 none2 a b =
      let head : x ≡ y = cc in
      let tail : xs ++ rest1 ≡ ys ++ rest2 = cc in
      let rest = inside_same xs ys rest1 rest2 after1 after2 e1 e2 tail none1.1 none2.1 a b in
      record { statements = λ i. head i ∷ rest.statements i; end = rest.end; after = rest.after }

  block_same : (b c : Block) (statements r s : List Placed) → BeginsWith b statements r → BeginsWith c statements s → (b ≡ c) × (r ≡ s)
  block_same (Alone x) (Alone y) statements r s a b = let e : x ∷ r ≡ y ∷ s = sym a.1 ∙ b.1 in (cc, cc)
  block_same (Alone x) (Begun t) statements r s a b = absurd (a.0 (subst (IsWord words.Begin) (let e = sym b.4 ∙ a.1 in cc) b.1))
  block_same (Begun t) (Alone y) statements r s a b = absurd (b.0 (subst (IsWord words.Begin) (let e = sym a.4 ∙ b.1 in cc) a.1))
  block_same (Begun t) (Begun u) statements r s a b =
      let e : a.0 ∷ (t.statements ++ a.3) ≡ b.0 ∷ (u.statements ++ b.3) = sym a.4 ∙ b.4 in
      let tail : t.statements ++ a.3 ≡ u.statements ++ b.3 = cc in
      let same = inside_same t.statements u.statements a.3 b.3 r s t.end u.end tail a.2 b.2 a.5 b.5 in
      ((λ i. Begun (record { statements = same.statements i; end = same.end i })), same.after)

  some_statement : (b : Block) (statements r : List Placed) → BeginsWith b statements r → statements ≡ [] → ⊥
  some_statement (Alone x) statements r a none = absurd (let e = sym a.1 ∙ none in cc)
  some_statement (Begun t) statements r a none = absurd (let e = sym a.4 ∙ none in cc)

  blocks_same : (bs cs : List Block) (statements : List Placed) → AreBlocks bs statements → AreBlocks cs statements → bs ≡ cs
  blocks_same [] [] statements a b = refl
  blocks_same [] (c ∷ cs) statements a b = absurd (some_statement c statements b.0 b.1 a)
  blocks_same (b ∷ bs) [] statements a c = absurd (some_statement b statements a.0 a.1 c)
  blocks_same (b ∷ bs) (c ∷ cs) statements x y =
      let first = block_same b c statements x.0 y.0 x.1 y.1 in
      let rest = blocks_same bs cs y.0 (subst (λ l. AreBlocks bs l) first.1 x.2) y.2 in
      λ i. first.0 i ∷ rest i

  section_same : (t : SectionText) (a b : Section) → HasBlocks t a.blocks → HasBlocks t b.blocks → a ≡ b
  section_same t a b x y =
      let statements = statements_same t.base t.text x.statements y.statements x.are_statements y.are_statements in
      let blocks = blocks_same a.blocks b.blocks y.statements (subst (AreBlocks a.blocks) statements x.are_blocks) y.are_blocks in
      λ i. record { blocks = blocks i }

  sections_same : (ts : List SectionText) (xs ys : List Section) → HaveBlocks ts xs → HaveBlocks ts ys → xs ≡ ys
  sections_same [] xs ys a b = a ∙ sym b
  sections_same (t ∷ ts) xs ys a b =
      let first = section_same t a.0 b.0 a.3 b.3 in
      let rest = sections_same ts a.1 b.1 a.4 b.4 in
      a.2 ∙ (λ i. first i ∷ rest i) ∙ sym b.2

  -- ---- scripts

  script_so : (ts : List SectionText) (p q : Option Section) (ss us : List Section) → AreNumbered (first_number p) ts → AreNumbered (first_number q) ts → HaveBlocks ts (all_sections p ss) → HaveBlocks ts (all_sections q us) → (p ≡ q) × (ss ≡ us)
  script_so ts None None ss us m n a b = (refl, sections_same ts ss us a b)
  script_so [] None (Some q) ss us m n a b = absurd (cc)
  script_so (t ∷ ts) None (Some q) ss us m n a b = absurd (not_both t ts ts n m)
  script_so [] (Some p) None ss us m n a b = absurd (cc)
  script_so (t ∷ ts) (Some p) None ss us m n a b = absurd (not_both t ts ts m n)
  script_so ts (Some p) (Some q) ss us m n a b = let e = sections_same ts (p ∷ ss) (q ∷ us) a b in (cc, cc)

  pub one_script : (text : List ℕ) (a b : Script) → IsScript text a → IsScript text b → a ≡ b
  one_script text a b x y =
      let same = script_so (script_parts text).sections a.setup b.setup a.sessions b.sessions x.order y.order x.blocks y.blocks in
      λ i. record { setup = same.0 i; sessions = same.1 i }

-- ---- faults

stray_no_blank : (blanks rest : List ℕ) (b : ℕ) → is_blank b ≡ false → list_all is_blank (blanks ++ b ∷ rest) ≡ true → ⊥
stray_no_blank [] rest b e all = absurd (let parts = and_parts (is_blank b) (list_all is_blank rest) all in let wrong = sym e ∙ parts.0 in cc)
stray_no_blank (x ∷ xs) rest b e all = stray_no_blank xs rest b e (and_parts (is_blank x) (list_all is_blank (xs ++ b ∷ rest)) all).1

stray_or_blank : (front : List ℕ) (at : ℕ) → IsTrue (list_all is_blank front) → HasStray front at → ⊥
stray_or_blank front at blank s = stray_no_blank s.blanks s.rest s.byte s.stray (subst (λ (l : List ℕ). list_all is_blank l ≡ true) s.split blank)

blanks_len : (blanks rest : List ℕ) (b : ℕ) → list_all is_blank blanks ≡ true → is_blank b ≡ false → prefix_len is_blank (blanks ++ b ∷ rest) ≡ length blanks
blanks_len [] rest b all e = rw e refl
blanks_len (x ∷ xs) rest b all e =
    let parts = and_parts (is_blank x) (list_all is_blank xs) all in
    rw (parts.0, blanks_len xs rest b parts.1 e) (omega arith)

one_stray : (front : List ℕ) (at place : ℕ) → HasStray front at → HasStray front place → at ≡ place
one_stray front at place a b = a.place ∙ sym (blanks_len a.blanks a.rest a.byte a.blank a.stray) ∙ ap (prefix_len is_blank) (sym a.split ∙ b.split) ∙ blanks_len b.blanks b.rest b.byte b.blank b.stray ∙ sym b.place

-- a section among those that are good
front_in_order : (good more : List SectionText) → AreInOrder (good ++ more) → AreInOrder good
front_in_order good more (inl zero_on) = inl (numbered_front 0 good more zero_on)
front_in_order good more (inr one_on) = inr (numbered_front 1 good more one_on)

good_at : (good after : List SectionText) (s : SectionText) → AllByRecursion IsGood (good ++ s ∷ after) → IsGood s
good_at [] after s all = all.0
good_at (g ∷ gs) after s all = good_at gs after s all.1

one_of_good : (good after : List SectionText) (s : SectionText) → AreInOrder (good ++ s ∷ after) → AreInOrder (good ++ s ∷ [])
one_of_good good after s order = front_in_order (good ++ s ∷ []) after (subst AreInOrder (sym (append_assoc good (s ∷ []) after)) order)

-- where all are good, none is bad
good_or_bad : (sections : List SectionText) (at : ℕ) → AreInOrder sections → AllByRecursion IsGood sections → HasBadSection sections at → ⊥
good_or_bad sections at order all b =
    let placed = one_of_good b.good b.after b.bad (subst AreInOrder b.split order) in
    let good = good_at b.good b.after b.bad (subst (AllByRecursion IsGood) b.split all) in
    elim b.cause as (λ _. ⊥) [ inl c ↦ c.0 placed | inr c ↦ good_or_broken b.bad.base at b.bad.text good.0 good.1 c.1 ]

-- of two fronts of one list one is as long as the other, or one section longer at least
abbrev Fronts : List SectionText → SectionText → List SectionText → SectionText → Type 0
Fronts g s h t = ((g ≡ h) × (s ≡ t)) ⊎ (((more : List SectionText) × (h ≡ g ++ s ∷ more)) ⊎ ((more : List SectionText) × (g ≡ h ++ t ∷ more)))

longer : (x y : SectionText) (g h : List SectionText) (s t : SectionText) → x ≡ y → Fronts g s h t → Fronts (x ∷ g) s (y ∷ h) t
longer x y g h s t e (inl f) = inl ((λ i. e i ∷ f.0 i), f.1)
longer x y g h s t e (inr (inl f)) = let is = f.1 in inr (inl (f.0, λ i. sym e i ∷ is i))
longer x y g h s t e (inr (inr f)) = let is = f.1 in inr (inr (f.0, λ i. e i ∷ is i))

fronts : (g h : List SectionText) (s t : SectionText) (a b : List SectionText) → g ++ s ∷ a ≡ h ++ t ∷ b → Fronts g s h t
fronts [] [] s t a b e = inl (refl, cc)
fronts [] (y ∷ ys) s t a b e = let first : y ≡ s = cc in inr (inl (ys, λ i. first i ∷ ys))
fronts (x ∷ xs) [] s t a b e = let first : x ≡ t = cc in inr (inr (xs, λ i. first i ∷ xs))
fronts (x ∷ xs) (y ∷ ys) s t a b e = let first : x ≡ y = cc in let rest : xs ++ s ∷ a ≡ ys ++ t ∷ b = cc in longer x y xs ys s t first (fronts xs ys s t a b rest)

abbrev BadCause : List SectionText → SectionText → ℕ → Type 0
BadCause good bad at = ((AreInOrder (good ++ bad ∷ []) → ⊥) × (at ≡ bad.at)) ⊎ (AreInOrder (good ++ bad ∷ []) × BreaksAt bad.base bad.text at)

-- a bad section isn't among the good ones
not_among : (good more : List SectionText) (bad : SectionText) (at : ℕ) → BadCause good bad at → AreInOrder (good ++ bad ∷ more) → AllByRecursion IsGood (good ++ bad ∷ more) → ⊥
not_among good more bad at (inl c) order all = c.0 (one_of_good good more bad order)
not_among good more bad at (inr c) order all = let is = good_at good more bad all in good_or_broken bad.base at bad.text is.0 is.1 c.1

one_bad_cause : (good : List SectionText) (bad : SectionText) (at place : ℕ) → BadCause good bad at → BadCause good bad place → at ≡ place
one_bad_cause good bad at place (inl a) (inl b) = a.1 ∙ sym b.1
one_bad_cause good bad at place (inl a) (inr b) = absurd (a.0 b.0)
one_bad_cause good bad at place (inr a) (inl b) = absurd (b.0 a.0)
one_bad_cause good bad at place (inr a) (inr b) = one_break bad.base at place bad.text a.1 b.1

bad_same : (sections : List SectionText) (at place : ℕ) (a : HasBadSection sections at) (b : HasBadSection sections place) → Fronts a.good a.bad b.good b.bad → at ≡ place
bad_same sections at place a b (inl f) = one_bad_cause b.good b.bad at place (subst (λ s. BadCause b.good s at) f.1 (subst (λ g. BadCause g a.bad at) f.0 a.cause)) b.cause
bad_same sections at place a b (inr (inl f)) = absurd (not_among a.good f.0 a.bad at a.cause (subst AreInOrder f.1 b.order) (subst (AllByRecursion IsGood) f.1 b.whole))
bad_same sections at place a b (inr (inr f)) = absurd (not_among b.good f.0 b.bad place b.cause (subst AreInOrder f.1 a.order) (subst (AllByRecursion IsGood) f.1 a.whole))

one_bad : (sections : List SectionText) (at place : ℕ) → HasBadSection sections at → HasBadSection sections place → at ≡ place
one_bad sections at place a b = bad_same sections at place a b (fronts a.good b.good a.bad b.bad a.after b.after (sym a.split ∙ b.split))

one_first : (text : List ℕ) (at place : ℕ) → BreaksFirstAt text at → BreaksFirstAt text place → at ≡ place
one_first text at place (inl a) (inl b) = one_stray (script_parts text).front at place a b
one_first text at place (inl a) (inr b) = absurd (stray_or_blank (script_parts text).front at b.0 a)
one_first text at place (inr a) (inl b) = absurd (stray_or_blank (script_parts text).front place a.0 b)
one_first text at place (inr a) (inr b) = one_bad (script_parts text).sections at place a.1 b.1

script_in_order : (p : Option Section) (ts : List SectionText) → AreNumbered (first_number p) ts → AreInOrder ts
script_in_order None ts order = inr order
script_in_order (Some p) ts order = inl order

script_or_first : (text : List ℕ) (script : Script) (at : ℕ) → IsScript text script → BreaksFirstAt text at → ⊥
script_or_first text script at is (inl s) = stray_or_blank (script_parts text).front at is.front s
script_or_first text script at is (inr b) = good_or_bad (script_parts text).sections at (script_in_order script.setup (script_parts text).sections is.order) (all_good (script_parts text).sections (all_sections script.setup script.sessions) is.blocks) b.1

pub script_or_fault : (text : List ℕ) (script : Script) (at : ℕ) → IsScript text script → IsNoScript text at → ⊥
script_or_fault text script at is (inl long) = absurd (let short = is.short in omega (arith, long.0, short))
script_or_fault text script at is (inr (inl wrong)) = wrong.1 is.utf8
script_or_fault text script at is (inr (inr broken)) = script_or_first text script at is broken.2

pub one_place : (text : List ℕ) (at place : ℕ) → IsNoScript text at → IsNoScript text place → at ≡ place
one_place text at place (inl a) (inl b) = a.1 ∙ sym b.1
one_place text at place (inl a) (inr (inl b)) = absurd (omega (arith, a.0, b.0))
one_place text at place (inl a) (inr (inr b)) = absurd (omega (arith, a.0, b.0))
one_place text at place (inr (inl a)) (inl b) = absurd (omega (arith, a.0, b.0))
one_place text at place (inr (inl a)) (inr (inl b)) = sym (utf8_valid_len-IsValidUpTo text at a.2) ∙ utf8_valid_len-IsValidUpTo text place b.2
one_place text at place (inr (inl a)) (inr (inr b)) = absurd (a.1 b.1)
one_place text at place (inr (inr a)) (inl b) = absurd (omega (arith, a.0, b.0))
one_place text at place (inr (inr a)) (inr (inl b)) = absurd (b.1 a.1)
one_place text at place (inr (inr a)) (inr (inr b)) = one_first text at place a.2 b.2
