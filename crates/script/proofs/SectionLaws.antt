-- Statements of a section, one after the other, and sections of a text.
use Prim.Native.Nat.{zero, suc}
use Rattle.std.proofs.Common.{◌≡◌, ℕ, ◌+◌, ◌-◌, ◌<◌, ◌≤◌, Bool, true, false, List, [], ◌∷◌, ◌++◌, length, get_or, take, drop, Some, refl, sym, ap, subst, ◌∙◌, arith, append_assoc, length-append, ◌⊎◌, inl, inr}
use Rattle.std.specs.Prelude.{◌≢◌, ◌==◌, if◌then◌else◌, Result, Ok, Err, IfOk, IfErr}
use Rattle.std.specs.List.{slice_range}
use Rattle.std.specs.Str.{IsUtf8, IsCharBoundary}
use Rattle.std.proofs.lemmas.List.{append-nil, drop-drop, length-drop, length-take-le, get_or-drop}
use Rattle.std.proofs.lemmas.Bool.{cases_lt}
use Rattle.std.proofs.lemmas.Str.{IsCharBoundary-start, IsCharBoundary-end, IsCharBoundary-before_ascii, IsCharBoundary-after_ascii}
use Rattle.std.proofs.Math.Seq.{drop-append_seam, take-append_seam, get_or-append_seam}
use Rattle.row_types.specs.Block.{Placed}
use Rattle.row_types.specs.declared.block.Block.{Block}
use Rattle.script.specs.Lines.{Header, SectionText, in_first, lines, line_header, parts_of, with_line}
use Rattle.script.specs.Headers.{BeginsSection, StartsSection, behind, first_header}
use Rattle.script.specs.Statements.{AreEnded, AreKept, AreStatements, BreaksAt, IsEmpty, IsWhole}
use Rattle.script.specs.Blocks.{AreBlocks}
use Rattle.script.specs.Building.{Adds, Has}
use Rattle.script.specs.Faults.{IfBad}
use Rattle.script.specs.Reading.{end_of}
use Rattle.script.specs.Reached.{HasRead, StandAt}
use Rattle.script.specs.Script.{HasBlocks}
use Rattle.script.specs.declared.building.Builder.{Builder}
use Rattle.script.specs.declared.fault.ScriptFault.{ScriptFault}
use Rattle.script.specs.declared.fault.ScriptFault.TheVariants.{BadScript, OutOfMemory}
use Rattle.script.specs.declared.scanning.Inside.TheVariants.{Neither}
use Rattle.script.specs.declared.scanning.StatementEnd.TheVariants.{Semicolon, LineEnd, TextEnd}
use Rattle.script.proofs.LineLaws.{ended_at}
use Rattle.script.proofs.ScanLaws.{read_is_so}

-- no text is no token
pub empty_nil : IsEmpty []
empty_nil = record { rest = []; begins = refl; ends = inl (record { pauses = []; whole = refl; each = tt }) }

-- a statement more is ended
pub ended_push : (base : ℕ) (ended : List Placed) (text rest after : List ℕ) (s : Placed) → AreEnded base ended text rest → rest ≡ s.text ++ 59 ∷ after → IsWhole s.text (59 ∷ after) → s.base + length rest ≡ base + length text → AreEnded base (ended ++ s ∷ []) text after
ended_push base [] text rest after s begins split whole place = (after, omega (arith, place, ap length begins), begins ∙ split, whole, refl)
ended_push base (x ∷ xs) text rest after s begins split whole place =
    (begins.0, begins.1, begins.2, begins.3, ended_push (base + length x.text + 1) xs begins.0 rest after s begins.4 split whole (omega (arith, place, ap length begins.2, length-append x.text (59 ∷ begins.0))))

pub kept_skip : (ended kept : List Placed) (s : Placed) → AreKept ended kept → IsEmpty s.text → AreKept (ended ++ s ∷ []) kept
kept_skip [] kept s keeps empty = inl (empty, keeps)
kept_skip (x ∷ xs) kept s (inl k) empty = inl (k.0, kept_skip xs kept s k.1 empty)
kept_skip (x ∷ xs) kept s (inr k) empty = inr (k.0, k.1, k.2, kept_skip xs k.1 s k.3 empty)

pub kept_push : (ended kept : List Placed) (s : Placed) → AreKept ended kept → (IsEmpty s.text → ⊥) → AreKept (ended ++ s ∷ []) (kept ++ s ∷ [])
kept_push [] kept s keeps some = inr (some, [], ap (λ (l : List Placed). l ++ s ∷ []) keeps, refl)
kept_push (x ∷ xs) kept s (inl k) some = inl (k.0, kept_push xs kept s k.1 some)
kept_push (x ∷ xs) kept s (inr k) some = inr (k.0, k.1 ++ s ∷ [], ap (λ (l : List Placed). l ++ s ∷ []) k.2, kept_push xs k.1 s k.3 some)

-- what a section begins with
pub nothing_read : (base : ℕ) (text : List ℕ) (builder : Builder) → Has builder [] → HasRead base text text builder
nothing_read base text builder has = record { ended = []; kept = []; begins = refl; keeps = refl; built = has }

-- a statement more is read
pub one_read : (base : ℕ) (text rest after : List ℕ) (old new : Builder) (s : Placed) → HasRead base text rest old → rest ≡ s.text ++ 59 ∷ after → IsWhole s.text (59 ∷ after) → s.base + length rest ≡ base + length text → Adds s old new → HasRead base text after new
one_read base text rest after old new s read split whole place (inl skip) = record {
  ended = read.ended ++ s ∷ [];
  kept = read.kept;
  begins = ended_push base read.ended text rest after s read.begins split whole place;
  keeps = kept_skip read.ended read.kept s read.keeps skip.0;
  built = subst (λ b. Has b read.kept) (sym skip.1) read.built;
}
one_read base text rest after old new s read split whole place (inr more) = record {
  ended = read.ended ++ s ∷ [];
  kept = read.kept ++ s ∷ [];
  begins = ended_push base read.ended text rest after s read.begins split whole place;
  keeps = kept_push read.ended read.kept s read.keeps more.0;
  built = more.1 read.kept read.built;
}

behind_seam : (xs ys : List ℕ) (n : ℕ) → n ≡ length xs → drop (n + 1) (xs ++ 59 ∷ ys) ≡ ys
behind_seam xs ys n e =
    let len : length (xs ++ 59 ∷ []) ≡ n + 1 = omega (arith, e, length-append xs (59 ∷ [])) in
    ap (λ m. drop m (xs ++ 59 ∷ ys)) (sym len) ∙ ap (λ (l : List ℕ). drop (length (xs ++ 59 ∷ [])) l) (sym (append_assoc xs (59 ∷ []) ys)) ∙ drop-append_seam (xs ++ 59 ∷ []) ys

-- the statement that the scan finds at a place, and what is behind its semicolon
pub record Next (text : List ℕ) (at len : ℕ) : Type 0 where
  pub split : drop at text ≡ take len (drop at text) ++ 59 ∷ drop (at + (len + 1)) text
  pub whole : IsWhole (take len (drop at text)) (59 ∷ drop (at + (len + 1)) text)
  pub within : at + (len + 1) ≤ length text
  pub semicolon : get_or text (at + len) 0 ≡ 59

pub next_is : (text : List ℕ) (at len : ℕ) → at ≤ length text → Semicolon len ≡ end_of Neither (drop at text) → Next text at len
next_is text at len within found =
    let s = read_is_so (drop at text) (Semicolon len) (sym found) in
    let front : take len (drop at text) ≡ s.0 = ap (λ n. take n (drop at text)) s.4 ∙ ap (λ (l : List ℕ). take (length s.0) l) s.2 ∙ take-append_seam s.0 (59 ∷ s.1) in
    let rest : drop (at + (len + 1)) text ≡ s.1 = sym (drop-drop (len + 1) at text) ∙ ap (λ (l : List ℕ). drop (len + 1) l) s.2 ∙ behind_seam s.0 s.1 len s.4 in
    record {
      split = subst (λ (l : List ℕ). drop at text ≡ take len (drop at text) ++ 59 ∷ l) (sym rest) (subst (λ (l : List ℕ). drop at text ≡ l ++ 59 ∷ s.1) (sym front) s.2);
      whole = subst (λ (l : List ℕ). IsWhole (take len (drop at text)) (59 ∷ l)) (sym rest) (subst (λ (l : List ℕ). IsWhole l (59 ∷ s.1)) (sym front) s.3);
      within = omega (arith, s.4, ap length s.2, length-append s.0 (59 ∷ s.1), length-drop at text);
      semicolon = sym (get_or-drop at text len 0) ∙ ap (λ (l : List ℕ). get_or l len 0) s.2 ∙ ap (λ n. get_or (s.0 ++ 59 ∷ s.1) n 0) s.4 ∙ get_or-append_seam s.0 59 s.1 0;
    }

-- where a line ends in a literal, the section breaks
pub breaks_in_literal : (base at len : ℕ) (text : List ℕ) (builder : Builder) → at ≤ length text → HasRead base text (drop at text) builder → LineEnd len ≡ end_of Neither (drop at text) → BreaksAt base text (base + (at + len))
breaks_in_literal base at len text builder within read found =
    let s = read_is_so (drop at text) (LineEnd len) (sym found) in
    record { ended = read.ended; rest = drop at text; begins = read.begins; cause = inl (s.0, s.1, omega (arith, s.2, length-drop at text)) }

-- where it ends in a statement, too
pub breaks_at_end : (base at : ℕ) (text : List ℕ) (builder : Builder) → HasRead base text (drop at text) builder → TextEnd ≡ end_of Neither (drop at text) → (IsEmpty (drop at text) → ⊥) → BreaksAt base text (base + length text)
breaks_at_end base at text builder read found some =
    record { ended = read.ended; rest = drop at text; begins = read.begins; cause = inr (record { some = some; open_end = read_is_so (drop at text) TextEnd (sym found) }, refl) }

-- the statements are all
pub all_read : (base : ℕ) (text rest : List ℕ) (builder : Builder) (blocks : List Block) (read : HasRead base text rest builder) → IsEmpty rest → AreBlocks blocks read.kept → (statements : List Placed) × AreStatements base text statements × AreBlocks blocks statements
all_read base text rest builder blocks read empty are = (read.kept, record { ended = read.ended; rest = rest; begins = read.begins; ends = empty; kept = read.keeps }, are)

-- the same of a result
pub all_read_so : {E : Type 0} (base : ℕ) (text rest : List ℕ) (builder : Builder) (result : Result (List Block) E) (read : HasRead base text rest builder) → IfOk result (λ _. IsEmpty rest) → ((statements : List Placed) → Has builder statements → IfOk result (λ blocks. AreBlocks blocks statements)) → IfOk result (λ blocks. (statements : List Placed) × AreStatements base text statements × AreBlocks blocks statements)
all_read_so base text rest builder (Ok blocks) read empty are = all_read base text rest builder blocks read empty (are read.kept read.built)
all_read_so base text rest builder (Err e) read empty are = tt

-- whether the new builder has one statement more
pub adds_so : {E : Type 0} (s : Placed) (old : Builder) (result : Result Builder E) → (IsEmpty s.text → ⊥) → ((statements : List Placed) → Has old statements → IfOk result (λ builder. Has builder (statements ++ s ∷ []))) → IfOk result (Adds s old)
adds_so s old (Ok builder) some has = inr (some, has)
adds_so s old (Err e) some has = tt

cut_at_end : (text : List ℕ) (at : ℕ) → at ≡ length text → IsCharBoundary text at
cut_at_end text at e = subst (IsCharBoundary text) (sym e) (IsCharBoundary-end text)

cut_cases : (text : List ℕ) (n : ℕ) → IsUtf8 text → n + 1 ≤ length text → (n + 1 < length text → get_or text n 0 < 128) → (n + 1 < length text) ⊎ (length text ≤ n + 1) → IsCharBoundary text (n + 1)
cut_cases text n utf8 within ascii (inl inside) = IsCharBoundary-after_ascii text n utf8 (omega arith) (ascii inside)
cut_cases text n utf8 within ascii (inr past) = cut_at_end text (n + 1) (omega arith)

cut_so : (text : List ℕ) (at : ℕ) → IsUtf8 text → at ≤ length text → (0 < at → at < length text → get_or text (at - 1) 0 < 128) → (0 < at) ⊎ (at ≤ 0) → IsCharBoundary text at
cut_so text at utf8 within ascii (inl some) =
    let one : at - 1 + 1 ≡ at = omega arith in
    subst (IsCharBoundary text) one (cut_cases text (at - 1) utf8 (omega arith) (λ inside. ascii some (omega arith)) (cases_lt (at - 1 + 1) (length text)))
cut_so text at utf8 within ascii (inr none) = let zero_is : 0 ≡ at = omega arith in subst (IsCharBoundary text) zero_is (IsCharBoundary-start text utf8)

-- a text may be cut where a line or a statement ends
pub cut_behind : (text : List ℕ) (at : ℕ) → IsUtf8 text → at ≤ length text → (0 < at → at < length text → get_or text (at - 1) 0 < 128) → IsCharBoundary text at
cut_behind text at utf8 within ascii = cut_so text at utf8 within ascii (cases_lt 0 at)

-- behind a line feed, or behind nothing
pub cut_behind_line : (text : List ℕ) (at : ℕ) → IsUtf8 text → at ≤ length text → (0 < at → at < length text → get_or text (at - 1) 0 ≡ 10) → IsCharBoundary text at
cut_behind_line text at utf8 within feed = cut_behind text at utf8 within (λ some inside. let e = feed some inside in omega arith)

-- before and behind a semicolon
pub cut_before_semicolon : (text : List ℕ) (at : ℕ) → get_or text at 0 ≡ 59 → at < length text → IsCharBoundary text at
cut_before_semicolon text at e inside = IsCharBoundary-before_ascii text at inside (omega arith)

pub cut_behind_semicolon : (text : List ℕ) (at : ℕ) → IsUtf8 text → get_or text at 0 ≡ 59 → at < length text → IsCharBoundary text (at + 1)
cut_behind_semicolon text at utf8 e inside = IsCharBoundary-after_ascii text at utf8 inside (omega arith)

-- before a header stands nothing
pub front_nil : (at : ℕ) (ls : List (List ℕ)) → StartsSection ls → (parts_of at ls).front ≡ []
unfolding parts_of
front_nil at [] starts = refl
front_nil at (line ∷ ls) starts = ap (λ o. (with_line at line o (parts_of (at + length line) ls)).front) starts.1

-- the sections of a text that begins with a header
pub sections_of : (at : ℕ) (line : List ℕ) (ls : List (List ℕ)) (header : Header) → line_header line ≡ Some header → (parts_of at (line ∷ ls)).sections ≡ (record { header = header; at = at; base = at + length line; text = (parts_of (at + length line) ls).front }) ∷ (parts_of (at + length line) ls).sections
unfolding parts_of
sections_of at line ls header is = ap (λ o. (with_line at line o (parts_of (at + length line) ls)).sections) is

-- a section from one place to another
pub section_is : (text : List ℕ) (at n m : ℕ) (header : Header) → n ≤ length (drop at text) → lines (drop at text) ≡ take n (drop at text) ∷ lines (drop n (drop at text)) → BeginsSection (lines (drop at text)) header → parts_of (at + n) (lines (drop (at + n) text)) ≡ behind (take m (drop (at + n) text)) (parts_of (at + n + m) (lines (drop m (drop (at + n) text)))) → StartsSection (lines (drop m (drop (at + n) text)))
    → StandAt text at (record { header = header; at = at; base = at + n; text = take m (drop (at + n) text) }) (parts_of (at + n + m) (lines (drop (at + n + m) text))).sections
section_is text at n m header within line begins parts starts =
    let first = take n (drop at text) in
    let rest = drop n (drop at text) in
    let len : at + length first ≡ at + n = omega (arith, length-take-le n (drop at text) within) in
    let is : line_header first ≡ Some header = ap first_header (sym line) ∙ begins in
    let behind_line = lines (drop (at + n) text) in
    let ends = lines (drop m (drop (at + n) text)) in
    let front : (parts_of (at + n) behind_line).front ≡ take m (drop (at + n) text) = ap (λ p. p.front) parts ∙ ap (λ (l : List ℕ). take m (drop (at + n) text) ++ l) (front_nil (at + n + m) ends starts) ∙ append-nil (take m (drop (at + n) text)) in
    let after : (parts_of (at + n) behind_line).sections ≡ (parts_of (at + n + m) (lines (drop (at + n + m) text))).sections = ap (λ p. p.sections) parts ∙ ap (λ (l : List ℕ). (parts_of (at + n + m) (lines l)).sections) (drop-drop m (at + n) text) in
    record {
      place = refl;
      split =
          ap (λ ls. (parts_of at ls).sections) line ∙ sections_of at first (lines rest) header is
          ∙ ap (λ k. (record { header = header; at = at; base = k; text = (parts_of k (lines rest)).front }) ∷ (parts_of k (lines rest)).sections) len
          ∙ ap (λ (l : List ℕ). (record { header = header; at = at; base = at + n; text = (parts_of (at + n) (lines l)).front }) ∷ (parts_of (at + n) (lines l)).sections) (drop-drop n at text)
          ∙ ap (λ (l : List ℕ). (record { header = header; at = at; base = at + n; text = l }) ∷ (parts_of (at + n) behind_line).sections) front
          ∙ ap (λ (ss : List SectionText). (record { header = header; at = at; base = at + n; text = take m (drop (at + n) text) }) ∷ ss) after;
    }

first_some : (b : ℕ) (bs : List ℕ) (t : Bool) (ls : List (List ℕ)) → (if t then (b ∷ []) ∷ ls else in_first b ls) ≢ []
first_some b bs true ls e = absurd (cc)
first_some b bs false [] e = absurd (cc)
first_some b bs false (l ∷ ls) e = absurd (cc)

-- a text that isn't empty has lines
some_lines : (text : List ℕ) → 0 < length text → lines text ≢ []
unfolding lines
some_lines [] some e = absurd (omega arith)
some_lines (b ∷ bs) some e = first_some b bs (b == 10) (lines bs) e

some_so : (text : List ℕ) (at : ℕ) (ls : List (List ℕ)) → lines (drop at text) ≡ ls → StartsSection ls → ls ≢ [] → (read : SectionText) × (after : List SectionText) × StandAt text at read after × BeginsSection (lines (drop at text)) read.header
some_so text at [] e starts some = absurd (some refl)
some_so text at (line ∷ ls) e starts some = (record { header = starts.0; at = at; base = at + length line; text = (parts_of (at + length line) ls).front }, (parts_of (at + length line) ls).sections, record { place = refl; split = ap (λ l. (parts_of at l).sections) e ∙ sections_of at line ls starts.0 starts.1 }, ap first_header e ∙ starts.1)

-- some section stands where a header does
pub some_section : (text : List ℕ) (at : ℕ) → StartsSection (lines (drop at text)) → at < length text → (read : SectionText) × (after : List SectionText) × StandAt text at read after × BeginsSection (lines (drop at text)) read.header
some_section text at starts inside = some_so text at (lines (drop at text)) refl starts (some_lines (drop at text) (omega (arith, length-drop at text)))

-- a fact of a fault from another
pub bad_weaker : (f : ScriptFault) (P Q : ℕ → Type 0) → ((at : ℕ) → P at → Q at) → IfBad f P → IfBad f Q
bad_weaker (BadScript at) P Q weaker is = weaker at is
bad_weaker OutOfMemory P Q weaker is = tt

pub err_weaker : {T : Type 0} (r : Result T ScriptFault) (P Q : ℕ → Type 0) → ((at : ℕ) → P at → Q at) → IfErr r (λ f. IfBad f P) → IfErr r (λ f. IfBad f Q)
err_weaker (Ok x) P Q weaker is = tt
err_weaker (Err f) P Q weaker is = bad_weaker f P Q weaker is

-- a slice of a text
pub slice_is : (xs : List ℕ) (at n : ℕ) → slice_range xs at (at + n) ≡ take n (drop at xs)
slice_is xs at n = let same : at + n - at ≡ n = omega arith in ap (λ m. take m (drop at xs)) same

-- where the scan stopped in a literal, the text continues
pub line_end_within : (text : List ℕ) (at len : ℕ) → at ≤ length text → LineEnd len ≡ end_of Neither (drop at text) → at + len < length text
line_end_within text at len within found =
    let s = read_is_so (drop at text) (LineEnd len) (sym found) in
    omega (arith, s.2, length-drop at text)

-- the section breaks where it ends in a statement
pub break_so : (base at : ℕ) (text rest : List ℕ) (builder : Builder) (result : Result (List Block) ScriptFault) → rest ≡ drop at text → HasRead base text (drop at text) builder → TextEnd ≡ end_of Neither (drop at text) → IfErr result (λ f. IfBad f (λ place. (IsEmpty rest → ⊥) × (place ≡ base + length text))) → IfErr result (λ f. IfBad f (BreaksAt base text))
break_so base at text rest builder result same read found is =
    err_weaker result (λ place. (IsEmpty rest → ⊥) × (place ≡ base + length text)) (BreaksAt base text) (λ place h. subst (BreaksAt base text) (sym h.1) (breaks_at_end base at text builder read found (subst (λ l. IsEmpty l → ⊥) same h.0))) is

-- what is known of the first line of a text, and of what stands before the next header
pub record LineFacts (text : List ℕ) (n : ℕ) : Type 0 where
  pub line : 0 < length text → lines text ≡ take n text ∷ lines (drop n text)
  pub some : 0 < length text → 0 < n
  pub within : n ≤ length text
  pub ended : n < length text → get_or text (n - 1) 0 ≡ 10

pub record FrontFacts (text : List ℕ) (m : ℕ) : Type 0 where
  pub parts : (at : ℕ) → parts_of at (lines text) ≡ behind (take m text) (parts_of (at + m) (lines (drop m text)))
  pub header : StartsSection (lines (drop m text))
  pub within : m ≤ length text
  pub ended : 0 < m → m < length text → get_or text (m - 1) 0 ≡ 10

-- what follows of a section
pub record SectionFacts (text : List ℕ) (at n m : ℕ) : Type 0 where
  pub cut_base : IsCharBoundary text (at + n)
  pub cut_end : IsCharBoundary text (at + n + m)
  pub longer : at < at + n + m
  pub within : at + n + m ≤ length text
  pub starts : StartsSection (lines (drop (at + n + m) text))
  pub stands : (header : Header) → BeginsSection (lines (drop at text)) header → StandAt text at (record { header = header; at = at; base = at + n; text = take m (drop (at + n) text) }) (parts_of (at + n + m) (lines (drop (at + n + m) text))).sections

feed_before_end : (text : List ℕ) (at n m : ℕ) → at < length text → LineFacts (drop at text) n → FrontFacts (drop (at + n) text) m → (m ≡ 0) ⊎ (0 < m) → at + n + m < length text → get_or text (at + n + m - 1) 0 ≡ 10
feed_before_end text at n m inside line front (inl none) goes_on =
    let len = length-drop at text in
    let some = line.some (omega (arith, len)) in
    let same : at + n - 1 ≡ at + n + m - 1 = omega arith in
    subst (λ i. get_or text i 0 ≡ 10) same (ended_at text at n (omega (arith, some)) some line.ended (omega arith))
feed_before_end text at n m inside line front (inr some) goes_on = ended_at text (at + n) m (omega arith) some (front.ended some) goes_on

zero_or_more : (m : ℕ) → (m ≡ 0) ⊎ (0 < m)
zero_or_more zero = inl refl
zero_or_more (suc m) = inr (omega arith)

pub section_facts : (text : List ℕ) (at n m : ℕ) → IsUtf8 text → at < length text → LineFacts (drop at text) n → FrontFacts (drop (at + n) text) m → SectionFacts text at n m
section_facts text at n m utf8 inside line front =
    let len = length-drop at text in
    let some = line.some (omega (arith, len)) in
    let base_within : at + n ≤ length text = omega (arith, len, line.within) in
    let end_within : at + n + m ≤ length text = omega (arith, length-drop (at + n) text, front.within, base_within) in
    record {
      cut_base = cut_behind_line text (at + n) utf8 base_within (λ before goes_on. ended_at text at n before some line.ended goes_on);
      cut_end = cut_behind_line text (at + n + m) utf8 end_within (λ before goes_on. feed_before_end text at n m inside line front (zero_or_more m) goes_on);
      longer = omega (arith, some);
      within = end_within;
      starts = subst (λ (l : List ℕ). StartsSection (lines l)) (drop-drop m (at + n) text) front.header;
      stands = λ header begins. section_is text at n m header line.within (line.line (omega (arith, len))) begins (front.parts (at + n)) front.header;
    }

-- blocks of a section whose text is this
pub has_blocks : (read : SectionText) (text : List ℕ) (blocks : List Block) → text ≡ read.text → (statements : List Placed) × AreStatements read.base text statements × AreBlocks blocks statements → HasBlocks read blocks
has_blocks read text blocks same found = record { statements = found.0; are_statements = subst (λ l. AreStatements read.base l found.0) same found.1; are_blocks = found.2 }
