-- The sections of a script, one after the other.
use Prim.Native.Nat.{zero, suc}
use Rattle.std.proofs.Common.{◌≡◌, ℕ, ◌+◌, ◌<◌, ◌≤◌, List, [], ◌∷◌, ◌++◌, length, take, drop, Option, None, Some, refl, sym, ap, subst, ◌∙◌, arith, append_assoc, ◌⊎◌, inl, inr}
use Rattle.std.specs.Prelude.{IsTrue, IsUtf8, decimal}
use Rattle.std.specs.List.{AllByRecursion, list_all}
use Rattle.std.proofs.lemmas.Bool.{cases_lt}
use Rattle.std.proofs.lemmas.List.{append-nil, drop_all}
use Rattle.sql_lex.specs.Tokens.{is_blank}
use Rattle.script.specs.Lines.{Header, Setup, Session, SectionText, lines, parts_of, script_parts}
use Rattle.script.specs.Headers.{BeginsSection, StartsSection, behind, first_header}
use Rattle.script.specs.Script.{AreInOrder, AreNumbered, HasBadSection, HasBlocks, HaveBlocks, IsGood, IsScript, all_sections, first_number, max_script, numbered}
use Rattle.script.specs.Reached.{BreaksSection, HasSection, HasSections, HasSetup, IsBadSession, IsOutOfOrder, NoSetup}
use Rattle.script.specs.declared.sections.Script.{Script}
use Rattle.script.specs.declared.sections.Section.{Section}
use Rattle.script.proofs.LineLaws.{lines_nil}
use Rattle.script.proofs.SectionLaws.{front_nil, some_section}

-- the header of a number that isn't 0
pub numbered_session : (n : ℕ) → 1 ≤ n → numbered n ≡ Session (decimal n)
numbered_session zero some = absurd (omega arith)
numbered_session (suc n) some = refl

pub setup_is_none : (n : ℕ) → 1 ≤ n → numbered n ≡ Setup → ⊥
setup_is_none zero some e = absurd (omega arith)
setup_is_none (suc n) some e = absurd (cc)

-- a section more in a row of numbers
pub numbered_push : (n : ℕ) (done : List SectionText) (s : SectionText) → AreNumbered n done → s.header ≡ numbered (n + length done) → n + length done ≤ 16 → AreNumbered n (done ++ s ∷ [])
numbered_push n [] s done header most = let same : n + 0 ≡ n = omega arith in (header ∙ ap numbered same, omega arith, tt)
numbered_push n (d ∷ ds) s done header most =
    let same : n + suc (length ds) ≡ n + 1 + length ds = omega arith in
    (done.0, done.1, numbered_push (n + 1) ds s done.2 (header ∙ ap numbered same) (omega (arith, most)))

pub numbered_last : (n : ℕ) (done : List SectionText) (s : SectionText) → AreNumbered n (done ++ s ∷ []) → (s.header ≡ numbered (n + length done)) × (n + length done ≤ 16)
numbered_last n [] s all = let same : n ≡ n + 0 = omega arith in (all.0 ∙ ap numbered same, omega (arith, all.1))
numbered_last n (d ∷ ds) s all =
    let rest = numbered_last (n + 1) ds s all.2 in
    let same : n + 1 + length ds ≡ n + suc (length ds) = omega arith in
    (rest.0 ∙ ap numbered same, omega (arith, rest.1))

pub numbered_front : (n : ℕ) (done more : List SectionText) → AreNumbered n (done ++ more) → AreNumbered n done
numbered_front n [] more all = tt
numbered_front n (d ∷ ds) more all = (all.0, all.1, numbered_front (n + 1) ds more all.2)

-- blocks of one section more
pub blocks_push : (done : List SectionText) (sections : List Section) (t : SectionText) (s : Section) → HaveBlocks done sections → HasBlocks t s.blocks → HaveBlocks (done ++ t ∷ []) (sections ++ s ∷ [])
blocks_push [] sections t s have blocks = (s, [], ap (λ (l : List Section). l ++ s ∷ []) have, blocks, refl)
blocks_push (d ∷ ds) sections t s have blocks = (have.0, have.1 ++ s ∷ [], ap (λ (l : List Section). l ++ s ∷ []) have.2, have.3, blocks_push ds have.1 t s have.4 blocks)

pub blocks_count : (done : List SectionText) (sections : List Section) → HaveBlocks done sections → length done ≡ length sections
blocks_count [] sections have = sym (ap length have)
blocks_count (d ∷ ds) sections have = omega (arith, blocks_count ds have.1 have.4, ap length have.2)

pub all_good : (done : List SectionText) (sections : List Section) → HaveBlocks done sections → AllByRecursion IsGood done
all_good [] sections have = tt
all_good (d ∷ ds) sections have = ((have.3.statements, have.3.are_statements), all_good ds have.1 have.4)

all_push : (setup : Option Section) (sessions : List Section) (s : Section) → all_sections setup (sessions ++ s ∷ []) ≡ all_sections setup sessions ++ s ∷ []
all_push None sessions s = refl
all_push (Some setup) sessions s = refl

-- how many sections there are before the session of a number
count_is : (setup : Option Section) (sessions : List Section) → first_number setup + length (all_sections setup sessions) ≡ length sessions + 1
count_is None sessions = omega arith
count_is (Some setup) sessions = omega arith

no_setup_more : (text : List ℕ) (at : ℕ) (setup : Option Section) (sessions : List Section) (s : Section) → NoSetup text at setup (sessions ++ s ∷ [])
no_setup_more text at None [] s = tt
no_setup_more text at None (x ∷ xs) s = tt
no_setup_more text at (Some setup) [] s = tt
no_setup_more text at (Some setup) (x ∷ xs) s = tt

-- what is split so far, and one section more
split_more : (sections done rest after : List SectionText) (read : SectionText) → sections ≡ done ++ rest → rest ≡ read ∷ after → sections ≡ (done ++ read ∷ []) ++ after
split_more sections done rest after read split is = split ∙ ap (λ (l : List SectionText). done ++ l) is ∙ sym (append_assoc done (read ∷ []) after)

-- a session more is read
pub one_more : (text : List ℕ) (at end : ℕ) (setup : Option Section) (sessions : List Section) (session : Section) → HasSections text at setup sessions → HasSection text at end (numbered (length sessions + 1)) session → length sessions + 1 ≤ 16 → HasSections text end setup (sessions ++ session ∷ [])
one_more text at end setup sessions session so_far found most =
    let count : first_number setup + length so_far.done ≡ length sessions + 1 = omega (arith, count_is setup sessions, blocks_count so_far.done (all_sections setup sessions) so_far.blocks) in
    record {
      done = so_far.done ++ found.read ∷ [];
      split = split_more (script_parts text).sections so_far.done (parts_of at (lines (drop at text))).sections (parts_of end (lines (drop end text))).sections found.read so_far.split found.stands.split;
      starts = found.starts;
      order = numbered_push (first_number setup) so_far.done found.read so_far.order (found.header_is ∙ ap numbered (sym count)) (omega (arith, count, most));
      blocks = subst (HaveBlocks (so_far.done ++ found.read ∷ [])) (sym (all_push setup sessions session)) (blocks_push so_far.done (all_sections setup sessions) found.read session so_far.blocks found.blocks);
      no_setup = no_setup_more text end setup sessions session;
      within = found.within;
    }

-- what stands before the first header, and what is behind it
pub front_is : (text : List ℕ) (front : ℕ) → parts_of 0 (lines text) ≡ behind (take front text) (parts_of (0 + front) (lines (drop front text))) → StartsSection (lines (drop front text)) → (script_parts text).front ≡ take front text
front_is text front parts starts = ap (λ p. p.front) parts ∙ ap (λ (l : List ℕ). take front text ++ l) (front_nil (0 + front) (lines (drop front text)) starts) ∙ append-nil (take front text)

pub sections_from : (text : List ℕ) (front : ℕ) → parts_of 0 (lines text) ≡ behind (take front text) (parts_of (0 + front) (lines (drop front text))) → (script_parts text).sections ≡ (parts_of front (lines (drop front text))).sections
sections_from text front parts = let same : 0 + front ≡ front = omega arith in ap (λ p. p.sections) parts ∙ ap (λ k. (parts_of k (lines (drop front text))).sections) same

-- the setup is read, or there is none
pub begun : (text : List ℕ) (front at : ℕ) (setup : Option Section) → (script_parts text).sections ≡ (parts_of front (lines (drop front text))).sections → StartsSection (lines (drop front text)) → front ≤ length text → HasSetup text front at setup → HasSections text at setup []
begun text front at None sections starts within found =
    record {
      done = [];
      split = subst (λ k. (script_parts text).sections ≡ (parts_of k (lines (drop k text))).sections) (sym found.0) sections;
      starts = subst (λ k. StartsSection (lines (drop k text))) (sym found.0) starts;
      order = tt;
      blocks = refl;
      no_setup = subst (λ k. BeginsSection (lines (drop k text)) Setup → ⊥) (sym found.0) found.1;
      within = subst (λ k. k ≤ length text) (sym found.0) within;
    }
begun text front at (Some setup) sections starts within found = record {
  done = found.read ∷ [];
  split = sections ∙ found.stands.split;
  starts = found.starts;
  order = (found.header_is, omega arith, tt);
  blocks = (setup, [], refl, found.blocks, refl);
  no_setup = tt;
  within = found.within;
}

in_order : (setup : Option Section) (done : List SectionText) → AreNumbered (first_number setup) done → AreInOrder done
in_order None done order = inr order
in_order (Some setup) done order = inl order

-- numbers from 0 and from 1 on aren't the same
pub not_both : (d : SectionText) (ds es : List SectionText) → AreNumbered 0 (d ∷ ds) → AreNumbered 1 (d ∷ es) → ⊥
not_both d ds es zero_on one_on = setup_is_none 1 (omega arith) (sym one_on.0 ∙ zero_on.0)

-- a section that isn't the next is out of order
out_of_order : (text : List ℕ) (at : ℕ) (setup : Option Section) (sessions : List Section) (done : List SectionText) (read : SectionText) → AreNumbered (first_number setup) done → HaveBlocks done (all_sections setup sessions) → NoSetup text at setup sessions → BeginsSection (lines (drop at text)) read.header → (read.header ≡ numbered (length sessions + 1) → length sessions + 1 ≤ 16 → ⊥) → AreInOrder (done ++ read ∷ []) → ⊥
out_of_order text at None [] [] read order blocks no_setup begins misplaced (inl from_zero) = no_setup (begins ∙ ap Some from_zero.0)
out_of_order text at None [] [] read order blocks no_setup begins misplaced (inr from_one) = misplaced from_one.0 (omega arith)
out_of_order text at None [] (d ∷ ds) read order blocks no_setup begins misplaced all = absurd (let count = blocks_count (d ∷ ds) [] blocks in omega (arith, count))
out_of_order text at None (s ∷ ss) [] read order blocks no_setup begins misplaced all = absurd (let count = blocks_count [] (s ∷ ss) blocks in omega (arith, count))
out_of_order text at None (s ∷ ss) (d ∷ ds) read order blocks no_setup begins misplaced (inl from_zero) = not_both d (ds ++ read ∷ []) ds from_zero order
out_of_order text at None (s ∷ ss) (d ∷ ds) read order blocks no_setup begins misplaced (inr from_one) =
    let last = numbered_last 1 (d ∷ ds) read from_one in
    let count : 1 + length (d ∷ ds) ≡ length (s ∷ ss) + 1 = omega (arith, blocks_count (d ∷ ds) (s ∷ ss) blocks) in
    misplaced (last.0 ∙ ap numbered count) (omega (arith, last.1, count))
out_of_order text at (Some setup) sessions [] read order blocks no_setup begins misplaced all = absurd (let count = blocks_count [] (setup ∷ sessions) blocks in omega (arith, count))
out_of_order text at (Some setup) sessions (d ∷ ds) read order blocks no_setup begins misplaced (inl from_zero) =
    let last = numbered_last 0 (d ∷ ds) read from_zero in
    let count : 0 + length (d ∷ ds) ≡ length sessions + 1 = omega (arith, blocks_count (d ∷ ds) (setup ∷ sessions) blocks) in
    misplaced (last.0 ∙ ap numbered count) (omega (arith, last.1, count))
out_of_order text at (Some setup) sessions (d ∷ ds) read order blocks no_setup begins misplaced (inr from_one) = not_both d ds (ds ++ read ∷ []) order from_one

-- a session whose number is too great, or whose header is another
pub too_many : (text : List ℕ) (at number : ℕ) → StartsSection (lines (drop at text)) → at < length text → 16 < number → IsOutOfOrder text at number
too_many text at number starts inside many =
    let found = some_section text at starts inside in
    record { read = found.0; after = found.1; stands = found.2; begins = found.3; misplaced = λ e most. absurd (omega (arith, many, most)) }

pub another : (text : List ℕ) (at number : ℕ) → StartsSection (lines (drop at text)) → at < length text → 1 ≤ number → (BeginsSection (lines (drop at text)) (Session (decimal number)) → ⊥) → IsOutOfOrder text at number
another text at number starts inside some other =
    let found = some_section text at starts inside in
    record { read = found.0; after = found.1; stands = found.2; begins = found.3; misplaced = λ e most. other (found.3 ∙ ap Some (e ∙ numbered_session number some)) }

inside_so : (text : List ℕ) (at : ℕ) (header : Header) → BeginsSection (lines (drop at text)) header → (at < length text) ⊎ (length text ≤ at) → at < length text
inside_so text at header begins (inl inside) = inside
inside_so text at header begins (inr past) = absurd (let none : None ≡ Some header = sym (ap first_header (ap lines (drop_all at text past) ∙ lines_nil)) ∙ begins in cc)

-- where a header stands, the text continues
pub inside_of : (text : List ℕ) (at : ℕ) (header : Header) → BeginsSection (lines (drop at text)) header → at < length text
inside_of text at header begins = inside_so text at header begins (cases_lt at (length text))

-- the next section is at fault
pub bad_session : (text : List ℕ) (at place : ℕ) (setup : Option Section) (sessions : List Section) → HasSections text at setup sessions → IsBadSession text at (length sessions + 1) place → HasBadSection (script_parts text).sections place
bad_session text at place setup sessions so_far (inl bad) =
    let out = bad.0 in
    record {
      good = so_far.done;
      bad = out.read;
      after = out.after;
      split = so_far.split ∙ ap (λ (l : List SectionText). so_far.done ++ l) out.stands.split;
      order = in_order setup so_far.done so_far.order;
      whole = all_good so_far.done (all_sections setup sessions) so_far.blocks;
      cause = inl (out_of_order text at setup sessions so_far.done out.read so_far.order so_far.blocks so_far.no_setup out.begins out.misplaced, bad.1 ∙ sym out.stands.place);
    }
bad_session text at place setup sessions so_far (inr bad) =
    let broken = bad.1 in
    let count : first_number setup + length so_far.done ≡ length sessions + 1 = omega (arith, count_is setup sessions, blocks_count so_far.done (all_sections setup sessions) so_far.blocks) in
    record {
      good = so_far.done;
      bad = broken.read;
      after = broken.after;
      split = so_far.split ∙ ap (λ (l : List SectionText). so_far.done ++ l) broken.stands.split;
      order = in_order setup so_far.done so_far.order;
      whole = all_good so_far.done (all_sections setup sessions) so_far.blocks;
      cause = inr (in_order setup (so_far.done ++ broken.read ∷ []) (numbered_push (first_number setup) so_far.done broken.read so_far.order (broken.header_is ∙ ap numbered (sym count)) (omega (arith, count, bad.0))), broken.breaks);
    }

-- the setup is at fault
pub bad_setup : (text : List ℕ) (front place : ℕ) → (script_parts text).sections ≡ (parts_of front (lines (drop front text))).sections → BreaksSection text front Setup place → HasBadSection (script_parts text).sections place
bad_setup text front place sections broken = record {
  good = [];
  bad = broken.read;
  after = broken.after;
  split = sections ∙ broken.stands.split;
  order = inl tt;
  whole = tt;
  cause = inr (inl (broken.header_is, omega arith, tt), broken.breaks);
}

no_sections : (at : ℕ) → (parts_of at []).sections ≡ []
unfolding parts_of
no_sections at = refl

-- at the end of the text all sections are read
pub all_sections_read : (text : List ℕ) (at : ℕ) (script : Script) → length text ≤ max_script → IsUtf8 text → IsTrue (list_all is_blank (script_parts text).front) → HasSections text at script.setup script.sessions → length text ≤ at → IsScript text script
all_sections_read text at script short utf8 blank so_far past =
    let none : (parts_of at (lines (drop at text))).sections ≡ [] = ap (λ (l : List ℕ). (parts_of at (lines l)).sections) (drop_all at text past) ∙ ap (λ ls. (parts_of at ls).sections) lines_nil ∙ no_sections at in
    let all : so_far.done ≡ (script_parts text).sections = sym (so_far.split ∙ ap (λ (l : List SectionText). so_far.done ++ l) none ∙ append-nil so_far.done) in
    record {
      short = short;
      utf8 = utf8;
      front = blank;
      order = subst (AreNumbered (first_number script.setup)) all so_far.order;
      blocks = subst (λ l. HaveBlocks l (all_sections script.setup script.sessions)) all so_far.blocks;
    }
