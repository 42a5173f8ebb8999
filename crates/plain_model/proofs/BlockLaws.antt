-- A block has one meaning; one that is rolled back leaves the tables; blocks one after the other.
use Rattle.std.proofs.Common.{◌≡◌, ◌⊎◌, inl, inr, ℕ, Bool, true, false, List, [], ◌∷◌, ◌++◌, Option, None, Some, Result, Ok, Err, refl, ap, sym, ◌∙◌, subst}
use Rattle.std.specs.List.{AllByRecursion}
use Rattle.row_types.specs.Block.{Placed}
use Rattle.row_types.specs.declared.block.Block.{Block}
use Rattle.row_types.specs.declared.block.Block.TheVariants.{Alone, Transaction}
use Rattle.row_types.specs.declared.block.BlockEnd.{BlockEnd}
use Rattle.row_types.specs.declared.block.BlockEnd.TheVariants.{Commit, Rollback, CutOff}
use Rattle.row_types.specs.Tables.{Tables}
use Rattle.sql_parse.specs.Grammar.{IsStatement}
use Rattle.sql_parse.specs.Faults.{IsText, IsFault}
use Rattle.sql_parse.specs.declared.statement.Statement.{Statement}
use Rattle.plain_model.specs.declared.reply.Reply.{Reply}
use Rattle.plain_model.specs.declared.reply.Refusal.{Refusal}
use Rattle.plain_model.specs.declared.reply.Refusal.TheVariants as refusals
use Rattle.plain_model.specs.declared.stop.Resource.TheVariants.{LogFull}
use Rattle.plain_model.specs.Blocks.{IsRead, misplaced, IsAllowed, IsRefused, IsLacking, AnswersUnless, Answers, IsSpent, IsNotBegun, AloneAnswers, without_block, end_tables, IsSpentEnd, Ends, Inside, TransactionAnswers, block_means, Said, Serial, IsPlain}

-- ---- one meaning

-- both replies and the tables after them are the same
abbrev pub Same : {A : Type 0} → A → A → Tables → Tables → Type 0
Same p q a b = (p ≡ q) × (a ≡ b)

same_refused : (refusal : Refusal) (old a b : Tables) (p q : Reply) → IsRefused refusal old p a → IsRefused refusal old q b → Same p q a b
same_refused refusal old a b p q is_p is_q = (is_p.0 ∙ sym is_q.0, is_p.1 ∙ sym is_q.1)

lacking_not_plain : {X : Type 0} (statement : Statement) (old new : Tables) (reply : Reply) → IsPlain reply → IsLacking statement old reply new → X
lacking_not_plain statement old new reply plain is = absurd (plain.0 is.0 is.2.0)

spent_not_plain : {X : Type 0} (reply : Reply) → IsPlain reply → IsSpent reply → X
spent_not_plain reply plain is = absurd (plain.1 is.0 is.1)

not_begun_not_plain : {X : Type 0} (reply : Reply) → IsPlain reply → IsNotBegun reply → X
not_begun_not_plain reply plain (inl spent) = spent_not_plain reply plain spent
not_begun_not_plain reply plain (inr full) = absurd (plain.0 (LogFull full.0 full.1) full.2)

same_unless : (o : Option Refusal) (statement : Statement) (old a b : Tables) (p q : Reply) → IsPlain p → IsPlain q → AnswersUnless o statement old p a → AnswersUnless o statement old q b → Same p q a b
same_unless (Some refusal) statement old a b p q plain_p plain_q is_p is_q = same_refused refusal old a b p q is_p is_q
same_unless None statement old a b p q plain_p plain_q (inl is_p) (inl is_q) = (is_p.0 ∙ sym is_q.0, is_p.1 ∙ sym is_q.1)
same_unless None statement old a b p q plain_p plain_q (inr lacks) is_q = lacking_not_plain statement old a p plain_p lacks
same_unless None statement old a b p q plain_p plain_q (inl is_p) (inr lacks) = lacking_not_plain statement old b q plain_q lacks

same_answer : (is_inside : Bool) (read : Result Statement ℕ) (old a b : Tables) (p q : Reply) → IsPlain p → IsPlain q → Answers is_inside read old p a → Answers is_inside read old q b → Same p q a b
same_answer is_inside (Err at) old a b p q plain_p plain_q is_p is_q = same_refused (refusals.Syntax at) old a b p q is_p is_q
same_answer is_inside (Ok statement) old a b p q plain_p plain_q is_p is_q = same_unless (misplaced is_inside statement) statement old a b p q plain_p plain_q is_p is_q

same_alone : (read : Result Statement ℕ) (old a b : Tables) (p q : Reply) → IsPlain p → IsPlain q → AloneAnswers read old p a → AloneAnswers read old q b → Same p q a b
same_alone read old a b p q plain_p plain_q (inl is_p) (inl is_q) = same_answer false read old a b p q plain_p plain_q is_p is_q
same_alone read old a b p q plain_p plain_q (inr refused) is_q = not_begun_not_plain p plain_p refused.1
same_alone read old a b p q plain_p plain_q (inl is_p) (inr refused) = not_begun_not_plain q plain_q refused.1

spent_end_not_plain : {X : Type 0} (end : BlockEnd) (replies : List Reply) → AllByRecursion IsPlain replies → IsSpentEnd end replies → X
spent_end_not_plain Commit replies plain is = spent_not_plain is.0 (subst (λ (l : List Reply). AllByRecursion IsPlain l) is.2 plain).0 is.1
spent_end_not_plain Rollback replies plain is = spent_not_plain is.0 (subst (λ (l : List Reply). AllByRecursion IsPlain l) is.2 plain).0 is.1
spent_end_not_plain CutOff replies plain is = absurd is

same_end : (end : BlockEnd) (first now a b : Tables) (p q : List Reply) → AllByRecursion IsPlain p → AllByRecursion IsPlain q → Ends end first now p a → Ends end first now q b → Same p q a b
same_end end first now a b p q plain_p plain_q (inl is_p) (inl is_q) = (is_p.0 ∙ sym is_q.0, is_p.1 ∙ sym is_q.1)
same_end end first now a b p q plain_p plain_q (inr spent) is_q = spent_end_not_plain end p plain_p spent.0
same_end end first now a b p q plain_p plain_q (inl is_p) (inr spent) = spent_end_not_plain end q plain_q spent.0

-- a text is read in one way, which the laws of the parser say
abbrev pub ReadsOnce : Type 0
ReadsOnce = (text : Placed) (a b : Result Statement ℕ) → IsRead text a → IsRead text b → a ≡ b

abbrev Rest : List Placed → BlockEnd → Tables → Tables → List Reply → Reply → Tables → Result Statement ℕ → Type 0
Rest texts end first now replies reply last read = ((next : Tables) × Answers true read now reply next × Inside texts end first next replies last) ⊎ (IsAllowed true read × IsSpent reply × (replies ≡ without_block texts end) × (last ≡ first))

-- two answers to one statement, and what follows them
same_rest : (texts : List Placed) (end : BlockEnd) (first now a b : Tables) (r s : Reply) (rs ss : List Reply) → IsPlain r → IsPlain s
    → ((next : Tables) → Inside texts end first next rs a → Inside texts end first next ss b → Same rs ss a b)
    → (read : Result Statement ℕ) → Rest texts end first now rs r a read → Rest texts end first now ss s b read → Same (r ∷ rs) (s ∷ ss) a b
same_rest texts end first now a b r s rs ss plain_r plain_s behind read (inl one) (inl two) =
    let reply = same_answer true read now one.0 two.0 r s plain_r plain_s one.1 two.1 in
    let more : Inside texts end first one.0 ss b = subst (λ (t : Tables). Inside texts end first t ss b) (sym reply.1) two.2 in
    let rest = behind one.0 one.2 more in
    (cc (reply.0, rest.0), rest.1)
same_rest texts end first now a b r s rs ss plain_r plain_s behind read (inr spent) two = spent_not_plain r plain_r spent.1
same_rest texts end first now a b r s rs ss plain_r plain_s behind read (inl one) (inr spent) = spent_not_plain s plain_s spent.1

module _ (once : ReadsOnce) where
  same_inside : (texts : List Placed) (end : BlockEnd) (first now a b : Tables) (p q : List Reply) → AllByRecursion IsPlain p → AllByRecursion IsPlain q
      → Inside texts end first now p a → Inside texts end first now q b → Same p q a b
  same_inside [] end first now a b p q plain_p plain_q is_p is_q = same_end end first now a b p q plain_p plain_q is_p is_q
  same_inside (text ∷ texts) end first now a b [] q plain_p plain_q is_p is_q = absurd is_p
  same_inside (text ∷ texts) end first now a b (r ∷ rs) [] plain_p plain_q is_p is_q = absurd is_q
  same_inside (text ∷ texts) end first now a b (r ∷ rs) (s ∷ ss) plain_p plain_q is_p is_q =
      let read = once text is_q.0 is_p.0 is_q.1 is_p.1 in
      let other : Rest texts end first now ss s b is_p.0 = subst (λ x. Rest texts end first now ss s b x) read is_q.2 in
      same_rest texts end first now a b r s rs ss plain_p.0 plain_q.0 (λ next x y. same_inside texts end first next a b rs ss plain_p.1 plain_q.1 x y) is_p.0 is_p.2 other

  same_transaction : (texts : List Placed) (end : BlockEnd) (first a b : Tables) (p q : List Reply) → AllByRecursion IsPlain p → AllByRecursion IsPlain q
      → TransactionAnswers texts end first p a → TransactionAnswers texts end first q b → Same p q a b
  same_transaction texts end first a b [] q plain_p plain_q is_p is_q = absurd is_p
  same_transaction texts end first a b (r ∷ rs) [] plain_p plain_q is_p is_q = absurd is_q
  same_transaction texts end first a b (r ∷ rs) (s ∷ ss) plain_p plain_q (inl is_p) (inl is_q) =
      let rest = same_inside texts end first first a b rs ss plain_p.1 plain_q.1 is_p.1 is_q.1 in (cc (is_p.0, is_q.0, rest.0), rest.1)
  same_transaction texts end first a b (r ∷ rs) (s ∷ ss) plain_p plain_q (inr refused) is_q = not_begun_not_plain r plain_p.0 refused.0
  same_transaction texts end first a b (r ∷ rs) (s ∷ ss) plain_p plain_q (inl is_p) (inr refused) = not_begun_not_plain s plain_q.0 refused.0

  pub same_block : (block : Block) (first a b : Tables) (p q : List Reply) → AllByRecursion IsPlain p → AllByRecursion IsPlain q → block_means block first p a → block_means block first q b → Same p q a b
  same_block (Alone text) first a b p q plain_p plain_q is_p is_q =
      let read = once text is_q.0 is_p.0 is_q.1 is_p.1 in
      let one = is_p.2 in
      let two = is_q.2 in
      let other : AloneAnswers is_p.0 first two.0 b = subst (λ x. AloneAnswers x first two.0 b) read two.2 in
      let plain_one = (subst (λ (l : List Reply). AllByRecursion IsPlain l) one.1 plain_p).0 in
      let plain_two = (subst (λ (l : List Reply). AllByRecursion IsPlain l) two.1 plain_q).0 in
      let same = same_alone is_p.0 first a b one.0 two.0 plain_one plain_two one.2 other in
      (one.1 ∙ ap (λ r. r ∷ []) same.0 ∙ sym two.1, same.1)
  same_block (Transaction t) first a b p q plain_p plain_q is_p is_q = same_transaction t.statements t.end first a b p q plain_p plain_q is_p is_q

-- ---- a block that is rolled back

-- an end that isn't COMMIT leaves the first tables
abbrev pub GoesBack : BlockEnd → Type 0
GoesBack end = (first now : Tables) → end_tables end first now ≡ first

back_inside : (texts : List Placed) (end : BlockEnd) (first now last : Tables) (replies : List Reply) → GoesBack end → Inside texts end first now replies last → last ≡ first
back_inside [] end first now last replies back (inl ends) = ends.1 ∙ back first now
back_inside [] end first now last replies back (inr spent) = spent.1
back_inside (text ∷ texts) end first now last [] back is = absurd is
back_inside (text ∷ texts) end first now last (reply ∷ replies) back is =
    elim is.2 [ inl next ↦ back_inside texts end first next.0 last replies back next.2 | inr spent ↦ spent.3 ]

pub back_transaction : (texts : List Placed) (end : BlockEnd) (first last : Tables) (replies : List Reply) → GoesBack end → TransactionAnswers texts end first replies last → last ≡ first
back_transaction texts end first last [] back is = absurd is
back_transaction texts end first last (reply ∷ replies) back (inl done) = back_inside texts end first first last replies back done.1
back_transaction texts end first last (reply ∷ replies) back (inr refused) = refused.2

-- ---- blocks one after the other

pub serial_joined : (first middle last : Tables) (before after : List Said) → Serial first before middle → Serial middle after last → Serial first (before ++ after) last
serial_joined first middle last [] after is more = subst (λ (t : Tables). Serial t after last) (sym is) more
serial_joined first middle last (said ∷ before) after is more = (is.0, is.1, serial_joined is.0 middle last before after is.2 more)

pub serial_parted : (first last : Tables) (before after : List Said) → Serial first (before ++ after) last → (middle : Tables) × Serial first before middle × Serial middle after last
serial_parted first last [] after is = (first, refl, is)
serial_parted first last (said ∷ before) after is = let rest = serial_parted is.0 last before after is.2 in (rest.0, (is.0, is.1, rest.1), rest.2)

-- ---- a text is read in one way

pub reads_once : ((base : ℕ) (text : List ℕ) (a b : Statement) → IsText IsStatement base text a → IsText IsStatement base text b → a ≡ b)
    → ((base at : ℕ) (text : List ℕ) (statement : Statement) → IsText IsStatement base text statement → IsFault IsStatement base text at → ⊥)
    → ((base at place : ℕ) (text : List ℕ) → IsFault IsStatement base text at → IsFault IsStatement base text place → at ≡ place)
    → ReadsOnce
reads_once one_statement not_both one_place text (Ok a) (Ok b) is_a is_b = ap Ok (one_statement text.base text.text a b is_a is_b)
reads_once one_statement not_both one_place text (Ok a) (Err at) is_a is_b = absurd (not_both text.base at text.text a is_a is_b)
reads_once one_statement not_both one_place text (Err at) (Ok b) is_a is_b = absurd (not_both text.base at text.text b is_b is_a)
reads_once one_statement not_both one_place text (Err at) (Err place) is_a is_b = ap Err (one_place text.base at place text.text is_a is_b)
