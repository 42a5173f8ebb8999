-- Answers of sections one after the other.
use Rattle.std.proofs.Common.{◌≡◌, ◌≢◌, ◌<◌, ℕ, zero, suc, List, [], ◌∷◌, ◌++◌, length, Option, None, Some, IsSome, slice_get, arith, refl, sym, ◌∙◌, ap, subst}
use Rattle.std.proofs.lemmas.Grind.{flat_map-append}
use Rattle.std.proofs.lemmas.List.{append-nil}
use Rattle.std.specs.List.{AllByRecursion}
use Rattle.row_types.specs.declared.block.Block.{Block}
use Rattle.plain_model.specs.declared.reply.Reply.{Reply}
use Rattle.plain_model.specs.Blocks.{Said}
use Rattle.section_runs.specs.declared.section.SectionRun.{SectionRun}
use Rattle.section_runs.specs.declared.section.Halt.{Halt}
use Rattle.section_runs.specs.declared.section.Halt.TheVariants.{Done, Stopped, OutOfMemory}
use Rattle.section_runs.specs.Sections.{AreStopped, FailsAt, IsUnrun, all_said, block_at, faults_after, halt_of, said_by, stopped_by, stopped_in, to_run, with_replies, worse}

pub with_none : (blocks : List Block) → with_replies blocks [] ≡ []
with_none [] = refl
with_none (b ∷ blocks) = refl

-- one block more has replies
pub with_replies-push : (blocks : List Block) (said : List (List Reply)) (block : Block) (replies : List Reply) → slice_get blocks (length said) ≡ Some block
    → with_replies blocks (said ++ replies ∷ []) ≡ with_replies blocks said ++ record { block = block; replies = replies } ∷ []
with_replies-push [] said block replies is = absurd cc
with_replies-push (b ∷ blocks) [] block replies is =
    let same : b ≡ block = cc in
    let Pair : Block → Said = λ x. record { block = x; replies = replies } in
    ap (λ (x : Block). Pair x ∷ with_replies blocks []) same ∙ ap (λ (l : List Said). Pair block ∷ l) (with_none blocks)
with_replies-push (b ∷ blocks) (r ∷ said) block replies is =
    ap (λ (l : List Said). let s : Said = record { block = b; replies = r } in s ∷ l) (with_replies-push blocks said block replies is)

worse-assoc : (a b c : Halt) → worse a (worse b c) ≡ worse (worse a b) c
worse-assoc Done b c = refl
worse-assoc Stopped b c = refl
worse-assoc OutOfMemory Done c = refl
worse-assoc OutOfMemory Stopped c = refl
worse-assoc OutOfMemory OutOfMemory Done = refl
worse-assoc OutOfMemory OutOfMemory Stopped = refl
worse-assoc OutOfMemory OutOfMemory OutOfMemory = refl

worse-done : (a : Halt) → worse a Done ≡ a
worse-done Done = refl
worse-done Stopped = refl
worse-done OutOfMemory = refl

worse-stopped : (a : Halt) → worse a Stopped ≡ Stopped
worse-stopped Done = refl
worse-stopped Stopped = refl
worse-stopped OutOfMemory = refl

pub halt-push : (runs : List SectionRun) (run : SectionRun) → halt_of (runs ++ run ∷ []) ≡ worse (halt_of runs) run.halt
halt-push [] run = worse-done run.halt
halt-push (r ∷ runs) run = ap (worse r.halt) (halt-push runs run) ∙ worse-assoc r.halt (halt_of runs) run.halt

-- ---- The block at which the disk failed

no_block : (h rest : Halt) (block other : Option Block) → worse h rest ≢ Stopped → (block_at h block other ≡ other) × (rest ≢ Stopped)
no_block Done rest block other isnt = (refl, isnt)
no_block Stopped rest block other isnt = absurd (isnt refl)
no_block OutOfMemory Done block other isnt = (refl, λ is. absurd cc)
no_block OutOfMemory Stopped block other isnt = absurd (isnt refl)
no_block OutOfMemory OutOfMemory block other isnt = (refl, λ is. absurd cc)

pub none_stopped : (runs more : List SectionRun) → halt_of runs ≢ Stopped → stopped_in (runs ++ more) ≡ stopped_in more
none_stopped [] more isnt = refl
none_stopped (r ∷ runs) more isnt =
    let at = slice_get (to_run r.section) (length r.said) in
    let first = no_block r.halt (halt_of runs) at (stopped_in (runs ++ more)) isnt in
    first.0 ∙ none_stopped runs more first.1

some_block : (h rest : Halt) (block a b : Option Block) → worse h rest ≡ Stopped → (rest ≡ Stopped → a ≡ b) → block_at h block a ≡ block_at h block b
some_block Done rest block a b is later = later is
some_block Stopped rest block a b is later = refl
some_block OutOfMemory Done block a b is later = absurd cc
some_block OutOfMemory Stopped block a b is later = later refl
some_block OutOfMemory OutOfMemory block a b is later = absurd cc

pub once_stopped : (runs more : List SectionRun) → halt_of runs ≡ Stopped → stopped_in (runs ++ more) ≡ stopped_in runs
once_stopped [] more is = absurd cc
once_stopped (r ∷ runs) more is =
    some_block r.halt (halt_of runs) (slice_get (to_run r.section) (length r.said)) (stopped_in (runs ++ more)) (stopped_in runs) is (once_stopped runs more)

unrun-append : (runs : List SectionRun) (run : SectionRun) → AllByRecursion IsUnrun runs → IsUnrun run → AllByRecursion IsUnrun (runs ++ run ∷ [])
unrun-append [] run all is = (is, tt)
unrun-append (r ∷ runs) run all is = (all.0, unrun-append runs run all.1 is)

pub stopped-push : (runs : List SectionRun) (run : SectionRun) → AreStopped runs → (halt_of runs ≡ Stopped → IsUnrun run) → AreStopped (runs ++ run ∷ [])
stopped-push [] run are unrun = (λ is. tt, tt)
stopped-push (r ∷ runs) run are unrun = (
  λ is. unrun-append runs run (are.0 is) (unrun (ap (λ (h : Halt). worse h (halt_of runs)) is)),
  stopped-push runs run are.1 (λ is. unrun (ap (worse r.halt) is ∙ worse-stopped r.halt)),
)

-- ---- Blocks that are left

some_at : (blocks : List Block) (n : ℕ) → n < length blocks → IsSome (slice_get blocks n)
some_at [] n within = absurd (omega (arith, within))
some_at (b ∷ blocks) zero within = refl
some_at (b ∷ blocks) (suc n) within = some_at blocks n (omega (arith, within))

some_stopped : (h : Halt) (block other : Option Block) → h ≡ Stopped → IsSome block → IsSome (block_at h block other)
some_stopped Done block other is some = absurd cc
some_stopped Stopped block other is some = some
some_stopped OutOfMemory block other is some = absurd cc

-- the disk failed at a block where one is left
pub fails_there : (h : Halt) (blocks : List Block) (n : ℕ) → (h ≢ Done → n < length blocks) → FailsAt h (block_at h (slice_get blocks n) None)
fails_there h blocks n short is = some_stopped h (slice_get blocks n) None is (some_at blocks n (short (λ done. let e : Done ≡ Stopped = sym done ∙ is in absurd cc)))

stopped_then : (next : Halt) → worse OutOfMemory next ≡ Stopped → next ≡ Stopped
stopped_then Done is = absurd cc
stopped_then Stopped is = refl
stopped_then OutOfMemory is = absurd cc

-- one section more
pub fails_on : (h : Halt) (runs : List SectionRun) (run : SectionRun) → h ≡ halt_of runs → FailsAt h (stopped_in runs) → (h ≢ Stopped → FailsAt run.halt (stopped_by run)) → FailsAt (worse h run.halt) (stopped_in (runs ++ run ∷ []))
fails_on Done runs run are before fails is = subst IsSome (sym (none_stopped runs (run ∷ []) (λ stopped. let e : Done ≡ Stopped = are ∙ stopped in absurd cc))) (fails (λ e. absurd cc) is)
fails_on Stopped runs run are before fails is = subst IsSome (sym (once_stopped runs (run ∷ []) (sym are))) (before refl)
fails_on OutOfMemory runs run are before fails is =
    subst IsSome (sym (none_stopped runs (run ∷ []) (λ stopped. let e : OutOfMemory ≡ Stopped = are ∙ stopped in absurd cc))) (fails (λ e. absurd cc) (stopped_then run.halt is))

-- ---- What the blocks of one section more were answered with

pub said-push : (runs : List SectionRun) (run : SectionRun) → all_said (runs ++ run ∷ []) ≡ all_said runs ++ said_by run
said-push runs run = flat_map-append said_by runs (run ∷ []) ∙ ap (λ (l : List Said). all_said runs ++ l) (append-nil (said_by run))

pub unrun_said : (run : SectionRun) → run.said ≡ [] → said_by run ≡ []
unrun_said run none = ap (with_replies (to_run run.section)) none ∙ with_none (to_run run.section)

pub unrun-push : (runs : List SectionRun) (run : SectionRun) → run.said ≡ [] → all_said (runs ++ run ∷ []) ≡ all_said runs
unrun-push runs run none = said-push runs run ∙ ap (λ (l : List Said). all_said runs ++ l) (unrun_said run none) ∙ append-nil (all_said runs)

-- ---- Faults

pub faults-after : (h next : Halt) (n m k : ℕ) → h ≢ Stopped → m ≡ faults_after h n → k ≡ faults_after next m → k ≡ faults_after (worse h next) n
faults-after Done next n m k isnt one two = two ∙ ap (faults_after next) one
faults-after Stopped next n m k isnt one two = absurd (isnt refl)
faults-after OutOfMemory Done n m k isnt one two = two ∙ one
faults-after OutOfMemory Stopped n m k isnt one two = two ∙ ap (faults_after Stopped) one
faults-after OutOfMemory OutOfMemory n m k isnt one two = two ∙ one

pub all-append : (P : SectionRun → Type 0) (runs : List SectionRun) (run : SectionRun) → AllByRecursion P runs → P run → AllByRecursion P (runs ++ run ∷ [])
all-append P [] run all is = (is, tt)
all-append P (r ∷ runs) run all is = (all.0, all-append P runs run all.1 is)

pub unstopped : (runs : List SectionRun) → halt_of runs ≢ Stopped → stopped_in runs ≡ None
unstopped runs isnt = ap stopped_in (sym (append-nil runs)) ∙ none_stopped runs [] isnt
