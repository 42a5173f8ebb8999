-- A transaction, statement by statement.
use Rattle.std.proofs.Common.{inl, true, List, [], ◌∷◌, ◌++◌, refl, sym, subst}
use Rattle.std.specs.List.{AllByRecursion}
use Rattle.std.proofs.lemmas.List.{append_assoc, append-nil}
use Rattle.row_types.specs.Block.{Placed}
use Rattle.row_types.specs.declared.block.BlockEnd.{BlockEnd}
use Rattle.row_types.specs.declared.block.BlockEnd.TheVariants.{Commit, Rollback, CutOff}
use Rattle.row_types.specs.Tables.{Tables}
use Rattle.plain_model.specs.declared.reply.Reply.{Reply}
use Rattle.plain_model.specs.declared.reply.Reply.TheVariants.{Done}
use Rattle.plain_model.specs.Blocks.{TransactionAnswers, PlainAnswer, RunsSoFar}

pub all_push : {A : Type 0} (P : A → Type 0) (xs : List A) (x : A) → AllByRecursion P xs → P x → AllByRecursion P (xs ++ x ∷ [])
all_push P [] x all is = (is, tt)
all_push P (y ∷ ys) x all is = (all.0, all_push P ys x all.1 is)

-- BEGIN is done, and nothing else yet
pub runs_first : (texts : List Placed) (end : BlockEnd) (first : Tables) → RunsSoFar texts texts end first (Done ∷ []) first
runs_first texts end first = λ more last inside. inl (refl, inside)

-- one statement more
pub runs_more : (texts rest : List Placed) (text : Placed) (end : BlockEnd) (first now next : Tables) (replies : List Reply) (reply : Reply)
    → PlainAnswer true text now reply next → RunsSoFar texts (text ∷ rest) end first replies now → RunsSoFar texts rest end first (replies ++ reply ∷ []) next
runs_more texts rest text end first now next replies reply answer so_far =
    λ more last inside. subst (λ (l : List Reply). TransactionAnswers texts end first l last) (sym (append_assoc replies (reply ∷ []) more)) (so_far (reply ∷ more) last (answer.0, answer.1, inl (next, answer.2, inside)))

-- the end
pub runs_commit : (texts : List Placed) (first now : Tables) (replies : List Reply) → RunsSoFar texts [] Commit first replies now → TransactionAnswers texts Commit first (replies ++ Done ∷ []) now
runs_commit texts first now replies so_far = so_far (Done ∷ []) now (inl (refl, refl))

pub runs_rollback : (texts : List Placed) (first now : Tables) (replies : List Reply) → RunsSoFar texts [] Rollback first replies now → TransactionAnswers texts Rollback first (replies ++ Done ∷ []) first
runs_rollback texts first now replies so_far = so_far (Done ∷ []) first (inl (refl, refl))

pub runs_cut_off : (texts : List Placed) (first now : Tables) (replies : List Reply) → RunsSoFar texts [] CutOff first replies now → TransactionAnswers texts CutOff first replies first
runs_cut_off texts first now replies so_far = subst (λ (l : List Reply). TransactionAnswers texts CutOff first l first) (append-nil replies) (so_far [] first (inl (refl, refl)))
