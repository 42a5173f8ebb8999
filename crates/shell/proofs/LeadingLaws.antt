-- Leading statements one after the other.
use Rattle.std.proofs.Common.{◌≡◌, ◌+◌, ◌<◌, ◌≤◌, ℕ, List, [], ◌∷◌, ◌++◌, drop, length, get_or, Option, None, Some, MatchOption, refl, sym, ◌∙◌, ap, subst, append_assoc}
use Rattle.std.proofs.lemmas.List.{append-nil, at_drop_more, drop_all}
use Rattle.row_types.specs.declared.block.Block.{Block}
use Rattle.row_types.specs.declared.definition.TableDef.{TableDef}
use Rattle.row_types.specs.Tables.{Tables, schema_of}
use Rattle.plain_model.specs.declared.reply.Reply.{Reply}
use Rattle.shell.specs.Leading.{AreLeading, IsDone, IsLead, behind_lead}
use Rattle.shell.specs.declared.leading.Lead.{Lead}

-- So many blocks were leading statements: what the others are, all are with these replies before.
pub record LeadingSoFar (blocks : List Block) (n : ℕ) (defs : List TableDef) (replies : List Reply) : Type 0 where
  pub tables : Tables
  pub defs_are : schema_of tables ≡ defs
  pub rest : (more : List Reply) (last : Tables) → AreLeading (drop n blocks) tables more last → AreLeading blocks [] (replies ++ more) last

pub none_so_far : (blocks : List Block) (defs : List TableDef) (replies : List Reply) → defs ≡ [] → replies ≡ [] → LeadingSoFar blocks 0 defs replies
none_so_far blocks defs replies no_defs none =
    subst (λ (d : List TableDef). LeadingSoFar blocks 0 d replies) (sym no_defs)
    (subst (λ (r : List Reply). LeadingSoFar blocks 0 [] r) (sym none) (record { tables = []; defs_are = refl; rest = λ more last leading. leading }))

module _ (blocks : List Block) (n : ℕ) (defs : List TableDef) (replies : List Reply) (so_far : LeadingSoFar blocks n defs replies) where
  -- all blocks are leading statements
  pub all_leading : length blocks ≤ n → (tables : Tables) × AreLeading blocks [] replies tables × (schema_of tables ≡ defs)
  all_leading end = (
    so_far.tables,
    subst (λ (r : List Reply). AreLeading blocks [] r so_far.tables) (append-nil replies)
        (so_far.rest [] so_far.tables (subst (λ (l : List Block). AreLeading l so_far.tables [] so_far.tables) (sym (drop_all n blocks end)) (refl, refl))),
    so_far.defs_are,
  )

  module _ (block : Block) (within : n < length blocks) (is : block ≡ get_or blocks n block) where
    here : drop n blocks ≡ block ∷ drop (n + 1) blocks
    here = at_drop_more (λ (l : List Block). l) blocks n block within ∙ ap (λ (b : Block). b ∷ drop (n + 1) blocks) (sym is)

    -- this block is none
    pub no_more : ((lead : Lead) → ¬ (IsLead block lead)) → (tables : Tables) × AreLeading blocks [] replies tables × (schema_of tables ≡ defs)
    no_more none = (
      so_far.tables,
      subst (λ (r : List Reply). AreLeading blocks [] r so_far.tables) (append-nil replies)
          (so_far.rest [] so_far.tables (subst (λ (l : List Block). AreLeading l so_far.tables [] so_far.tables) (sym here) (none, refl))),
      so_far.defs_are,
    )

    -- this block is one
    pub one_more : (lead : Lead) (reply : Reply) (defs' : List TableDef) (replies' : List Reply) → IsLead block lead → IsDone lead defs reply defs' → replies' ≡ replies ++ reply ∷ [] → LeadingSoFar blocks (n + 1) defs' replies'
    one_more lead reply defs' replies' is_lead done pushed = subst (λ (r : List Reply). LeadingSoFar blocks (n + 1) defs' r) (sym pushed) (record {
      tables = behind_lead so_far.tables lead;
      defs_are = done.new_is so_far.tables so_far.defs_are;
      rest = λ more last leading.
          let with_it : AreLeading (drop n blocks) so_far.tables (reply ∷ more) last =
          subst (λ (l : List Block). AreLeading l so_far.tables (reply ∷ more) last) (sym here) (lead, is_lead, done.reply_is so_far.tables so_far.defs_are, leading) in
          subst (λ (r : List Reply). AreLeading blocks [] r last) (sym (append_assoc replies (reply ∷ []) more)) (so_far.rest (reply ∷ more) last with_it);
    })

-- what holds where there is none
pub absent : {A : Type 0} (P : Type 0) (Q : A → Type 0) (o : Option A) → o ≡ None → MatchOption o P Q → P
absent P Q None is cases = cases
absent P Q (Some x) is cases = absurd cc
