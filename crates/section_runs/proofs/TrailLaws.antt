-- Trails one after the other.
use Rattle.std.proofs.Common.{◌≡◌, ◌⊎◌, inl, inr, ⊎_elim, ℕ, List, [], ◌∷◌, ◌++◌, refl, sym, subst}
use Rattle.row_types.specs.declared.definition.TableDef.{TableDef}
use Rattle.row_types.specs.Schema.{IsSchema}
use Rattle.row_types.specs.Tables.{Tables}
use Rattle.plain_model.specs.Blocks.{Said, Serial}
use Rattle.list_store.specs.Log.{BeginsWith}
use Rattle.section_runs.specs.Trail.{BeginsAmong, IsAmong, Leads, last_of}

pub trail_serial : (first : Tables) (said : List Said) (trail : List Tables) → Leads first said trail → Serial first said (last_of first trail)
trail_serial first [] trail leads = subst (λ (t : List Tables). first ≡ last_of first t) (sym leads) refl
trail_serial first (said ∷ more) [] leads = absurd leads
trail_serial first (said ∷ more) (next ∷ trail) leads = (next, leads.0, trail_serial next more trail leads.1)

pub begins_one : ((defs : List TableDef) (bytes : List ℕ) (a b : Tables) → IsSchema defs → BeginsWith defs a bytes → BeginsWith defs b bytes → a ≡ b)
    → (defs : List TableDef) (tables : List Tables) (image : List ℕ) (first : Tables) → IsSchema defs → BeginsAmong defs tables image → BeginsWith defs first image → IsAmong first tables
begins_one one defs [] image first schema among begins = absurd among
begins_one one defs (t ∷ ts) image first schema among begins =
    ⊎_elim (λ here. inl (one defs image first t schema begins here)) (λ later. inr (begins_one one defs ts image first schema later begins)) among

pub last-append : (first : Tables) (before after : List Tables) → last_of first (before ++ after) ≡ last_of (last_of first before) after
last-append first [] after = refl
last-append first (t ∷ before) after = last-append t before after

pub leads_on : (first : Tables) (said more : List Said) (before after : List Tables) → Leads first said before → Leads (last_of first before) more after → Leads first (said ++ more) (before ++ after)
leads_on first [] more before after one two =
    subst (λ (t : List Tables). Leads first more (t ++ after)) (sym one) (subst (λ (t : List Tables). Leads (last_of first t) more after) one two)
leads_on first (s ∷ said) more [] after one two = absurd one
leads_on first (s ∷ said) more (t ∷ before) after one two = (one.0, leads_on t said more before after one.1 two)

-- ---- Files that begin with some tables

module _ (defs : List TableDef) (image : List ℕ) where
  pub among_front : (tables more : List Tables) → BeginsAmong defs tables image → BeginsAmong defs (tables ++ more) image
  among_front [] more among = absurd among
  among_front (t ∷ tables) more among = ⊎_elim (λ here. inl here) (λ later. inr (among_front tables more later)) among

  -- the end of a trail is on it
  pub among_end : (first : Tables) (trail more : List Tables) → BeginsAmong defs (last_of first trail ∷ more) image → BeginsAmong defs (first ∷ (trail ++ more)) image
  among_end first [] more among = among
  among_end first (t ∷ trail) more among = inr (among_end t trail more among)
