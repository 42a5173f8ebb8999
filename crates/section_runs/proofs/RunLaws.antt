-- Runs of blocks one after the other.
use Rattle.std.proofs.Common.{◌≡◌, ◌⊎◌, inl, inr, ⊎_elim, ℕ, List, [], ◌∷◌, ◌++◌, Option, None, Some, refl, sym, ◌∙◌, ap, subst, append_assoc}
use Rattle.std.proofs.lemmas.List.{append-nil}
use Rattle.disk_core.specs.Moments.{LeavesNow, LeavesOnly}
use Rattle.disk_core.specs.declared.disk.Disk.{Ghosts}
use Rattle.disk_core.proofs.Moments.{joined, started, weaker}
use Rattle.row_types.specs.declared.definition.TableDef.{TableDef}
use Rattle.row_types.specs.declared.block.Block.{Block}
use Rattle.row_types.specs.Tables.{Tables}
use Rattle.plain_model.specs.Blocks.{Said}
use Rattle.plain_model.specs.declared.reply.Reply.{Reply}
use Rattle.list_store.specs.Log.{IsLogOf}
use Rattle.list_store.specs.Keeping.{Keeps, Secures, batches_in, defs_of, disk_of}
use Rattle.list_store.specs.Running.{Answers, IsEither, IsUnrun, Stops}
use Rattle.list_store.specs.declared.store.ListStore.{ListStore}
use Rattle.section_runs.specs.Trail.{BeginsAmong, Leads, last_of}
use Rattle.section_runs.specs.Lasting.{AreCaused, AreFlying, Lasts, RanFrom, Runs}
use Rattle.section_runs.proofs.TrailLaws.{among_end, among_front, last-append, leads_on}

caused-append : (defs : List TableDef) (tables : Tables) (said more : List Said) (before after : List Tables) → Leads tables said before → AreCaused defs tables said before → AreCaused defs (last_of tables before) more after
    → AreCaused defs tables (said ++ more) (before ++ after)
caused-append defs tables [] more before after leads one two =
    subst (λ (t : List Tables). AreCaused defs tables more (t ++ after)) (sym leads) (subst (λ (t : List Tables). AreCaused defs (last_of tables t) more after) leads two)
caused-append defs tables (s ∷ said) more [] after leads one two = absurd one
caused-append defs tables (s ∷ said) more (t ∷ before) after leads one two = (one.0, caused-append defs t said more before after leads.1 one.1 two)

-- a log file of these tables, or of those, is one that begins with them
either_among : (defs : List TableDef) (tables next : Tables) (image : List ℕ) → IsLogOf defs tables image ⊎ IsLogOf defs next image → BeginsAmong defs (tables ∷ next ∷ []) image
either_among defs tables next image is = ⊎_elim (λ here. inl (inl here)) (λ there. inr (inl (inl there))) is

module _ {D : Type 0} (d : Ghosts D) where
  leaves_weaker : (disk : D) (P Q : List ℕ → Type 0) → ((image : List ℕ) → P image → Q image) → LeavesNow d disk P → LeavesNow d disk Q
  leaves_weaker disk P Q follows leaves = record { told = leaves.told; each = λ image left. follows image (leaves.each image left) }

  -- two runs with a trail each: what a crash leaves of both
  lasts_on : (defs : List TableDef) (tables : Tables) (before after : List Tables) (stopped : Option Block) (old mid new : D)
      → Lasts d defs tables before None old mid → Lasts d defs (last_of tables before) after stopped mid new → Lasts d defs tables (before ++ after) stopped old new
  lasts_on defs tables before after stopped old mid new one two =
      let end = last_of tables before in
      let flying = two.flying in
      let all : List Tables = tables ∷ ((before ++ after) ++ flying) in
      let first : (image : List ℕ) → BeginsAmong defs (tables ∷ (before ++ one.flying)) image → BeginsAmong defs all image =
      λ image among.
      let front : BeginsAmong defs (tables ∷ before) image = subst (λ (l : List Tables). BeginsAmong defs (tables ∷ l) image) (ap (λ (l : List Tables). before ++ l) one.are ∙ append-nil before) among in
      subst (λ (l : List Tables). BeginsAmong defs (tables ∷ l) image) (sym (append_assoc before after flying)) (among_front defs image (tables ∷ before) (after ++ flying) front) in
      let second : (image : List ℕ) → BeginsAmong defs (end ∷ (after ++ flying)) image → BeginsAmong defs all image =
      λ image among. subst (λ (l : List Tables). BeginsAmong defs (tables ∷ l) image) (sym (append_assoc before after flying)) (among_end defs image tables before (after ++ flying) among) in
      record {
        flying = flying;
        are = subst (λ (t : Tables). AreFlying stopped t flying) (sym (last-append tables before after)) two.are;
        moments = joined d old mid new (BeginsAmong defs all)
            (weaker d old mid (BeginsAmong defs (tables ∷ (before ++ one.flying))) (BeginsAmong defs all) first one.moments)
            (weaker d mid new (BeginsAmong defs (end ∷ (after ++ flying))) (BeginsAmong defs all) second two.moments);
        now = subst (λ (t : Tables). LeavesNow d new (BeginsAmong defs (t ∷ flying))) (sym (last-append tables before after)) two.now;
      }

  pub runs_on : (old mid new : ListStore D) (said more : List Said) (stopped : Option Block) → Runs d old said None mid → Runs d mid more stopped new → Runs d old (said ++ more) stopped new
  runs_on old mid new said more stopped one two = record {
    defs = two.defs ∙ one.defs;
    each = λ tables keeps.
        let first = one.each tables keeps in
        let end = last_of tables first.trail in
        let second = two.each end (first.keeps refl) in
        let last = last-append tables first.trail second.trail in
        record {
          trail = first.trail ++ second.trail;
          leads = leads_on tables said more first.trail second.trail first.leads second.leads;
          causes = caused-append (defs_of old) tables said more first.trail second.trail first.leads first.causes (subst (λ (defs : List TableDef). AreCaused defs end more second.trail) one.defs second.causes);
          keeps = λ none. subst (Keeps d new) (sym last) (second.keeps none);
          secures = λ secures none. subst (Secures d new) (sym last) (second.secures (first.secures secures refl) none);
          lasts = λ secures.
              let later = second.lasts (first.secures secures refl) in
              lasts_on (defs_of old) tables first.trail second.trail stopped (disk_of old) (disk_of mid) (disk_of new) (first.lasts secures)
              (subst (λ (defs : List TableDef). Lasts d defs end second.trail stopped (disk_of mid) (disk_of new)) one.defs later);
        };
  }

  -- ---- One block

  said_from : (block : Block) (replies : List Reply) (old new : ListStore D) → Answers d block old replies new → (tables : Tables) → Keeps d old tables
      → RanFrom d old tables (record { block = block; replies = replies } ∷ []) None new
  said_from block replies old new answers tables keeps =
      let means = answers.means tables keeps in
      let next = means.0 in
      let defs = defs_of old in
      record {
        trail = next ∷ [];
        leads = (means.2, refl);
        causes = ((batches_in old, keeps.logged, keeps.leaves, answers.causes), tt);
        keeps = λ none. means.1;
        secures = λ secures none.
            let after = answers.secures tables secures in
            subst (Secures d new) (after.1.keeps.tables_are ∙ sym means.1.tables_are) after.1;
        lasts = λ secures.
            let after = answers.secures tables secures in
            let same : after.0 ≡ next = after.1.keeps.tables_are ∙ sym means.1.tables_are in
            let moments = subst (λ (t : Tables). LeavesOnly d (disk_of old) (disk_of new) (IsEither defs tables t)) same after.3 in
            let crash = subst (λ (t : Tables). LeavesNow d (disk_of new) (IsLogOf (defs_of new) t)) same after.1.crash in
            record {
              flying = [];
              are = refl;
              moments = weaker d (disk_of old) (disk_of new) (IsEither defs tables next) (BeginsAmong defs (tables ∷ next ∷ [])) (either_among defs tables next) moments;
              now = leaves_weaker (disk_of new) (IsLogOf (defs_of new) next) (BeginsAmong defs (next ∷ []))
                  (λ image is. inl (inl (subst (λ (l : List TableDef). IsLogOf l next image) answers.defs is))) crash;
            };
      }

  pub block_said : (block : Block) (replies : List Reply) (old new : ListStore D) → Answers d block old replies new → Runs d old (record { block = block; replies = replies } ∷ []) None new
  block_said block replies old new answers = record { defs = answers.defs; each = said_from block replies old new answers }

  pub block_stopped : (block : Block) (old new : ListStore D) → Stops d block old new → Runs d old [] (Some block) new
  block_stopped block old new stops = record {
    defs = stops.defs;
    each = λ tables keeps. record {
      trail = [];
      leads = refl;
      causes = tt;
      keeps = λ none. absurd cc;
      secures = λ secures none. absurd cc;
      lasts = λ secures.
          let leaves = stops.leaves tables secures in
          let next = leaves.0 in
          let defs = defs_of old in
          record {
            flying = next ∷ [];
            are = (next, leaves.1, leaves.2, refl);
            moments = weaker d (disk_of old) (disk_of new) (IsEither defs tables next) (BeginsAmong defs (tables ∷ next ∷ [])) (either_among defs tables next) leaves.3;
            now = leaves_weaker (disk_of new) (IsEither defs tables next) (BeginsAmong defs (tables ∷ next ∷ [])) (either_among defs tables next) leaves.4;
          };
    };
  }

  -- a run that nothing stopped leaves the store with tables
  pub still_keeps : (old new : ListStore D) (said : List Said) → Runs d old said None new → ((tables : Tables) × Keeps d old tables) → (tables : Tables) × Keeps d new tables
  still_keeps old new said runs keeps = let from = runs.each keeps.0 keeps.1 in (last_of keeps.0 from.trail, from.keeps refl)

  nothing_lasts : ((disk : D) (image : List ℕ) → d.left_since disk (d.moment disk) image → d.may_leave disk image) → (store : ListStore D) (tables : Tables) → Secures d store tables
      → Lasts d (defs_of store) tables [] None (disk_of store) (disk_of store)
  nothing_lasts only_now store tables secures = record {
    flying = [];
    are = refl;
    moments = started d (disk_of store) (BeginsAmong (defs_of store) (tables ∷ [])) (λ image left. inl (inl (secures.crash.each image (only_now (disk_of store) image left))));
    now = leaves_weaker (disk_of store) (IsLogOf (defs_of store) tables) (BeginsAmong (defs_of store) (tables ∷ [])) (λ image is. inl (inl is)) secures.crash;
  }

  pub nothing_run : ((disk : D) (image : List ℕ) → d.left_since disk (d.moment disk) image → d.may_leave disk image) → (store : ListStore D) → Runs d store [] None store
  nothing_run only_now store = record {
    defs = refl;
    each = λ tables keeps. record {
      trail = [];
      leads = refl;
      causes = tt;
      keeps = λ none. keeps;
      secures = λ secures none. secures;
      lasts = nothing_lasts only_now store tables;
    };
  }

  pub block_short : ((disk : D) (image : List ℕ) → d.left_since disk (d.moment disk) image → d.may_leave disk image) → (old new : ListStore D) → IsUnrun d old new → Runs d old [] None new
  block_short only_now old new unrun = record {
    defs = unrun.defs;
    each = λ tables keeps. record {
      trail = [];
      leads = refl;
      causes = tt;
      keeps = λ none. unrun.keeps tables keeps;
      secures = λ secures none. unrun.secures tables secures;
      lasts = λ secures. subst (λ (x : D). Lasts d (defs_of old) tables [] None (disk_of old) x) (sym unrun.disk) (nothing_lasts only_now old tables secures);
    };
  }
