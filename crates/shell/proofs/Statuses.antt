-- What a status says, by the fault of its call.
use Rattle.std.proofs.Common.{◌≡◌, ◌≢◌, ◌⊎◌, inl, inr, ℕ, List, [], ◌∷◌, ◌++◌, map, Option, None, Some, refl, sym, ◌∙◌, ap, subst, arith}
use Rattle.std.proofs.lemmas.Bool.{cases_eq}
use Rattle.std.proofs.lemmas.List.{append-nil}
use Rattle.std.specs.List.{flat_map}
use Rattle.std.specs.Option.{option_map, ForSome}
use Rattle.base_types.specs.Causes.{one_more}
use Rattle.io_edge.specs.declared.source.Source as source
use Rattle.io_edge.specs.declared.sink.Sink as sink
use Rattle.disk_core.specs.declared.disk.Disk as disk
use Rattle.disk_core.specs.declared.store.FileName.{FileName}
use Rattle.lane_format.specs.Writer.{even_file}
use Rattle.row_types.specs.declared.definition.TableDef.{TableDef}
use Rattle.script.specs.declared.sections.Script.{Script}
use Rattle.reply_text.specs.declared.last.Fault.{Fault}
use Rattle.reply_text.specs.declared.last.Fault.TheVariants as faults
use Rattle.reply_text.specs.declared.last.Place.{Place}
use Rattle.list_store.specs.declared.fault.OpenFault.{OpenFault}
use Rattle.list_store.specs.declared.fault.OpenFault.TheVariants as opening
use Rattle.list_store.specs.Opening.{CannotOpen}
use Rattle.section_runs.specs.declared.section.ReadySection.{ReadySection}
use Rattle.section_runs.specs.declared.section.SectionRun.{SectionRun}
use Rattle.section_runs.specs.declared.section.Halt.{Halt}
use Rattle.section_runs.specs.declared.section.Halt.TheVariants as halts
use Rattle.section_runs.specs.Sections.{faults_after, halt_of}
use Rattle.shell.specs.Call.{AllDone, Answers, Explains, GivesNoScript, GivesScript, IsRun, IsUntouched, LeavesFile, NoScript, ScriptRan, StaysDamaged}
use Rattle.shell.specs.Files.{Outside}
use Rattle.shell.specs.Input.{FailsWithin, ReadsWithin, WasRead, read_limit}
use Rattle.shell.specs.Outcome.{OutcomeView, fault_alone}
use Rattle.shell.specs.Ready.{AreReady}
use Rattle.shell.specs.Running.{Runs, SectionsRan, fault_halting, fault_opening}
use Rattle.shell.specs.Text.{fault_line, fault_status, section_text, shown_text, status_of}
use Rattle.shell.proofs.InputSoFar.{nothing_read, whole_within}
use Rattle.shell.proofs.Showing.{zero_is_none}

module _ {S D : Type 0} (s : source.Ghosts S) (d : disk.Ghosts D) (words : List (List ℕ)) (old new : Outside S D) where
  -- the sections of a script were run, and all their blocks have replies
  pub record Finished (shown : Option (List SectionRun)) : Type 0 where
    pub script : Script
    pub is : GivesScript s old.source script
    pub defs : List TableDef
    pub runs : List SectionRun
    pub shown_is : shown ≡ Some runs
    pub ready : AreReady script.setup script.sessions defs (map (λ run. run.section) runs)
    pub whole : halt_of runs ≡ halts.Done
    pub ran : SectionsRan d defs old.disk runs new.disk

  -- what a fault says of the call, or that there was none
  abbrev Says : Option Fault → Option (List SectionRun) → Type 0
  Says None shown = IsRun words × WasRead s old.source new.source × Finished shown
  Says (Some faults.Usage) shown = ¬ (IsRun words) × IsUntouched d old.disk new.disk
  Says (Some faults.OutOfMemory) shown = IsRun words
  Says (Some (faults.Disk file)) shown = IsRun words × WasRead s old.source new.source × (d.faults new.disk ≡ one_more (d.faults old.disk))
  Says (Some faults.Source) shown = IsRun words × FailsWithin s read_limit old.source new.source × IsUntouched d old.disk new.disk
  Says (Some (faults.Script at)) shown = IsRun words × WasRead s old.source new.source × GivesNoScript s old.source at × IsUntouched d old.disk new.disk
  Says (Some (faults.Damaged place)) shown = IsRun words × WasRead s old.source new.source × StaysDamaged d old.disk new.disk
  Says (Some faults.NoBase) shown = ⊥
  Says (Some faults.Exists) shown = ⊥
  Says (Some (faults.Lanes given wanted)) shown = ⊥

  untouched : new.disk ≡ old.disk → IsUntouched d old.disk new.disk
  untouched same = record { same = ap d.content same; calls = ap d.calls same }

  unread_says : (fault : Fault) (shown : Option (List SectionRun)) → IsRun words → new.disk ≡ old.disk → NoScript s fault old.source new.source → Says (Some fault) shown
  unread_says faults.Usage shown asks same why = absurd why
  unread_says faults.OutOfMemory shown asks same why = asks
  unread_says (faults.Disk file) shown asks same why = absurd why
  unread_says faults.Source shown asks same why = (asks, why, untouched same)
  unread_says (faults.Script at) shown asks same why = (asks, why.0, why.1, untouched same)
  unread_says (faults.Damaged place) shown asks same why = absurd why
  unread_says faults.NoBase shown asks same why = absurd why
  unread_says faults.Exists shown asks same why = absurd why
  unread_says (faults.Lanes given wanted) shown asks same why = absurd why

  opening_says : (defs : List TableDef) (fault : OpenFault) (shown : Option (List SectionRun)) → IsRun words → WasRead s old.source new.source → CannotOpen d defs old.disk fault new.disk → Says (Some (fault_opening fault)) shown
  opening_says defs (opening.Disk file) shown asks read cannot = (asks, read, cannot.1)
  opening_says defs (opening.Damaged file at) shown asks read cannot = (
    asks,
    read,
    record {
      defs = defs;
      at = at;
      reads = cannot.1;
      untouched = record { same = cannot.2.only_reads.same; calls = cannot.2.only_reads.calls };
    },
  )
  opening_says defs opening.OutOfMemory shown asks read cannot = asks

  halting_says : (h : Halt) (script : Script) (defs : List TableDef) (runs : List SectionRun) → h ≡ halt_of runs → IsRun words → WasRead s old.source new.source → GivesScript s old.source script
      → AreReady script.setup script.sessions defs (map (λ run. run.section) runs) → SectionsRan d defs old.disk runs new.disk → Says (fault_halting h) (Some runs)
  halting_says halts.Done script defs runs is asks read gives ready ran =
      (asks, read, record { script = script; is = gives; defs = defs; runs = runs; shown_is = refl; ready = ready; whole = sym is; ran = ran })
  halting_says halts.Stopped script defs runs is asks read gives ready ran = (asks, read, ran.faults ∙ ap (λ (h : Halt). faults_after h (d.faults old.disk)) (sym is))
  halting_says halts.OutOfMemory script defs runs is asks read gives ready ran = asks

  runs_say : (view : OutcomeView) (script : Script) → IsRun words → WasRead s old.source new.source → GivesScript s old.source script → Runs d script old.disk view new.disk → Says view.fault view.shown
  runs_say view script asks read gives (inl short) = subst (λ (v : OutcomeView). Says v.fault v.shown) (sym short.0) asks
  runs_say view script asks read gives (inr (defs, sections, ready, inl (fault, cannot, is))) =
      subst (λ (v : OutcomeView). Says v.fault v.shown) (sym is) (opening_says defs fault None asks read cannot)
  runs_say view script asks read gives (inr (defs, sections, ready, inr (runs, are, ran, is))) =
      let ready_runs = subst (λ (l : List ReadySection). AreReady script.setup script.sessions defs l) (sym are) ready in
      subst (λ (v : OutcomeView). Says v.fault v.shown) (sym is) (halting_says (halt_of runs) script defs runs refl asks read gives ready_runs ran)

  -- ---- Whether the count of the disk's faults stands

  opening_stands : (defs : List TableDef) (fault : OpenFault) → CannotOpen d defs old.disk fault new.disk → (d.faults new.disk ≡ d.faults old.disk) ⊎ ((file : FileName) × (fault_opening fault ≡ faults.Disk file))
  opening_stands defs (opening.Disk file) cannot = inr (file, refl)
  opening_stands defs (opening.Damaged file at) cannot = inl cannot.2.faults
  opening_stands defs opening.OutOfMemory cannot = inl cannot.faults

  halting_stands : (h : Halt) → d.faults new.disk ≡ faults_after h (d.faults old.disk) → (d.faults new.disk ≡ d.faults old.disk) ⊎ ((file : FileName) × (fault_halting h ≡ Some (faults.Disk file)))
  halting_stands halts.Done faults = inl faults
  halting_stands halts.Stopped faults = inr (even_file 0, refl)
  halting_stands halts.OutOfMemory faults = inl faults

  runs_stand : (view : OutcomeView) (script : Script) → Runs d script old.disk view new.disk → (d.faults new.disk ≡ d.faults old.disk) ⊎ ((file : FileName) × (view.fault ≡ Some (faults.Disk file)))
  runs_stand view script (inl short) = inl (ap d.faults short.1)
  runs_stand view script (inr (defs, sections, ready, inl (fault, cannot, is))) = elim (opening_stands defs fault cannot) [
    | inl same ↦ inl same
    | inr failed ↦ inr (failed.0, ap (λ (v : OutcomeView). v.fault) is ∙ ap (λ (f : Fault). Some f) failed.1)
  ]
  runs_stand view script (inr (defs, sections, ready, inr (runs, are, ran, is))) = elim (halting_stands (halt_of runs) ran.faults) [
    | inl same ↦ inl same
    | inr failed ↦ inr (failed.0, ap (λ (v : OutcomeView). v.fault) is ∙ failed.1)
  ]

  unread_reads : (fault : Fault) → NoScript s fault old.source new.source → ReadsWithin s read_limit old.source new.source ⊎ (fault ≡ faults.Source)
  unread_reads faults.Usage why = absurd why
  unread_reads faults.OutOfMemory why = inl why
  unread_reads (faults.Disk file) why = absurd why
  unread_reads faults.Source why = inr refl
  unread_reads (faults.Script at) why = inl (whole_within s old.source new.source why.0)
  unread_reads (faults.Damaged place) why = absurd why
  unread_reads faults.NoBase why = absurd why
  unread_reads faults.Exists why = absurd why
  unread_reads (faults.Lanes given wanted) why = absurd why

  module _ (view : OutcomeView) where
    unasked : ¬ (IsRun words) → Explains s d words old new view → view.fault ≡ Some faults.Usage
    unasked wrong (inl is) = ap (λ (v : OutcomeView). v.fault) is.outcome
    unasked wrong (inr (inl unread)) = absurd (wrong unread.asks)
    unasked wrong (inr (inr ran)) = absurd (wrong ran.asks)

    explained : Explains s d words old new view → Says view.fault view.shown
    explained (inl wrong) =
        subst (λ (v : OutcomeView). Says v.fault v.shown) (sym wrong.outcome) (wrong.asks_nothing, untouched (ap (λ (o : Outside S D). o.disk) wrong.untouched))
    explained (inr (inl unread)) = subst (λ (v : OutcomeView). Says v.fault v.shown) (sym unread.outcome) (unread_says unread.fault None unread.asks unread.untouched unread.why)
    explained (inr (inr ran)) = runs_say view ran.script ran.asks ran.read ran.is ran.runs

    -- the count of the disk's faults stands, or the last line reports one
    disk_stands : Explains s d words old new view → (d.faults new.disk ≡ d.faults old.disk) ⊎ ((file : FileName) × (view.fault ≡ Some (faults.Disk file)))
    disk_stands (inl wrong) = inl (ap (λ (o : Outside S D). d.faults o.disk) wrong.untouched)
    disk_stands (inr (inl unread)) = inl (ap d.faults unread.untouched)
    disk_stands (inr (inr ran)) = runs_stand view ran.script ran.runs

    -- and so with the source
    source_stands : Explains s d words old new view → ReadsWithin s read_limit old.source new.source ⊎ (view.fault ≡ Some faults.Source)
    source_stands (inl wrong) =
        let same : new.source ≡ old.source = ap (λ (o : Outside S D). o.source) wrong.untouched in
        inl (subst (λ (x : S). ReadsWithin s read_limit old.source x) (sym same) (record { bytes = []; few = omega arith; read = nothing_read s old.source }))
    source_stands (inr (inl unread)) = elim (unread_reads unread.fault unread.why) [
      | inl reads ↦ inl reads
      | inr is ↦ inr (ap (λ (v : OutcomeView). v.fault) unread.outcome ∙ ap (λ (f : Fault). Some f) is)
    ]
    source_stands (inr (inr ran)) = inl (whole_within s old.source new.source ran.read)

  -- ---- Statuses

  -- status 2
  says_usage : (fault : Option Fault) (shown : Option (List SectionRun)) → status_of fault ≡ 2 → Says fault shown → ¬ (IsRun words) × IsUntouched d old.disk new.disk
  says_usage None shown is says = absurd (omega (arith, is))
  says_usage (Some faults.Usage) shown is says = says
  says_usage (Some faults.OutOfMemory) shown is says = absurd (omega (arith, is))
  says_usage (Some (faults.Disk file)) shown is says = absurd (omega (arith, is))
  says_usage (Some faults.Source) shown is says = absurd (omega (arith, is))
  says_usage (Some (faults.Script at)) shown is says = absurd (omega (arith, is))
  says_usage (Some (faults.Damaged place)) shown is says = absurd (omega (arith, is))
  says_usage (Some faults.NoBase) shown is says = absurd says
  says_usage (Some faults.Exists) shown is says = absurd says
  says_usage (Some (faults.Lanes given wanted)) shown is says = absurd says

  says_disk : (fault : Option Fault) (shown : Option (List SectionRun)) → status_of fault ≡ 4 → Says fault shown → d.faults new.disk ≡ one_more (d.faults old.disk)
  says_disk None shown is says = absurd (omega (arith, is))
  says_disk (Some faults.Usage) shown is says = absurd (omega (arith, is))
  says_disk (Some faults.OutOfMemory) shown is says = absurd (omega (arith, is))
  says_disk (Some (faults.Disk file)) shown is says = says.2
  says_disk (Some faults.Source) shown is says = absurd (omega (arith, is))
  says_disk (Some (faults.Script at)) shown is says = absurd (omega (arith, is))
  says_disk (Some (faults.Damaged place)) shown is says = absurd (omega (arith, is))
  says_disk (Some faults.NoBase) shown is says = absurd says
  says_disk (Some faults.Exists) shown is says = absurd says
  says_disk (Some (faults.Lanes given wanted)) shown is says = absurd says

  says_source : (fault : Option Fault) (shown : Option (List SectionRun)) → status_of fault ≡ 5 → Says fault shown → FailsWithin s read_limit old.source new.source × IsUntouched d old.disk new.disk
  says_source None shown is says = absurd (omega (arith, is))
  says_source (Some faults.Usage) shown is says = absurd (omega (arith, is))
  says_source (Some faults.OutOfMemory) shown is says = absurd (omega (arith, is))
  says_source (Some (faults.Disk file)) shown is says = absurd (omega (arith, is))
  says_source (Some faults.Source) shown is says = (says.1, says.2)
  says_source (Some (faults.Script at)) shown is says = absurd (omega (arith, is))
  says_source (Some (faults.Damaged place)) shown is says = absurd (omega (arith, is))
  says_source (Some faults.NoBase) shown is says = absurd says
  says_source (Some faults.Exists) shown is says = absurd says
  says_source (Some (faults.Lanes given wanted)) shown is says = absurd says

  says_script : (fault : Option Fault) (shown : Option (List SectionRun)) → status_of fault ≡ 7 → Says fault shown → (at : ℕ) × GivesNoScript s old.source at × IsUntouched d old.disk new.disk
  says_script None shown is says = absurd (omega (arith, is))
  says_script (Some faults.Usage) shown is says = absurd (omega (arith, is))
  says_script (Some faults.OutOfMemory) shown is says = absurd (omega (arith, is))
  says_script (Some (faults.Disk file)) shown is says = absurd (omega (arith, is))
  says_script (Some faults.Source) shown is says = absurd (omega (arith, is))
  says_script (Some (faults.Script at)) shown is says = (at, says.2, says.3)
  says_script (Some (faults.Damaged place)) shown is says = absurd (omega (arith, is))
  says_script (Some faults.NoBase) shown is says = absurd says
  says_script (Some faults.Exists) shown is says = absurd says
  says_script (Some (faults.Lanes given wanted)) shown is says = absurd says

  says_damaged : (fault : Option Fault) (shown : Option (List SectionRun)) → status_of fault ≡ 8 → Says fault shown → StaysDamaged d old.disk new.disk
  says_damaged None shown is says = absurd (omega (arith, is))
  says_damaged (Some faults.Usage) shown is says = absurd (omega (arith, is))
  says_damaged (Some faults.OutOfMemory) shown is says = absurd (omega (arith, is))
  says_damaged (Some (faults.Disk file)) shown is says = absurd (omega (arith, is))
  says_damaged (Some faults.Source) shown is says = absurd (omega (arith, is))
  says_damaged (Some (faults.Script at)) shown is says = absurd (omega (arith, is))
  says_damaged (Some (faults.Damaged place)) shown is says = says.2
  says_damaged (Some faults.NoBase) shown is says = absurd says
  says_damaged (Some faults.Exists) shown is says = absurd says
  says_damaged (Some (faults.Lanes given wanted)) shown is says = absurd says

  -- all was read, but where the status says why not
  says_read : (fault : Option Fault) (shown : Option (List SectionRun)) → Says fault shown
      → WasRead s old.source new.source ⊎ ((status_of fault ≡ 2) ⊎ ((status_of fault ≡ 3) ⊎ (status_of fault ≡ 5)))
  says_read None shown says = inl says.1
  says_read (Some faults.Usage) shown says = inr (inl refl)
  says_read (Some faults.OutOfMemory) shown says = inr (inr (inl refl))
  says_read (Some (faults.Disk file)) shown says = inl says.1
  says_read (Some faults.Source) shown says = inr (inr (inr refl))
  says_read (Some (faults.Script at)) shown says = inl says.1
  says_read (Some (faults.Damaged place)) shown says = inl says.1
  says_read (Some faults.NoBase) shown says = absurd says
  says_read (Some faults.Exists) shown says = absurd says
  says_read (Some (faults.Lanes given wanted)) shown says = absurd says

module _ {S K D : Type 0} (s : source.Ghosts S) (k : sink.Ghosts K) (d : disk.Ghosts D) (words : List (List ℕ)) (old new : Outside S D) (old_sink new_sink : K) (status : ℕ) (answers : Answers s k d words old new old_sink new_sink status) where
  abbrev fault_in : Option Fault
  fault_in = answers.view.fault

  says : Says s d words old new fault_in answers.view.shown
  says = explained s d words old new answers.view answers.why

  told : (n : ℕ) → n ≢ 6 → status ≡ n → status_of fault_in ≡ n
  told n other is = sym (answers.shows.other (λ six. other (sym is ∙ six))) ∙ is

  -- the fault's status is the call's, unless that is 6, where there is none
  status_told : (n : ℕ) → status_of fault_in ≡ n → n ≢ 0 → status ≡ n
  status_told n is some = elim (cases_eq status 6) [
    | inl six ↦ absurd (some (sym is ∙ ap status_of (answers.shows.six six).0))
    | inr not_six ↦ answers.shows.other not_six ∙ is
  ]

  all_taken : answers.shows.rest ≡ [] → fault_in ≡ None → (runs : List SectionRun) → answers.view.shown ≡ Some runs → k.taken new_sink ≡ option_map (λ t. t ++ flat_map section_text runs) (k.taken old_sink)
  all_taken whole silent runs is =
      let shown = answers.view.shown in
      let front = answers.shows.front in
      let text : flat_map section_text runs ≡ front = ap shown_text (sym is) ∙ sym (append-nil (shown_text shown)) ∙ ap (λ (f : Option Fault). shown_text shown ++ fault_line f) (sym silent) ∙ answers.shows.text ∙ ap (λ (l : List ℕ). front ++ l) whole ∙ append-nil front in
      answers.shows.took ∙ ap (λ (f : List ℕ). option_map (λ t. t ++ f) (k.taken old_sink)) (sym text)

  pub all_done : status ≡ 0 → AllDone s k d words old new old_sink new_sink
  all_done zero =
      let none = zero_is_none fault_in (told 0 (λ e. omega (arith, e)) zero) in
      let done = subst (λ (f : Option Fault). Says s d words old new f answers.view.shown) none says in
      let finished = done.2 in
      record {
        asks = done.0;
        read = done.1;
        script = finished.script;
        is = finished.is;
        defs = finished.defs;
        shown = finished.runs;
        ready = finished.ready;
        whole = finished.whole;
        ran = finished.ran;
        took = all_taken (answers.shows.zero zero).0 none finished.runs finished.shown_is;
        still = (answers.shows.zero zero).1;
      }

  pub no_run : (status ≡ 2 → ¬ (IsRun words)) × (¬ (IsRun words) → status ≡ 2)
  no_run = (
    λ two. (says_usage s d words old new fault_in answers.view.shown (told 2 (λ e. omega (arith, e)) two) says).0,
    λ wrong. status_told 2 (ap status_of (unasked s d words old new answers.view wrong answers.why)) (λ e. omega (arith, e)),
  )

  pub disk_failed : status ≡ 4 → d.faults new.disk ≡ one_more (d.faults old.disk)
  disk_failed four = says_disk s d words old new fault_in answers.view.shown (told 4 (λ e. omega (arith, e)) four) says

  pub source_failed : status ≡ 5 → FailsWithin s read_limit old.source new.source
  source_failed five = (says_source s d words old new fault_in answers.view.shown (told 5 (λ e. omega (arith, e)) five) says).0

  pub sink_failed : status ≡ 6 → k.faults new_sink ≡ one_more (k.faults old_sink)
  sink_failed six = (answers.shows.six six).1

  pub no_script : status ≡ 7 → (at : ℕ) × GivesNoScript s old.source at
  no_script seven = let is = says_script s d words old new fault_in answers.view.shown (told 7 (λ e. omega (arith, e)) seven) says in (is.0, is.1)

  pub stays_damaged : status ≡ 8 → StaysDamaged d old.disk new.disk
  stays_damaged eight = says_damaged s d words old new fault_in answers.view.shown (told 8 (λ e. omega (arith, e)) eight) says

  pub untouched_file : LeavesFile status → IsUntouched d old.disk new.disk
  untouched_file (inl two) = (says_usage s d words old new fault_in answers.view.shown (told 2 (λ e. omega (arith, e)) two) says).1
  untouched_file (inr (inl five)) = (says_source s d words old new fault_in answers.view.shown (told 5 (λ e. omega (arith, e)) five) says).1
  untouched_file (inr (inr (inl seven))) = (says_script s d words old new fault_in answers.view.shown (told 7 (λ e. omega (arith, e)) seven) says).2
  untouched_file (inr (inr (inr eight))) = (stays_damaged eight).untouched

  pub all_read : status ≢ 2 → status ≢ 3 → status ≢ 5 → WasRead s old.source new.source
  all_read not_two not_three not_five = elim (says_read s d words old new fault_in answers.view.shown says) [
    | inl read ↦ read
    | inr (inl two) ↦ absurd (not_two (status_told 2 two (λ e. omega (arith, e))))
    | inr (inr (inl three)) ↦ absurd (not_three (status_told 3 three (λ e. omega (arith, e))))
    | inr (inr (inr five)) ↦ absurd (not_five (status_told 5 five (λ e. omega (arith, e))))
  ]

  pub disk_still : status ≢ 4 → d.faults new.disk ≡ d.faults old.disk
  disk_still isnt = elim (disk_stands s d words old new answers.view answers.why) [
    | inl same ↦ same
    | inr reported ↦ absurd (isnt (status_told 4 (ap status_of reported.1) (λ e. omega (arith, e))))
  ]

  pub source_still : status ≢ 5 → ReadsWithin s read_limit old.source new.source
  source_still isnt = elim (source_stands s d words old new answers.view answers.why) [
    | inl reads ↦ reads
    | inr reported ↦ absurd (isnt (status_told 5 (ap status_of reported) (λ e. omega (arith, e))))
  ]
