-- What a call shows of its outcome.
use Rattle.std.specs.Prelude.{◌≡◌, ◌≢◌, ◌⊎◌, ℕ, List, [], ◌++◌, None}
use Rattle.std.specs.Option.{option_map}
use Rattle.base_types.specs.Causes.{one_more}
use Rattle.io_edge.specs.declared.sink.Sink.{Ghosts}
use Rattle.shell.specs.Outcome.{OutcomeView}
use Rattle.shell.specs.Text.{status_of, text_of}

-- the sink took these bytes
abbrev pub Took : {K : Type 0} → Ghosts K → List ℕ → K → K → Type 0
Took k bytes old new = k.taken new ≡ option_map (λ taken. taken ++ bytes) (k.taken old)

-- The sink took the text of the outcome, or exactly one push failed and it took a front of it. The status is
-- the fault's, or 6 where there is none and the sink failed.
pub record Shows {K : Type 0} (k : Ghosts K) (view : OutcomeView) (old new : K) (status : ℕ) : Type 0 where
  pub front : List ℕ
  pub rest : List ℕ
  pub text : text_of view ≡ front ++ rest
  pub took : Took k front old new
  pub whole : ((rest ≡ []) × (k.faults new ≡ k.faults old)) ⊎ (k.faults new ≡ one_more (k.faults old))
  pub zero : status ≡ 0 → (rest ≡ []) × (k.faults new ≡ k.faults old)
  pub six : status ≡ 6 → (view.fault ≡ None) × (k.faults new ≡ one_more (k.faults old))
  pub other : status ≢ 6 → status ≡ status_of view.fault
