-- Sessions numbered one after the other.
use Rattle.std.proofs.Common.{◌≡◌, ◌+◌, ℕ, List, [], ◌∷◌, ◌++◌, length, Option, None, Some, refl, sym, ◌∙◌, ap, subst, arith}
use Rattle.row_types.specs.declared.definition.TableDef.{TableDef}
use Rattle.script.specs.declared.sections.Section.{Section}
use Rattle.section_runs.specs.declared.section.ReadySection.{ReadySection}
use Rattle.shell.specs.Ready.{AreReady, numbered}

pub numbered-push : (n : ℕ) (sessions : List Section) (session : Section) (m : ℕ) → m ≡ n + length sessions
    → numbered n (sessions ++ session ∷ []) ≡ numbered n sessions ++ record { number = Some m; leads = []; blocks = session.blocks } ∷ []
numbered-push n [] session m is =
    let same : n ≡ m = omega (arith, is) in
    ap (λ (k : ℕ). let ready : ReadySection = record { number = Some k; leads = []; blocks = session.blocks } in ready ∷ []) same
numbered-push n (s ∷ sessions) session m is =
    ap (λ (l : List ReadySection). let ready : ReadySection = record { number = Some n; leads = []; blocks = s.blocks } in ready ∷ l)
    (numbered-push (n + 1) sessions session m (omega (arith, is)))

-- the setup comes first, and then the sessions
pub ready_with : (setup : Option Section) (sessions : List Section) (defs : List TableDef) (first all : List ReadySection) → AreReady setup [] defs first → all ≡ first ++ numbered 1 sessions → AreReady setup sessions defs all
ready_with None sessions defs first all ready are = (ready.0, are ∙ ap (λ (l : List ReadySection). l ++ numbered 1 sessions) ready.1)
ready_with (Some setup) sessions defs first all ready are = (ready.0, ready.1, ready.2, ready.3, are ∙ ap (λ (l : List ReadySection). l ++ numbered 1 sessions) ready.4)
