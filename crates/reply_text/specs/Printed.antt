-- What a printer has brought to its sink.
use Rattle.std.specs.Prelude.{◌≡◌, ℕ, true, false, List, [], ◌++◌, Option, Result, OnOk, OnErr}
use Rattle.std.specs.Option.{option_map}
use Rattle.base_types.specs.Causes.{one_more}
use Rattle.io_edge.specs.declared.sink.Sink.{Ghosts}
use Rattle.reply_text.specs.declared.printer.Printer.{Printer}

-- Of a text printed since the sink had taken `start` and had failed
-- `before` times, a front was taken. The rest waits, or one push failed, the last.
pub record IsPrinted (start : Option (List ℕ)) (before : ℕ) (text : List ℕ) (p : Printer)
    (taken : Option (List ℕ)) (now : ℕ) : Type 0 where
  pub front : List ℕ
  pub rest : List ℕ
  pub text_is : text ≡ front ++ rest
  pub took : taken ≡ option_map (λ t. t ++ front) start
  pub waits : p.failed ≡ false → rest ≡ p.page.items
  pub still : p.failed ≡ false → now ≡ before
  pub cause : p.failed ≡ true → now ≡ one_more before

-- whatever was printed before, this piece comes after it
abbrev pub Prints : {K : Type 0} → Ghosts K → Printer → K → List ℕ → Printer → K → Type 0
Prints k old sink piece new sink' =
    (start : Option (List ℕ)) (before : ℕ) (text : List ℕ)
    → IsPrinted start before text old (k.taken sink) (k.faults sink)
    → IsPrinted start before (text ++ piece) new (k.taken sink') (k.faults sink')

-- at the end of the text: the sink took it whole, or one push failed and the sink took a front of it
pub record EndsPrinted {T E : Type 0} (start : Option (List ℕ)) (before : ℕ) (text : List ℕ)
    (result : Result T E) (taken : Option (List ℕ)) (now : ℕ) : Type 0 where
  pub front : List ℕ
  pub rest : List ℕ
  pub text_is : text ≡ front ++ rest
  pub took : taken ≡ option_map (λ t. t ++ front) start
  pub whole : OnOk result (rest ≡ [])
  pub still : OnOk result (now ≡ before)
  pub failed : OnErr result (now ≡ one_more before)
