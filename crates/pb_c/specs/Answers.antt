-- What a call returns, in terms of what the tool returns for the same texts.
use Rattle.pb_c.specs.{Buffer.Puts, Options.AreWrong, Options.IsAsked, declared.options.Options.Options, declared.page.Page.Page}
use Rattle.pb_text.specs.{declared.Limits.Limits, meaning.Writing.Wrote, meaning.Writing.Broke}
use Rattle.pb_tool.specs.contract.{Faults.exit_status, Faults.fault_line, Show.ShowsFile, Tidy.TidiesFile}
use Rattle.pb_tool.specs.{declared.fault.ToolFault.ToolFault, meaning.Decided.IsOfTexts, meaning.Verified.CheckCall, meaning.Verified.ChecksFiles}
use Rattle.std.specs.Prelude.{◌≡◌, ◌⊎◌, ◌^◌, ℕ, List, [], codes, Bool, Option, Some, Result, Ok, Err, unwrap_or}

-- a sink in memory, before any byte
abbrev pub empty : Page
empty = record { text = []; failures = 0 }

abbrev pub written : Page → Option (List ℕ)
written page = Some page.text

abbrev pub faults : Page → ℕ
faults page = page.failures

-- After a page comes the whole line of the fault, with its exit status. If the page failed while the line was written, a
-- prefix of the line comes, and the status is 3.
abbrev pub EndsIn : Page → ToolFault → Page → ℕ → Type 0
EndsIn old e new status =
    (Wrote written faults old (fault_line e) new × (status ≡ exit_status e))
    ⊎ (Broke written faults old (fault_line e) new × (status ≡ 3))

-- What was written, with status 0; or what comes after this page for the fault.
abbrev pub Ends : {V : Type 0} → Result V ToolFault → Page → Page → List ℕ → ℕ → Type 0
Ends (Ok v) page before text status = (text ≡ page.text) × (status ≡ 0)
Ends (Err e) page before text status = (after : Page) × EndsIn before e after status × (text ≡ after.text)

module _ (limits : Limits) (longest : ℕ) where
  -- `check` has this result for the two texts, and this is its line and its status. The line of a fault stands alone.
  pub record AnswerOfCheck (i p line : List ℕ) (status : ℕ) : Type 0 where
    pub call : CheckCall (Option (List ℕ)) Page
    pub texts : IsOfTexts i p call
    pub begins_empty : call.out ≡ empty
    pub checks : ChecksFiles limits longest written faults call
    pub ends : Ends call.result call.out_after empty line status

  -- `tidy` has this result for the text. The line of a fault stands alone.
  pub record AnswerOfTidy (normal : Bool) (input text : List ℕ) (status : ℕ) : Type 0 where
    pub answer : Result Unit ToolFault
    pub left : Option (List ℕ)
    pub page : Page
    pub tidies : TidiesFile limits longest written faults normal (Some input) empty answer left page
    pub ends : Ends answer page empty text status

  -- `show` has this result for the text. The line of a fault comes after what was written.
  pub record AnswerOfShow (input text : List ℕ) (status : ℕ) : Type 0 where
    pub answer : Result Unit ToolFault
    pub left : Option (List ℕ)
    pub page : Page
    pub shows : ShowsFile limits longest written faults (Some input) empty answer left page
    pub ends : Ends answer page page text status

-- the line of options that are not allowed
abbrev pub wrong_line : List ℕ
wrong_line = codes "options: bits is not 31 to 127\n"

-- What a call returns: a status, and a text that is put into the room. If the options are allowed, `IsAnswer` holds of
-- both under the limits of the options. Otherwise the text is the line for options that are not allowed, and the status
-- is 2.
abbrev pub Answers : Options → (Limits → ℕ → List ℕ → ℕ → Type 0) → List ℕ → ℕ → List ℕ → ℕ → Type 0
Answers o IsAnswer old status new whole = (text : List ℕ) × Puts text old new whole ×
    ((AreWrong o × (text ≡ wrong_line) × (status ≡ 2))
    ⊎ ((limits : Limits) × (longest : Option ℕ) × IsAsked o longest limits × IsAnswer limits (unwrap_or longest (2 ^ 40)) text status))

abbrev pub AnswersCheck : Options → List ℕ → List ℕ → List ℕ → ℕ → List ℕ → ℕ → Type 0
AnswersCheck o i p = Answers o (λ limits longest text status. AnswerOfCheck limits longest i p text status)

abbrev pub AnswersTidy : Options → Bool → List ℕ → List ℕ → ℕ → List ℕ → ℕ → Type 0
AnswersTidy o normal input = Answers o (λ limits longest text status. AnswerOfTidy limits longest normal input text status)

abbrev pub AnswersShow : Options → List ℕ → List ℕ → ℕ → List ℕ → ℕ → Type 0
AnswersShow o input = Answers o (λ limits longest text status. AnswerOfShow limits longest input text status)
