-- What calls answer, what a call on a handle claims, and what a line says holds for the instance.
use Rattle.pb_c.proofs.Common.{Bool, ℕ, ◌^◌, ◌≡◌, arith, List, Option, Some, subst, unwrap_or, Instance, Fault, Verdict, Unsat, MeansWritten, Why, stop_status}
use Rattle.pb_c.proofs.Common.{Limits, refusal_status, IsUnsatisfiable, IsSession, Session, Under, Options, ◌⊎◌, inl, inr, None, fault_of, StopsAt, Reader}
use Rattle.pb_c.proofs.Common.{Stop, IsAsked, GivesNext, ◌∙◌, ap, Bor, Result, ToolFault, empty, faults, written, Page, Answers, Puts, length, length-append}
use Rattle.pb_c.proofs.Common.{Ok, sym, exit_status, VerdictsAreTrue, AnswersCheck, Ends, codes, Err}
use Rattle.{pb_c.specs.Checker.IsCheckerFor, pb_c.specs.Event.no_event, pb_c.specs.Report.status_of_fault, pb_tool.specs.contract.Show.ShowsFile}
use Rattle.pb_c.specs.{Claim.claim_of, Unsat.ShowsTruth, Unsat.ShowsUnsat, declared.event.Statement.Statement, declared.handle.CheckerHandle.CheckerHandle}
use Rattle.{pb_tool.specs.contract.Tidy.TidiesFile, pb_pieces.specs.Given.Given, pb_pieces.specs.declared.reader.Format.Format}
use Rattle.pb_tool.specs.declared.{commands.check.checker.CheckFault.CheckFault, fault.ToolFault.TheVariants.Text, fault.ToolFault.TheVariants.Step}
use Rattle.pb_tool.specs.meaning.{Files.IsInstanceFile, Verified.CheckCall, Verified.Returns, Verified.verdict_line}
use Rattle.pb_text.specs.{contract.Over.reported, contract.OverState.inner_of, contract.OverState.shown_of, declared.over.Over.Over, meaning.Writing.Wrote}
use Rattle.pb_tool.specs.declared.commands.check.checker.CheckFault.TheVariants as check
use Rattle.pb_text.specs.declared.place.Why.TheVariants as why
use Rattle.pb_replay.specs.declared.fault.Fault.TheVariants as step

-- a source over a slice has the bytes of the slice left
pub whole : (o : Over (Bor (List ℕ))) (s : Bor (List ℕ)) → inner_of o ≡ s → shown_of o ≡ None → reported (Some o.inner.now) None o.shown ≡ Some s.now
whole o s is none = ap (λ (x : Option ℕ). reported (Some o.inner.now) None x) none ∙ ap (λ (x : Bor (List ℕ)). Some x.now) is

module _ (limits : Limits) (longest : ℕ) where
  pub of_tidy : (normal : Bool) (input : List ℕ) (before : Option (List ℕ)) (old new : Page) (answer : Result Unit ToolFault) (after : Option (List ℕ))
      → before ≡ Some input → old ≡ empty → TidiesFile limits longest written faults normal before old answer after new
      → TidiesFile limits longest written faults normal (Some input) empty answer after new
  of_tidy normal input before old new answer after one bare h = rw (one, bare) at h

  pub of_show : (input : List ℕ) (before : Option (List ℕ)) (old new : Page) (answer : Result Unit ToolFault) (after : Option (List ℕ))
      → before ≡ Some input → old ≡ empty → ShowsFile limits longest written faults before old answer after new
      → ShowsFile limits longest written faults (Some input) empty answer after new
  of_show input before old new answer after one bare h = rw (one, bare) at h

pub answers : (o : Options) (IsAnswer : Limits → ℕ → List ℕ → ℕ → Type 0) (old new : List ℕ) (whole : ℕ) (limits : Limits) (longest : Option ℕ) (text kept reported : List ℕ) (status ended : ℕ)
    → IsAsked o longest limits → IsAnswer limits (unwrap_or longest (2 ^ 40)) text status → kept ≡ text → reported ≡ kept → ended ≡ status → Puts reported old new whole
    → Answers o IsAnswer old ended new whole
answers o IsAnswer old new whole limits longest text kept reported status ended asked is e f g puts =
    (reported, puts, inr (limits, longest, asked, rw (g, f, e) is))

pub same_value : {A : Type 0} {v : Option A} {x y : A} → v ≡ Some x → v ≡ Some y → x ≡ y
same_value is too = cc

-- no fault has the status 0
pub stopped : (w : Why) → stop_status w ≡ 0 → ⊥
stopped why.Memory k = omega (arith, k)
stopped _ k = omega (arith, k)

pub refused : (w : Fault) → refusal_status w ≡ 0 → ⊥
refused step.Memory k = omega (arith, k)
refused _ k = omega (arith, k)

pub no_fault : (f : CheckFault) → status_of_fault f ≡ 0 → ⊥
no_fault (check.Text s) h = stopped s.why h
no_fault (check.Step begins e) h = refused e h

-- the claim of UNSAT is that of no other verdict
pub unsat_of : (v : Instance) (w : Verdict) → (claim_of w).kind ≡ 1 → MeansWritten v w → IsUnsatisfiable v
unsat_of v Unsat k h = h
unsat_of v _ k h = absurd (omega (arith, k))

-- the session that a checker owns
pub under : (o : Options) (i fed : List ℕ) (h : CheckerHandle) (s : Session) → h.value ≡ Some s → IsCheckerFor o i fed h
    → Under o (λ limits longest. IsSession limits longest i fed s)
under o i fed h s held (r, is, (limits, longest, asked, session)) =
    (limits, longest, asked, subst (λ (x : Session). IsSession limits (unwrap_or longest (2 ^ 40)) i fed x) (same_value is held) session)

-- what holds under some limits of the options, holds under the options
pub fed_under : (f : Format) (o : Options) (fed : List ℕ) (events : List Given) (piece : List ℕ) (limits : Limits) (longest : Option ℕ) → IsAsked o longest limits
    → (used : ℕ) (event : Statement) (r : Reader) (status : ℕ)
    → ((status ≡ 0) × (fault_of r ≡ None) × GivesNext f limits (unwrap_or longest (2 ^ 40)) fed events piece used event r)
    ⊎ ((s : Stop) × (fault_of r ≡ Some s) × (event ≡ no_event) × StopsAt (unwrap_or longest (2 ^ 40)) limits fed events f piece s)
    → ((status ≡ 0) × (fault_of r ≡ None) × Under o (λ limits longest. GivesNext f limits longest fed events piece used event r))
    ⊎ ((s : Stop) × (fault_of r ≡ Some s) × (event ≡ no_event) × Under o (λ limits longest. StopsAt longest limits fed events f piece s))
fed_under f o fed events piece limits longest asked used event r status (inl (zero, none, gives)) = inl (zero, none, (limits, longest, asked, gives))
fed_under f o fed events piece limits longest asked used event r status (inr (s, some, nothing, stops)) = inr (s, some, nothing, (limits, longest, asked, stops))

-- no fault of the tool has the status 0
no_tool_fault : (e : ToolFault) → exit_status e ≡ 0 → ⊥
no_tool_fault (Text input s) h = stopped s.why h
no_tool_fault (Step place e name) h = refused e h
no_tool_fault _ h = omega (arith, h)

-- what was written to an empty page is all that is on it
written_alone : (old new : Page) (w : Verdict) → old ≡ empty → Wrote written faults old (verdict_line w) new → new.text ≡ verdict_line w
written_alone old new w bare wrote = (subst (λ (x : Page). Wrote written faults x (verdict_line w) new) bare wrote).appends

module _ (law : VerdictsAreTrue) (limits : Limits) (longest : ℕ) where
  -- with status 0, the text is the line of a verdict that holds for the instance
  of_answer : (i text old new : List ℕ) (status whole : ℕ) (c : CheckCall (Option (List ℕ)) Page) (result : Result Verdict ToolFault)
      → c.instance ≡ Some i → c.out ≡ empty → Returns limits longest written faults c result → Ends result c.out_after empty text status → Puts text old new whole → status ≡ 0
      → (after : Option (List ℕ)) × (v : Instance) × IsInstanceFile limits longest (Some i) after v × (w : Verdict) × Puts (verdict_line w) old new whole × MeansWritten v w
  of_answer i text old new status whole c (Ok w) one bare (v, file, q, proof, verified, wrote) (line, ended) put zero = (
    c.instance_after,
    v,
    subst (λ (x : Option (List ℕ)). IsInstanceFile limits longest x c.instance_after v) one file,
    w,
    subst (λ (t : List ℕ). Puts t old new whole) (line ∙ written_alone c.out c.out_after w bare wrote) put,
    law limits longest v q w c.proof c.proof_after proof verified,
  )
  of_answer i text old new status whole c (Err e) one bare checks (after, inl (line, ended), is) put zero = absurd (no_tool_fault e (sym ended ∙ zero))
  of_answer i text old new status whole c (Err e) one bare checks (after, inr (line, ended), is) put zero = absurd (omega (arith, ended, zero))

pub shows_truth : VerdictsAreTrue → (o : Options) (i p old new : List ℕ) (status whole : ℕ) → AnswersCheck o i p old status new whole → ShowsTruth o i old status new whole
shows_truth law o i p old new status whole (text, put, inl (wrong, line, two)) zero = absurd (omega (arith, two, zero))
shows_truth law o i p old new status whole (text, put, inr (limits, longest, asked, a)) zero =
    let (after, v, file, w, reported, true) = of_answer law limits (unwrap_or longest (2 ^ 40)) i text old new status whole a.call a.call.result a.texts.0 a.begins_empty a.checks a.ends put zero in
    (limits, longest, asked, after, v, file, w, reported, true)

-- the line of UNSAT differs from the others in its length
no_solution : (v : Instance) (w : Verdict) → MeansWritten v w → length (verdict_line w) ≡ 15 → IsUnsatisfiable v
no_solution v Unsat h k = h
no_solution v _ h k = absurd (omega (arith, k, length-append (codes "verified BOUNDS ")))

pub shows_unsat : (o : Options) (i old new : List ℕ) (status whole : ℕ) → ShowsTruth o i old status new whole → ShowsUnsat o i status new whole
shows_unsat o i old new status whole truth zero fifteen says =
    let (limits, longest, asked, after, v, file, w, reported, true) = truth zero in
    (limits, longest, asked, after, v, file, no_solution v w true (sym reported.1 ∙ fifteen))
