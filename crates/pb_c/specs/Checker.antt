-- What a handle on a session stands for, and what the calls return.
use Rattle.pb_c.specs.{Buffer.Puts, Claim.claim_of, Claim.unsat_kind, Options.AreWrong, Options.IsAsked}
use Rattle.pb_c.specs.Report.{misused, position_of, report_of, report_of_opening, report_of_place, report_of_reason, spent, status_of_fault, status_of_opening}
use Rattle.pb_c.specs.declared.{claim.Claim.Claim, handle.CheckerHandle.CheckerHandle, options.Options.Options, report.Position.Position, report.Report.Report}
use Rattle.{pb_opb.specs.declared.Instance.Instance, pb_pieces.specs.declared.session.OpenFault.OpenFault, pb_pieces.specs.declared.session.Session.Session}
use Rattle.pb_pieces.specs.Session.{IsInstanceOf, IsNoSession, IsSession, held_in}
use Rattle.{pb_replay.specs.declared.verdict.Verdict.Verdict, pb_text.specs.declared.Limits.Limits}
use Rattle.pb_tool.specs.{contract.Pieces.HoldsOpen, contract.Pieces.place_in, declared.commands.check.checker.CheckFault.CheckFault}
use Rattle.pb_tool.specs.meaning.{Decided.AreVerified, Files.IsInstanceFile, Headline.IsUnsatisfiable}
use Rattle.std.specs.Prelude.{◌≡◌, ◌≢◌, ◌⊎◌, ◌+◌, ◌≤◌, ◌^◌, ℕ, List, [], length, Option, Some, None, slice_get, unwrap_or}

-- under the limits of the options
abbrev pub Under : Options → (Limits → ℕ → Type 0) → Type 0
Under o Holds = (limits : Limits) × (longest : Option ℕ) × IsAsked o longest limits × Holds limits (unwrap_or longest (2 ^ 40))

-- The handle owns a session. It was opened for the text of an instance, and was fed these bytes of a proof.
abbrev pub IsCheckerFor : Options → List ℕ → List ℕ → CheckerHandle → Type 0
IsCheckerFor o i fed h = (s : Session) × (h.value ≡ Some s) × Under o (λ limits longest. IsSession limits longest i fed s)

-- The handle owns a session for the text of an instance. Or it owns nothing: the options are not allowed, or the text is
-- rejected, or memory ran out.
abbrev pub Opens : Options → List ℕ → ℕ → CheckerHandle → Report → Type 0
Opens o i status h report =
    (IsCheckerFor o i [] h × (status ≡ 0))
    ⊎ ((h.value ≡ None)
    × ((AreWrong o × (status ≡ 2) × (report ≡ report_of_reason misused))
    ⊎ ((status ≡ 3) × (report ≡ report_of_reason spent))
    ⊎ ((f : OpenFault) × Under o (λ limits longest. IsNoSession limits longest i f) × (status ≡ status_of_opening f) × (report ≡ report_of_opening f))))

-- the status and the report of a session, by its first fault
abbrev pub AnswersFor : Session → Option CheckFault → ℕ → Report → Type 0
AnswersFor s None status report = (status ≡ 0) × (report ≡ report_of_place (place_in s.checker))
AnswersFor s (Some f) status report = (status ≡ status_of_fault f) × (report ≡ report_of f)

abbrev pub AnswersOf : Option Session → ℕ → Report → Type 0
AnswersOf None status report = (status ≡ 2) × (report ≡ report_of_reason misused)
AnswersOf (Some s) status report = AnswersFor s s.fault status report

abbrev pub Answers : CheckerHandle → ℕ → Report → Type 0
Answers h = AnswersOf h.value

-- With status 0, the position of the session moved on by the used bytes of the piece. Otherwise none was used.
abbrev pub Uses : Session → Session → List ℕ → ℕ → ℕ → Type 0
Uses old new piece status used =
    (status ≡ 0 → ((place_in new.checker).offset ≡ (place_in old.checker).offset + used) × (used ≤ length piece)) × (status ≢ 0 → used ≡ 0)

abbrev pub UsesOf : Option Session → Option Session → List ℕ → ℕ → ℕ → Type 0
UsesOf None new piece status used = used ≡ 0
UsesOf (Some old) None piece status used = used ≡ 0
UsesOf (Some old) (Some new) piece status used = Uses old new piece status used

-- The bytes are an instance and a proof that the rules accept with the verdict of the claim. That verdict is true of the
-- instance.
abbrev pub IsClaimFor : Limits → ℕ → List ℕ → List ℕ → Claim → Type 0
IsClaimFor limits longest i fed claim =
    (w : Verdict) × (claim ≡ claim_of w) × AreVerified limits longest i fed w × IsInstanceOf limits longest i w

-- with status 0, the claim is one for the bytes
abbrev pub Concludes : Options → List ℕ → List ℕ → ℕ → Claim → Type 0
Concludes o i fed status claim = status ≡ 0 → Under o (λ limits longest. IsClaimFor limits longest i fed claim)

-- With status 0 and the claim UNSAT, the text is an instance, and no assignment of its names solves it.
abbrev pub ClaimsUnsat : Options → List ℕ → ℕ → Claim → Type 0
ClaimsUnsat o i status claim = status ≡ 0 → claim.kind ≡ unsat_kind →
    Under o (λ limits longest. (v : Instance) × IsInstanceFile limits longest (Some i) (Some []) v × IsUnsatisfiable v)

-- the position of the next byte of a session
abbrev pub AnswersPlace : Option Session → ℕ → Position → Position → Type 0
AnswersPlace None status old new = (status ≡ 2) × (new ≡ old)
AnswersPlace (Some s) status old new = (status ≡ 0) × (new ≡ position_of (place_in s.checker))

-- How much is stored of the current statement. While nothing was rejected, that is at most the number of its bytes.
abbrev pub AnswersHeld : Option Session → ℕ → ℕ → ℕ → Type 0
AnswersHeld None status old new = (status ≡ 2) × (new ≡ old)
AnswersHeld (Some s) status old new = (status ≡ 0) × (new ≡ held_in s) ×
    ((limits : Limits) (longest : ℕ) (i fed : List ℕ) → IsSession limits longest i fed s → s.fault ≡ None → HoldsOpen limits fed (place_in s.checker) new)

-- the name with the number is put into the room, or nothing if there is none
abbrev pub NameOf : Option (List ℕ) → List ℕ → ℕ → List ℕ → ℕ → Type 0
NameOf (Some name) old status new whole = (status ≡ 0) × Puts name old new whole
NameOf None old status new whole = (status ≡ 2) × Puts [] old new whole

abbrev pub AnswersName : Option Session → ℕ → List ℕ → ℕ → List ℕ → ℕ → Type 0
AnswersName None number = NameOf None
AnswersName (Some s) number = NameOf (slice_get s.checker.replay.names number)
