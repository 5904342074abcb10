-- What a check of two sources ensures, in one record: its fields are the facts that `check` names.
use Rattle.pb_replay.specs.declared.verdict.Verdict.{Verdict, TheVariants.Unsat}
use Rattle.pb_text.specs.{declared.Limits.Limits, declared.sink.Sink.Ghosts as Sink, declared.source.Source.Ghosts as Source, meaning.Pulling.OfGiven}
use Rattle.pb_tool.specs.{declared.fault.ToolFault.ToolFault, meaning.Headline.TrueOf, meaning.Headline.UnsatOf}
use Rattle.pb_tool.specs.contract.{Given.ChecksGiven, Runs.faults_of_instance, Runs.faults_of_proof, Seen.SawInstance, Seen.SawProof}
use Rattle.pb_tool.specs.meaning.Verified.{called, CheckCall, ChecksFiles}
use Rattle.std.specs.Prelude.{◌≡◌, ℕ, IfOk, List, Option, Result, Ok}

-- A call with an instance `i`, a proof `p` and a sink `o` returned this result, and left them as `i'`, `p'` and `o'`.
module _ {I P W : Type 0} (of_i : Source I) (of_p : Source P) (of_o : Sink W) (limits : Limits) (longest : ℕ) (i : I) (p : P) (o : W) (result : Result Verdict ToolFault) (i' : I) (p' : P) (o' : W) where
  -- the call for the bytes that are left in the sources, and for those that their calls have given
  abbrev pub of_left : CheckCall (Option (List ℕ)) W
  of_left = called (of_i.left i) (of_p.left p) o result (of_i.left i') (of_p.left p') o'

  abbrev pub of_given : CheckCall (List ℕ) W
  of_given = called (of_i.history i) (of_p.history p) o result (of_i.history i') (of_p.history p') o'

  pub record Checked : Type 0 where
    pub checks : ChecksFiles limits longest of_o.contents of_o.faults of_left
    pub given : ChecksGiven limits longest of_o.contents of_o.faults of_given
    pub unsat : result ≡ Ok Unsat → UnsatOf limits longest (of_i.left i) (of_i.left i')
    pub true_verdict : IfOk result (λ w. TrueOf limits longest w (of_i.left i) (of_i.left i'))
    pub unsat_given : result ≡ Ok Unsat → OfGiven (UnsatOf limits longest) (of_i.history i) (of_i.history i')
    pub true_given : IfOk result (λ w. OfGiven (TrueOf limits longest w) (of_i.history i) (of_i.history i'))
    pub seen_instance : SawInstance (of_i.shown i') (of_i.ended i') result
    pub seen_proof : SawProof (of_p.shown p') (of_p.ended p') result
    pub instance : of_i.faults i' ≡ faults_of_instance result (of_i.faults i)
    pub proof : of_p.faults p' ≡ faults_of_proof result (of_p.faults p)
