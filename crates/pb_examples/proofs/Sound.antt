-- What a source over a slice has, and what a replay verifies of an instance.
use Rattle.pb_examples.specs.Fed.{Verifies}
use Rattle.{pb_opb.specs.declared.Instance.Instance, pb_proof.specs.contract.ValueLaws.ReadStatements, pb_proof.specs.contract.Values.IsStatementValue}
use Rattle.pb_proof.specs.declared.{Stage.Stage, Stage.TheVariants.Complete, Statement.Statement}
use Rattle.pb_replay.specs.contract.{Laws.MeaningsAgree, Laws.StatementsAreSound, ReplayModel.Replaying, ReplayModel.StandsFor, ReplayModel.verdict_at}
use Rattle.pb_replay.specs.{declared.fault.Fault.Fault, declared.verdict.Verdict.Verdict, meaning.Statements.Accepts}
use Rattle.pb_replay.specs.meaning.{Meaning.IsProblem, Meaning.IsSound, Meaning.Means, Meaning.MeansWritten, Problem.Opened, Problem.Problem, Replay.State}
use Rattle.pb_text.specs.contract.{Over.reported, OverState.inner_of, OverState.shown_of}
use Rattle.pb_text.specs.{declared.over.Over.Over, meaning.Limits.largest, meaning.Limits.top_of, meaning.Reading.byte_limit, meaning.Whole.events_at}
use Rattle.{pb_tool.specs.contract.Checker.IsAt, std.proofs.lemmas.List.Elements.All-head, std.proofs.lemmas.List.Elements.All-tail}
use Rattle.std.proofs.Common.{◌≡◌, ℕ, List, [], ◌∷◌, Option, Some, None, Ok, Err, refl, subst, true, All, Bor, ap, ◌∙◌}

-- the text of a source over a slice is the slice
pub whole : (o : Over (Bor (List ℕ))) (s : Bor (List ℕ)) → inner_of o ≡ s → shown_of o ≡ None → reported (Some o.inner.now) None o.shown ≡ Some s.now
whole o s is none = ap (λ (x : Option ℕ). reported (Some o.inner.now) None x) none ∙ ap (λ (x : Bor (List ℕ)). Some x.now) is

-- a complete proof has the verdict of its conclusion
concluded_as : (next : Stage) (concluded : Option Verdict) (w : Verdict) → verdict_at next concluded ≡ Some w → concluded ≡ Some w
concluded_as Complete concluded w e = e
concluded_as _ concluded w e = absurd cc

-- the accepted statements of a proof preserve soundness
sound_after : StatementsAreSound → (limit top : ℕ) (v : Problem) → IsProblem v → (sts : List Statement) (s t : State)
    → All (IsStatementValue limit top) sts → IsSound v s → Accepts limit top v s sts t → IsSound v t
sound_after law limit top v fine [] s t h sound same = subst (IsSound v) same sound
sound_after law limit top v fine (st ∷ sts) s t h sound (u, one, rest) =
    sound_after law limit top v fine sts u t (All-tail (IsStatementValue limit top) st sts h)
    (law limit top v s u st fine (All-head (IsStatementValue limit top) st sts h) sound one) rest

module _ (law : StatementsAreSound) (agree : MeaningsAgree) (read : ReadStatements) (r : Replaying) (bytes : List ℕ) (w : Verdict) (shows : Verifies r bytes w) where
  -- a replay in a sound state
  from_state : IsProblem r.problem → (s : State) → IsAt r (Ok s) → IsSound r.problem s → Means r.problem w
  from_state fine s at sound =
      let (place, (t, replayed, is)) = shows (Ok s) at in
      let (u, same, accepted) = replayed.accepted in
      let there : t ≡ u = cc same in
      let begins = read (largest r.limits) (top_of r.limits) byte_limit bytes replayed.used replayed.spans place true None replayed.reads in
      let last = sound_after law (largest r.limits) (top_of r.limits) r.problem fine (events_at replayed.spans) s u begins.each sound accepted in
      last.meant w (concluded_as u.next u.concluded w (rw there at is))

  -- a spent one verifies nothing
  at_fault : (fault : Option Fault) → r.fault ≡ fault → (r.fault ≡ None → IsProblem r.problem)
      → (r.fault ≡ None → (s : State) × StandsFor r s × IsSound r.problem s) → Means r.problem w
  at_fault None none fine reported = let (s, stands, sound) = reported none in from_state (fine none) s (none, stands) sound
  at_fault (Some e) spent fine reported =
      let (place, (t, replayed, is)) = shows (Err e) spent in
      let (nothing, other) = replayed.accepted in absurd cc

  pub true_of : (r.fault ≡ None → IsProblem r.problem) → (r.fault ≡ None → (s : State) × StandsFor r s × IsSound r.problem s)
      → (limit : ℕ) (v : Instance) → Opened limit v (Ok r.problem) → MeansWritten v w
  true_of fine reported limit v opened = agree limit v r.problem w opened (at_fault r.fault refl fine reported)
