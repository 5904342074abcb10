-- What is stored of the constraints is what the replay has, and what is written for a proof.
use Rattle.{pb_normal.specs.meaning.Form.Form, pb_proof.specs.declared.Stage.Stage, pb_proof.specs.declared.Statement.Statement}
use Rattle.pb_proof.specs.declared.Stage.TheVariants.{Opening, Formula, Steps, Concluding, Closing, Complete}
use Rattle.pb_replay.specs.contract.ReplayModel.{Replaying, StandsFor, StepsAs}
use Rattle.pb_replay.specs.meaning.{Problem.Problem, Replay.State, Replay.first_state}
use Rattle.pb_text.specs.{declared.Limits.Limits, declared.Spanned.Spanned, meaning.Writing.Wrote}
use Rattle.pb_tool.specs.contract.Watched.{Call, Accepted, Rejected, GotEach, ShowsEach}
use Rattle.pb_trace.specs.Traced.{Tracing, TracesCall, extended, line_bytes, stored_after}
use Rattle.std.specs.Prelude.{◌≡◌, ℕ, Bool, List, [], ◌∷◌, ◌++◌, Option, Ok}

-- before `f` there is no constraint
abbrev pub IsEmptyAt : Stage → List (Option Form) → Type 0
IsEmptyAt Opening live = live ≡ []
IsEmptyAt Formula live = live ≡ []
IsEmptyAt Steps live = Unit {0}
IsEmptyAt Concluding live = Unit {0}
IsEmptyAt Closing live = Unit {0}
IsEmptyAt Complete live = Unit {0}

abbrev pub FirstIsEmpty : Type 0
FirstIsEmpty = (r : Replaying) → StandsFor r (first_state r.problem) → IsEmptyAt r.next r.live

-- If the live constraints of a replay were stored before a statement that it accepts, they are stored after it.
abbrev pub StoresTheLive : Type 0
StoresTheLive = (old new : Replaying) (st : Statement) → ((s : State) × StandsFor old s) → IsEmptyAt old.next old.live
    → StepsAs old st (Ok tt) new
    → (stored_after (extended old.live new.live) st ≡ new.live) × IsEmptyAt new.next new.live

-- the lines of accepted statements, each from the constraints that are live before it
abbrev pub lines_of : Bool → List ℕ → List (Option Form) → List Call → List ℕ
lines_of ids lines live [] = []
lines_of ids lines live (Accepted read replay ∷ calls) =
    line_bytes ids lines live read replay ++ lines_of ids lines replay.live calls
lines_of ids lines live (Rejected read replay fault ∷ calls) = lines_of ids lines live calls

-- A new trace that got a call for each of these accepted statements has written their lines, if it could write all.
abbrev pub TracesEachLine : {S : Type 0} → (S → Option (List ℕ)) → (S → ℕ) → Type 0
TracesEachLine {S} contents faults =
    (limits : Limits) (v : Problem) (spans : List (Spanned Statement)) (calls : List Call) (last : State) (old new : Tracing S)
    → old.stored ≡ [] → old.end ≡ Ok tt → ShowsEach limits v (first_state v) spans calls last
    → GotEach (TracesCall contents faults) old calls new → new.end ≡ Ok tt
    → Wrote contents faults old.out (lines_of old.ids old.lines [] calls) new.out
