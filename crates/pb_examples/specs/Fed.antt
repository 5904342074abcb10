-- What a proof that comes in pieces shows.
use Rattle.pb_opb.specs.declared.Instance.{Instance}
use Rattle.pb_replay.specs.{contract.ReplayModel.Replaying, declared.fault.Fault.Fault, declared.verdict.Verdict.Verdict}
use Rattle.pb_replay.specs.{declared.verdict.Verdict.TheVariants.Unsat, meaning.Problem.Opened, meaning.Problem.Problem, meaning.Replay.State}
use Rattle.pb_text.specs.{declared.Limits.Limits, declared.Place.Place, meaning.Reading.byte_limit}
use Rattle.pb_tool.specs.{contract.Checker.Checking, contract.Checker.IsAt, contract.Checks.Ends, contract.Pieces.ChecksAt, meaning.Headline.IsUnsatisfiable}
use Rattle.std.specs.Prelude.{◌≡◌, ◌↔◌, ℕ, List, [], Bool, IsTrue, Result, Ok}

-- No assignment solves the instance that the replay was opened for.
abbrev pub IsRefuted : Replaying → Type 0
IsRefuted replay = (limit : ℕ) (v : Instance) → Opened limit v (Ok replay.problem) → IsUnsatisfiable v

-- The bytes begin with a proof. The rules accept it, from the state that the replay is in, with this verdict.
abbrev pub Verifies : Replaying → List ℕ → Verdict → Type 0
Verifies replay bytes w =
    (first : Result State Fault) → IsAt replay first → (place : Place) × Ends replay.limits byte_limit replay.problem first bytes place (Ok w)

-- The answer is whether the verdict on the bytes is UNSAT.
abbrev pub ReportsUnsat : Replaying → List ℕ → Bool → Type 0
ReportsUnsat replay bytes answer = (w : Verdict) × Verifies replay bytes w × (IsTrue answer ↔ (w ≡ Unsat))

-- A checker that was fed nothing finds a proof in these bytes, and the answer is whether its verdict is UNSAT.
abbrev pub FindsUnsat : Checking → List ℕ → Bool → Type 0
FindsUnsat checker bytes answer = (w : Verdict) × (IsTrue answer ↔ (w ≡ Unsat)) × ((limits : Limits) (v : Problem) (first : Result State Fault) →
    ChecksAt limits byte_limit v first [] checker → (place : Place) × Ends limits byte_limit v first bytes place (Ok w))
