-- The invariant of the state of a machine of instances.
use Rattle.pb_opb.specs.{declared.phase.Phase.Phase, engine.Machine.word_of, engine.State.OpbState, engine.State.linears, engine.State.objectives}
use Rattle.pb_opb.specs.declared.phase.Action.{Action, TheVariants.To, TheVariants.Declare, TheVariants.BeginTail, TheVariants.EndHeader, TheVariants.Give}
use Rattle.{pb_sums.specs.declared.Spaces.TheVariants.White, pb_sums.specs.engine.State.sums, pb_text.specs.contract.Automaton.IsState}
use Rattle.std.specs.Prelude.{◌≡◌, ℕ, ◌<◌, ◌≤◌, ◌^◌, false, [], length}

-- a word was not read to its end, and a count is at most top
abbrev pub PhaseFits : ℕ → Phase → Type 0
PhaseFits top (Phase.Word f k) = k < length (word_of f)
PhaseFits top (Phase.Count f n) = n ≤ top
PhaseFits top (Phase.Min k) = (0 < k) × (k < 4)
PhaseFits top _ = Unit {0}

abbrev pub ActionFits : ℕ → Action → Type 0
ActionFits top (To p) = PhaseFits top p
ActionFits top (Declare n) = n ≤ top
ActionFits top (BeginTail n b) = n ≤ top
ActionFits top (EndHeader n) = n ≤ top
ActionFits top (Give Phase.Objective) = Unit {0}
ActionFits top (Give Phase.Constraint) = Unit {0}
ActionFits top (Give _) = ⊥
ActionFits top _ = Unit {0}

-- no byte is stored, and the machine of sums is at its start
abbrev pub IsIdle : OpbState → Type 0
IsIdle s = (s.text ≡ []) × (s.sums ≡ linears s.limit)

-- what holds with each phase
abbrev pub Holds : OpbState → Phase → Type 0
Holds s Phase.Tail = s.sums ≡ linears s.limit
Holds s (Phase.Between objective_allowed) = (0 < s.remaining) × IsIdle s
Holds s (Phase.Comment objective_allowed) = (0 < s.remaining) × (s.sums ≡ linears s.limit)
Holds s (Phase.Min k) = (0 < s.remaining) × IsIdle s
Holds s Phase.AfterMin = (0 < s.remaining) × (s.text ≡ []) × (s.sums ≡ objectives s.limit)
Holds s Phase.Objective = (0 < s.remaining) × (s.text ≡ []) × (sums.done s.sums ≡ false)
Holds s Phase.Constraint = (0 < s.remaining) × (s.text ≡ []) × (sums.done s.sums ≡ false)
Holds s _ = IsIdle s

pub record IsInOrder (s : OpbState) : Type 0 where
  pub limit : s.limit < 2 ^ 127
  pub top : s.top < 2 ^ 63
  pub fits : PhaseFits s.top s.phase
  pub holds : Holds s s.phase
  pub spaces : s.sums.spaces ≡ White
  pub limits : s.sums.limit ≡ s.limit
  pub state : IsState sums s.sums
