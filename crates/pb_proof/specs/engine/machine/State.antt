-- The states of the machine for proofs, and its automaton.
use Rattle.pb_proof.specs.{declared.line.LineMachine.LineMachine, declared.statement.Statement.Statement, engine.line.Carried.carried}
use Rattle.pb_proof.specs.declared.machine.phase.{Action.Action, LineKind.LineKind, Phase.Phase, Stage.Stage}
use Rattle.pb_proof.specs.engine.{line.Machine.line_automaton, line.Machine.line_first, machine.Transition.transition, machine.Transition.words_of}
use Rattle.pb_text.specs.contract.Automaton.{Automaton, Next, Go, End, Refuse, IsState}
use Rattle.std.specs.Prelude.{◌≡◌, ℕ, ◌^◌, ◌<◌, Bool, true, false, Option, Some, None, length}

-- what a machine stores: its limits, what was read last, and the line machine
pub record ProofState : Type 0 where
  pub limit : ℕ
  pub top : ℕ
  pub phase : Phase
  pub line : Option LineMachine

-- the state without a line machine
abbrev pub at : ℕ → ℕ → Phase → ProofState
at limit top p = record { limit = limit; top = top; phase = p; line = None }

-- between two statements
abbrev pub idle : ℕ → ℕ → Stage → ProofState
idle limit top stage = at limit top (Phase.Between stage)

-- before a proof
abbrev pub begin : ℕ → ℕ → ProofState
begin limit top = idle limit top Stage.Opening

-- within the text after a first word
abbrev pub giving : ℕ → ℕ → LineKind → LineMachine → ProofState
giving limit top r line = record { limit = limit; top = top; phase = Phase.Inside r; line = Some line }

-- the stage after a statement
abbrev pub next_stage : LineKind → Stage
next_stage LineKind.Conclusion = Stage.Closing
next_stage _ = Stage.Steps

abbrev pub over : ProofState → LineKind → Next LineMachine Statement → Next ProofState Statement
over s r = carried (giving s.limit s.top r) (λ e. e) (λ e line. idle s.limit s.top (next_stage r))

abbrev pub step_line : Option LineMachine → ℕ → Next LineMachine Statement
step_line None b = Refuse
step_line (Some line) b = line_automaton.step line b

abbrev pub act : ProofState → ℕ → Action → Next ProofState Statement
act s b (Action.To p) = Go (record s { phase = p })
act s b (Action.Begin r) = Go (giving s.limit s.top r (line_first s.limit s.top r))
act s b (Action.Give r) = over s r (step_line s.line b)
act s b Action.EndHeader = End Statement.Header (idle s.limit s.top Stage.Formula)
act s b Action.EndOutput = End Statement.Output (idle s.limit s.top Stage.Concluding)
act s b Action.EndProof = End Statement.End (idle s.limit s.top Stage.Complete)
act s b Action.Stop = Refuse

-- a statement has begun and not ended
abbrev pub is_within : Phase → Bool
is_within (Phase.Between at) = false
is_within (Phase.Comment at) = false
is_within _ = true

abbrev pub is_complete : Stage → Bool
is_complete Stage.Complete = true
is_complete _ = false

abbrev pub is_done : Phase → Bool
is_done (Phase.Between at) = is_complete at
is_done _ = false

-- the answer of the line machine, or `none` if there is no such machine
abbrev pub asked : {A : Type 0} → A → (LineMachine → A) → Option LineMachine → A
asked none ask None = none
asked none ask (Some line) = ask line

-- only the line machine may allocate
abbrev pub asks : ProofState → ℕ → Action → Bool
asks s b (Action.Give r) = asked false (λ i. line_automaton.asks i b) s.line
asks s b _ = false

abbrev pub proofs : Automaton ProofState Statement
proofs = record {
  step = λ s b. act s b (transition s.phase b);
  done = λ s. is_done s.phase;
  begun = λ s. is_within s.phase;
  in_number = λ s. asked false line_automaton.in_number s.line;
  asks = λ s b. asks s b (transition s.phase b);
  kept = λ s. asked 0 line_automaton.kept s.line;
  spent = λ s. asked 0 line_automaton.spent s.line;
}

-- the stages that allow white space and comments before their statements
abbrev pub HasGaps : Stage → Type 0
HasGaps Stage.Opening = ⊥
HasGaps Stage.Complete = ⊥
HasGaps _ = Unit {0}

-- a comment is in a stage that allows one, and words are not read to their end
abbrev pub PhaseFits : Phase → Type 0
PhaseFits (Phase.Comment at) = HasGaps at
PhaseFits (Phase.Spelling f k) = (0 < k) × (k < length (words_of f))
PhaseFits _ = Unit {0}

-- What holds in each phase.
abbrev pub Holds : ProofState → Phase → Type 0
Holds s (Phase.Inside r) = (i : LineMachine) × (s.line ≡ Some i) × (line_automaton.done i ≡ false) × IsState line_automaton i
Holds s _ = s.line ≡ None

pub record IsInOrder (s : ProofState) : Type 0 where
  pub limit : s.limit < 2 ^ 127
  pub top : s.top < 2 ^ 63
  pub some : 0 < s.top
  pub fits : PhaseFits s.phase
  pub holds : Holds s s.phase
