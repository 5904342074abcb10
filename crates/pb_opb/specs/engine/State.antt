-- The states of a machine of instances, and its automaton.
use Rattle.pb_opb.specs.declared.{phase.Field.Field, phase.Phase.Phase, event.OpbEvent.OpbEvent, phase.Action.Action}
use Rattle.{pb_opb.specs.engine.Machine.transition, pb_sums.specs.engine.State.SumState, pb_sums.specs.engine.State.sums, pb_sums.specs.engine.State.first}
use Rattle.pb_opb.specs.declared.phase.Action.TheVariants.{To, Declare, BeginTail, Keep, EndHeader, EndTail, EndComment, BeginSum, Give, Stop}
use Rattle.pb_sums.specs.declared.{Part.Part, Spaces.TheVariants.White, SumEvent.SumEvent}
use Rattle.pb_text.specs.contract.Automaton.{Automaton, Next, Go, End, Refuse}
use Rattle.std.specs.Prelude.{ℕ, zero, suc, ◌+◌, ◌-◌, ◌^◌, min, Bool, true, false, List, [], ◌∷◌, ◌++◌, length}

-- what a machine stores: its limits, the counts of its header, the phase, the bytes of a tail or a comment, and the
-- machine of sums
pub record OpbState : Type 0 where
  pub limit : ℕ
  pub top : ℕ
  pub variables : ℕ
  -- constraints that are still to come
  pub remaining : ℕ
  pub phase : Phase
  pub text : List ℕ
  pub sums : SumState

abbrev pub linears : ℕ → SumState
linears limit = first White Part.Linear limit

abbrev pub objectives : ℕ → SumState
objectives limit = first White Part.Sum limit

-- before an instance
abbrev pub begin : ℕ → ℕ → OpbState
begin limit top = record { limit = limit; top = top; variables = 0; remaining = 0; phase = Phase.Start; text = []; sums = linears limit }

-- the phase with this many constraints to come
abbrev pub phase_owing : Bool → ℕ → Phase
phase_owing objective_allowed zero = Phase.Done
phase_owing objective_allowed (suc n) = Phase.Between objective_allowed

-- between two statements
abbrev pub between : OpbState → Bool → ℕ → OpbState
between s objective_allowed remaining =
    record s { remaining = remaining; phase = phase_owing objective_allowed remaining; text = []; sums = linears s.limit }

abbrev pub at : OpbState → Phase → OpbState
at s p = record s { phase = p }

abbrev pub keeping : OpbState → Phase → List ℕ → OpbState
keeping s p text = record s { phase = p; text = text }

abbrev pub giving : OpbState → Phase → SumState → OpbState
giving s p inner = record s { phase = p; sums = inner }

-- the statement for a sum or a linear text
abbrev pub statement_of : SumEvent → OpbEvent
statement_of (SumEvent.Sum terms) = OpbEvent.Objective terms
statement_of (SumEvent.Linear linear) = OpbEvent.Constraint linear

-- how many constraints are to come after an objective, and after a constraint
abbrev pub remaining_after : Phase → ℕ → ℕ
remaining_after Phase.Objective remaining = remaining
remaining_after _ remaining = remaining - 1

-- after an objective or a constraint
abbrev pub after : OpbState → Phase → OpbState
after s p = between s false (remaining_after p s.remaining)

abbrev pub over : OpbState → Phase → Next SumState SumEvent → Next OpbState OpbEvent
over s p (Go inner) = Go (giving s p inner)
over s p (End e inner) = End (statement_of e) (after s p)
over s p Refuse = Refuse

abbrev pub act : OpbState → ℕ → Action → Next OpbState OpbEvent
act s b (To p) = Go (at s p)
act s b (Declare n) = Go (record s { variables = n; phase = Phase.BeforeWord Field.Constraints })
act s b (BeginTail n c) = Go (record s { remaining = n; phase = Phase.Tail; text = c ∷ [] })
act s b (Keep c) = Go (record s { text = s.text ++ c ∷ [] })
act s b (EndHeader n) = End (OpbEvent.Header s.variables n []) (between s true n)
act s b EndTail = End (OpbEvent.Header s.variables s.remaining s.text) (between s true s.remaining)
act s b (EndComment objective_allowed) = End (OpbEvent.Comment s.text) (between s objective_allowed s.remaining)
act s b BeginSum = Go (giving s Phase.AfterMin (objectives s.limit))
act s b (Give p) = over s p (sums.step s.sums b)
act s b Stop = Refuse

abbrev pub step : OpbState → ℕ → Next OpbState OpbEvent
step s b = act s b (transition s.top s.phase b)

-- a statement has begun and not ended
abbrev pub is_within : Phase → Bool
is_within Phase.Start = false
is_within (Phase.Between objective_allowed) = false
is_within Phase.Done = false
is_within _ = true

abbrev pub is_done : Phase → Bool
is_done Phase.Done = true
is_done _ = false

-- bytes up to a line feed are stored
abbrev pub keeps_line : Phase → Bool
keeps_line Phase.Tail = true
keeps_line (Phase.Comment objective_allowed) = true
keeps_line _ = false

abbrev pub is_in_number : OpbState → Phase → Bool
is_in_number s (Phase.Count f n) = true
is_in_number s Phase.Objective = sums.in_number s.sums
is_in_number s Phase.Constraint = sums.in_number s.sums
is_in_number s _ = false

-- whether a byte is stored, or given to the machine of sums, which may allocate at it
abbrev pub asks : OpbState → ℕ → Action → Bool
asks s b (BeginTail n c) = true
asks s b (Keep c) = true
asks s b (Give p) = sums.asks s.sums b
asks s b _ = false

abbrev pub opb : Automaton OpbState OpbEvent
opb = record {
  step = step;
  done = λ s. is_done s.phase;
  begun = λ s. is_within s.phase;
  in_number = λ s. is_in_number s s.phase;
  asks = λ s b. asks s b (transition s.top s.phase b);
  kept = λ s. min (length s.text + sums.kept s.sums) (2 ^ 64 - 1);
  spent = λ s. length s.text + sums.spent s.sums;
}
