-- The machine for a goal: blanks, a constraint, and the end of its line.
use Rattle.pb_proof.specs.declared.line.rup.phase.{RupAction.RupAction, RupPhase.RupPhase}
use Rattle.pb_sums.specs.declared.{Linear.Linear, Part.Part, Relation.TheVariants.AtLeast, Spaces.TheVariants.Blank, SumEvent.SumEvent}
use Rattle.pb_sums.specs.engine.State.{SumState, sums, first, last, units}
use Rattle.pb_text.specs.contract.Automaton.{Automaton, Next, Go, End, Refuse, IsState}
use Rattle.pb_text.specs.meaning.Classes.{is_blank}
use Rattle.std.specs.Prelude.{◌≡◌, ℕ, pos, ◌+◌, ◌-◌, ◌^◌, min, Bool, true, false, cond, nat_eq, Option, Some, None}

-- what was read last, the machine for sums, and the constraint that it has read
pub record RupState : Type 0 where
  pub phase : RupPhase
  pub sums : SumState
  pub linear : Option Linear

-- before a constraint, and after it
abbrev pub sum_first : ℕ → SumState
sum_first limit = first Blank Part.AtLeast limit

abbrev pub sum_last : ℕ → SumState
sum_last limit = last Blank Part.AtLeast limit

abbrev pub rup_first : ℕ → RupState
rup_first limit = record { phase = RupPhase.Start; sums = sum_first limit; linear = None }

abbrev pub rup_last : ℕ → RupState
rup_last limit = record { phase = RupPhase.Done; sums = sum_last limit; linear = None }

abbrev pub rup_transition : RupPhase → ℕ → RupAction
rup_transition RupPhase.Start b = cond (is_blank b) (RupAction.To RupPhase.Gap) RupAction.Stop
rup_transition RupPhase.Gap b = cond (is_blank b) (RupAction.To RupPhase.Gap) RupAction.Give
rup_transition RupPhase.Inside b = RupAction.Give
rup_transition RupPhase.Tail b = cond (is_blank b) (RupAction.To RupPhase.Tail) (cond (nat_eq b 10) RupAction.Finish RupAction.Stop)
rup_transition RupPhase.Done b = RupAction.Stop

-- the constraint that a machine for sums has read; in a goal, it never reads a sum without a relation
abbrev pub linear_of : SumEvent → Linear
linear_of (SumEvent.Linear c) = c
linear_of (SumEvent.Sum terms) = record { terms = terms; relation = AtLeast; degree = pos 0 }

abbrev pub rup_over : RupState → Next SumState SumEvent → Next RupState Linear
rup_over s (Go inner) = Go (record s { phase = RupPhase.Inside; sums = inner })
rup_over s (End e inner) = Go (record { phase = RupPhase.Tail; sums = inner; linear = Some (linear_of e) })
rup_over s Refuse = Refuse

abbrev pub rup_finish : RupState → Option Linear → Next RupState Linear
rup_finish s None = Refuse
rup_finish s (Some c) = End c (record s { phase = RupPhase.Done; linear = None })

abbrev pub rup_act : RupState → ℕ → RupAction → Next RupState Linear
rup_act s b (RupAction.To p) = Go (record s { phase = p })
rup_act s b RupAction.Give = rup_over s (sums.step s.sums b)
rup_act s b RupAction.Finish = rup_finish s s.linear
rup_act s b RupAction.Stop = Refuse

abbrev pub rup_midway : RupPhase → Bool
rup_midway RupPhase.Start = false
rup_midway RupPhase.Done = false
rup_midway _ = true

abbrev pub rup_done : RupPhase → Bool
rup_done RupPhase.Done = true
rup_done _ = false

abbrev pub rup_in_number : RupState → RupPhase → Bool
rup_in_number s RupPhase.Inside = sums.in_number s.sums
rup_in_number s _ = false

abbrev pub rup_asks : RupState → ℕ → RupAction → Bool
rup_asks s b RupAction.Give = sums.asks s.sums b
rup_asks s b _ = false

-- the number of literals of the constraint that has been read, plus the number of bytes of their names
abbrev pub units_in : Option Linear → ℕ
units_in None = 0
units_in (Some c) = units c.terms

abbrev pub rup_automaton : Automaton RupState Linear
rup_automaton = record {
  step = λ s b. rup_act s b (rup_transition s.phase b);
  done = λ s. rup_done s.phase;
  begun = λ s. rup_midway s.phase;
  in_number = λ s. rup_in_number s s.phase;
  asks = λ s b. rup_asks s b (rup_transition s.phase b);
  kept = λ s. min (units_in s.linear + sums.kept s.sums) (2 ^ 64 - 1);
  spent = λ s. units_in s.linear + sums.spent s.sums;
}

-- What holds in each phase, as a part of the invariant.
abbrev pub RupHolds : RupState → RupPhase → Type 0
RupHolds s RupPhase.Start = (s.linear ≡ None) × (s.sums ≡ sum_first s.sums.limit)
RupHolds s RupPhase.Gap = (s.linear ≡ None) × (s.sums ≡ sum_first s.sums.limit)
RupHolds s RupPhase.Inside = (s.linear ≡ None) × (sums.done s.sums ≡ false)
RupHolds s RupPhase.Tail = ((c : Linear) × (s.linear ≡ Some c)) × (sums.spent s.sums ≡ 0)
RupHolds s RupPhase.Done = (s.linear ≡ None) × (sums.spent s.sums ≡ 0)

pub record IsRupInOrder (s : RupState) : Type 0 where
  pub holds : RupHolds s s.phase
  pub state : IsState sums s.sums
