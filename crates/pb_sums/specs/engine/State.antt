-- The states of a machine of sums, and its automaton.
use Rattle.pb_sums.specs.declared.{linear.SumEvent.SumEvent, linear.Term.Term, phase.Action.Action}
use Rattle.pb_sums.specs.declared.phase.{Action.TheVariants.EndSum, Action.TheVariants.EndLinear, Action.TheVariants.Stop, Phase.Phase}
use Rattle.pb_sums.specs.declared.sum_kind.{Part.Part, Spaces.Spaces}
use Rattle.pb_sums.specs.engine.Machine.{Work, Outcome, fresh, finished, step, transition, kind, letter_at, is_numeric, is_in_number, is_midway, is_done, act, adds, flushed, is_more, PhaseFits}
use Rattle.pb_text.specs.contract.Automaton.{Automaton, Next, Go, End, Refuse}
use Rattle.std.specs.Prelude.{◌≡◌, ℕ, ◌+◌, ◌-◌, ◌^◌, min, Bool, true, false, ◌||◌, ◌⊎◌, IsTrue, Option, None, Some, List, [], ◌∷◌, length}

-- what a machine reads, the largest magnitude of its numbers, and what it stores
pub record SumState : Type 0 where
  pub spaces : Spaces
  pub part : Part
  pub limit : ℕ
  pub work : Work

abbrev pub with_work : SumState → Work → SumState
with_work s w = record { spaces = s.spaces; part = s.part; limit = s.limit; work = w }

-- the states before a text and after it
abbrev pub first : Spaces → Part → ℕ → SumState
first spaces part limit = record { spaces = spaces; part = part; limit = limit; work = fresh }

abbrev pub last : Spaces → Part → ℕ → SumState
last spaces part limit = record { spaces = spaces; part = part; limit = limit; work = finished }

abbrev pub over : SumState → Outcome → Next SumState SumEvent
over s (Go w) = Go (with_work s w)
over s (End e w) = End e (with_work s w)
over s Refuse = Refuse

-- whether the byte is in a name, or may end a literal
abbrev pub asks : SumState → ℕ → Bool
asks s b = adds (transition s.part s.limit s.work.phase (kind s.spaces (letter_at (is_numeric s.work.phase) b))) || is_more s.work.phase

-- literals, and the bytes of their names
abbrev pub units : List Term → ℕ
units [] = 0
units (x ∷ xs) = 1 + length x.literal.name + units xs

-- a literal counts as stored from the first byte of its name on
abbrev pub in_hand : Phase → ℕ
in_hand (Phase.First z negated) = 1
in_hand (Phase.More z negated) = 1
in_hand _ = 0

-- at a byte before a name, room for the literal, which comes with the first byte of the name
abbrev pub ready : Phase → ℕ
ready (Phase.Gap z) = 1
ready (Phase.Tilde z) = 1
ready _ = 0

abbrev pub all_units : Work → ℕ
all_units w = units w.terms + in_hand w.phase + length w.name

-- the automaton: the count of what is stored saturates
abbrev pub sums : Automaton SumState SumEvent
sums = record {
  step = λ s b. over s (step s.spaces s.part s.limit s.work b);
  done = λ s. is_done s.work.phase;
  begun = λ s. is_midway s.work.phase;
  in_number = λ s. is_in_number s.work.phase;
  asks = asks;
  kept = λ s. min (all_units s.work) (2 ^ 64 - 1);
  spent = λ s. all_units s.work + ready s.work.phase;
}

-- The invariant of a machine: a number being read is within the limit, and nothing is stored before a text and after it.
abbrev pub IsInOrder : ℕ → Work → Type 0
IsInOrder limit w = PhaseFits limit w.phase × (is_midway w.phase ≡ false → (w.terms ≡ []) × (w.name ≡ []))

-- what an action leads to
abbrev pub outcome : SumState → Action → Next SumState SumEvent
outcome s m = over s (act (flushed s.work.phase s.work.terms s.work.name) s.work.terms s.work.name m)

-- an action that ends the text, or stops
abbrev pub ends : Action → Bool
ends EndSum = true
ends (EndLinear r z) = true
ends Stop = true
ends _ = false

-- The machine continues as an action says. Or nothing changes: an action that continues is left only if that may allocate.
abbrev pub ContinuesBy : SumState → Action → Bool → SumState → Type 0
ContinuesBy old m true new = outcome old m ≡ Go new
ContinuesBy old m false new = (ends m ≡ false → IsTrue (adds m || is_more old.work.phase)) × (new ≡ old)

-- The machine ends the text as an action says. Or nothing changes: that may allocate, or it ends nothing.
abbrev pub EndsBy : SumState → Action → Option SumEvent → SumState → Type 0
EndsBy old m (Some e) new = outcome old m ≡ End e new
EndsBy old m None new = (IsTrue (is_more old.work.phase) ⊎ ((e : SumEvent) (next : SumState) → outcome old m ≡ End e next → ⊥)) × (new ≡ old)
