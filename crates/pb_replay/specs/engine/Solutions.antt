-- What values of the names are a solution, as the code tests it
use Rattle.pb_normal.specs.meaning.{Form.Form, Form.Holds, Rules.assignment}
use Rattle.pb_replay.specs.{declared.fault.Fault.TheVariants.NotTotal, declared.fault.Fault.TheVariants.Violates, meaning.Problem.Problem}
use Rattle.pb_replay.specs.meaning.{Answer.Answer, Answer.gives, Answer.each_below, Answer.some, Answer.after, Replay.Logged, Replay.no_form, Replay.logged_of}
use Rattle.std.specs.Prelude.{◌≡◌, ℕ, ◌+◌, ◌<◌, Bool, false, List, length, get_or, Option, Some, None, IsSome}

-- each of this many names has this value
pub record AreTotal (given : List (Option Bool)) (names : ℕ) (values : List Bool) : Type 0 where
  pub count : length values ≡ names
  pub each : (k : ℕ) → k < names → get_or given k None ≡ Some (get_or values k false)

-- each of this many names has a value
abbrev pub AreValued : List (Option Bool) → ℕ → Type 0
AreValued given names = (k : ℕ) → k < names → IsSome (get_or given k None)

-- the values, if each of this many names has one
abbrev pub Given : List (Option Bool) → ℕ → Answer (List Bool)
Given given names = each_below (λ k. IsSome (get_or given k None)) names NotTotal (some (AreTotal given names) gives)

-- all forms hold at the values
abbrev pub AllHold : List Form → List Bool → Answer (Unit {0})
AllHold loaded values = each_below (λ k. Holds (assignment values) (get_or loaded k no_form)) (length loaded) (λ k. Violates (k + 1)) (gives tt)

-- the solution that the values are
abbrev pub Judged : Problem → ℕ → List (Option Bool) → Answer Logged
Judged v names given = after (Given given names) (λ values. after (AllHold v.loaded values) (λ u. gives (logged_of v values)))
