-- What is stored of the constraints of an instance, and of the live ones.
use Rattle.{pb_normal.specs.meaning.Form.Form, pb_propagate.specs.engine.engine.Live.Standing}
use Rattle.pb_replay.specs.declared.state.removed.{Removed.Removed, Removed.TheVariants.Nothing, Removed.TheVariants.One}
use Rattle.std.specs.Prelude.{◌≡◌, ℕ, ◌<◌, ◌≤◌, ◌⊎◌, Bool, false, List, [], length, Option, Some, None, slice_get, slice_index_or}

-- The constraints as callers see them: those of the instance, the live ones by number, the variables, and the visits of the last test.
-- They are spent if an allocation failed in the middle of a call.
pub record Constrained : Type 0 where
  pub loaded : List Form
  pub forms : List (Option Form)
  pub variables : ℕ
  pub visits : ℕ
  pub spent : Bool

-- the constraint of a number: the live one, or else the one that was removed
abbrev pub held : Option Form → Removed → Option Form
held (Some f) removed = Some f
held None Nothing = None
held None (One f) = Some f

-- each constraint of the instance is live or was removed
pub record AreSpread (own : List Form) (removed : List Removed) (forms : List (Option Form)) : Type 0 where
  pub sizes : length removed ≡ length own
  pub given : length own ≤ length forms
  pub each : (k : ℕ) → k < length own → held (slice_index_or forms k None) (slice_index_or removed k Nothing) ≡ slice_get own k

-- the constraints of the instance wait to become live, or they have been live
abbrev pub AreHeld : List Form → List Form → List Removed → List (Option Form) → Type 0
AreHeld own waiting removed forms = (waiting ≡ own) ⊎ ((waiting ≡ []) × AreSpread own removed forms)

-- the live ones are these, over this many variables, and no allocation has failed
pub record AreLive (live : List (Option Form)) (n : ℕ) (constraints : Constrained) : Type 0 where
  pub forms : constraints.forms ≡ live
  pub variables : constraints.variables ≡ n
  pub ready : constraints.spent ≡ false

-- the same of the engine
pub record HasFilled (live : List (Option Form)) (n : ℕ) (engine : Standing) : Type 0 where
  pub forms : engine.forms ≡ live
  pub variables : engine.variables ≡ n
  pub ready : engine.spent ≡ false
