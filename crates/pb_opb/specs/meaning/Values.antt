-- The value of an instance: what its statements state, and the rules that it meets.
use Rattle.pb_opb.specs.{declared.event.OpbEvent.OpbEvent, meaning.Instances.IsTail, declared.instance.Comment.Comment, declared.instance.Instance.Instance}
use Rattle.pb_sums.specs.{contract.Canonical.AreTerms, contract.Canonical.IsLinear, declared.linear.Linear.Linear, declared.linear.Term.Term}
use Rattle.pb_text.specs.meaning.Blank.{IsInLine}
use Rattle.std.specs.Prelude.{◌≡◌, ℕ, ◌+◌, ◌<◌, ◌≤◌, List, [], ◌∷◌, length, Option, Some, None}
use Rattle.pb_opb.specs.declared.event.OpbEvent as event

-- the last element of a list, or x if it is empty
abbrev pub last_or : {A : Type 0} → A → List A → A
last_or x [] = x
last_or x (y ∷ ys) = last_or y ys

-- what the statements state, in order: the counts of variables, the tails, the objectives and the constraints
abbrev pub variables_in : List OpbEvent → List ℕ
variables_in [] = []
variables_in (event.TheVariants.Header variables constraints tail ∷ events) = variables ∷ variables_in events
variables_in (_ ∷ events) = variables_in events

abbrev pub tails_in : List OpbEvent → List (List ℕ)
tails_in [] = []
tails_in (event.TheVariants.Header variables constraints tail ∷ events) = tail ∷ tails_in events
tails_in (_ ∷ events) = tails_in events

abbrev pub objectives_in : List OpbEvent → List (Option (List Term))
objectives_in [] = []
objectives_in (event.TheVariants.Objective terms ∷ events) = Some terms ∷ objectives_in events
objectives_in (_ ∷ events) = objectives_in events

abbrev pub constraints_in : List OpbEvent → List Linear
constraints_in [] = []
constraints_in (event.TheVariants.Constraint linear ∷ events) = linear ∷ constraints_in events
constraints_in (_ ∷ events) = constraints_in events

-- a comment after this many objectives and constraints
abbrev pub comment_at : ℕ → List ℕ → Comment
comment_at before text = record { before = before; text = text }

-- the comments, if this many objectives and constraints came before
abbrev pub comments_in : ℕ → List OpbEvent → List Comment
comments_in n [] = []
comments_in n (event.TheVariants.Header variables constraints tail ∷ events) = comments_in n events
comments_in n (event.TheVariants.Comment text ∷ events) = comment_at n text ∷ comments_in n events
comments_in n (event.TheVariants.Objective terms ∷ events) = comments_in (n + 1) events
comments_in n (event.TheVariants.Constraint linear ∷ events) = comments_in (n + 1) events

-- The value of statements. The statements of an instance contain one header and at most one objective.
pub record IsValueOf (events : List OpbEvent) (v : Instance) : Type 0 where
  pub variables : v.variables ≡ last_or 0 (variables_in events)
  pub tail : v.tail ≡ last_or [] (tails_in events)
  pub objective : v.objective ≡ last_or None (objectives_in events)
  pub comments : v.comments ≡ comments_in 0 events
  pub constraints : v.constraints ≡ constraints_in events

-- the number of statements: 1 for an objective, if there is one, plus the number of constraints
abbrev pub is_one : {A : Type 0} → Option A → ℕ
is_one None = 0
is_one (Some x) = 1

abbrev pub statements : Instance → ℕ
statements v = length v.constraints + is_one v.objective

-- no objective, or one whose terms are within the limit, before some constraint
abbrev pub IsObjective : ℕ → List Linear → Option (List Term) → Type 0
IsObjective limit constraints None = Unit {0}
IsObjective limit constraints (Some terms) = (0 < length constraints) × AreTerms limit terms

abbrev pub AreLinears : ℕ → List Linear → Type 0
AreLinears limit [] = Unit {0}
AreLinears limit (c ∷ cs) = IsLinear limit c × AreLinears limit cs

-- Comments after at least this many statements, each before the last statement, and in one line. Their positions never
-- decrease.
abbrev pub AreComments : ℕ → ℕ → List Comment → Type 0
AreComments least all [] = Unit {0}
AreComments least all (c ∷ cs) = (least ≤ c.before) × (c.before < all) × IsInLine c.text × AreComments c.before all cs

-- The value rules.
pub record IsInstanceValue (limit top : ℕ) (v : Instance) : Type 0 where
  pub variables : v.variables ≤ top
  pub count : length v.constraints ≤ top
  pub tail : IsTail v.tail
  pub objective : IsObjective limit v.constraints v.objective
  pub comments : AreComments 0 (statements v) v.comments
  pub constraints : AreLinears limit v.constraints
