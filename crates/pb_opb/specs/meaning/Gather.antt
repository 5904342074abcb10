-- An instance, built statement by statement.
use Rattle.pb_opb.specs.{declared.instance.Instance.Instance, meaning.Values.comment_at}
use Rattle.pb_opb.specs.declared.event.OpbEvent.{OpbEvent, TheVariants.Header, TheVariants.Comment, TheVariants.Objective, TheVariants.Constraint}
use Rattle.std.specs.Prelude.{ℕ, ◌+◌, ◌-◌, ◌^◌, Bool, true, false, nat_le, IsTrue, List, [], ◌∷◌, ◌++◌, Some, None}

-- the instance with one more statement, after this many objectives and constraints
abbrev pub with : ℕ → Instance → OpbEvent → Instance
with n v (Header variables constraints tail) = record v { variables = variables; tail = tail }
with n v (Comment text) = record v { comments = v.comments ++ comment_at n text ∷ [] }
with n v (Objective terms) = record v { objective = Some terms }
with n v (Constraint linear) = record v { constraints = v.constraints ++ linear ∷ [] }

-- how many objectives and constraints there are with this statement
abbrev pub ended_with : ℕ → OpbEvent → ℕ
ended_with n (Header variables constraints tail) = n
ended_with n (Comment text) = n
ended_with n (Objective terms) = n + 1
ended_with n (Constraint linear) = n + 1

-- Whether storing a statement may allocate, after this many objectives and constraints. Memory holds no more of them
-- than a count can express.
abbrev pub asks : ℕ → OpbEvent → Bool
asks n (Header variables constraints tail) = false
asks n (Comment text) = true
asks n (Objective terms) = nat_le (2 ^ 64 - 1) n
asks n (Constraint linear) = true

-- how many objectives and constraints there are among statements
abbrev pub counted_statements : List OpbEvent → ℕ
counted_statements [] = 0
counted_statements (Header variables constraints tail ∷ events) = counted_statements events
counted_statements (Comment text ∷ events) = counted_statements events
counted_statements (Objective terms ∷ events) = counted_statements events + 1
counted_statements (Constraint linear ∷ events) = counted_statements events + 1

-- whether storing a statement after others may allocate
abbrev pub MayKeep : List OpbEvent → OpbEvent → Type 0
MayKeep events e = IsTrue (asks (counted_statements events) e)

-- before any statement
abbrev pub nothing : Instance
nothing = record { variables = 0; tail = []; objective = None; comments = []; constraints = [] }
