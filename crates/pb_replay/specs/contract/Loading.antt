-- The statements of an instance that come one by one, and the names in them.
use Rattle.pb_normal.specs.meaning.{Constraints.constraint_names, Written.names_of}
use Rattle.pb_opb.specs.{declared.Instance.Instance, meaning.Values.IsValueOf}
use Rattle.pb_opb.specs.declared.OpbEvent.{OpbEvent, TheVariants.Header, TheVariants.Comment, TheVariants.Objective, TheVariants.Constraint}
use Rattle.{pb_replay.specs.meaning.Problem.objective_of, pb_text.specs.declared.Limits.Limits, std.specs.List.flat_map}
use Rattle.std.specs.Prelude.{◌≡◌, ℕ, List, [], ◌∷◌, ◌++◌}

-- the names of a statement, in the order of its terms, and those of statements
abbrev pub names_at : OpbEvent → List (List ℕ)
names_at (Header variables constraints tail) = []
names_at (Comment text) = []
names_at (Objective terms) = names_of terms
names_at (Constraint linear) = names_of linear.terms

abbrev pub names_on : List OpbEvent → List (List ℕ)
names_on = flat_map names_at

-- the statements with one more
abbrev pub noted : Limits × List OpbEvent → OpbEvent → Limits × List OpbEvent
noted t e = (t.0, t.1 ++ e ∷ [])

-- v is the value of the statements, and their names come in the order of its objective and its constraints
abbrev pub NamesInOrder : List OpbEvent → Instance → Type 0
NamesInOrder events v = IsValueOf events v × (names_on events ≡ names_of (objective_of v.objective) ++ constraint_names v.constraints)
