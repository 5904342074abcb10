-- The one text that is written for an instance.
use Rattle.pb_opb.specs.declared.event.OpbEvent.{OpbEvent, TheVariants.Header, TheVariants.Comment, TheVariants.Objective, TheVariants.Constraint}
use Rattle.pb_opb.specs.{declared.instance.Instance.Instance, meaning.Instances.variable_word, meaning.Instances.constraint_word, meaning.Instances.min_word}
use Rattle.pb_sums.specs.{contract.Canonical.head_bytes, contract.Canonical.linear_bytes, declared.linear.Linear.Linear, declared.linear.Term.Term}
use Rattle.std.specs.List.{prefix_len}
use Rattle.std.specs.Prelude.{ℕ, ◌+◌, nat_le, List, [], ◌∷◌, ◌++◌, map, length, take, drop, Option, Some, None, decimal, codes}
use Rattle.pb_opb.specs.declared.instance.Comment as comment

-- The lines of statements, without a line feed.
-- `* #variable= N #constraint= M`, and the tail
abbrev pub header_bytes : ℕ → ℕ → List ℕ → List ℕ
header_bytes variables constraints tail =
    42 ∷ 32 ∷ (variable_word ++ (32 ∷ (decimal variables ++ (32 ∷ (constraint_word ++ (32 ∷ (decimal constraints ++ tail)))))))

-- `min: `, the sum and ` ;`, or `min: ;` if the sum is empty
abbrev pub objective_bytes : List Term → List ℕ
objective_bytes terms = min_word ++ (32 ∷ (head_bytes terms ++ codes ";"))

abbrev pub event_bytes : OpbEvent → List ℕ
event_bytes (Header variables constraints tail) = header_bytes variables constraints tail
event_bytes (Comment text) = 42 ∷ text
event_bytes (Objective terms) = objective_bytes terms
event_bytes (Constraint linear) = linear_bytes linear

-- lines with a line feed between two
abbrev pub lines : List OpbEvent → List ℕ
lines [] = []
lines (e ∷ []) = event_bytes e
lines (e ∷ f ∷ events) = event_bytes e ++ (10 ∷ lines (f ∷ events))

-- The statements of an instance after its header.
abbrev pub objective_events : Option (List Term) → List OpbEvent
objective_events None = []
objective_events (Some terms) = Objective terms ∷ []

abbrev pub constraint_events : List Linear → List OpbEvent
constraint_events = map Constraint

abbrev pub comment_events : List comment.Comment → List OpbEvent
comment_events = map (λ c. Comment c.text)

-- how many comments at the start of the list come after n statements or fewer
abbrev pub due : ℕ → List comment.Comment → ℕ
due n comments = prefix_len (λ c. nat_le c.before n) comments

-- These statements follow n others, and before each of them come the comments that are due. Comments that would come
-- after the last statement are no part of an instance.
abbrev pub in_order : ℕ → List comment.Comment → List OpbEvent → List OpbEvent
in_order n comments [] = []
in_order n comments (e ∷ events) =
    comment_events (take (due n comments) comments) ++ e ∷ in_order (n + 1) (drop (due n comments) comments) events

abbrev pub body_events : Instance → List OpbEvent
body_events v = in_order 0 v.comments (objective_events v.objective ++ constraint_events v.constraints)

-- the header with its line feed, and then the lines of the other statements
abbrev pub instance_bytes : Instance → List ℕ
instance_bytes v = header_bytes v.variables (length v.constraints) v.tail ++ (10 ∷ lines (body_events v))
