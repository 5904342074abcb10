-- The text of an instance, built as its statements come.
use Rattle.pb_opb.specs.{contract.Canonical.event_bytes, declared.Instance.Instance, declared.OpbEvent.OpbEvent}
use Rattle.pb_opb.specs.{declared.OpbEvent.TheVariants.Header, declared.OpbEvent.TheVariants.Objective, meaning.Values.IsValueOf}
use Rattle.pb_tool.specs.{contract.Show.line_of, contract.Tidy.tidied, declared.commands.tidy.instance_text.InstanceText.InstanceText}
use Rattle.std.specs.Prelude.{◌≡◌, ℕ, Bool, true, false, List, [], ◌++◌, Option, Some, None}

-- the line of a statement
abbrev pub line : OpbEvent → List ℕ
line = line_of event_bytes

-- the line of a statement, if there is one
abbrev pub line_if : Option OpbEvent → List ℕ
line_if None = []
line_if (Some e) = line e

-- The statements with one more. The header is stored as it is, and so is an objective until the next statement.
abbrev pub with : InstanceText → OpbEvent → InstanceText
with t (Header variables constraints tail) = record t { header = Some (Header variables constraints tail) }
with t (Objective terms) = record t { objective = Some (Objective terms) }
with t e = record t { page = record t.page { text = t.page.text ++ (line_if t.objective ++ line e) }; objective = None }

-- whether storing a statement may allocate
abbrev pub asks : OpbEvent → Bool
asks (Header variables constraints tail) = false
asks (Objective terms) = false
asks e = true

-- the text of the statements so far
abbrev pub text_of : InstanceText → List ℕ
text_of t = line_if t.header ++ (t.page.text ++ line_if t.objective)

-- the text is what is written for the instance of these statements
abbrev pub IsInstanceTextOf : List OpbEvent → InstanceText → Type 0
IsInstanceTextOf events t = (v : Instance) × IsValueOf events v × (text_of t ≡ tidied v)
