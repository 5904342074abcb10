use Rattle.pb_tool.proofs.Common.{◌++◌, ◌+◌, ◌≡◌, length, form_lines}
use Rattle.pb_tool.proofs.commands.tidy.form_lines.FormLines.write_forms.Given as goal

-- the forms so far are written
abbrev pub invariant-loop-form : goal.invariant-loop-form
invariant-loop-form l =
    (l.self.names ≡ l.initial.self.names)
    × (l.self.page.text ≡ l.initial.self.page.text ++ form_lines l.initial.self.names l.yielded)
    × (l.self.count ≡ l.initial.self.count + length l.yielded)
