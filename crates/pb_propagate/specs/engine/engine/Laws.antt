-- What propagation over a list of forms always does.
use Rattle.pb_normal.specs.{declared.numbered.NumberedLiteral.NumberedLiteral, meaning.Form.Form}
use Rattle.{pb_propagate.specs.meaning.Propagation.IsCompletion, std.specs.Prelude.List, std.specs.Prelude.Contains}

-- over a list of forms, some derivation from the given literals cannot be extended
abbrev pub CompletionsExist : Type 0
CompletionsExist = (fs : List Form) (given : List NumberedLiteral) → (list : List NumberedLiteral) × IsCompletion (Contains fs) given list
