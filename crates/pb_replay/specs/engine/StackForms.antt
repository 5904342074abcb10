-- The forms of a stack
use Rattle.pb_normal.specs.meaning.Form.{Form}
use Rattle.pb_replay.specs.declared.step.stack.Piled.{Piled, TheVariants.Empty, TheVariants.One, TheVariants.Two, TheVariants.Many}
use Rattle.std.specs.Prelude.{List, [], ◌∷◌}

abbrev pub piled_forms : Piled → List Form
piled_forms Empty = []
piled_forms (One form) = form ∷ []
piled_forms (Two below form) = below ∷ form ∷ []
piled_forms (Many forms) = forms.items
