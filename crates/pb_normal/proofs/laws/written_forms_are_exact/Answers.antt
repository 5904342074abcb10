use Rattle.pb_normal.proofs.{Common.rules, lemmas.names.Appearing.written_alike}
use Rattle.pb_normal.proofs.lemmas.names.WrittenForms.{SameSolutions-side, SameAsForm-from, SameAsForms-from, SameAsForm-linear_of, IsSideOf-append}
use Rattle.pb_normal.proofs.laws.written_forms_are_exact.Goals as goal

pub returns : goal.returns
returns c = search (rules, SameSolutions-side, SameAsForm-from, SameAsForms-from, IsSideOf-append, SameAsForm-linear_of, written_alike)
