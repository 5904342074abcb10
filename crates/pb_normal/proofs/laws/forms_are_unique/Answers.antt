use Rattle.pb_normal.proofs.lemmas.names.WrittenForms.{IsFormOf-unique}
use Rattle.pb_normal.proofs.laws.forms_are_unique.Goals as goal

pub returns-clause-written : goal.returns-clause-written
returns-clause-written c = IsFormOf-unique
