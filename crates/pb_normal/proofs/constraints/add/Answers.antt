use Rattle.pb_normal.proofs.{Common.arith, lemmas.names.Loaded.second_loaded}
use Rattle.pb_normal.proofs.constraints.add.Goals as goal

pub returns-in-Equal-clause-forms : goal.returns-in-Equal-clause-forms
returns-in-Equal-clause-forms c = grind (arith, second_loaded, c.in-Equal.is, c.in_ok-add_side.ensures.names, c.in_ok-add_side.ensures.named, c.in_ok-add_side.ensures.forms, c.add_side-in-Equal.ensures.forms, c.add_side-in-Equal.ensures.names)
