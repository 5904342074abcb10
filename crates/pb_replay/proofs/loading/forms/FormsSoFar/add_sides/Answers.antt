use Rattle.pb_normal.proofs.lemmas.names.Loaded.{second_loaded, second_names}
use Rattle.pb_replay.proofs.Common.{arith, names_of}
use Rattle.pb_replay.proofs.loading.forms.FormsSoFar.add_sides.Goals as goal

pub returns-in-Equal-clause-names : goal.returns-in-Equal-clause-names
returns-in-Equal-clause-names c =
    second_names c.add_side-in-Equal.result _ _ _ (names_of c.args.constraint.now.terms) c.in_ok-add_side.ensures.names c.in_ok-add_side.ensures.named c.add_side-in-Equal.ensures.names

pub returns-in-Equal-clause-forms : goal.returns-in-Equal-clause-forms
returns-in-Equal-clause-forms c = grind (arith, second_loaded, c.in-Equal.is, c.in_ok-add_side.ensures.names, c.in_ok-add_side.ensures.named, c.in_ok-add_side.ensures.forms, c.add_side-in-Equal.ensures.forms, c.add_side-in-Equal.ensures.names)
