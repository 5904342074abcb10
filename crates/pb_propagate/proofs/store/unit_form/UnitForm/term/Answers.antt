use Rattle.pb_propagate.proofs.Common.{arith, as_term, false, Entry, get_or-map}
use Rattle.pb_propagate.proofs.store.unit_form.UnitForm.term.Goals as goal

pub returns : goal.returns
returns c = λ d.
    let none : Entry = record { variable = 0; negated = false; coefficient = 0 } in
    let at = get_or-map as_term c.args.self.now.form.terms 0 none d in
    grind (arith, c.terms.ensures.terms, c.term_of.ensures, c.get.ensures.read none, at, c.args.self.now.single)
