use Rattle.pb_propagate.proofs.Common.{[], as_term, map, refl, subst, sym, Form, IsStoredAs}
use Rattle.pb_propagate.proofs.lemmas.store.Stored.{form-order}
use Rattle.pb_propagate.proofs.store.occurrence_lists.stored_of.Goals as goal

pub returns-then-len-eq1-clause-is : goal.returns-then-len-eq1-clause-is
returns-then-len-eq1-clause-is c =
    subst (λ (f : Form). IsStoredAs c.args.form (record { terms = map as_term f.terms; degree = f.degree })) (sym c.of.ensures)
    (record { terms = form-order c.args.form.terms [] refl; degree = refl; normal = c.terms.ensures.normal })
