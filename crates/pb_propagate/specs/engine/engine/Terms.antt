-- The terms of a stored form in their order.
use Rattle.pb_propagate.specs.declared.{store.sorted_form.SortedForm.SortedForm, store.unit_form.UnitForm.UnitForm, term.Term.Term}
use Rattle.{pb_propagate.specs.engine.engine.Forms.as_term, pb_propagate.specs.engine.engine.Forms.in_order, std.specs.Prelude.List, std.specs.Prelude.map}

-- the term of a form that has one
abbrev pub unit_terms : UnitForm → List Term
unit_terms u = map as_term u.form.terms

abbrev pub terms_of : SortedForm → List Term
terms_of f = in_order f.form.terms f.order.items
