-- What is stored in a slot.
use Rattle.{pb_normal.specs.meaning.Form.Form, pb_propagate.specs.declared.term.Term.Term, pb_propagate.specs.declared.store.stored_form.StoredForm.StoredForm}
use Rattle.pb_propagate.specs.engine.engine.Terms.{terms_of, unit_terms}
use Rattle.pb_propagate.specs.declared.store.stored_form.StoredForm.TheVariants.{Vacant, Watched, Single, Counted}
use Rattle.std.specs.Prelude.{ℕ, ◌+◌, sum_by, List, [], Option, Some, None}

-- the form, if there is one
abbrev pub stored_form : StoredForm → Option Form
stored_form Vacant = None
stored_form (Watched form) = Some form
stored_form (Single unit) = Some unit.form
stored_form (Counted kept) = Some kept.value.terms.form

-- its terms in the occurrence lists
abbrev pub stored_terms : StoredForm → List Term
stored_terms Vacant = []
stored_terms (Watched form) = []
stored_terms (Single unit) = unit_terms unit
stored_terms (Counted kept) = terms_of kept.value.terms

-- the sums that propagation reads
abbrev pub stored_degree : StoredForm → ℕ
stored_degree Vacant = 0
stored_degree (Watched form) = 0
stored_degree (Single unit) = unit.form.degree
stored_degree (Counted kept) = kept.value.degree

abbrev pub stored_total : StoredForm → ℕ
stored_total Vacant = 0
stored_total (Watched form) = 0
stored_total (Single unit) = sum_by (λ t. t.coefficient) (unit_terms unit)
stored_total (Counted kept) = kept.value.total

abbrev pub stored_bound : StoredForm → ℕ
stored_bound Vacant = 0
stored_bound (Watched form) = 0
stored_bound (Single unit) = unit.form.degree + sum_by (λ t. t.coefficient) (unit_terms unit)
stored_bound (Counted kept) = kept.value.bound
