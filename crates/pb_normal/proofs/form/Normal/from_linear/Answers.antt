use Rattle.pb_normal.proofs.Common.{arith, refl, rules}
use Rattle.pb_normal.proofs.lemmas.names.WrittenForms.{shift-side-le, Collected, Collected-from, size-Collected, IsNormal-Collected, IsWithin-Collected}
use Rattle.pb_normal.proofs.lemmas.names.{Loaded.after_all, Numbering.OnErr-always}
use Rattle.pb_normal.proofs.lemmas.names.WrittenForms.{IsSideOf-Collected, SameSolutions-side}
use Rattle.pb_normal.proofs.form.Normal.from_linear.Goals as goal

-- all that holds before the degree is computed and from then on
before_degree : (c : goal.After-shift_of) → Collected c.side_terms.new.names c.args.side c.args.linear.now c.in_ok-collected_terms.collected_terms c.split-up.result.0 c.split-up.result.1 c.in_ok-collected_terms.gone c.largest.result
before_degree c =
    Collected-from _ _ _ _ _ _ _ _ _ _ _ (search rules) (search rules) c.as_slice-terms.ensures (search rules) c.in_ok-collected_terms.ensures.distinct c.in_ok-collected_terms.ensures.named c.signed.ensures c.split-up.ensures.difference c.split-up.ensures.magnitude c.in_ok-collected_terms.ensures.rising refl c.in_ok-collected_terms.ensures.adds

pub overflow_add-up : goal.overflow_add-up
overflow_add-up c = grind (arith, before_degree, c.largest.ensures.room, shift-side-le, c.as_slice-terms.ensures, c.shift_of.ensures)

pub overflow_add-down : goal.overflow_add-down
overflow_add-down c = let k = before_degree c in omega (arith, k.small, c.largest.ensures.room, k.parts, size-Collected _ _ _ _ _ _ _ _ k)

with_degree : (c : goal.After-saturating_sub-degree) → Collected c.side_terms.new.names c.args.side c.args.linear.now c.in_ok-collected_terms.collected_terms c.split-up.result.0 c.split-up.result.1 c.in_ok-collected_terms.gone c.largest.result
with_degree c =
    Collected-from _ _ _ _ _ _ _ _ _ _ _ (search rules) (search rules) c.as_slice-terms.ensures (search rules) c.in_ok-collected_terms.ensures.distinct c.in_ok-collected_terms.ensures.named c.signed.ensures c.split-up.ensures.difference c.split-up.ensures.magnitude c.in_ok-collected_terms.ensures.rising refl c.in_ok-collected_terms.ensures.adds

pub of-requires : goal.of-requires
of-requires c = record {
  normal = rw (c.saturating_sub-degree.ensures, c.shift_of.ensures, c.as_slice-terms.ensures) (IsNormal-Collected _ _ _ _ _ _ _ _ c.largest.ensures.room (with_degree c));
}

with_form : (c : goal.In_ok-form) → Collected c.side_terms.new.names c.args.side c.args.linear.now c.in_ok-collected_terms.collected_terms c.split-up.result.0 c.split-up.result.1 c.in_ok-collected_terms.gone c.largest.result
with_form c =
    Collected-from _ _ _ _ _ _ _ _ _ _ _ (search rules) (search rules) c.as_slice-terms.ensures (search rules) c.in_ok-collected_terms.ensures.distinct c.in_ok-collected_terms.ensures.named c.signed.ensures c.split-up.ensures.difference c.split-up.ensures.magnitude c.in_ok-collected_terms.ensures.rising refl c.in_ok-collected_terms.ensures.adds

pub returns-in_err-form-clause-err : goal.returns-in_err-form-clause-err
returns-in_err-form-clause-err c = OnErr-always _ _ (after_all _ _ _ (search rules))

pub returns-clause-form : goal.returns-clause-form
returns-clause-form c = rw (c.in_ok-form.ensures.same, c.saturating_sub-degree.ensures, c.shift_of.ensures, c.as_slice-terms.ensures) (IsSideOf-Collected _ _ _ _ _ _ _ _ (with_form c))

pub returns-clause-normal : goal.returns-clause-normal
returns-clause-normal c = rw (c.in_ok-form.ensures.same, c.saturating_sub-degree.ensures, c.shift_of.ensures, c.as_slice-terms.ensures) (IsNormal-Collected _ _ _ _ _ _ _ _ c.largest.ensures.room (with_form c))

pub returns-clause-within : goal.returns-clause-within
returns-clause-within c = rw (c.in_ok-form.ensures.same, c.saturating_sub-degree.ensures, c.shift_of.ensures, c.as_slice-terms.ensures, ← c.largest.ensures.value) (IsWithin-Collected _ _ _ _ _ _ _ _ (with_form c))

pub returns-clause-same : goal.returns-clause-same
returns-clause-same c = let k = with_form c in SameSolutions-side _ _ _ _ k.distinct k.named (returns-clause-form c)
