use Rattle.pb_trace.proofs.Common.{◌∙◌, arith, get_or, refl, subst, Contains, Contains-get_or, no_entry}
use Rattle.pb_trace.proofs.{Deriving.follows, Deriving.forced, Deriving.forced-same, propagation.Propagation.force_all.Goals.terms-preserved as goal}
use Rattle.pb_trace.proofs.propagation.Propagation.force_all.Goals.{then-slack-entry+in_ok-force, else-slack-entry}

pub terms-preserved : goal
terms-preserved c negation stored over given named low sound =
    let before = c.terms.invariant negation stored over given named low sound in
    let entry = c.get-entry.result in
    let read = get_or c.terms-terms.result.now c.terms.i no_entry in
    let inside : Contains c.args.form.now.terms entry = rw (c.get-entry.ensures.read no_entry) (subst (λ ts. Contains ts read) c.terms-terms.ensures.terms (Contains-get_or c.terms-terms.result.now c.terms.i no_entry (omega arith))) in
    elim c.if-slack-entry.branch [
      | then-slack-entry+in_ok-force w ↦
          rw w.self-is (
            forced negation stored over given c.terms.self _ _ w.in_ok-force.ensures
                (λ unset. follows negation stored over c.terms.self.values.items c.terms.self.forced.items _ c.args.form.now entry before.0.values unset named inside refl refl w.if-slack-entry.true before.1)
                before.0,
            forced-same c.terms.self _ _ 0 c.args.form.now.terms entry c.terms-terms.ensures.normal.ordered inside refl refl w.in_ok-force.ensures ∙ before.1,
          )
      | else-slack-entry w ↦ rw w.self-is before
    ]
