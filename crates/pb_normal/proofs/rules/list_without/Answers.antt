use Rattle.pb_normal.proofs.Common.{◌==◌, append-nil, arith, eq-eqb, ne_eqb, not, refl, Entry, filter_more}
use Rattle.pb_normal.proofs.{lemmas.terms.Merging.no_entry, rules.list_without.Goals.then-t-variable+in_ok-push, rules.list_without.Goals.else-t-variable}
use Rattle.pb_normal.proofs.rules.list_without.Goals as goal

pub terms-preserved : goal.terms-preserved
terms-preserved g c =
    let more = filter_more (λ (t : Entry). not (t.variable == c.args.variable)) (g.L.Listed.entries c.args.terms.now) c.terms.i no_entry (omega arith) in
    elim c.if-t-variable.branch [
      | then-t-variable+in_ok-push w ↦
          rw (w.out-is, w.in_ok-push.ensures.items, more, ← c.at-t.ensures no_entry, ne_eqb _ _ w.if-t-variable.true, c.terms.invariant) refl
      | else-t-variable w ↦
          rw (w.out-is, more, ← c.at-t.ensures no_entry, eq-eqb _ _ w.if-t-variable.false, append-nil, c.terms.invariant) refl
    ]
