use Rattle.pb_propagate.proofs.{Common.◌+◌, Common.ap, Common.arith, Common.Term, Common.terms_of, lemmas.store.Stored.bound-calm}
use Rattle.pb_propagate.proofs.store.occurrence_lists.bound_of.Goals as goal

pub returns-clause-calm : goal.returns-clause-calm
returns-clause-calm c =
    let t = c.term-first.result in
    bound-calm (terms_of c.args.terms.now) c.args.degree _ t c.requires.falling (omega (arith, c.len.ensures, c.if-len-eq0.false)) (ap (λ (x : Term). c.args.degree + x.coefficient) (c.term-first.ensures t))
