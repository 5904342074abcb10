use Rattle.pb_normal.proofs.{Common.◌∙◌, Common.sym, lemmas.terms.KeyedTerms.values-remove, lemmas.terms.KeyedTerms.dropped-some}
use Rattle.pb_normal.proofs.tree.take_out.Goals as goal

pub returns-in-Some-clause-weakened : goal.returns-in-Some-clause-weakened
returns-in-Some-clause-weakened c = values-remove c.args.terms.now c.remove.new.self c.args.variable c.requires.rising c.requires.keyed c.remove.ensures.entries

pub returns-in-Some-clause-dropped : goal.returns-in-Some-clause-dropped
returns-in-Some-clause-dropped c =
    dropped-some c.args.terms.now c.remove.new.self c.args.variable c.in-Some.t c.requires.rising c.requires.keyed
    (sym c.in-Some.is ∙ c.remove.ensures.value) c.remove.ensures.entries

pub returns-in-None-clause-weakened : goal.returns-in-None-clause-weakened
returns-in-None-clause-weakened c = values-remove c.args.terms.now c.remove.new.self c.args.variable c.requires.rising c.requires.keyed c.remove.ensures.entries
