use Rattle.pb_normal.proofs.{Common.arith, lemmas.names.Tables.span_within}
use Rattle.pb_normal.proofs.names.text.span_of.Goals as goal

pub returns-clause-within : goal.returns-clause-within
returns-clause-within c = λ count h. span_within c.args.entries.now c.args.number count c.requires (omega (arith, c.if-number-eq0.false)) h
