use Rattle.pb_sums.proofs.{Common.arith, Common.get_or-take, Common.length-take-le, lemmas.prefixes.TermParts.spaced_literal_runs}
use Rattle.pb_sums.proofs.lemmas.values.Shorts.{name_utf8}
use Rattle.pb_sums.proofs.term_prefix.spaced_literal_prefix.Goals as goal

pub short_prefix-name-requires-clause-text : goal.short_prefix-name-requires-clause-text
short_prefix-name-requires-clause-text c = name_utf8 _ c.name_prefix-length.ensures.name

pub returns-clause-runs : goal.returns-clause-runs
returns-clause-runs c = grind (arith, length-take-le, c.name_prefix-length.ensures.bound, get_or-take, spaced_literal_runs, c.tilde_prefix-tilde.ensures.tilde, c.is_letter.ensures, c.if-not-is_letter.false, c.name_prefix-length.ensures.name, c.short_prefix-name.ensures.name, c.if-end-text.false, c.if-text-end-ne32.false)
