-- Lemmas that the goals of functions need.
use Rattle.pb_opb.proofs.{Common.one_spelling, Common.prefix_free, lemmas.machine.Bodies.finishes, lemmas.machine.Bodies.instance_each}
use Rattle.pb_text.proofs.lemmas.text.FixedSpans.{fixed_spans}

pub ruleset laws = (finishes, fixed_spans, instance_each, one_spelling, prefix_free)
