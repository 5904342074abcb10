use Rattle.pb_replay.proofs.lemmas.rules.Completions.{negations-apart, count-inside}
use Rattle.pb_replay.proofs.step.solution.clause_of.Goals as goal

pub from_literals-requires-clause-apart : goal.from_literals-requires-clause-apart
from_literals-requires-clause-apart c = rw (c.as_slice.ensures.value, c.in_ok-literals.ensures) (negations-apart c.args.given.now c.requires)

pub returns-clause-clause : goal.returns-clause-clause
returns-clause-clause c = rw (c.as_slice.ensures.value, c.in_ok-literals.ensures) at c.in_ok-clause.ensures.count

pub returns-clause-inside : goal.returns-clause-inside
returns-clause-inside c = λ n h. count-inside c.args.given.now c.in_ok-clause.clause n (rw (c.as_slice.ensures.value, c.in_ok-literals.ensures) at c.in_ok-clause.ensures.count) h
