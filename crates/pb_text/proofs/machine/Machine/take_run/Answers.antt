use Rattle.pb_text.proofs.{Common.arith, Common.length-drop, Common.length-take, lemmas.text.Spans.runs_further}
use Rattle.pb_text.proofs.machine.Machine.take_run.Goals as goal

pub returns-then-more-eq0-clause-runs : goal.returns-then-more-eq0-clause-runs
returns-then-more-eq0-clause-runs g c = grind (arith, g.Self.Machine.automaton, runs_further, c.loop-taken.invariant.runs, c.take_prefix-more.ensures.runs)

pub loop-taken-preserved : goal.loop-taken-preserved
loop-taken-preserved g c = grind (arith, c.take_prefix-more.ensures.bound, length-take, length-drop, runs_further, g.Self.Machine.automaton, c.loop-taken.invariant.runs, c.take_prefix-more.ensures.runs, c.take_prefix-more.ensures.state)
