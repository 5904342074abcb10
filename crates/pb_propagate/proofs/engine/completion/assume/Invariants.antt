use Rattle.pb_propagate.proofs.Common.{take, IsWithin, RunIsOpen, RunPuts, IsFrom}
use Rattle.pb_propagate.proofs.engine.completion.assume.Given as goal

abbrev pub invariant-given : goal.invariant-given
invariant-given l = record {
  puts : RunPuts l.store l.rests 0 l.initial.run l.run;
  sums : RunIsOpen l.store l.run;
  within : IsFrom l.initial.run.assignment.list.items l.given l.run.assignment.list.items;
  covers : IsWithin (take l.i l.given) l.run.assignment.list.items;
}
