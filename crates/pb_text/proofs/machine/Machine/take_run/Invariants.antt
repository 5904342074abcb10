use Rattle.pb_text.proofs.Common.{◌-◌, ◌≤◌, length, take, IsState, Runs}
use Rattle.pb_text.proofs.machine.Machine.take_run.Given as goal

-- the bytes so far were taken
abbrev pub invariant-loop-taken : goal.invariant-loop-taken
invariant-loop-taken g l = record {
  bound : l.taken ≤ length l.piece;
  runs : Runs g.Self.Machine.automaton l.fn.self (take l.taken l.piece) l.self;
  state : IsState g.Self.Machine.automaton l.self;
}

abbrev pub decreases-loop-taken : goal.decreases-loop-taken
decreases-loop-taken g l = length l.piece - l.taken
