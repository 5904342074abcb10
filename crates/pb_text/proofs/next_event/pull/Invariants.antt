use Rattle.pb_text.proofs.Common.{◌+◌, ◌-◌, ◌^◌, ◌≡◌, ◌≤◌, false, None, Ok, IsState, Draws}
use Rattle.pb_text.proofs.next_event.pull.Given as goal

-- the feeder was fed the input followed by the bytes taken from the source
abbrev pub invariant-loop-stop : goal.invariant-loop-stop
invariant-loop-stop g l = record {
  running : l.feeder.stop ≡ None;
  unfinished : g.M.Machine.automaton.done l.feeder.machine ≡ false;
  state : IsState g.M.Machine.automaton l.feeder.machine;
  onward : l.fn.feeder.place.offset ≤ l.feeder.place.offset;
  faults : g.S.Source.faults l.source ≡ g.S.Source.faults l.fn.source;
  drawn : Draws l.fn.feeder (g.S.Source.left l.fn.source) (g.S.Source.history l.fn.source) (Ok None) l.feeder (g.S.Source.left l.source) (g.S.Source.history l.source);
}

abbrev pub decreases-loop-stop : goal.decreases-loop-stop
decreases-loop-stop g l = 2 ^ 40 + 1 - l.feeder.place.offset
