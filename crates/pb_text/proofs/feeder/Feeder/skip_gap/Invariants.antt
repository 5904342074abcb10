use Rattle.pb_text.proofs.Common.{ℕ, ◌++◌, ◌+◌, ◌-◌, ◌≡◌, ◌≤◌, false, length, List, None, take, IsState, StandsAt, Spanned}
use Rattle.pb_text.proofs.feeder.Feeder.skip_gap.Given as goal

-- the feeder was fed the input followed by the bytes so far
abbrev pub invariant-loop-used : goal.invariant-loop-used
invariant-loop-used g l = record {
  running : l.self.stop ≡ None;
  unfinished : g.M.Machine.automaton.done l.self.machine ≡ false;
  state : IsState g.M.Machine.automaton l.self.machine;
  bound : l.used ≤ length l.piece;
  offset : l.self.place.offset ≡ l.fn.self.place.offset + l.used;
  stands : (longest : ℕ) (start : _) (input : List ℕ) (spans : List (Spanned _)) → StandsAt longest start input spans l.fn.self → StandsAt longest start (input ++ take l.used l.piece) spans l.self;
}

abbrev pub decreases-loop-used : goal.decreases-loop-used
decreases-loop-used g l = length l.piece - l.used
