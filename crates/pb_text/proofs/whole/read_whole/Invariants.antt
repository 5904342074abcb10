use Rattle.pb_text.proofs.{Common.◌+◌, Common.◌-◌, Common.◌^◌, Common.◌≡◌, lemmas.source.Wholes.SoFar}
use Rattle.pb_text.proofs.whole.read_whole.Given as goal

-- the value is that of the events so far
abbrev pub invariant-loop-spanned : goal.invariant-loop-spanned
invariant-loop-spanned g l = record {
  faults : g.S.Source.faults l.source ≡ g.S.Source.faults l.fn.source;
  so_far : SoFar {g = g.M.Machine} l.fn.longest l.fn.machine g.G.Gather.with l.fn.empty (g.S.Source.left l.fn.source) (g.S.Source.left l.source) (g.S.Source.history l.fn.source) (g.S.Source.history l.source) l.feeder l.value;
}

abbrev pub decreases-loop-spanned : goal.decreases-loop-spanned
decreases-loop-spanned g l = 2 ^ 40 + 1 - l.feeder.place.offset
