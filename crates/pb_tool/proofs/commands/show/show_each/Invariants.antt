use Rattle.pb_tool.proofs.Common.{◌+◌, ◌-◌, ◌^◌, ◌≡◌, List, place_of, Spanned, HasPulled, Wrote, shown, HasGiven}
use Rattle.pb_tool.proofs.commands.show.show_each.Given as goal

-- The lines of the statements so far were written, and the source has not failed. This holds for the bytes that are
-- known of the source and for those that its calls have given.
abbrev pub invariant-loop-read : goal.invariant-loop-read
invariant-loop-read g l = record {
  faults : g.S.Source.faults l.input ≡ g.S.Source.faults l.fn.input;
  given : (spans : List (Spanned _)) × HasGiven {g = g.M.Machine} l.fn.longest l.fn.machine (g.S.Source.history l.fn.input) spans l.feeder (g.S.Source.history l.input)
      × Wrote g.W.Sink.contents g.W.Sink.faults l.fn.out (shown g.E.Canonical.text spans) l.out;
  shown : (spans : List (Spanned _)) × HasPulled {g = g.M.Machine} l.fn.longest l.fn.machine (g.S.Source.left l.fn.input) spans l.feeder (g.S.Source.left l.input)
      × Wrote g.W.Sink.contents g.W.Sink.faults l.fn.out (shown g.E.Canonical.text spans) l.out;
}

-- the bytes that may still be read
abbrev pub decreases-loop-read : goal.decreases-loop-read
decreases-loop-read g l = 2 ^ 40 + 1 - (place_of l.feeder).offset
