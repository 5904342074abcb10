use Rattle.pb_pieces.proofs.Common.{◌+◌, ◌-◌, ◌^◌, List, OpbEvent, opb, place_of, Spanned, HasPulled, IsFlatOf}
use Rattle.pb_pieces.proofs.read.read_events.Given as goal

-- The statements so far are in the arrays.
abbrev pub invariant-loop-read : goal.invariant-loop-read
invariant-loop-read g l =
    (spans : List (Spanned OpbEvent)) × HasPulled {g = record { automaton = opb }} l.fn.longest l.fn.machine (g.S.Source.left l.fn.input) spans l.feeder (g.S.Source.left l.input) × IsFlatOf spans l.flat

-- the bytes that may still be read
abbrev pub decreases-loop-read : goal.decreases-loop-read
decreases-loop-read g l = 2 ^ 40 + 1 - (place_of l.feeder).offset
