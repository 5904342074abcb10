use Rattle.pb_opb.proofs.Common.{ℕ, ◌++◌, ◌+◌, ◌≡◌, drop, List, Wrote, constraint_events, in_order, led_lines}
use Rattle.pb_opb.proofs.write.write_constraints.Given as goal

-- what was written, and what is left
abbrev pub invariant-loop-index : goal.invariant-loop-index
invariant-loop-index g l =
    (prefix : List ℕ)
    × (led_lines (in_order l.first l.comments (constraint_events l.constraints)) ≡ prefix ++ led_lines (in_order (l.first + l.index) l.rest (constraint_events (drop l.index l.constraints))))
    × Wrote g.S.Sink.contents g.S.Sink.faults l.initial.out prefix l.out
