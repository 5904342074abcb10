use Rattle.pb_replay.proofs.Common.{◌≡◌, take, with_names, literal_names}
use Rattle.pb_replay.proofs.state.literals.number_names.Given as goal

-- the names of the literals so far have appeared
abbrev pub invariant-loop-literal : goal.invariant-loop-literal
invariant-loop-literal l = l.names ≡ with_names l.initial.names (literal_names (take l.literal-index l.given))
