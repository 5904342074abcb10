use Rattle.pb_replay.proofs.Common.{◌<◌, ◌≡◌, All, length, take, numbered}
use Rattle.pb_replay.proofs.state.literals.numbered_literals.Given as goal

-- the literals so far are numbered
abbrev pub invariant-loop-literal : goal.invariant-loop-literal
invariant-loop-literal l = (l.out.items ≡ numbered l.names (take l.literal-index l.given)) × All (λ x. x.variable < length l.names) l.out.items
