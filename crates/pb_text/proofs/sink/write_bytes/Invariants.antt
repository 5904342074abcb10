use Rattle.pb_text.proofs.Common.{ℕ, ◌++◌, ◌≡◌, length, List, Wrote}
use Rattle.pb_text.proofs.sink.write_bytes.Given as goal

-- what is no longer in the rest was written
abbrev pub invariant-loop-rest : goal.invariant-loop-rest
invariant-loop-rest g l = (prefix : List ℕ) × (l.text ≡ prefix ++ l.rest) × Wrote g.S.Sink.contents g.S.Sink.faults l.fn.out prefix l.out

abbrev pub decreases-loop-rest : goal.decreases-loop-rest
decreases-loop-rest g l = length l.rest
