use Rattle.pb_replay.specs.{declared.fault.Fault.Fault, meaning.Problem.Problem, meaning.Replay.State}
use Rattle.pb_text.specs.{declared.Limits.Limits, meaning.Reading.byte_limit}
use Rattle.pb_tool.specs.contract.Pieces.{ChecksAt, fault_of}
use Rattle.std.{proofs.Common.◌≡◌, proofs.Common.None, proofs.Common.Result, proofs.Common.[], proofs.Common.take, specs.List.flat_map}
use Rattle.pb_examples.proofs.fed.is_unsat.Given as goal

-- The checker was fed the pieces so far, and has no fault.
abbrev pub invariant-loop-piece : goal.invariant-loop-piece
invariant-loop-piece l =
    (fault_of l.checker ≡ None)
    × ((limits : Limits) (v : Problem) (first : Result State Fault) → ChecksAt limits byte_limit v first [] l.initial.checker
    → ChecksAt limits byte_limit v first (flat_map (λ piece. piece.now) (take l.piece-index l.pieces)) l.checker)
