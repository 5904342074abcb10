use Rattle.pb_replay.proofs.Common.{◌≡◌, drop, false, List, Option, Result, Form, Fault, Deleted}
use Rattle.pb_replay.proofs.step.delete.delete_each.Given as goal

-- the result of the rest is the result of the whole
abbrev pub invariant-loop-id : goal.invariant-loop-id
invariant-loop-id l =
    ((r : Result (List (Option Form)) Fault) → Deleted l.constraints.forms (drop l.id-index l.ids) r → Deleted l.fn.constraints.forms l.ids r)
    × (l.constraints.loaded ≡ l.fn.constraints.loaded)
    × (l.constraints.variables ≡ l.fn.constraints.variables)
    × (l.constraints.spent ≡ false)
