-- The reason in the line of a rejected statement.
use Rattle.pb_replay.specs.{contract.Faults.fault_text, declared.fault.Fault.Fault}
use Rattle.std.specs.Prelude.{ℕ, List, ◌++◌, codes}
use Rattle.pb_replay.specs.declared.fault.Fault.TheVariants as fault

-- why a statement was rejected: the text of the replay's fault, except that `NotTotal` gives the name itself
abbrev pub refusal_text : Fault → List ℕ → List ℕ
refusal_text (fault.NotTotal n) name = codes "no value for " ++ name
refusal_text e name = fault_text e

-- 3 if memory ran out, and 1 otherwise
abbrev pub refusal_status : Fault → ℕ
refusal_status fault.Memory = 3
refusal_status _ = 1
