-- The line and the exit status of a fault, and what it says of the source.
use Rattle.{pb_text.specs.declared.place.Why.Why, pb_replay.specs.contract.Faults.fault_text}
use Rattle.pb_text.specs.{meaning.Pulling.faults_with, contract.Reasons.place_text, contract.Reasons.reason_of, contract.Reasons.stop_text}
use Rattle.std.specs.Prelude.{ℕ, List, [], ◌∷◌, ◌++◌, codes, string_bytes, Result, Ok, Err}
use Rattle.pb_tool.specs.{declared.commands.check.checker.CheckFault.CheckFault, contract.Refusals.refusal_text, contract.Refusals.refusal_status}
use Rattle.pb_tool.specs.declared.fault.{Input.Input, Input.TheVariants.File, Input.TheVariants.Instance, Input.TheVariants.Proof, ToolFault.ToolFault}
use Rattle.pb_text.specs.declared.place.Why.TheVariants as why
use Rattle.pb_tool.specs.declared.commands.check.checker.CheckFault.TheVariants as check
use Rattle.pb_tool.specs.declared.fault.ToolFault.TheVariants as fault

-- the name of the input in a fault line
abbrev pub prefix_of : Input → List ℕ
prefix_of File = codes "file: "
prefix_of Instance = codes "instance: "
prefix_of Proof = codes "proof: "

-- the fault of a proof, after its position
abbrev pub check_fault_text : CheckFault → List ℕ
check_fault_text (check.Text stop) = stop_text stop
check_fault_text (check.Step place e) = place_text place ++ fault_text e

-- the line on standard error, with its line feed
abbrev pub fault_line : ToolFault → List ℕ
fault_line (fault.Text input stop) = prefix_of input ++ place_text stop.place ++ reason_of stop.why ++ 10 ∷ []
fault_line (fault.Open input) = prefix_of input ++ codes "cannot open" ++ 10 ∷ []
fault_line (fault.Overflow input) = prefix_of input ++ codes "overflow" ++ 10 ∷ []
fault_line (fault.Memory input) = prefix_of input ++ codes "out of memory" ++ 10 ∷ []
fault_line fault.Write = codes "output: write fault" ++ 10 ∷ []
fault_line (fault.Step place e name) = codes "proof: " ++ place_text place ++ refusal_text e (string_bytes name) ++ 10 ∷ []

-- 1 if the text was rejected, and 3 if its reader failed or memory ran out
abbrev pub stop_status : Why → ℕ
stop_status (why.Byte byte) = 1
stop_status why.TooLarge = 1
stop_status why.Ended = 1
stop_status why.TooLong = 1
stop_status why.Read = 3
stop_status why.Memory = 3

abbrev pub exit_status : ToolFault → ℕ
exit_status (fault.Text input stop) = stop_status stop.why
exit_status (fault.Open input) = 3
exit_status (fault.Overflow input) = 1
exit_status (fault.Memory input) = 3
exit_status fault.Write = 3
exit_status (fault.Step place e name) = refusal_status e

-- how often a source has failed after a command with this result: once more for a read fault, and else as often as
-- before
abbrev pub faults_reported : Result Unit ToolFault → ℕ → ℕ
faults_reported (Ok u) n = n
faults_reported (Err (fault.Text input stop)) n = faults_with stop.why n
faults_reported (Err (fault.Open input)) n = n
faults_reported (Err (fault.Overflow input)) n = n
faults_reported (Err (fault.Memory input)) n = n
faults_reported (Err fault.Write) n = n
faults_reported (Err (fault.Step place e name)) n = n
