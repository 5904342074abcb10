-- Where and why a text is rejected, as numbers.
use Rattle.pb_text.specs.declared.{Place.Place, Stop.Stop, place.Why.Why}
use Rattle.{std.specs.Prelude.ℕ, std.specs.Prelude.ℤ, std.specs.Prelude.pos, pb_replay.specs.declared.fault.Fault.Fault}
use Rattle.pb_tool.specs.{contract.Faults.stop_status, contract.Refusals.refusal_status, declared.commands.check.checker.CheckFault.CheckFault}
use Rattle.{pb_pieces.specs.declared.session.OpenFault.OpenFault, pb_c.specs.declared.report.Position.Position, pb_c.specs.declared.report.Report.Report}
use Rattle.pb_text.specs.declared.place.Why.TheVariants as why
use Rattle.pb_replay.specs.declared.fault.Fault.TheVariants as fault
use Rattle.pb_tool.specs.declared.commands.check.checker.CheckFault.TheVariants as check
use Rattle.pb_pieces.specs.declared.session.OpenFault.TheVariants as open_fault

abbrev pub position_of : Place → Position
position_of p = record { line = p.line; column = p.column; offset = p.offset }

-- the reason why a reader stops, and the byte that it rejects
abbrev pub why_code : Why → ℕ
why_code (why.Byte b) = 1
why_code why.TooLarge = 2
why_code why.Ended = 3
why_code why.TooLong = 4
why_code why.Read = 5
why_code why.Memory = 6

abbrev pub why_number : Why → ℕ
why_number (why.Byte b) = b
why_number why.TooLarge = 0
why_number why.Ended = 0
why_number why.TooLong = 0
why_number why.Read = 0
why_number why.Memory = 0

-- the reason why a statement is rejected, and its argument
abbrev pub fault_code : Fault → ℕ
fault_code fault.Memory = 6
fault_code fault.Overflow = 10
fault_code (fault.FormulaCount n) = 11
fault_code (fault.NoSuchId z) = 12
fault_code fault.NotImplied = 13
fault_code fault.Conflict = 14
fault_code (fault.NotTotal n) = 15
fault_code (fault.Violates n) = 16
fault_code fault.NoObjective = 17
fault_code fault.NotContradiction = 18
fault_code fault.SolutionLogged = 19
fault_code fault.NoSolution = 20
fault_code fault.NotBound = 21
fault_code fault.IdsSpent = 22
fault_code fault.Order = 23

abbrev pub fault_number : Fault → ℕ
fault_number (fault.FormulaCount n) = n
fault_number (fault.NotTotal n) = n
fault_number (fault.Violates n) = n
fault_number _ = 0

abbrev pub fault_id : Fault → ℤ
fault_id (fault.NoSuchId z) = z
fault_id _ = pos 0

-- which of the two texts it is
abbrev pub of_instance : ℕ
of_instance = 1

abbrev pub of_proof : ℕ
of_proof = 2

-- the reasons with no position: memory ran out, or the call was wrong
abbrev pub spent : ℕ
spent = 6

abbrev pub misused : ℕ
misused = 32

abbrev pub report_at : Place → ℕ → ℕ → ℕ → ℤ → Report
report_at p input reason number id =
    record { line = p.line; column = p.column; offset = p.offset; number = number; id = id; reason = reason; input = input }

abbrev pub report_of_stop : ℕ → Stop → Report
report_of_stop input s = report_at s.place input (why_code s.why) (why_number s.why) (pos 0)

-- the report of a fault of a proof
abbrev pub report_of : CheckFault → Report
report_of (check.Text s) = report_of_stop of_proof s
report_of (check.Step begins e) = report_at begins of_proof (fault_code e) (fault_number e) (fault_id e)

-- a report that rejects nothing: the position of the next byte of the proof
abbrev pub report_of_place : Place → Report
report_of_place p = report_at p of_proof 0 0 (pos 0)

-- a report with no position
abbrev pub report_with : ℕ → ℕ → Report
report_with input reason = record { line = 0; column = 0; offset = 0; number = 0; id = pos 0; reason = reason; input = input }

-- a report of neither text
abbrev pub report_of_reason : ℕ → Report
report_of_reason = report_with 0

abbrev pub report_of_opening : OpenFault → Report
report_of_opening (open_fault.Text s) = report_of_stop of_instance s
report_of_opening open_fault.Overflow = report_with of_instance (fault_code fault.Overflow)
report_of_opening open_fault.Memory = report_with of_instance spent

-- 1 if the text was rejected, and 3 if memory ran out
abbrev pub status_of_fault : CheckFault → ℕ
status_of_fault (check.Text s) = stop_status s.why
status_of_fault (check.Step begins e) = refusal_status e

abbrev pub status_of_opening : OpenFault → ℕ
status_of_opening (open_fault.Text s) = stop_status s.why
status_of_opening open_fault.Overflow = 1
status_of_opening open_fault.Memory = 3
