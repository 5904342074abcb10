-- A statement that a reader gives, as numbers.
use Rattle.pb_c.specs.declared.event.Statement.{Statement}
use Rattle.{pb_pieces.specs.declared.token_reader.Event.Event, pb_pieces.specs.declared.tokenized.EventKind.EventKind, std.specs.Prelude.ℕ}
use Rattle.pb_pieces.specs.declared.tokenized.EventKind.TheVariants.{Header, Comment, Objective, Constraint, Proof, F, Pol, Rup, Soli, Solx, Delete, Output}
use Rattle.pb_pieces.specs.declared.tokenized.EventKind.TheVariants.{NoClaim, Unsat, Sat, Bounds, End}

-- the kinds of statements of instances from 1, those of proofs from 16
abbrev pub event_code : EventKind → ℕ
event_code Header = 1
event_code Comment = 2
event_code Objective = 3
event_code Constraint = 4
event_code Proof = 16
event_code F = 17
event_code Pol = 18
event_code Rup = 19
event_code Soli = 20
event_code Solx = 21
event_code Delete = 22
event_code Output = 23
event_code NoClaim = 24
event_code Unsat = 25
event_code Sat = 26
event_code Bounds = 27
event_code End = 28

abbrev pub no_event : Statement
no_event = record { line = 0; column = 0; offset = 0; past = 0; tokens = 0; bytes = 0; kind = 0 }

abbrev pub event_of : Event → ℕ → ℕ → Statement
event_of e tokens bytes =
    record { line = e.first.line; column = e.first.column; offset = e.first.offset; past = e.past.offset; tokens = tokens; bytes = bytes; kind = event_code e.kind }
