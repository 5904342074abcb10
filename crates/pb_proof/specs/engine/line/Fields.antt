-- What the machines for the rest of a line store, but for those of words.
use Rattle.{pb_proof.specs.declared.line.rup.RupMachine.TheInside.Inside as RupFields, std.specs.Prelude.◌≡◌}
use Rattle.pb_proof.specs.engine.line.Rup.{RupState}

-- the states that their fields make up
abbrev pub rup_state : RupFields → RupState
rup_state m = record { phase = m.phase; sums = m.sums; linear = m.linear }

-- Each of them stores nothing besides its state and, if it has them, the allocator and the vector of words, as contracts
-- see these.
abbrev pub RupKeeps : Type 0
RupKeeps = (a b : RupFields) → rup_state a ≡ rup_state b → a ≡ b
