-- What a machine of instances stores.
use Rattle.{pb_opb.specs.declared.machine.OpbMachine.TheInside.Inside, pb_opb.specs.engine.State.OpbState, std.specs.Prelude.◌≡◌}
use Rattle.pb_text.specs.meaning.Limits.{largest, top_of}

-- the state that its fields form
abbrev pub state_of : Inside → OpbState
state_of m = record { limit = largest m.limits; top = top_of m.limits; variables = m.variables; remaining = m.remaining; phase = m.phase; text = m.text; sums = m.sums }

-- It stores nothing but its state, its limits, its allocator and memory to use again, as contracts see these.
abbrev pub KeepsItsState : Type 0
KeepsItsState = (a b : Inside) → a.alloc ≡ b.alloc → a.limits ≡ b.limits → a.spare ≡ b.spare → state_of a ≡ state_of b → a ≡ b
