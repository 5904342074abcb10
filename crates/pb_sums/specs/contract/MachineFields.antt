-- What a machine stores.
use Rattle.{pb_sums.specs.declared.machine.SumMachine.TheInside.Inside, pb_sums.specs.engine.State.SumState, std.specs.Prelude.◌≡◌}

-- the state that its fields give
abbrev pub state_of : Inside → SumState
state_of m = record { spaces = m.spaces; part = m.part; limit = m.limit; work = record { terms = m.terms; name = m.name; phase = m.phase } }

-- It stores only its state and its allocator, as contracts see these.
abbrev pub KeepsItsState : Type 0
KeepsItsState = (a b : Inside) → a.alloc ≡ b.alloc → state_of a ≡ state_of b → a ≡ b
