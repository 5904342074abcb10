-- What the machine for proofs stores.
use Rattle.{pb_proof.specs.declared.machine.ProofMachine.TheInside.Inside, pb_proof.specs.engine.machine.State.ProofState, std.specs.Prelude.◌≡◌}
use Rattle.pb_text.specs.meaning.Limits.{largest, top_of}

-- the state that its fields make up
abbrev pub proof_state : Inside → ProofState
proof_state m = record { limit = largest m.limits; top = top_of m.limits; phase = m.phase; line = m.line }

-- the same memory to use again
pub record HasSameMemory (a b : Inside) : Type 0 where
  pub terms : a.terms ≡ b.terms
  pub words : a.words ≡ b.words
  pub ids : a.ids ≡ b.ids

-- It stores nothing besides its state, its limits, its allocator and memory to use again, as contracts see these.
abbrev pub ProofKeeps : Type 0
ProofKeeps = (a b : Inside) → a.alloc ≡ b.alloc → a.limits ≡ b.limits → HasSameMemory a b → proof_state a ≡ proof_state b → a ≡ b
