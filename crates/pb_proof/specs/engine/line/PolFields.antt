-- What the words of a `pol` line store.
use Rattle.pb_proof.specs.{declared.line.pol.PolWords.TheInside.Inside, engine.line.Pol.PolState, engine.line.Pol.pol_at}
use Rattle.std.specs.Prelude.{◌≡◌}

-- the state that the fields make up
abbrev pub pol_state : Inside → PolState
pol_state m = pol_at m.words.items m.depth m.held

-- They are that state and their vector, as contracts see it.
abbrev pub PolKeeps : Type 0
PolKeeps = (a b : Inside) → a.words ≡ b.words → pol_state a ≡ pol_state b → a ≡ b
