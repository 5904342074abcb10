-- When a machine may leave a byte untaken.
use Rattle.pb_text.specs.contract.Automaton.{Automaton, End}
use Rattle.std.specs.Prelude.{◌≡◌, ◌⊎◌, ℕ, IsTrue}

-- The byte may allocate, or it ends no statement.
abbrev pub MayStay : {S E : Type 0} → Automaton S E → S → ℕ → Type 0
MayStay {S} {E} m s b = IsTrue (m.asks s b) ⊎ ((e : E) (next : S) → m.step s b ≡ End e next → ⊥)
