-- A byte that is taken is admitted. Offered to other crates.
use Rattle.pb_text.proofs.Common.{ℕ, ◌∷◌, ◌≡◌, [], ap, false, None, true, Admits, Automaton, Go, IsState, bytes, Letter, letters_of}
use Rattle.pb_text.proofs.lemmas.{machine.Residual.letter, machine.Residual.takes_go, text.Lists.put_advances}

module _ {S E : Type 0} (m : Automaton S E) where
  -- a byte of a statement
  pub admits_within : (old new : S) (b : ℕ) → m.step old b ≡ Go new → m.begun new ≡ true → m.done new ≡ false → IsState m new → Admits m old b
  admits_within old new b continues inside owed state =
      let l : Letter = letter m b new in
      let k = (takes_go m old new b continues owed state).into state.live.0 state.live.1 in
      let e : letters_of k.0 ≡ l ∷ letters_of state.live.0 = (put_advances (m.begun new) l [] None state.plain).letters_are state.live.0 k.0 k.1 in
      (k.0, k.2, bytes (letters_of state.live.0), ap bytes e)
