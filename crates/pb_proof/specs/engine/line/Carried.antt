-- A step of an automaton within another one.
use Rattle.pb_text.specs.contract.Automaton.{Next, Go, End, Refuse}

-- `into` gives the states, `event` the events, and `close` the state after the end.
abbrev pub carried : {S E R F : Type 0} → (S → R) → (E → F) → (E → S → R) → Next S E → Next R F
carried into event close (Go s) = Go (into s)
carried into event close (End e s) = End (event e) (close e s)
carried into event close Refuse = Refuse
