use Rattle.pb_lines.proofs.lemmas.Theorems.{words_is_state}
use Rattle.pb_lines.proofs.machine.WordMachineMachine.is_done.Goals as goal

pub returns-clause-state : goal.returns-clause-state
returns-clause-state g c = rw (← c.self.view_is) (words_is_state _ _ g.met.W.WordList.lawful g.met.W.WordList.counted _ c.self.invariant)
