use Rattle.pb_proof.proofs.{Common.subst, Common.IsState, Common.rup_automaton, Common.RupState, lemmas.Rup.rup_is_state}
use Rattle.pb_proof.proofs.line.rup.RupMachineMachine.is_done.Goals as goal

pub returns-clause-state : goal.returns-clause-state
returns-clause-state c = subst (λ (s : RupState). IsState rup_automaton s) c.self.view_is (rup_is_state _ c.self.invariant)
