use Rattle.pb_proof.proofs.{Common.subst, Common.IsState, Common.proofs, Common.ProofState, lemmas.machine.States.is_state}
use Rattle.pb_proof.proofs.machine.ProofMachineMachine.is_done.Goals as goal

pub returns-clause-state : goal.returns-clause-state
returns-clause-state c = subst (λ (s : ProofState). IsState proofs s) c.self.view_is (is_state _ c.self.invariant)
