use Rattle.pb_proof.proofs.lemmas.Carried.{state_in}
use Rattle.pb_proof.proofs.lemmas.line.Laws.{formula_carries, pol_carries, rup_carries, soli_carries, solx_carries, delete_carries, conclusion_carries}
use Rattle.pb_proof.proofs.line.push.LineMachineMachine.is_done.Goals as goal

pub returns-in-Formula-clause-state : goal.returns-in-Formula-clause-state
returns-in-Formula-clause-state c = rw c.in-Formula.is (state_in _ _ _ _ formula_carries c.in-Formula.machine c.is_done.ensures.state)

pub returns-in-Pol-clause-state : goal.returns-in-Pol-clause-state
returns-in-Pol-clause-state c = rw c.in-Pol.is (state_in _ _ _ _ pol_carries c.in-Pol.machine c.is_done-in-Pol.ensures.state)

pub returns-in-Rup-clause-state : goal.returns-in-Rup-clause-state
returns-in-Rup-clause-state c = rw c.in-Rup.is (state_in _ _ _ _ rup_carries c.in-Rup.machine c.is_done-in-Rup.ensures.state)

pub returns-in-Soli-clause-state : goal.returns-in-Soli-clause-state
returns-in-Soli-clause-state c = rw c.in-Soli.is (state_in _ _ _ _ soli_carries c.in-Soli.machine c.is_done-in-Soli.ensures.state)

pub returns-in-Solx-clause-state : goal.returns-in-Solx-clause-state
returns-in-Solx-clause-state c = rw c.in-Solx.is (state_in _ _ _ _ solx_carries c.in-Solx.machine c.is_done-in-Solx.ensures.state)

pub returns-in-Delete-clause-state : goal.returns-in-Delete-clause-state
returns-in-Delete-clause-state c = rw c.in-Delete.is (state_in _ _ _ _ delete_carries c.in-Delete.machine c.is_done-in-Delete.ensures.state)

pub returns-in-Conclusion-clause-state : goal.returns-in-Conclusion-clause-state
returns-in-Conclusion-clause-state c = rw c.in-Conclusion.is (state_in _ _ _ _ conclusion_carries c.in-Conclusion.machine c.is_done-in-Conclusion.ensures.state)
