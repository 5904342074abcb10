use Rattle.pb_proof.proofs.{Common.take, lemmas.Carried.runs_in}
use Rattle.pb_proof.proofs.lemmas.line.Laws.{formula_carries, pol_carries, rup_carries, soli_carries, solx_carries, delete_carries, conclusion_carries}
use Rattle.pb_proof.proofs.line.LineMachine.run.Goals as goal

pub returns-in-Formula-clause-runs : goal.returns-in-Formula-clause-runs
returns-in-Formula-clause-runs c = rw c.in-Formula.is (runs_in _ _ _ _ formula_carries (take c.take_run.result c.args.piece.now) c.in-Formula.machine c.take_run.new.self c.take_run.ensures.runs)

pub returns-in-Pol-clause-runs : goal.returns-in-Pol-clause-runs
returns-in-Pol-clause-runs c = rw c.in-Pol.is (runs_in _ _ _ _ pol_carries (take c.take_run-in-Pol.result c.args.piece.now) c.in-Pol.machine c.take_run-in-Pol.new.self c.take_run-in-Pol.ensures.runs)

pub returns-in-Rup-clause-runs : goal.returns-in-Rup-clause-runs
returns-in-Rup-clause-runs c = rw c.in-Rup.is (runs_in _ _ _ _ rup_carries (take c.take_run-in-Rup.result c.args.piece.now) c.in-Rup.machine c.take_run-in-Rup.new.self c.take_run-in-Rup.ensures.runs)

pub returns-in-Soli-clause-runs : goal.returns-in-Soli-clause-runs
returns-in-Soli-clause-runs c = rw c.in-Soli.is (runs_in _ _ _ _ soli_carries (take c.take_run-in-Soli.result c.args.piece.now) c.in-Soli.machine c.take_run-in-Soli.new.self c.take_run-in-Soli.ensures.runs)

pub returns-in-Solx-clause-runs : goal.returns-in-Solx-clause-runs
returns-in-Solx-clause-runs c = rw c.in-Solx.is (runs_in _ _ _ _ solx_carries (take c.take_run-in-Solx.result c.args.piece.now) c.in-Solx.machine c.take_run-in-Solx.new.self c.take_run-in-Solx.ensures.runs)

pub returns-in-Delete-clause-runs : goal.returns-in-Delete-clause-runs
returns-in-Delete-clause-runs c = rw c.in-Delete.is (runs_in _ _ _ _ delete_carries (take c.take_run-in-Delete.result c.args.piece.now) c.in-Delete.machine c.take_run-in-Delete.new.self c.take_run-in-Delete.ensures.runs)

pub returns-in-Conclusion-clause-runs : goal.returns-in-Conclusion-clause-runs
returns-in-Conclusion-clause-runs c = rw c.in-Conclusion.is (runs_in _ _ _ _ conclusion_carries (take c.take_run-in-Conclusion.result c.args.piece.now) c.in-Conclusion.machine c.take_run-in-Conclusion.new.self c.take_run-in-Conclusion.ensures.runs)
