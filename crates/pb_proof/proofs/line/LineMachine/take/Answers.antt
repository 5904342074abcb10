use Rattle.pb_proof.proofs.lemmas.Carried.{pushes_in}
use Rattle.pb_proof.proofs.lemmas.line.Laws.{formula_carries, pol_carries, rup_carries, soli_carries, solx_carries, delete_carries, conclusion_carries}
use Rattle.pb_proof.proofs.line.LineMachine.take.Goals as goal

pub returns-in-Formula : goal.returns-in-Formula
returns-in-Formula c = rw c.in-Formula.is (pushes_in _ _ _ _ formula_carries _ (λ e f g. g) c.in-Formula.machine c.push.new.self c.args.byte _ _ c.carried.ensures c.push.ensures.pushes)

pub returns-in-Pol : goal.returns-in-Pol
returns-in-Pol c = rw c.in-Pol.is (pushes_in _ _ _ _ pol_carries _ (λ e f g. g) c.in-Pol.machine c.push-in-Pol.new.self c.args.byte _ _ c.carried-in-Pol.ensures c.push-in-Pol.ensures.pushes)

pub returns-in-Rup : goal.returns-in-Rup
returns-in-Rup c = rw c.in-Rup.is (pushes_in _ _ _ _ rup_carries _ (λ e f g. g) c.in-Rup.machine c.push-in-Rup.new.self c.args.byte _ _ c.carried-in-Rup.ensures c.push-in-Rup.ensures.pushes)

pub returns-in-Soli : goal.returns-in-Soli
returns-in-Soli c = rw c.in-Soli.is (pushes_in _ _ _ _ soli_carries _ (λ e f g. g) c.in-Soli.machine c.push-in-Soli.new.self c.args.byte _ _ c.carried-in-Soli.ensures c.push-in-Soli.ensures.pushes)

pub returns-in-Solx : goal.returns-in-Solx
returns-in-Solx c = rw c.in-Solx.is (pushes_in _ _ _ _ solx_carries _ (λ e f g. g) c.in-Solx.machine c.push-in-Solx.new.self c.args.byte _ _ c.carried-in-Solx.ensures c.push-in-Solx.ensures.pushes)

pub returns-in-Delete : goal.returns-in-Delete
returns-in-Delete c = rw c.in-Delete.is (pushes_in _ _ _ _ delete_carries _ (λ e f g. g) c.in-Delete.machine c.push-in-Delete.new.self c.args.byte _ _ c.carried-in-Delete.ensures c.push-in-Delete.ensures.pushes)

pub returns-in-Conclusion : goal.returns-in-Conclusion
returns-in-Conclusion c = rw c.in-Conclusion.is (pushes_in _ _ _ _ conclusion_carries _ (λ e f g. g) c.in-Conclusion.machine c.push-in-Conclusion.new.self c.args.byte _ _ c.carried-in-Conclusion.ensures c.push-in-Conclusion.ensures.pushes)
