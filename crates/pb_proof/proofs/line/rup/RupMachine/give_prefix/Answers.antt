use Rattle.pb_proof.{proofs.Common.refl, proofs.Common.take, specs.contracts.line.rup.RupMachine.the_view, proofs.lemmas.machine.Runs.rup_runs_given}
use Rattle.pb_proof.proofs.line.rup.RupMachine.give_prefix.Goals.{in-Inside, in_default}
use Rattle.pb_proof.proofs.line.rup.RupMachine.give_prefix.Goals as goal

pub invariant_of-self : goal.invariant_of-self
invariant_of-self c =
    (rup_runs_given (the_view c.self.inside) c.self.invariant c.in-Inside.is (take c.take_run-taken.result c.args.text.now) c.take_run-taken.new.self c.take_run-taken.ensures.runs).1

pub returns-clause-runs : goal.returns-clause-runs
returns-clause-runs c = elim c.match-self.branch [
  | in-Inside w ↦ rw (w.self-is, w.taken-is, ← c.self.view_is)
      (rup_runs_given (the_view c.self.inside) c.self.invariant w.in-Inside.is (take w.take_run-taken.result c.args.text.now) w.take_run-taken.new.self w.take_run-taken.ensures.runs).0
  | in_default w ↦ rw (w.self-is, w.taken-is, ← c.self.view_is) refl
]
