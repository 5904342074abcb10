use Rattle.pb_proof.{proofs.Common.refl, proofs.Common.take, specs.contracts.machine.ProofMachine.the_view, proofs.lemmas.machine.Runs.runs_given}
use Rattle.pb_proof.proofs.machine.ProofMachine.give_prefix.Goals.{in-Some, in-None}
use Rattle.pb_proof.proofs.machine.ProofMachine.give_prefix.Goals as goal

pub invariant_of-self : goal.invariant_of-self
invariant_of-self c = elim c.match-self.branch [
  | in-Some w ↦ rw w.self-inside-is
      (runs_given (the_view c.self.inside) c.self.invariant w.in-Some.line w.in-Some.is (take w.take_run-taken.result c.args.text.now) w.take_run-taken.new.self w.take_run-taken.ensures.runs).1
  | in-None w ↦ rw w.self-inside-is c.self.invariant
]

pub returns-clause-runs : goal.returns-clause-runs
returns-clause-runs c = elim c.match-self.branch [
  | in-Some w ↦ rw (w.self-inside-is, w.taken-is, ← c.self.view_is)
      (runs_given (the_view c.self.inside) c.self.invariant w.in-Some.line w.in-Some.is (take w.take_run-taken.result c.args.text.now) w.take_run-taken.new.self w.take_run-taken.ensures.runs).0
  | in-None w ↦ rw (w.self-inside-is, w.taken-is, ← c.self.view_is) refl
]
