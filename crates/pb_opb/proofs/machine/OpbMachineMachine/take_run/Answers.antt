use Rattle.pb_opb.proofs.{Common.the_view, Common.refl, Common.take, lemmas.machine.Taken.kept_or_none, lemmas.machine.Taken.runs_given}
use Rattle.pb_opb.proofs.machine.OpbMachineMachine.take_run.Goals as goal
use Rattle.pb_opb.proofs.machine.OpbMachineMachine.take_run.Goals.{in-Constraint, in-Tail, in_default}

pub invariant_of-self : goal.invariant_of-self
invariant_of-self c =
    (runs_given (the_view c.self.inside) c.self.invariant c.in-Constraint.is (take c.take_run-taken.result c.args.piece.now) c.take_run-taken.new.self c.take_run-taken.ensures.runs).1

pub returns-clause-runs : goal.returns-clause-runs
returns-clause-runs c = elim c.match-self.branch [
  | in-Constraint w ↦ rw (w.self-is, w.taken-is, ← c.self.view_is)
      (runs_given (the_view c.self.inside) c.self.invariant w.in-Constraint.is (take w.take_run-taken.result c.args.piece.now) w.take_run-taken.new.self w.take_run-taken.ensures.runs).0
  | in-Tail w ↦ rw (w.self-is, w.taken-is, w.unwrap_or-taken.ensures)
      (kept_or_none c.args.self.now w.keep_line.new.self c.args.piece.now w.keep_line.result w.keep_line.ensures.runs w.keep_line.ensures.none)
  | in_default w ↦ rw (w.self-is, w.taken-is, ← c.self.view_is) refl
]
