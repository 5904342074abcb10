use Rattle.pb_opb.proofs.{Common.the_view, lemmas.machine.Pushed.end_order, lemmas.machine.Pushed.end_step}
use Rattle.pb_opb.proofs.machine.OpbMachine.end_sum.Goals as goal

pub invariant_of-self : goal.invariant_of-self
invariant_of-self c =
    rw (c.phase_owing-self-inside.ensures, c.remaining_after-self-inside.ensures)
    (end_order (the_view c.self.inside) c.self.invariant c.args.byte c.args.phase c.try_finish.new.self c.restart.new.self c.in-Some.event (rw (← c.self.view_is) at c.requires) c.in-Some.ensures.finishes c.restart.ensures.begins c.restart.ensures.state)

pub returns-in-Some : goal.returns-in-Some
returns-in-Some c =
    rw (← c.self.view_is, c.statement_of.ensures, c.phase_owing-self-inside.ensures, c.remaining_after-self-inside.ensures)
    (end_step (the_view c.self.inside) c.self.invariant c.args.byte c.args.phase c.try_finish.new.self c.restart.new.self c.in-Some.event (rw (← c.self.view_is) at c.requires) c.in-Some.ensures.finishes c.restart.ensures.begins)
