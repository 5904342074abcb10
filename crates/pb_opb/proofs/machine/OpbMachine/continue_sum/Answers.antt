use Rattle.pb_opb.proofs.{Common.the_view, lemmas.machine.Pushed.give_order}
use Rattle.pb_opb.proofs.machine.OpbMachine.continue_sum.Goals as goal

pub invariant_of-self-2 : goal.invariant_of-self-2
invariant_of-self-2 c =
    give_order (the_view c.self.inside) c.self.invariant c.args.byte c.args.phase c.try_continue.new.self (rw (← c.self.view_is) at c.requires) c.if-not-try_continue.ensures.continues c.try_continue.ensures.state
