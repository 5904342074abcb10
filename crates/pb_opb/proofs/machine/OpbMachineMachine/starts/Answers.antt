use Rattle.pb_opb.proofs.Common.{the_view, ◌∙◌, ap, sym, begins, Give, opb, OpbState}
use Rattle.pb_opb.proofs.lemmas.machine.Pushed.{planned_at, give_begins}
use Rattle.pb_opb.proofs.machine.OpbMachineMachine.starts.Goals as goal

pub returns-in-Give : goal.returns-in-Give
returns-in-Give c =
    let s : OpbState = the_view c.self.inside in
    let planned = planned_at c.top.result s.top s.phase c.args.byte (Give c.in-Give.field-0) c.top.ensures.value c.in-Give.ensures.transition in
    c.starts.ensures ∙ (give_begins s c.self.invariant c.args.byte c.in-Give.field-0 planned (sym c.is_within.ensures ∙ c.if-is_within.false) ∙ ap (λ (x : OpbState). begins opb x c.args.byte) c.self.view_is)
