use Rattle.pb_opb.proofs.Common.{the_view, ◌≡◌, get_or, Give, transition, OpbState}
use Rattle.pb_opb.proofs.lemmas.machine.{Pushed.planned_at, Taken.constraint_taken}
use Rattle.pb_opb.proofs.machine.OpbMachineMachine.take_statement.Goals as goal

pub returns-clause-statement : goal.returns-clause-statement
returns-clause-statement c =
    let s : OpbState = the_view c.self.inside in
    let piece = c.args.piece.now in let p = c.in-Give.phase in
    let planned : transition s.top s.phase (get_or piece 0 0) ≡ Give p = planned_at c.top.result s.top s.phase (get_or piece 0 0) (Give p) c.top.ensures.value c.in-Give.ensures.transition in
    let k = constraint_taken s c.self.invariant c.in-Between.field-0 c.in-Between.is piece c.in-Some.linear c.in-Some.last p planned c.in-Some.ensures.inside c.in-Some.ensures.semicolon c.in-Some.ensures.runs in
    rw (← c.self.view_is, c.phase_owing-self-inside.ensures, c.remaining_after-remaining.ensures) k.0
