use Rattle.pb_opb.proofs.Common.{the_view, ℕ, ◌∙◌, List, subst, sym, take, Runs, opb, OpbState}
use Rattle.pb_opb.proofs.lemmas.machine.{Alive.is_state, Taken.line_order, Taken.line_runs}
use Rattle.pb_text.proofs.lemmas.text.Results.{grown}
use Rattle.pb_opb.proofs.machine.OpbMachine.keep_line.Goals as goal

pub returns-clause-runs : goal.returns-clause-runs
returns-clause-runs c = rw (← c.self.view_is) (
    let s : OpbState = the_view c.self.inside in
    let length = c.line_prefix-length.result in
    subst (λ (t : List ℕ). Runs opb s (take length c.args.piece.now) (record s { text = t })) (sym (grown c.push_slice.result c.push_slice.new.self _ _ c.push_slice.ensures (sym c.is_err.ensures.value ∙ c.if-is_err.false)))
    (line_runs s c.self.invariant (rw (← c.self.view_is) at c.requires) (take length c.args.piece.now) c.line_prefix-length.ensures.line)
    )

pub returns-clause-state : goal.returns-clause-state
returns-clause-state c =
    let s : OpbState = the_view c.self.inside in
    is_state _ (line_order s c.self.invariant (rw (← c.self.view_is) at c.requires) c.push_slice.new.self)
