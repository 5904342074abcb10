use Rattle.pb_lines.proofs.Common.{ap, ap₂, sym, ◌≡◌, ◌∙◌, Some, None}
use Rattle.pb_lines.proofs.machine.WordMachineMachine.starts.Goals as goal
use Rattle.pb_lines.proofs.lemmas.Pushes.{starts_as}
use Rattle.pb_lines.specs.contract.Grammar.{following}
use Rattle.pb_lines.specs.engine.Words.{may_come, step_at}
use Rattle.pb_lines.specs.engine.WordsFields.{words_state}

pub returns-in-Some : goal.returns-in-Some
returns-in-Some g c =
    let grammar = g.W.WordList.grammar in
    let i = words_state c.self.inside in
    let e = c.step.ensures ∙ ap (λ s. step_at grammar s c.args.byte) (sym c.self.view_is) in
    let f : Some c.in-Some.follow ≡ Some (following (grammar i.limit i.top) i.words) = sym c.in-Some.is ∙ c.follow.ensures c.self.inside.name in
    let q : c.in-Some.follow ≡ following (grammar i.limit i.top) i.words = cc in
    rw (← c.self.view_is) (c.may_come.ensures ∙ (ap₂ may_come e q ∙ sym (starts_as grammar i c.args.byte c.in-Start.is)))

pub returns-in-None : goal.returns-in-None
returns-in-None g c =
    let i = words_state c.self.inside in
    let f : None ≡ Some (following (g.W.WordList.grammar i.limit i.top) i.words) = sym c.in-None.is ∙ c.follow.ensures c.self.inside.name in cc
