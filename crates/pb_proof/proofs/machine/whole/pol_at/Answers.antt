use Rattle.pb_proof.proofs.Common.{[], ◌∷◌, Keyword, largest, LineKind, LineMachine, pol_grammar, refl, Statement, top_of}
use Rattle.pb_proof.proofs.lemmas.{line.Laws.pol_carries, machine.Whole.words_taken}
use Rattle.pb_proof.proofs.machine.whole.pol_at.Goals as goal

pub returns : goal.returns
returns c =
    λ h. words_taken (largest c.args.limits) (top_of c.args.limits) h pol_grammar LineMachine.Pol Statement.Pol pol_carries LineKind.Pol refl refl Keyword.Pol 112 111 (108 ∷ []) refl refl refl
    c.args.text.now c.line_after.result c.line_after.ensures
