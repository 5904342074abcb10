use Rattle.pb_proof.proofs.Common.{[], ◌∷◌, Keyword, largest, LineKind, LineMachine, refl, Statement, top_of}
use Rattle.pb_proof.proofs.lemmas.{line.Laws.delete_carries, machine.Whole.words_taken}
use Rattle.pb_proof.proofs.machine.whole.delete_at.Goals as goal
use Rattle.pb_proof.specs.engine.line.Delete.{delete_grammar}

pub returns : goal.returns
returns c =
    λ h. words_taken (largest c.args.limits) (top_of c.args.limits) h delete_grammar LineMachine.Delete Statement.Delete delete_carries LineKind.Delete refl refl Keyword.Delete 100 101 (108 ∷ 32 ∷ 105 ∷ 100 ∷ []) refl refl refl
    c.args.text.now c.line_after.result c.line_after.ensures
