use Rattle.pb_proof.proofs.Common.{◌∙◌}
use Rattle.pb_proof.proofs.lemmas.conclusion.Numbers.{no_claim, words_same}
use Rattle.pb_proof.proofs.line.conclusion.ConclusionWordsWordList.finish.Goals as goal

pub returns-in_default : goal.returns-in_default
returns-in_default c = record {
  event = no_claim c.args.self.now.concluding c.args.self.now.literals c.requires (λ id e. c.in_default.not-Unsat id (c.replace-concluding.ensures.value ∙ e))
      (λ x e. c.in_default.not-Shows x (c.replace-concluding.ensures.value ∙ e)) (λ x e. c.in_default.not-Shown x (c.replace-concluding.ensures.value ∙ e));
  first = words_same _ _ _ _ c.replace-concluding.ensures.after (c.replace-literals.ensures.after ∙ c.new.ensures);
}
