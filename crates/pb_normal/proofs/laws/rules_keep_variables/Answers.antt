use Rattle.pb_normal.proofs.Common.{◌*◌, min, div_ceil}
use Rattle.pb_normal.proofs.lemmas.rules.Keeps.{IsOver-sum, IsOver-mapped, IsOver-filtered, IsOver-opposite, IsOver-below}
use Rattle.pb_normal.proofs.laws.rules_keep_variables.Goals as goal

pub returns : goal.returns
returns c = record {
  sum = IsOver-sum;
  product = λ p k f h. IsOver-mapped p (λ t. t.coefficient * k) f.terms h;
  quotient = λ p k f h. IsOver-mapped p (λ t. div_ceil t.coefficient k) f.terms h;
  saturation = λ p f h. IsOver-filtered p _ _ (IsOver-mapped p (λ t. min t.coefficient f.degree) f.terms h);
  weakening = λ p x f h. IsOver-filtered p _ f.terms h;
  negation = λ p f h. IsOver-opposite p f.terms h;
  below = IsOver-below;
}
