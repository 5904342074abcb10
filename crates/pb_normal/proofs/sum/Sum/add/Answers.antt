use Rattle.pb_normal.proofs.lemmas.rules.{Bounds.SumPasses-swap, Sums.IsSum-swapped}
use Rattle.pb_normal.proofs.sum.Sum.add.Goals as goal

pub returns-then-len-clause-sum : goal.returns-then-len-clause-sum
returns-then-len-clause-sum c = IsSum-swapped _ _ _ c.take.ensures.sum

pub returns-then-len-clause-overflow : goal.returns-then-len-clause-overflow
returns-then-len-clause-overflow c = (λ e. SumPasses-swap _ _ _ (c.take.ensures.overflow.0 e), λ p. c.take.ensures.overflow.1 (SumPasses-swap _ _ _ p))
