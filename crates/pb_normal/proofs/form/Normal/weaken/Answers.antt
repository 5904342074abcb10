use Rattle.pb_normal.proofs.lemmas.terms.Maps.{Holds-weakened}
use Rattle.pb_normal.proofs.form.Normal.weaken.Goals as goal

pub returns-clause-sound : goal.returns-clause-sound
returns-clause-sound c = rw c.in_ok-weakening.ensures.weakened (λ a. Holds-weakened a c.args.variable c.args.self.now)
