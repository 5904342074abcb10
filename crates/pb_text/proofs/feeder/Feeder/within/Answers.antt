use Rattle.pb_text.proofs.{Common.refl, lemmas.feeder.Steps.stands_new}
use Rattle.pb_text.proofs.feeder.Feeder.within.Goals as goal

pub returns-clause-stands : goal.returns-clause-stands
returns-clause-stands g c = (refl, stands_new g.M.Machine.automaton c.args.longest c.args.machine c.is_done.ensures.state c.requires.between c.requires.some)
