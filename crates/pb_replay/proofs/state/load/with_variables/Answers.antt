use Rattle.pb_replay.proofs.lemmas.rules.Steps.{opened-prepared}
use Rattle.pb_replay.proofs.state.load.with_variables.Goals as goal

pub returns-clause-ok : goal.returns-clause-ok
returns-clause-ok c = λ i is. opened-prepared c.args.running.limits i c.args.running c.prepare.new.constraints is c.prepare.ensures.loaded c.in_ok-prepare.ensures.live
