use Rattle.pb_propagate.proofs.lemmas.clauses.Stores.{rest-ready}
use Rattle.pb_propagate.proofs.clauses.Clauses.rest.Goals as goal

pub returns-clause-rest : goal.returns-clause-rest
returns-clause-rest c = rest-ready c.requires.running.0 c.args.self.now c.renew.new.self c.requires.running.1 c.renew.ensures
