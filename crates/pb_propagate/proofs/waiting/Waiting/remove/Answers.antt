use Rattle.pb_propagate.proofs.lemmas.store.Positions.{swap-without}
use Rattle.pb_propagate.proofs.waiting.Waiting.remove.Goals as goal

pub returns-then-contains-clause-left : goal.returns-then-contains-clause-left
returns-then-contains-clause-left c =
    let me = c.args.self.now in let t = c.take.ensures.list in
    swap-without me.list.items c.take.new.self.list.items me.positions t.0 c.args.form me.positioned t.1 t.2
