use Rattle.pb_propagate.proofs.{Common.arith, lemmas.engine.Rests.positioned-room}
use Rattle.pb_propagate.proofs.waiting.Waiting.put.Goals as goal

pub push_reserved-requires : goal.push_reserved-requires
push_reserved-requires c =
    let me = c.args.self.now in
    let short = positioned-room me.list.items me.positions c.args.form c.requires.inside c.requires.absent me.positioned in
    omega (arith, short, me.room, me.list.ok.0)
