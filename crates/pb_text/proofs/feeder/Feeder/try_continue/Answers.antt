use Rattle.pb_text.proofs.{Common.◌∙◌, Common.append-nil, lemmas.feeder.Steps.running, lemmas.feeder.Steps.room, lemmas.feeder.Steps.stands_go}
use Rattle.pb_text.proofs.feeder.Feeder.try_continue.Goals as goal

pub returns-clause-stands : goal.returns-clause-stands
returns-clause-stands g c longest start input spans s =
    let f = c.args.self.now in
    let k = stands_go c.try_continue.new.self (running f s c.requires.running) c.requires.unfinished c.args.byte c.if-not-try_continue.ensures.continues c.try_continue.ensures.state (room f s c.if-self.false) in
    (c.move_on.ensures.longest ∙ s.0, rw (c.move_on.ensures.place, c.move_on.ensures.first, c.move_on.ensures.machine, c.move_on.ensures.stop, c.starts-starts.ensures, c.requires.running) (rw append-nil at k))
