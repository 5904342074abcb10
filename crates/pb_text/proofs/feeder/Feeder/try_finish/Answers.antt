use Rattle.pb_text.proofs.{Common.◌∙◌, lemmas.feeder.Steps.room, lemmas.feeder.Steps.running, lemmas.feeder.Steps.stands_event}
use Rattle.pb_text.proofs.feeder.Feeder.try_finish.Goals as goal

pub returns-in-Some-clause-stands : goal.returns-in-Some-clause-stands
returns-in-Some-clause-stands g c longest start input spans s =
    let f = c.args.self.now in let m = c.span.ensures in
    let k = stands_event c.try_finish.new.self (running f s c.requires.running) c.requires.unfinished c.args.byte
    c.in-Some.event c.in-Some.ensures.finishes c.in-Some.ensures.state (room f s c.if-self.false) in
    (m.longest ∙ s.0, rw (m.spans, m.place, m.first, m.machine, m.stop, c.requires.running) k)
