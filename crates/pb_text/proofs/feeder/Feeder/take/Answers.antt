use Rattle.pb_text.proofs.Common.{◌∙◌, refl}
use Rattle.pb_text.proofs.lemmas.feeder.Steps.{running, end_at, room, stands_event, stands_go, stands_lacks, stands_large, stands_long, stands_no}
use Rattle.pb_text.proofs.feeder.Feeder.take.Goals as goal

pub returns-then-self-clause-stands : goal.returns-then-self-clause-stands
returns-then-self-clause-stands g c longest start input spans s =
    let f = c.args.self.now in let h = c.halt.ensures in
    let k = stands_long f.machine (running f s c.requires.running) c.requires.unfinished c.args.byte
    (c.if-self.true ∙ end_at f s) refl in
    (h.longest ∙ s.0, rw (h.stop, h.result, h.machine, h.place, h.first) k)

pub returns-in-Go-clause-stands : goal.returns-in-Go-clause-stands
returns-in-Go-clause-stands g c longest start input spans s =
    let f = c.args.self.now in let m = c.move_on.ensures in
    let k = stands_go c.push.new.self (running f s c.requires.running) c.requires.unfinished c.args.byte
    c.in-Go.ensures.pushes c.in-Go.ensures.state (room f s c.if-self.false) in
    (m.longest ∙ s.0, rw (m.place, m.first, m.machine, m.stop, c.starts-starts.ensures, c.requires.running) k)

pub returns-in-Event-clause-stands : goal.returns-in-Event-clause-stands
returns-in-Event-clause-stands g c longest start input spans s =
    let f = c.args.self.now in let m = c.span.ensures in
    let k = stands_event c.push.new.self (running f s c.requires.running) c.requires.unfinished c.args.byte
    c.in-Event.event c.in-Event.ensures.pushes c.in-Event.ensures.state (room f s c.if-self.false) in
    (m.longest ∙ s.0, rw (m.spans, m.place, m.first, m.machine, m.stop, c.requires.running) k)

pub returns-in-No-clause-stands : goal.returns-in-No-clause-stands
returns-in-No-clause-stands g c longest start input spans s =
    let f = c.args.self.now in let h = c.halt-in-No.ensures in let p = c.in-No.ensures.pushes in
    let k = stands_no c.push.new.self (running f s c.requires.running) c.requires.unfinished c.args.byte
    (room f s c.if-self.false) p.0 p.1 p.2 in
    (h.longest ∙ s.0, rw (h.stop, h.result, h.machine, h.place, h.first) k)

pub returns-in-Large-clause-stands : goal.returns-in-Large-clause-stands
returns-in-Large-clause-stands g c longest start input spans s =
    let f = c.args.self.now in let h = c.halt-in-Large.ensures in let p = c.in-Large.ensures.pushes in
    let k = stands_large c.push.new.self (running f s c.requires.running) c.requires.unfinished c.args.byte
    (room f s c.if-self.false) p.0 p.1 p.2 in
    (h.longest ∙ s.0, rw (h.stop, h.result, h.machine, h.place, h.first) k)

pub returns-in-Memory-clause-stands : goal.returns-in-Memory-clause-stands
returns-in-Memory-clause-stands g c longest start input spans s =
    let f = c.args.self.now in let h = c.halt-in-Memory.ensures in let p = c.in-Memory.ensures.pushes in
    let k = stands_lacks c.push.new.self (running f s c.requires.running) c.requires.unfinished c.args.byte
    (room f s c.if-self.false) p.0 p.1 p.2 in
    (h.longest ∙ s.0, rw (h.stop, h.result, h.machine, h.place, h.first) k)
